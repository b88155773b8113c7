-- Datagrams that are made, and the connection then.
use Rattle.std.proofs.Common.{◌≡◌, ℕ, ◌+◌, ◌-◌, ◌<◌, ◌≤◌, ◌^◌, Bool, true, false, List, [], ◌++◌, length, Option, Some, None, refl, sym, ap, ◌∙◌, subst, arith, append_assoc}
use Rattle.std.proofs.lemmas.Bool.{both_ways}
use Rattle.std.proofs.lemmas.List.{append-nil, length-append}
use Rattle.std.specs.Prelude.{IfSome, MatchBool, if◌then◌else◌, is_some, nat_lt}
use Rattle.qh_base.specs.declared.time.Moment.{Moment}
use Rattle.qh_buffers.specs.Ranges.{PlainRange}
use Rattle.qh_core.specs.Inner.{IsConnection, counted, is_open}
use Rattle.qh_core.specs.Sending.{AreBytesMade, AreFramesMade, AreFramesPut, AreNotControl, ArePut, BearsNoControl, IsDatagramMade, NothingIsSent, close_frame, datagram_of, idle_after, is_close_due, overhead, without_close_due}
use Rattle.qh_core.specs.Sending.AreFramesMade.{packet, control, close}
use Rattle.qh_core.specs.Sending.IsSilent.{told, draining, drained}
use Rattle.qh_core.specs.Timers.{sent_at}
use Rattle.qh_core.specs.declared.inner.Inner.{Inner}
use Rattle.qh_core.specs.declared.state.Close.{Close}
use Rattle.qh_core.specs.declared.state.State.{State}
use Rattle.qh_core.specs.declared.state.State.TheVariants.{Established, Closed, Draining, Drained}
use Rattle.qh_core.specs.declared.stats.UdpStats.{UdpStats}
use Rattle.qh_core.proofs.Timeouts.{space_kept}
use Rattle.qh_frame.specs.AckWritten.{ack_frame}
use Rattle.qh_frame.specs.FrameBytes.{IsPut, frame_bytes}
use Rattle.qh_history.proofs.SameEnd as same
use Rattle.qh_history.specs.Standing.{SameEnd}
use Rattle.qh_packet.specs.Packet.{header_bytes}
use Rattle.qh_recovery.specs.PendingAcks.{IsAckPut}
use Rattle.qh_space.specs.Sending.{AreElicitingPut, IsPacketMade, due_bytes, may_elicit}
use Rattle.qh_space.specs.Space.{IsSpace}
use Rattle.qh_space.specs.declared.data_space.DataSpace.{DataSpace}
use Rattle.qh_spec.specs.declared.sides.Side.{Side}
use Rattle.qh_spec.specs.declared.sides.Space.{Space}
use Rattle.qh_spec.specs.declared.sides.Space.TheVariants.{Data}
use Rattle.qh_streams.specs.declared.frames.SentFrame.{SentFrame}

-- ---- the bytes of a packet's frames stand behind what stood there

ack_appended : (due : Bool) (numbers : List PlainRange) (before after : List ℕ) → MatchBool due (IsAckPut numbers before after) (after ≡ before) → (bytes : List ℕ) × (after ≡ before ++ bytes)
ack_appended true numbers before after put = (frame_bytes (ack_frame 0 put.ranges), put.is_put.whole)
ack_appended false numbers before after e = ([], e ∙ sym (append-nil before))

eliciting_appended : (may : Bool) (room : ℕ) (old new : DataSpace) (before after : List ℕ) (frames : List SentFrame)
    → MatchBool may (AreElicitingPut room old new before after frames) ((new ≡ old) × (after ≡ before)) → (bytes : List ℕ) × (after ≡ before ++ bytes)
eliciting_appended true room old new before after frames put = (due_bytes old ++ put.streams.bytes, put.streams.out_is ∙ append_assoc before (due_bytes old) put.streams.bytes)
eliciting_appended false room old new before after frames none = ([], none.1 ∙ sym (append-nil before))

appended : (now overhead room : ℕ) (old new : DataSpace) (before after : List ℕ) → IsPacketMade now overhead room old new before after → (bytes : List ℕ) × (after ≡ before ++ bytes)
appended now overhead room old new before after made =
    let ack = ack_appended old.acks.is_due old.acks.ranges before made.out_mid made.ack in
    let rest = eliciting_appended (may_elicit old) (room - (length made.out_mid - length before)) old made.mid made.out_mid after made.packet.frames.items made.eliciting in
    (ack.0 ++ rest.0, rest.1 ∙ (ap (λ (l : List ℕ). l ++ rest.0) ack.1 ∙ append_assoc before ack.0 rest.0))

-- a CONNECTION_CLOSE is to be sent only where this end closed
pub due_close : (s : State) → is_close_due s ≡ true → (reason : Close) × (until : Moment) × (s ≡ Closed reason true until)
due_close Established due = absurd (both_ways false refl due)
due_close (Closed reason true until) due = (reason, until, refl)
due_close (Closed reason false until) due = absurd (both_ways false refl due)
due_close (Draining until) due = absurd (both_ways false refl due)
due_close Drained due = absurd (both_ways false refl due)

module _ {S : Type 0} where
  -- ---- a packet of the space

  module _ (now : Moment) (old new : Inner S) (space : DataSpace) (before after : List ℕ) (around room were_out : ℕ) (room_is : room ≡ 1200 - overhead old) (around_is : around ≡ overhead old)
      (out_is : were_out ≡ length old.space.sent)
      (new_is : new ≡ record old { space = space; idle = (if nat_lt were_out (length space.sent) then sent_at now old.idle else old.idle) }) where
    abbrev with_packet : Inner S
    with_packet = record old { space = space; idle = idle_after now old.space space old.idle }

    is_after : with_packet ≡ new
    is_after = sym (new_is ∙ ap (λ (n : ℕ). record old { space = space; idle = (if nat_lt n (length space.sent) then sent_at now old.idle else old.idle) }) out_is)

    pub packet_put : (o : Option ℕ) → is_open old.state ≡ true
        → IfSome o (λ n. (n ≡ old.space.next_number) × (n < 2 ^ 62) × IsPacketMade now.0 around room old.space space before after)
        → is_some o ≡ true → ArePut now old new before after
    packet_put None opened none some = absurd (both_ways false refl some)
    packet_put (Some n) opened is some =
        let made = is.2 in
        let bytes = appended now.0 around room old.space space before after made in
        let sum = ap length bytes.1 ∙ length-append before bytes.0 in
        let number = is.0 in
        let below = is.1 in
        let fits = made.fits in
        let exact = subst (λ (r : ℕ). IsPacketMade now.0 (overhead old) r old.space space before after) room_is
        (subst (λ (a : ℕ). IsPacketMade now.0 a room old.space space before after) around_is made) in
        subst (λ (c : Inner S). ArePut now old c before after) is_after (
          record {
            frames = bytes.0;
            after_is = bytes.1;
            number = omega (arith, number, below);
            fits = omega (arith, sum, fits, room_is);
            made = packet opened (subst (λ (l : List ℕ). IsPacketMade now.0 (overhead old) (1200 - overhead old) old.space space before l) bytes.1 exact) refl;
          },
          tt,
        )

    end_kept : (o : Option ℕ) → IfSome o (λ n. (n ≡ old.space.next_number) × (n < 2 ^ 62) × IsPacketMade now.0 around room old.space space before after)
        → (o ≡ None → space ≡ old.space) → SameEnd old.space space
    end_kept None none nothing = (ap (λ (s : DataSpace). s.streams.side) (nothing refl), ap (λ (s : DataSpace). s.streams.peer) (nothing refl))
    end_kept (Some n) is nothing = same.made now.0 around room old.space space before after is.2

    pub packet_kept : (o : Option ℕ) → IsConnection old → is_open old.state ≡ true
        → IfSome o (λ n. (n ≡ old.space.next_number) × (n < 2 ^ 62) × IsPacketMade now.0 around room old.space space before after)
        → (o ≡ None → space ≡ old.space) → IsSpace space → IsConnection new
    packet_kept o whole opened is nothing is_space =
        let kept = space_kept old space whole opened (end_kept o is nothing) is_space in
        subst (λ (c : Inner S). IsConnection c) is_after (record {
          space = kept.space;
          of = kept.of;
          not_lost = kept.not_lost;
          lost = kept.lost;
          drained = kept.drained;
          no_half = kept.no_half;
        })

  -- ---- a CONNECTION_CLOSE

  pub close_put : (old : Inner S) (state : State) (before after : List ℕ) (reason : Close) (until : Moment) → old.state ≡ Closed reason true until → state ≡ without_close_due old.state
      → old.space.next_number < 2 ^ 62 → IsPut before after (close_frame reason) 153 → 153 ≤ 1200 - overhead old → (now : Moment)
      → ArePut now old (record old { state = state; space = record old.space { next_number = old.space.next_number + 1 } }) before after
  close_put old state before after reason until is state_is below put wide now =
      let size = put.size in (
        record {
          frames = frame_bytes (close_frame reason);
          after_is = put.whole;
          number = below;
          fits = omega (arith, size, wide);
          made = close reason until is refl (ap (λ (s : State). record old { state = s; space = record old.space { next_number = old.space.next_number + 1 } }) (state_is ∙ ap without_close_due is));
        },
        tt,
      )

  -- once this end told that it closed, or the peer closed, nothing more is sent
  pub silent : (c : Inner S) (s : State) → c.state ≡ s → is_open s ≡ false → is_close_due s ≡ false → NothingIsSent c c
  silent c Established is closed due = absurd (both_ways true closed refl)
  silent c (Closed reason true until) is closed due = absurd (both_ways true due refl)
  silent c (Closed reason false until) is closed due = (refl, told reason until is)
  silent c (Draining until) is closed due = (refl, draining until is)
  silent c Drained is closed due = (refl, drained is)

  -- ---- a datagram

  abbrev pub datagram_made : (sealed : Side → Space → ℕ → List ℕ) (now : Moment) (old new : Inner S) (tag framed buffer after : List ℕ) (size : ℕ)
      → tag ≡ sealed old.side Data old.space.next_number → length tag ≡ 32 → AreFramesPut now old new (header_bytes old.remote_id old.space.next_number) framed
      → after ≡ buffer ++ (framed ++ tag) → size ≡ length (framed ++ tag) → length old.remote_id ≤ 20 → AreBytesMade sealed now old new buffer after size
  datagram_made sealed now old new tag framed buffer after size tag_is tag_size put after_is size_is short =
      let header = header_bytes old.remote_id old.space.next_number in
      let is : framed ++ tag ≡ datagram_of sealed old put.frames =
      ap (λ (l : List ℕ). l ++ tag) put.after_is ∙ (append_assoc header put.frames tag ∙ ap (λ (l : List ℕ). header ++ (put.frames ++ l)) tag_is) in
      let sum = ap length put.after_is ∙ length-append header put.frames in
      let head : length header ≡ length old.remote_id + 5 = simp length-append (omega arith) in
      let all = length-append framed tag in
      let fits = put.fits in
      record {
        frames = put.frames;
        after_is = after_is ∙ ap (λ (l : List ℕ). buffer ++ l) is;
        short = short;
        number = put.number;
        made = put.made;
        size_is = size_is ∙ ap length is;
        fits = omega (arith, size_is, all, sum, head, fits, tag_size, short);
      }

  abbrev pub frames_counted : (now : Moment) (old new : Inner S) (before frames : List ℕ) (u : UdpStats) → AreFramesMade now old new before frames → AreFramesMade now old (record new { udp_tx = u }) before frames
  frames_counted now old new before frames u (packet opened made e) = packet opened made (ap (λ (c : Inner S). record c { udp_tx = u }) e)
  frames_counted now old new before frames u (control opened made e) = control opened made (ap (λ (c : Inner S). record c { udp_tx = u }) e)
  frames_counted now old new before frames u (close reason until is frames_are e) = close reason until is frames_are (ap (λ (c : Inner S). record c { udp_tx = u }) e)

  pub same_addresses : (now : Moment) (old new : Inner S) (before frames : List ℕ) → AreFramesMade now old new before frames → new.addresses ≡ old.addresses
  same_addresses now old new before frames (packet opened made e) = ap (λ (c : Inner S). c.addresses) e
  same_addresses now old new before frames (control opened made e) = ap (λ (c : Inner S). c.addresses) e
  same_addresses now old new before frames (close reason until is frames_are e) = ap (λ (c : Inner S). c.addresses) e

  -- and it bears no frames of the connection's own still
  pub counted_apart : (now : Moment) (old new : Inner S) (before frames : List ℕ) (u : UdpStats) (m : AreFramesMade now old new before frames) → AreNotControl m → AreNotControl (frames_counted now old new before frames u m)
  counted_apart now old new before frames u (packet opened made e) apart = tt
  counted_apart now old new before frames u (control opened made e) apart = absurd apart
  counted_apart now old new before frames u (close reason until is frames_are e) apart = tt

  -- what was put into a datagram that was appended
  pub bears_put : (sealed : Side → Space → ℕ → List ℕ) (now : Moment) (old new : Inner S) (before after : List ℕ) (size : ℕ) (b : AreBytesMade sealed now old new before after size) → AreNotControl b.made
      → BearsNoControl sealed now old new before after
  bears_put sealed now old new before after size b apart = record { frames = b.frames; after_is = b.after_is; made = b.made; no_control = apart }

  pub bears_counted : (sealed : Side → Space → ℕ → List ℕ) (now : Moment) (old new : Inner S) (before after : List ℕ) (u : UdpStats) → BearsNoControl sealed now old new before after
      → BearsNoControl sealed now old (record new { udp_tx = u }) before after
  bears_counted sealed now old new before after u b = record {
    frames = b.frames;
    after_is = b.after_is;
    made = frames_counted now old new _ b.frames u b.made;
    no_control = counted_apart now old new _ b.frames u b.made b.no_control;
  }

  -- a datagram that was appended is counted, and goes to the peer
  pub datagram_sent : (sealed : Side → Space → ℕ → List ℕ) (now : Moment) (old new : Inner S) (before after : List ℕ) (size : ℕ) (u : UdpStats) → AreBytesMade sealed now old new before after size
      → new.udp_tx ≡ old.udp_tx → u ≡ counted size new.udp_tx
      → IsDatagramMade sealed now old (record new { udp_tx = u }) before after (record { destination = new.addresses.remote; size = size; src_ip = new.addresses.local_ip })
  datagram_sent sealed now old new before after size u made same_stats u_is =
      let addresses = same_addresses now old new _ made.frames made.made in
      record {
        bytes = record {
          frames = made.frames;
          after_is = made.after_is;
          short = made.short;
          number = made.number;
          made = frames_counted now old new _ made.frames u made.made;
          size_is = made.size_is;
          fits = made.fits;
        };
        counted_is = u_is ∙ ap (counted size) same_stats;
        destination = ap (λ a. a.remote) addresses;
        source = ap (λ a. a.local_ip) addresses;
      }
