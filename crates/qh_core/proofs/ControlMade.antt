-- Packets of a connection's own frames, as they are made.
use Rattle.std.proofs.Common.{◌≡◌, ℕ, zero, suc, ◌+◌, ◌-◌, ◌<◌, ◌≤◌, ◌^◌, nat_lt, Bool, true, false, List, [], ◌∷◌, ◌++◌, length, take, drop, get_or, refl, sym, ap, ◌∙◌, subst, arith, append_assoc, inl, inr}
use Rattle.std.proofs.lemmas.Bool.{cases_Bool}
use Rattle.std.proofs.lemmas.List.{append-nil, at_drop_more, length-append, take_at}
use Rattle.std.specs.List.{AllByRecursion}
use Rattle.std.specs.Prelude.{if◌then◌else◌, nat_le}
use Rattle.qh_base.specs.declared.time.Moment.{Moment}
use Rattle.qh_core.proofs.ControlFrames.{bare_rest}
use Rattle.qh_core.proofs.DatagramMade.{datagram_made, frames_counted, same_addresses}
use Rattle.qh_core.proofs.Timeouts.{space_kept}
use Rattle.qh_core.specs.Control.{AreControl, IsControlMade, MaySend, control_bytes, control_frame, fitting}
use Rattle.qh_core.specs.Inner.{IsConnection, counted, is_open}
use Rattle.qh_core.specs.Sending.{AreControlAppended, AreControlPut, AreFramesPut, IsControlSent, idle_after, overhead}
use Rattle.qh_core.specs.Sending.AreFramesMade.{control}
use Rattle.qh_core.specs.Timers.{sent_at}
use Rattle.qh_core.specs.declared.control.ControlFrame.{ControlFrame}
use Rattle.qh_core.specs.declared.inner.Inner.{Inner}
use Rattle.qh_core.specs.declared.stats.UdpStats.{UdpStats}
use Rattle.qh_frame.specs.FrameBytes.{frame_bytes}
use Rattle.qh_packet.specs.Packet.{header_bytes}
use Rattle.qh_space.specs.Sending.{IsSentBare, may_elicit}
use Rattle.qh_space.specs.Space.{IsSpace}
use Rattle.qh_space.specs.declared.data_space.DataSpace.{DataSpace}
use Rattle.qh_spec.specs.declared.sides.Side.{Side}
use Rattle.qh_spec.specs.declared.sides.Space.{Space}
use Rattle.qh_spec.specs.declared.sides.Space.TheVariants.{Data}
use Rattle.qh_streams.specs.Streams.{PlainStreams, IsReadBack}

-- ---- frames, one after another

abbrev pub AreReadBack : List ControlFrame → Type 0
AreReadBack fs = AllByRecursion (λ (f : ControlFrame). IsReadBack (control_frame f)) fs

-- While the frames are put: so many are there, and with the rest of them, of which as many are put as this room has place for, it will be
-- as many as have place in the whole room.
pub record ArePutSoFar (room count left : ℕ) (frames rest : List ControlFrame) (before after : List ℕ) : Type 0 where
  pub count_is : count + fitting left rest ≡ fitting room frames
  pub put : after ++ control_bytes (take (fitting left rest) rest) ≡ before ++ control_bytes (take (fitting room frames) frames)
  pub read_back : AreReadBack (take (fitting left rest) rest) → AreReadBack (take (fitting room frames) frames)

-- no more of them is put
pub record AreAllPut (room count : ℕ) (frames : List ControlFrame) (before after : List ℕ) : Type 0 where
  pub count_is : count ≡ fitting room frames
  pub put : after ≡ before ++ control_bytes (take (fitting room frames) frames)
  pub read_back : AreReadBack (take (fitting room frames) frames)

pub none_put : (room : ℕ) (frames : List ControlFrame) (before : List ℕ) → ArePutSoFar room 0 room frames frames before before
none_put room frames before = record { count_is = omega arith; put = refl; read_back = λ back. back }

-- where none of the rest is put
ends_with : (room count left : ℕ) (frames rest : List ControlFrame) (before after : List ℕ) → fitting left rest ≡ 0 → ArePutSoFar room count left frames rest before after → AreAllPut room count frames before after
ends_with room count left frames rest before after none p =
    let count_is = p.count_is in record {
      count_is = omega (arith, count_is, none);
      put = sym (append-nil after) ∙ (subst (λ (n : ℕ). after ++ control_bytes (take n rest) ≡ before ++ control_bytes (take (fitting room frames) frames)) none p.put);
      read_back = p.read_back (subst (λ (n : ℕ). AreReadBack (take n rest)) (sym none) tt);
    }

le_true : (a b : ℕ) → a ≤ b → nat_le a b ≡ true
le_true a b less = grind (arith, less)

le_false : (a b : ℕ) → b < a → nat_le a b ≡ false
le_false a b less = grind (arith, less)

first_fits : (left : ℕ) (f : ControlFrame) (more : List ControlFrame) → length (frame_bytes (control_frame f)) ≤ left
    → fitting left (f ∷ more) ≡ suc (fitting (left - length (frame_bytes (control_frame f))) more)
first_fits left f more fits =
    let n = fitting (left - length (frame_bytes (control_frame f))) more in
    let one : 1 + n ≡ suc n = omega arith in
    ap (λ (b : Bool). if b then 1 + n else 0) (le_true _ left fits) ∙ one

first_unfit : (left : ℕ) (f : ControlFrame) (more : List ControlFrame) → left < length (frame_bytes (control_frame f)) → fitting left (f ∷ more) ≡ 0
first_unfit left f more over = ap (λ (b : Bool). if b then 1 + fitting (left - length (frame_bytes (control_frame f))) more else 0) (le_false _ left over)

-- one more is put
more_put : (room count left size : ℕ) (frames more : List ControlFrame) (f : ControlFrame) (before after new : List ℕ) → size ≡ length (frame_bytes (control_frame f)) → size ≤ left → IsReadBack (control_frame f)
    → new ≡ after ++ frame_bytes (control_frame f) → ArePutSoFar room count left frames (f ∷ more) before after → ArePutSoFar room (count + 1) (left - size) frames more before new
more_put room count left size frames more f before after new size_is fits back put p =
    let rest_fits : length (frame_bytes (control_frame f)) ≤ left = omega (arith, size_is, fits) in
    let same : left - length (frame_bytes (control_frame f)) ≡ left - size = omega (arith, size_is) in
    let is : fitting left (f ∷ more) ≡ suc (fitting (left - size) more) = first_fits left f more rest_fits ∙ ap (λ (n : ℕ). suc (fitting n more)) same in
    let count_is = p.count_is in
    let first : after ++ (frame_bytes (control_frame f) ++ control_bytes (take (fitting (left - size) more) more)) ≡ before ++ control_bytes (take (fitting room frames) frames) =
    subst (λ (n : ℕ). after ++ control_bytes (take n (f ∷ more)) ≡ before ++ control_bytes (take (fitting room frames) frames)) is p.put in
    record {
      count_is = omega (arith, count_is, is);
      put = ap (λ (z : List ℕ). z ++ control_bytes (take (fitting (left - size) more) more)) put ∙ (append_assoc after (frame_bytes (control_frame f)) (control_bytes (take (fitting (left - size) more) more)) ∙ first);
      read_back = λ backs. p.read_back (subst (λ (n : ℕ). AreReadBack (take n (f ∷ more))) (sym is) (back, backs));
    }

-- the bytes of those that have room have room
pub fitting_fits : (room : ℕ) (frames : List ControlFrame) → length (control_bytes (take (fitting room frames) frames)) ≤ room
fitting_fits room [] = omega arith
fitting_fits room (f ∷ fs) = elim (cases_Bool (nat_le (length (frame_bytes (control_frame f))) room)) [
  | inl fits ↦
      let size = length (frame_bytes (control_frame f)) in
      let less : size ≤ room = grind (arith, fits) in
      let more = fitting_fits (room - size) fs in
      let is = first_fits room f fs less in
      let sum = length-append (frame_bytes (control_frame f)) (control_bytes (take (fitting (room - size) fs) fs)) in
      subst (λ (n : ℕ). length (control_bytes (take n (f ∷ fs))) ≤ room) (sym is) (omega (arith, less, more, sum))
  | inr not ↦
      let over : room < length (frame_bytes (control_frame f)) = grind (arith, not) in
      subst (λ (n : ℕ). length (control_bytes (take n (f ∷ fs))) ≤ room) (sym (first_unfit room f fs over)) (omega arith)
]

some_taken : (room : ℕ) (frames : List ControlFrame) (n : ℕ) → n ≡ fitting room frames → 0 < n → take n frames ≡ [] → ⊥
some_taken room [] n is some e = omega (arith, is, some)
some_taken room (f ∷ fs) zero is some e = omega (arith, some)
some_taken room (f ∷ fs) (suc n) is some e = absurd (cc)

pub taken_sendable : (P : ControlFrame → Type 0) (n : ℕ) (frames : List ControlFrame) → AllByRecursion P frames → AllByRecursion P (take n frames)
taken_sendable P zero frames all = tt
taken_sendable P (suc n) [] all = tt
taken_sendable P (suc n) (f ∷ fs) all = (all.0, taken_sendable P n fs all.1)

pub holds_at : (P : ControlFrame → Type 0) (frames : List ControlFrame) (i : ℕ) (d : ControlFrame) → i < length frames → AllByRecursion P frames → P (get_or frames i d)
holds_at P [] i d inside all = absurd (omega (arith, inside))
holds_at P (f ∷ fs) zero d inside all = all.0
holds_at P (f ∷ fs) (suc i) d inside all = holds_at P fs i d (omega (arith, inside)) all.1

-- ---- the loop over them

module _ (room count left i : ℕ) (frames : List ControlFrame) (before after : List ℕ) (p : ArePutSoFar room count left frames (drop i frames) before after) where
  -- all were looked at
  pub all_put : length frames ≤ i → AreAllPut room count frames before after
  all_put over = ends_with room count left frames [] before after refl
      (subst (λ (rest : List ControlFrame). ArePutSoFar room count left frames rest before after) (drop_past frames i over) p) where
        drop_past : (fs : List ControlFrame) (k : ℕ) → length fs ≤ k → drop k fs ≡ []
        drop_past [] zero over = refl
        drop_past [] (suc k) over = refl
        drop_past (f ∷ fs) zero over = absurd (omega (arith, over))
        drop_past (f ∷ fs) (suc k) over = drop_past fs k (omega (arith, over))

  module _ (f : ControlFrame) (inside : i < length frames) (is : f ≡ get_or frames i f) where
    next : drop i frames ≡ f ∷ drop (i + 1) frames
    next = at_drop_more (λ (l : List ControlFrame). l) frames i f inside ∙ ap (λ (g : ControlFrame). g ∷ drop (i + 1) frames) (sym is)

    at_next : ArePutSoFar room count left frames (f ∷ drop (i + 1) frames) before after
    at_next = subst (λ (rest : List ControlFrame). ArePutSoFar room count left frames rest before after) next p

    pub one_more : (new : List ℕ) (size : ℕ) → size ≡ length (frame_bytes (control_frame f)) → size ≤ left → IsReadBack (control_frame f) → new ≡ after ++ frame_bytes (control_frame f)
        → ArePutSoFar room (count + 1) (left - size) frames (drop (i + 1) frames) before new
    one_more new size size_is fits back put = more_put room count left size frames (drop (i + 1) frames) f before after new size_is fits back put at_next

    pub no_more : left < length (frame_bytes (control_frame f)) → AreAllPut room count frames before after
    no_more over = ends_with room count left frames (f ∷ drop (i + 1) frames) before after (first_unfit left f (drop (i + 1) frames) over) at_next

-- how many bytes were put
pub frame_size : (before after : List ℕ) (f : ControlFrame) (start end : ℕ) → start ≡ length before → end ≡ length after → after ≡ before ++ frame_bytes (control_frame f)
    → end - start ≡ length (frame_bytes (control_frame f))
frame_size before after f start end start_is end_is put =
    let sum = ap length put ∙ length-append before (frame_bytes (control_frame f)) in
    omega (arith, start_is, end_is, sum)

-- what was put is taken away again
pub truncated : (before after new : List ℕ) (f : ControlFrame) (start : ℕ) → start ≡ length before → after ≡ before ++ frame_bytes (control_frame f) → new ≡ take start after → new ≡ before
truncated before after new f start start_is put is =
    is ∙ (ap (λ (z : List ℕ). take start z) put ∙ take_at before (frame_bytes (control_frame f)) start (sym start_is))

-- ---- a packet of them

module _ {S : Type 0} where
  module _ (now : Moment) (old new : Inner S) (space : DataSpace) (size were_out : ℕ) (out_is : were_out ≡ length old.space.sent) (sent : IsSentBare now.0 size old.space space)
      (new_is : new ≡ record old { space = space; idle = (if nat_lt were_out (length space.sent) then sent_at now old.idle else old.idle) }) where
    abbrev with_sent_at : Inner S
    with_sent_at = record old { space = space; idle = idle_after now old.space space old.idle }

    is_after : with_sent_at ≡ new
    is_after = sym (new_is ∙ ap (λ (n : ℕ). record old { space = space; idle = (if nat_lt n (length space.sent) then sent_at now old.idle else old.idle) }) out_is)

    pub control_kept : IsConnection old → is_open old.state ≡ true → IsSpace space → IsConnection new
    control_kept whole opened is_space =
        let same = (bare_rest now.0 size old.space space sent).streams in
        let kept = space_kept old space whole opened (ap (λ (s : PlainStreams). s.side) same, ap (λ (s : PlainStreams). s.peer) same) is_space in
        subst (λ (c : Inner S). IsConnection c) is_after (record {
          space = kept.space;
          of = kept.of;
          not_lost = kept.not_lost;
          lost = kept.lost;
          drained = kept.drained;
          no_half = kept.no_half;
        })

    module _ (frames : List ControlFrame) (before after : List ℕ) (room count : ℕ) (room_is : room ≡ 1200 - overhead old) (wide : 1143 ≤ room) (count_is : count ≡ fitting room frames) (some : 0 < count)
        (put : after ≡ before ++ control_bytes (take (fitting room frames) frames)) (sendable : AllByRecursion (MaySend old.side old.config.peer_datagram) frames) (back : AreReadBack (take (fitting room frames) frames))
        (size_is : size ≡ 1200 - room + (length after - length before)) where
      abbrev Taken : ℕ → List ControlFrame
      Taken r = take (fitting r frames) frames

      put_in : AreControl old.side old.config.peer_datagram (control_bytes (Taken room))
      put_in = record {
        frames = Taken room;
        some = λ e. some_taken room frames (fitting room frames) refl (omega (arith, count_is, some)) e;
        bytes_are = refl;
        sendable = taken_sendable (MaySend old.side old.config.peer_datagram) (fitting room frames) frames sendable;
        read_back = back;
      }

      sum : length after ≡ length before + length (control_bytes (Taken room))
      sum = ap length put ∙ length-append before (control_bytes (Taken room))

      same_size : size ≡ overhead old + length (control_bytes (Taken room))
      same_size = omega (arith, size_is, room_is, wide, sum)

      made : is_open old.state ≡ true → old.space.acks.is_due ≡ false → may_elicit old.space ≡ true → IsControlMade now.0 (overhead old) old.side old.config.peer_datagram old.space space (control_bytes (Taken room))
      made opened quiet may = record { quiet = quiet; may = may; control = put_in; sent = subst (λ (n : ℕ). IsSentBare now.0 n old.space space) same_size sent }

      pub control_put : is_open old.state ≡ true → old.space.acks.is_due ≡ false → may_elicit old.space ≡ true → old.space.next_number < 2 ^ 62 → AreControlPut now old new before after frames
      control_put opened quiet may below =
          let fits = fitting_fits room frames in
          subst (λ (c : Inner S). AreControlPut now old c before after frames) is_after (record {
            opened = opened;
            number = below;
            after_is = subst (λ (r : ℕ). after ≡ before ++ control_bytes (Taken r)) room_is put;
            fits = subst (λ (r : ℕ). length (control_bytes (Taken r)) ≤ r) room_is fits;
            packet = subst (λ (r : ℕ). IsControlMade now.0 (overhead old) old.side old.config.peer_datagram old.space space (control_bytes (Taken r))) room_is (made opened quiet may);
            rest_is = refl;
          })

  -- ---- a datagram

  abbrev pub frames_put : (now : Moment) (old new : Inner S) (before after : List ℕ) (frames : List ControlFrame) → AreControlPut now old new before after frames → AreFramesPut now old new before after
  frames_put now old new before after frames p = record {
    frames = control_bytes (take (fitting (1200 - overhead old) frames) frames);
    after_is = p.after_is;
    number = p.number;
    fits = p.fits;
    made = control p.opened p.packet
        (p.rest_is ∙ ap (λ (u : UdpStats). record old { space = new.space; idle = idle_after now old.space new.space old.idle; udp_tx = u }) (sym (ap (λ (c : Inner S). c.udp_tx) p.rest_is)));
  }

  pub control_appended : (sealed : Side → Space → ℕ → List ℕ) (now : Moment) (old new : Inner S) (tag framed buffer after : List ℕ) (size count : ℕ) (frames : List ControlFrame)
      → tag ≡ sealed old.side Data old.space.next_number → length tag ≡ 32 → AreControlPut now old new (header_bytes old.remote_id old.space.next_number) framed frames
      → after ≡ buffer ++ (framed ++ tag) → size ≡ length (framed ++ tag) → length old.remote_id ≤ 20 → count ≡ fitting (1200 - overhead old) frames → 0 < count
      → AreControlAppended sealed now old new buffer after frames size count
  control_appended sealed now old new tag framed buffer after size count frames tag_is tag_size put after_is size_is short count_is some =
      let put_frames = frames_put now old new (header_bytes old.remote_id old.space.next_number) framed frames put in
      record {
        bytes = datagram_made sealed now old new tag framed buffer after size tag_is tag_size put_frames after_is size_is short;
        opened = put.opened;
        count_is = count_is;
        some = some;
        frames_are = ap (λ (n : ℕ). control_bytes (take n frames)) (sym count_is);
        packet = subst (λ (n : ℕ). IsControlMade now.0 (overhead old) old.side old.config.peer_datagram old.space new.space (control_bytes (take n frames))) (sym count_is) put.packet;
      }

  -- it is counted, and goes to the peer
  pub control_sent : (sealed : Side → Space → ℕ → List ℕ) (now : Moment) (old new : Inner S) (before after : List ℕ) (frames : List ControlFrame) (size count number : ℕ) (u : UdpStats)
      → AreControlAppended sealed now old new before after frames size count → new.udp_tx ≡ old.udp_tx → u ≡ counted size new.udp_tx → number ≡ old.space.next_number
      → IsControlSent sealed now old (record new { udp_tx = u }) before after frames
      (record { transmit = record { destination = new.addresses.remote; size = size; src_ip = new.addresses.local_ip }; number = number; count = count })
  control_sent sealed now old new before after frames size count number u a same_stats u_is number_is =
      let made = a.bytes in
      let addresses = same_addresses now old new _ made.frames made.made in
      record {
        made = record {
          bytes = record {
            frames = made.frames;
            after_is = made.after_is;
            short = made.short;
            number = made.number;
            made = frames_counted now old new _ made.frames u made.made;
            size_is = made.size_is;
            fits = made.fits;
          };
          counted_is = u_is ∙ ap (counted size) same_stats;
          destination = ap (λ a. a.remote) addresses;
          source = ap (λ a. a.local_ip) addresses;
        };
        opened = a.opened;
        count_is = a.count_is;
        some = a.some;
        frames_are = a.frames_are;
        number_is = number_is;
        packet = a.packet;
      }
