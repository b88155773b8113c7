-- What a datagram that goes out leaves of an end that is open.
use Rattle.std.proofs.Common.{◌≡◌, inl, inr, ◌≤◌, ◌<◌, ◌^◌, ◌+◌, Bool, true, false, List, [], ◌++◌, ℕ, Option, Some, None, refl, sym, ◌∙◌, ap, subst, length, append-nil, arith, length-append}
use Rattle.std.specs.Prelude.{if◌then◌else◌, nat_lt, ◌||◌}
use Rattle.std.proofs.lemmas.Bool.{false≢true}
use Rattle.qh_base.specs.declared.path.Transmit.{Transmit}
use Rattle.qh_base.specs.declared.time.Moment.{Moment}
use Rattle.qh_conduct.specs.Calls.{ToldTheSame}
use Rattle.qh_conn.specs.Items.{streams_taken}
use Rattle.qh_conn.specs.Outgoing.{IsDataTransmitted, IsStill, IsTransmitted}
use Rattle.qh_conn.specs.Outgoing.{IsDataTransmitted as data_sent}
use Rattle.qh_conn.specs.Outgoing.{IsTransmitted as sent}
use Rattle.qh_control.specs.declared.items.ConnectionItem.{ConnectionItem}
use Rattle.qh_core.proofs.ControlFrames.{bare_rest}
use Rattle.qh_core.proofs.OwnCounts.{made_counts}
use Rattle.qh_core.specs.Inner.{HaveSameCounts, is_open}
use Rattle.qh_core.specs.Sending.{AreFramesMade, IsDatagramMade as IsCoreMade}
use Rattle.qh_core.specs.Sending.AreFramesMade.{packet, control, close}
use Rattle.qh_core.specs.Timers.{IsUndisturbed, RunsOn, sent_at}
use Rattle.qh_core.specs.declared.idle.IdleTimer.{IdleTimer}
use Rattle.qh_core.specs.declared.inner.Inner.{Inner}
use Rattle.qh_handshake.specs.Outgoing.{IsDatagramMade, datagram_of, is_client, least_size}
use Rattle.qh_handshake.specs.declared.handshake.Handshake.{Handshake}
use Rattle.qh_packet.proofs.InitialForms.{written_form}
use Rattle.qh_packet.specs.Initial.{BeginsWithInitial, body_length, filled, initial_bytes, is_short}
use Rattle.qh_packet.specs.LongHeader.{long_head}
use Rattle.qh_packet.specs.Packet.{low_bytes}
use Rattle.qh_packet.specs.Session.{PlainKeys, SealsTag}
use Rattle.qh_spec.specs.Varint.{varint}
use Rattle.qh_spec.specs.declared.sides.Space.TheVariants.{Initial}
use Rattle.qh_spec.specs.declared.sides.Side.{Side}
use Rattle.qh_spec.specs.declared.sides.Side.TheVariants.{Client}
use Rattle.qh_streams.specs.Streams.{PlainStreams}
use Rattle.qh_pair.specs.EndCalls.{IsUndisturbedBy}
use Rattle.qh_pair.specs.Ends.{End}
use Rattle.qh_pair.specs.Sound.{IsFirst}
use Rattle.qh_pair.specs.declared.ends.Ids.{Ids}
use Rattle.qh_pair.proofs.EndCounts.{told_same, told_trans}
use Rattle.qh_pair.proofs.EndHandled.{by_core, by_trans, taken_state, taken_streams}

-- ---- the end of the 1-RTT packets

same_counts : (s : PlainStreams) → HaveSameCounts s s
same_counts s = record { bi_opened = refl; bi_accepted = refl; uni_opened = refl; uni_accepted = refl }

idle_same : (now : Moment) (t : IdleTimer) → RunsOn now t t
idle_same now t = record { timeout = refl; since = inl refl }

sent_runs : (now : Moment) (has_sent : Bool) (t : IdleTimer) → RunsOn now t (if has_sent then t else record t { since = now; has_sent = true })
sent_runs now true t = idle_same now t
sent_runs now false t = record { timeout = refl; since = inr refl }

maybe_sent : (now : Moment) (is_out : Bool) (t : IdleTimer) → RunsOn now t (if is_out then sent_at now t else t)
maybe_sent now true t = sent_runs now t.has_sent t
maybe_sent now false t = idle_same now t

-- what a datagram of an open end leaves
pub record LeavesCore (now : Moment) (old new : Inner PlainKeys) : Type 0 where
  pub undisturbed : IsUndisturbed now old new
  pub state : new.state ≡ old.state

frames_leave : (now : Moment) (old new : Inner PlainKeys) (before frames : List ℕ) → is_open old.state ≡ true → AreFramesMade now old new before frames → LeavesCore now old new
frames_leave now old new before frames up (packet opened made e) = record {
  undisturbed = record {
    counts = made_counts now.0 _ _ old.space new.space before _ made;
    idle = subst (λ (t : IdleTimer). RunsOn now old.idle t) (sym (ap (λ (c : Inner PlainKeys). c.idle) e)) (maybe_sent now (nat_lt (length old.space.sent) (length new.space.sent)) old.idle);
    timed_out = λ is. sym (ap (λ (c : Inner PlainKeys). c.error) e) ∙ is;
  };
  state = ap (λ (c : Inner PlainKeys). c.state) e;
}
frames_leave now old new before frames up (control opened made e) = record {
  undisturbed = record {
    counts = subst (λ (s : PlainStreams). HaveSameCounts old.space.streams s) (sym (bare_rest _ _ old.space new.space made.sent).streams) (same_counts old.space.streams);
    idle = subst (λ (t : IdleTimer). RunsOn now old.idle t) (sym (ap (λ (c : Inner PlainKeys). c.idle) e)) (maybe_sent now (nat_lt (length old.space.sent) (length new.space.sent)) old.idle);
    timed_out = λ is. sym (ap (λ (c : Inner PlainKeys). c.error) e) ∙ is;
  };
  state = ap (λ (c : Inner PlainKeys). c.state) e;
}
frames_leave now old new before frames up (close reason until is bytes e) = absurd (false≢true (sym (ap is_open is) ∙ up))

core_leaves : (sealed : SealsTag) (now : Moment) (old new : Inner PlainKeys) (before after : List ℕ) (t : Transmit) → is_open old.state ≡ true → IsCoreMade sealed now old new before after t → LeavesCore now old new
core_leaves sealed now old new before after t up m = frames_leave now old new _ _ up m.bytes.made

-- ---- the whole end

-- what a call leaves that handed out a datagram, or found none, of an end that is open
pub record LeavesOpen (now : Moment) (old new : End) : Type 0 where
  pub undisturbed : IsUndisturbedBy now old new
  pub up : is_open new.core.state ≡ true
  pub peer : new.handshake.peer ≡ old.handshake.peer
  pub retry : new.handshake.retry_id ≡ old.handshake.retry_id
  pub remote : new.handshake.remote_id ≡ old.handshake.remote_id
  pub told : ToldTheSame old.core.space.streams new.core.space.streams

-- what `permits` says
abbrev pub PermitsMade : Type 0
PermitsMade = (sealed : SealsTag) (now : Moment) (old new : Inner PlainKeys) (before after : List ℕ) (t : Transmit) → IsCoreMade sealed now old new before after t → ToldTheSame old.space.streams new.space.streams

taken_told : (log : Option (List ConnectionItem)) (core : Inner PlainKeys) → ToldTheSame core.space.streams (streams_taken log core).space.streams
taken_told None core = told_same core.space.streams
taken_told (Some items) core = told_same core.space.streams

-- the end of the 1-RTT packets made a datagram, and the handshake stays
by_made : PermitsMade → (sealed : SealsTag) (now : Moment) (old new : End) (core : Inner PlainKeys) (before after : List ℕ) (t : Transmit) → is_open old.core.state ≡ true → IsCoreMade sealed now old.core core before after t
    → IsUndisturbed now core new.core → new.core.state ≡ core.state → ToldTheSame core.space.streams new.core.space.streams → new.handshake ≡ old.handshake → LeavesOpen now old new
by_made permits sealed now old new core before after t up made u state told handshake =
    let l = core_leaves sealed now old.core core before after t up made in
    record {
      undisturbed = by_trans now old (record old { core = core }) new (by_core now old (record old { core = core }) refl refl (λ h. up) l.undisturbed)
          (by_core now (record old { core = core }) new (ap (λ (z : Handshake). z.peer) handshake) (ap (λ (z : Handshake). z.parameters) handshake) (λ h. ap is_open l.state ∙ up) u);
      up = ap is_open (state ∙ l.state) ∙ up;
      peer = ap (λ (z : Handshake). z.peer) handshake;
      retry = ap (λ (z : Handshake). z.retry_id) handshake;
      remote = ap (λ (z : Handshake). z.remote_id) handshake;
      told = told_trans old.core.space.streams core.space.streams new.core.space.streams (permits sealed now old.core core before after t made) told;
    }

no_change : (now : Moment) (c : Inner PlainKeys) → IsUndisturbed now c c
no_change now c = record { counts = same_counts c.space.streams; idle = idle_same now c.idle; timed_out = λ e. e }

data_leaves : PermitsMade → (sealed : SealsTag) (now : Moment) (old new : End) (before after : List ℕ) (t : Transmit) → is_open old.core.state ≡ true → IsDataTransmitted sealed now old new before after t → LeavesOpen now old new
data_leaves permits sealed now old new before after t up (data_sent.of_core made bears still e) =
    by_made permits sealed now old new new.core before after t up made (no_change now new.core) refl (told_same new.core.space.streams) (ap (λ (z : End). z.handshake) e)
data_leaves permits sealed now old new before after t up (data_sent.control s is_sent same waiting queue e) =
    by_made permits sealed now old new new.core before after s.transmit up is_sent.made (no_change now new.core) refl (told_same new.core.space.streams) (ap (λ (z : End). z.handshake) e)
data_leaves permits sealed now old new before after t up (data_sent.datagrams s frames core none outgoing is_sent same still e) =
    let is : new.core ≡ streams_taken old.control.log core = ap (λ (z : End). z.core) e in
    by_made permits sealed now old new core before after s.transmit up is_sent.made
    (subst (λ (z : Inner PlainKeys). IsUndisturbed now core z) (sym is) (taken_streams old.control.log now core)) (ap (λ (z : Inner PlainKeys). z.state) is ∙ taken_state old.control.log core)
    (subst (λ (z : Inner PlainKeys). ToldTheSame core.space.streams z.space.streams) (sym is) (taken_told old.control.log core)) (ap (λ (z : End). z.handshake) e)

initial_leaves : (now : Moment) (old new : End) (handshake : Handshake) (eliciting : Bool) → is_open old.core.state ≡ true → new.handshake ≡ handshake → handshake.peer ≡ old.handshake.peer → handshake.parameters ≡ old.handshake.parameters
    → handshake.retry_id ≡ old.handshake.retry_id → handshake.remote_id ≡ old.handshake.remote_id
    → new.core ≡ record old.core { idle = (if eliciting then sent_at now old.core.idle else old.core.idle) } → LeavesOpen now old new
initial_leaves now old new handshake eliciting up same peer said retry remote core = record {
  undisturbed = by_core now old new (ap (λ (z : Handshake). z.peer) same ∙ peer) (ap (λ (z : Handshake). z.parameters) same ∙ said) (λ h. up)
      (subst (λ (z : Inner PlainKeys). IsUndisturbed now old.core z) (sym core) (record { counts = same_counts old.core.space.streams; idle = maybe_sent now eliciting old.core.idle; timed_out = λ e. e }));
  up = ap (λ (z : Inner PlainKeys). is_open z.state) core ∙ up;
  peer = ap (λ (z : Handshake). z.peer) same ∙ peer;
  retry = ap (λ (z : Handshake). z.retry_id) same ∙ retry;
  remote = ap (λ (z : Handshake). z.remote_id) same ∙ remote;
  told = subst (λ (z : Inner PlainKeys). ToldTheSame old.core.space.streams z.space.streams) (sym core) (told_same old.core.space.streams);
}

pub sent_leaves : PermitsMade → (sealed : SealsTag) (now : Moment) (old new : End) (before after : List ℕ) (t : Transmit) → is_open old.core.state ≡ true → IsTransmitted sealed now old new before after t → LeavesOpen now old new
sent_leaves permits sealed now old new before after t up (sent.initial opened made e goes) =
    let h = made.new_is in
    initial_leaves now old new new.handshake made.is_eliciting up refl (ap (λ (z : Handshake). z.peer) h) (ap (λ (z : Handshake). z.parameters) h) (ap (λ (z : Handshake). z.retry_id) h) (ap (λ (z : Handshake). z.remote_id) h)
    (ap (λ (z : End). z.core) e)
sent_leaves permits sealed now old new before after t up (sent.close reason until said early is says made e goes) = absurd (false≢true (sym (ap is_open is) ∙ up))
sent_leaves permits sealed now old new before after t up (sent.data_packet connected turns goes_out) = data_leaves permits sealed now old new before after t up goes_out

pub still_leaves : (now : Moment) (old new : End) → is_open old.core.state ≡ true → IsStill old new → LeavesOpen now old new
still_leaves now old new up s =
    initial_leaves now old new new.handshake false up refl (ap (λ (z : End). z.handshake.peer) s.rest_is) (ap (λ (z : End). z.handshake.parameters) s.rest_is) (ap (λ (z : End). z.handshake.retry_id) s.rest_is)
    (ap (λ (z : End). z.handshake.remote_id) s.rest_is) (ap (λ (z : End). z.core) s.rest_is)

-- ---- a client's first datagrams

least_client : (h : Handshake) (eliciting : Bool) → h.side ≡ Client → least_size h eliciting ≡ 1200
least_client h eliciting side = ap (λ (z : Side). if (is_client z || eliciting) then 1200 else 0) side

-- the frames have no more bytes than the packet
frames_within : (d s t fill : List ℕ) (number : ℕ) (wide : Bool) (tag : List ℕ) → length fill ≤ length (initial_bytes d s t number wide fill tag)
frames_within d s t fill number wide tag =
    let a = length-append (long_head 195 1 d s ++ (varint (length t) ++ t)) (body_length wide (36 + length fill) ++ (low_bytes number ++ (fill ++ tag))) in
    let b = length-append (body_length wide (36 + length fill)) (low_bytes number ++ (fill ++ tag)) in
    let c = length-append (low_bytes number) (fill ++ tag) in
    let e = length-append fill tag in
    omega (arith, a, b, c, e)

-- an Initial packet of a client that knows nothing of its server is a first one
pub first_of : (sealed : SealsTag) (now : Moment) (ids : Ids) (h new : Handshake) (before after : List ℕ) (size : ℕ) → h.side ≡ Client → h.local_id ≡ ids.client → h.remote_id ≡ ids.key → length h.token ≤ 512
    → IsDatagramMade sealed now h new before after size → before ≡ [] → IsFirst ids after
first_of sealed now ids h new before after size side local remote token m nothing =
    let tag = sealed h.side Initial m.space.next_number in
    let fill : List ℕ = filled h.remote_id h.local_id h.token m.frames (least_size h m.is_eliciting) in
    let d : List ℕ = datagram_of sealed h m.space.next_number m.frames (least_size h m.is_eliciting) in
    let is : after ≡ d = m.after_is ∙ ap (λ (z : List ℕ). z ++ d) nothing in
    let long : 1200 ≤ length d = subst (λ (z : ℕ). 1200 ≤ z) m.size_is (subst (λ (z : ℕ). z ≤ size) (least_client h m.is_eliciting side) m.filled) in
    let fits = m.fits in
    let same = m.size_is in
    let few : 36 + length fill < 2 ^ 14 = omega (arith, fits, same, frames_within h.remote_id h.local_id h.token fill m.space.next_number (is_short h.remote_id h.local_id h.token m.frames (least_size h m.is_eliciting)) tag) in
    let form = written_form h.remote_id h.local_id h.token fill tag [] m.space.next_number (is_short h.remote_id h.local_id h.token m.frames (least_size h m.is_eliciting)) m.ids.0 m.ids.1 (omega (arith, token)) few m.tag_length in
    record {
      long = subst (λ (z : List ℕ). 1200 ≤ length z) (sym is) long;
      first = 195;
      token = h.token;
      body = low_bytes m.space.next_number ++ (fill ++ tag);
      rest = [];
      begins = subst (λ (z : List ℕ). BeginsWithInitial after 195 z ids.client h.token (low_bytes m.space.next_number ++ (fill ++ tag)) []) remote
          (subst (λ (z : List ℕ). BeginsWithInitial after 195 h.remote_id z h.token (low_bytes m.space.next_number ++ (fill ++ tag)) []) local
          (subst (λ (z : List ℕ). BeginsWithInitial z 195 h.remote_id h.local_id h.token (low_bytes m.space.next_number ++ (fill ++ tag)) []) (append-nil d ∙ sym is) form));
    }
