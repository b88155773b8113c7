-- What a frame that is lost or acknowledged leaves of all that the streams keep.
use Rattle.std.proofs.Common.{◌≡◌, ◌⊎◌, ℕ, ◌+◌, ◌<◌, ◌≤◌, Bool, true, false, ◌&&◌, not, List, [], ◌∷◌, ◌++◌, length, if◌then◌else◌, refl, sym, ap, ◌∙◌, arith, inl, inr}
use Rattle.std.proofs.lemmas.Bool.{false≢true, cases_Bool}
use Rattle.std.proofs.lemmas.List.{length-append}
use Rattle.qh_streams.specs.declared.streams.Streams.TheInside.{Inside}
use Rattle.qh_streams.specs.declared.frames.StreamEvent.{StreamEvent}
use Rattle.qh_halves.specs.declared.limit.AnnouncedLimit.{AnnouncedLimit}
use Rattle.qh_halves.specs.declared.counts.StreamCounts.{StreamCounts}
use Rattle.qh_base.specs.declared.stream_id.StreamId.{StreamId}
use Rattle.qh_streams.specs.declared.frames.SentFrame.TheVariants.{Stream, ResetStream}
use Rattle.qh_half.specs.declared.send.Outgoing.{Outgoing}
use Rattle.qh_half.specs.declared.send.ResetFrame.{ResetFrame}
use Rattle.qh_halves.specs.Counts.{AreCounts, AreNoFewer, is_own, is_bi}
use Rattle.qh_half.specs.Send.{PlainSend}
use Rattle.qh_halves.specs.SendHalves.{PlainSendHalves, IsStep, IsAbsent, IsSettledBy, absent, on, done, IsAcked, IsResetAcked}
use Rattle.qh_half.specs.Recv.{PlainRecv}
use Rattle.qh_halves.specs.RecvHalves.{PlainRecvHalves, IsRecvStep, IsRecvAbsent}
use Rattle.qh_streams.specs.Streams.{PlainStreams, with_counts, counted_closed, is_live, finished_events, IsAckedFrame}
use Rattle.qh_streams.specs.Streams.IsAckedFrame.{stream, reset}
use Rattle.qh_streams.proofs.StreamsKept.{AreSendKept, AreRecvKept, send_same, send_step, recv_same, recv_step}

-- the streams as they are seen, from what they are made of
abbrev pub seen : Inside → PlainStreams
seen i = record { side = i.side; send = i.send; recv = i.recv; bi = i.bi; uni = i.uni; peer = i.peer; blocked = i.connection_blocked.keys; events = i.events.items }

pub stepped : {P : PlainSend → PlainSend → Type 0} {old new : PlainSendHalves} {id n : ℕ} → IsStep P old new id n ⊎ IsAbsent old new id → AreSendKept old new
stepped (inl step) = send_step step
stepped (inr none) = send_same none.same

pub recv_stepped : {P : PlainRecv → PlainRecv → Type 0} {old new : PlainRecvHalves} {id n : ℕ} → IsRecvStep P old new id n ⊎ IsRecvAbsent old new id → AreRecvKept old new
recv_stepped (inl step) = recv_step step
recv_stepped (inr none) = recv_same none.same

-- the announced count may wait again or be known, and is the same
pub announced_again : (c : StreamCounts) (a : AnnouncedLimit) → a.value ≡ c.announced.value → AreCounts c → AreCounts (record c { announced = a })
announced_again c a same ok = record {
  opened = ok.opened;
  max_opened = ok.max_opened;
  accepted = ok.accepted;
  arrived = omega (arith, ok.arrived, same);
  announced = omega (arith, ok.announced, same);
}

pub none_fewer : (c : StreamCounts) (a : AnnouncedLimit) → AreNoFewer c (record c { announced = a })
none_fewer c a = record { opened = omega arith; arrived = omega arith }

-- a half that is done makes room for what is told of it
pub room_for_finished : {P : PlainSend → PlainSend → Type 0} {old new : PlainSendHalves} {id : ℕ} (gone : Bool) → IsSettledBy P old new id gone → gone ≡ true → length new.halves + 1 ≡ length old.halves
room_for_finished true (done last) e = last.count
room_for_finished false s e = absurd (false≢true e)

-- what is told stands at the end
pub pushed : {X : Type 0} (some : Bool) (old new : List X) (x : X) → new ≡ (if some then old ++ x ∷ [] else old) → some ≡ true → new ≡ old ++ x ∷ []
pushed some old new x is e = is ∙ ap (λ (b : Bool). if b then old ++ x ∷ [] else old) e

pub pushed_length : {X : Type 0} (old new : List X) (x : X) → new ≡ old ++ x ∷ [] → length new ≡ length old + 1
pushed_length old new x is = rw is (omega (arith, length-append old (x ∷ [])))

-- only counts change if one more stream is closed
pub record DiffersByCounts (s t : PlainStreams) : Type 0 where
  pub send_is : t.send ≡ s.send
  pub recv_is : t.recv ≡ s.recv
  pub events_are : t.events ≡ s.events

pub counts_alone : (s : PlainStreams) (two_way : Bool) (c : StreamCounts) → DiffersByCounts s (with_counts s two_way c)
counts_alone s true c = record { send_is = refl; recv_is = refl; events_are = refl }
counts_alone s false c = record { send_is = refl; recv_is = refl; events_are = refl }

pub closed_alone : (s : PlainStreams) (id : ℕ) (was_live : Bool) → DiffersByCounts s (counted_closed s id was_live)
closed_alone s id was_live = elim (cases_Bool (not (is_own s.side id) && (was_live && not (is_live s id)))) [
  | inl e ↦ rw e (counts_alone s (is_bi id) _)
  | inr e ↦ rw e (record { send_is = refl; recv_is = refl; events_are = refl })
]

-- of the streams that this end opened none is counted as closed
pub counted_of_peer : (s : PlainStreams) (id : ℕ) (live : Bool) → counted_closed s id (not (is_own s.side id) && live) ≡ counted_closed s id live
counted_of_peer s id live = elim (cases_Bool (is_own s.side id)) [
  | inl own ↦ rw own refl
  | inr peer ↦ rw peer refl
]

pub is_piece_acked : (old new : PlainStreams) (send : PlainSendHalves) (id : StreamId) (piece : Outgoing) (finished : Bool) → IsSettledBy (IsAcked piece) old.send send id.0 finished
    → new ≡ counted_closed (record old { send = send; events = old.events ++ finished_events finished id }) id.0 (is_live old id.0) → IsAckedFrame old new (Stream id piece)
is_piece_acked old new send id piece finished settled is =
    let same : new.send ≡ send = ap (λ (s : PlainStreams). s.send) is ∙ (closed_alone _ id.0 (is_live old id.0)).send_is in
    stream id piece finished (rw same settled) (is ∙ ap (λ (x : PlainSendHalves). counted_closed (record old { send = x; events = old.events ++ finished_events finished id }) id.0 (is_live old id.0)) (sym same))

pub is_reset_acked : (old new : PlainStreams) (send : PlainSendHalves) (id : StreamId) (frame : ResetFrame) (gone : Bool) → IsSettledBy IsResetAcked old.send send id.0 gone
    → new ≡ counted_closed (record old { send = send }) id.0 (is_live old id.0) → IsAckedFrame old new (ResetStream id frame)
is_reset_acked old new send id frame gone settled is =
    let same : new.send ≡ send = ap (λ (s : PlainStreams). s.send) is ∙ (closed_alone _ id.0 (is_live old id.0)).send_is in
    reset id frame gone (rw same settled) (is ∙ ap (λ (x : PlainSendHalves). counted_closed (record old { send = x }) id.0 (is_live old id.0)) (sym same))
