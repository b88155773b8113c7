use Rattle.std.proofs.Common.{◌≡◌, ◌∙◌, refl, sym, ap, subst}
use Rattle.qh_halves.specs.SendHalves.{NoneWaits}
use Rattle.qh_streams.specs.Streams.{PlainStreams}
use Rattle.qh_streams.proofs.StreamsKept.{send_kept, send_step}
use Rattle.qh_streams.proofs.StreamsWritten.{frame_of, of_sending, sent_handed, sent_out, streams_same}
use Rattle.qh_streams.proofs.streams.Streams.next_sending.Goals.{in-Stream, in-Reset}
use Rattle.qh_streams.proofs.streams.Streams.next_sending.Goals as goal

pub returns-in_default-clause-none : goal.returns-in_default-clause-none
returns-in_default-clause-none c = λ _.
    let none = c.in_ok-id.ensures.none c.in_default.is in
    (streams_same _ c.poll_transmit.new.self none.0 ∙ c.self.view_is, subst (λ (s : PlainStreams). NoneWaits s.send) c.self.view_is none.1)

pub invariant_of-self-2 : goal.invariant_of-self-2
invariant_of-self-2 c =
    let next = rw c.in-Some.is at c.in_ok-id.ensures.some in
    send_kept c.self.invariant (send_step next.step) refl

pub returns-clause-some : goal.returns-clause-some
returns-clause-some c =
    let frame_is : c.match-transmission.result ≡ frame_of c.in-Some.id c.in-Some.transmission = elim c.match-transmission.branch [
      | in-Stream w ↦ w.result-is ∙ ap (frame_of c.in-Some.id) (sym w.in-Stream.is)
      | in-Reset w ↦ w.result-is ∙ ap (frame_of c.in-Some.id) (sym w.in-Reset.is)
    ] in
    let next = rw c.in-Some.is at c.in_ok-id.ensures.some in
    rw (frame_is, ← c.self.view_is) (sent_handed _ c.poll_transmit.new.self c.args.room c.in-Some.id c.in-Some.transmission next, of_sending c.in-Some.id c.in-Some.transmission)

pub returns-clause-out : goal.returns-clause-out
returns-clause-out c =
    let frame_is : c.match-transmission.result ≡ frame_of c.in-Some.id c.in-Some.transmission = elim c.match-transmission.branch [
      | in-Stream w ↦ w.result-is ∙ ap (frame_of c.in-Some.id) (sym w.in-Stream.is)
      | in-Reset w ↦ w.result-is ∙ ap (frame_of c.in-Some.id) (sym w.in-Reset.is)
    ] in
    let next = rw c.in-Some.is at c.in_ok-id.ensures.some in
    let out = rw c.in-Some.is at c.in_ok-id.ensures.is_out in
    let form = rw c.in-Some.is at c.in_ok-id.ensures.bound in
    rw frame_is (sent_out c.poll_transmit.new.self _ c.in-Some.id c.in-Some.transmission c.self.invariant next out form)
