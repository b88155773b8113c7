use Rattle.std.proofs.Common.{◌≡◌, Ok, sym, ap, ◌∙◌, subst}
use Rattle.qh_roles.proofs.Acts.{fresh_reading}
use Rattle.qh_roles.proofs.ClientLaws.{stirred_still, left_alone, sent_err, write_advances, given_up_advances, advances_after}
use Rattle.qh_roles.specs.Client.{IsAskedIn}
use Rattle.qh_roles.specs.ClientSteps.{IsSent}
use Rattle.qh_roles.specs.Streams.{IsUnread, IsWrittenTo}
use Rattle.qh_roles.specs.declared.client.RequestState.TheVariants.{Sending, Receiving, Done}
use Rattle.qh_roles.specs.declared.outgoing.WriteState.TheVariants as writing
use Rattle.qh_roles.proofs.client.RequestState.send.Goals as goal

pub returns-in_default : goal.returns-in_default
returns-in_default g c = record { stirred = stirred_still c.args.connection.now; sends = λ requests index start before t f is. left_alone start before requests index c.args.self c.args.connection.now t f is }

pub returns-in_err-write-clause-sends : goal.returns-in_err-write-clause-sends
returns-in_err-write-clause-sends g c = λ requests index start before t f is.
    let asked = subst (IsAskedIn requests t index) c.in-Sending.is is in
    write_advances start before (IsSent requests index c.from_residual.result) requests index c.write.result c.in-Sending.outgoing c.write.new.self c.write.new.connection t asked c.write.ensures.same
    (c.write.ensures.writes start before t f asked.2) (λ u s w n. sent_err requests index c.from_residual.result u c.from_residual.ensures.0)

pub returns-in-Blocked-clause-sends : goal.returns-in-Blocked-clause-sends
returns-in-Blocked-clause-sends g c = λ requests index start before t f is.
    let asked = subst (IsAskedIn requests t index) c.in-Sending.is is in
    let answer : c.write.result ≡ Ok writing.Blocked = c.in_ok-write.was ∙ ap Ok c.in-Blocked.is in
    write_advances start before (IsSent requests index (Ok (Sending c.write.new.self))) requests index c.write.result c.in-Sending.outgoing c.write.new.self c.write.new.connection t asked c.write.ensures.same
    (c.write.ensures.writes start before t f asked.2) (λ u s w n. (s.0, s.1, subst (λ r. IsWrittenTo r u c.write.new.self) answer w, n))

pub returns-in-Finished-clause-sends : goal.returns-in-Finished-clause-sends
returns-in-Finished-clause-sends g c = λ requests index start before t f is.
    let asked = subst (IsAskedIn requests t index) c.in-Sending.is is in
    let at = c.stream-stream.ensures ∙ asked.0 in
    write_advances start before (IsSent requests index (Ok (Receiving c.new.result))) requests index c.write.result c.in-Sending.outgoing c.write.new.self c.write.new.connection t asked c.write.ensures.same
    (c.write.ensures.writes start before t f asked.2) (λ u s w n. rw c.new.ensures (at, fresh_reading u c.stream-stream.result.0 (subst (IsUnread u) (sym at) n)))

pub returns-in-Refused-clause-sends : goal.returns-in-Refused-clause-sends
returns-in-Refused-clause-sends g c = λ requests index start before t f is.
    let asked = subst (IsAskedIn requests t index) c.in-Sending.is is in
    let first = write_advances start before (λ u. Unit {0}) requests index c.write.result c.in-Sending.outgoing c.write.new.self c.write.new.connection t asked c.write.ensures.same
    (c.write.ensures.writes start before t f asked.2) (λ u s w n. tt) in
    let gone = c.give_up.ensures.acted start before _ first.follows in
    advances_after start before (IsSent requests index (Ok Done)) (λ u. Unit {0}) requests index c.write.new.connection c.give_up.new.connection t first
    (given_up_advances start before requests index c.stream-stream.result.0 c.give_up.new.connection _ gone.0 (c.stream-stream.ensures ∙ asked.0) gone.1 gone.2 gone.3)
