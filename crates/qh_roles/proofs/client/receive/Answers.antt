use Rattle.std.proofs.Common.{◌≡◌, List, ℕ, Ok, None, IfSome, ap, ◌∙◌, subst}
use Rattle.qh_roles.proofs.ClientLaws.{advanced_err, read_advances, answer_read}
use Rattle.qh_roles.specs.ClientSteps.{IsAdvanced}
use Rattle.qh_roles.specs.Streams.{IsReadTo}
use Rattle.qh_roles.specs.declared.client.RequestState.TheVariants.{Receiving, Done}
use Rattle.qh_roles.specs.declared.incoming.ReadState.TheVariants as reading
use Rattle.qh_spec.specs.Message.{IsResponse}
use Rattle.qh_spec.specs.Spelling.{Spells}
use Rattle.qh_roles.proofs.client.receive.Goals as goal

pub returns-in_err-read-clause-receives : goal.returns-in_err-read-clause-receives
returns-in_err-read-clause-receives g c = λ requests index start before t f place is.
    read_advances start before (IsAdvanced requests index c.from_residual.result) requests index c.read.result c.args.incoming c.read.new.self c.read.new.connection t place is c.read.ensures.same
    (c.read.ensures.reads start before t f is) (λ u at r. advanced_err requests index c.from_residual.result u c.from_residual.ensures.0)

pub returns-in_err-read_response-in-Ended-clause-receives : goal.returns-in_err-read_response-in-Ended-clause-receives
returns-in_err-read_response-in-Ended-clause-receives g c = λ requests index start before t f place is.
    read_advances start before (IsAdvanced requests index c.from_residual-in_err-read_response-in-Ended.result) requests index c.read.result c.args.incoming c.read.new.self c.read.new.connection t place is c.read.ensures.same
    (c.read.ensures.reads start before t f is) (λ u at r. advanced_err requests index c.from_residual-in_err-read_response-in-Ended.result u c.from_residual-in_err-read_response-in-Ended.ensures.0)

pub returns-in-Blocked-clause-receives : goal.returns-in-Blocked-clause-receives
returns-in-Blocked-clause-receives g c = λ requests index start before t f place is.
    let answer : c.read.result ≡ Ok reading.Blocked = c.in_ok-read.was ∙ ap Ok c.in-Blocked.is in
    read_advances start before (IsAdvanced requests index (Ok (Receiving c.read.new.self, None))) requests index c.read.result c.args.incoming c.read.new.self c.read.new.connection t place is c.read.ensures.same
    (c.read.ensures.reads start before t f is) (λ u at r. ((at, subst (λ z. IsReadTo z u c.read.new.self) answer r), tt))

pub returns-in_ok-read_response-in-Ended-clause-receives : goal.returns-in_ok-read_response-in-Ended-clause-receives
returns-in_ok-read_response-in-Ended-clause-receives g c = λ requests index start before t f place is.
    let answer : c.read.result ≡ Ok reading.Ended = c.in_ok-read.was ∙ ap Ok c.in-Ended.is in
    let found = c.in_ok-read_response-in-Ended.field-0 in
    let spelled = subst (λ (b : List ℕ). IfSome found (λ m. Spells b m × IsResponse m.head)) c.bytes.ensures c.in_ok-read_response-in-Ended.ensures.spells in
    read_advances start before (IsAdvanced requests index (Ok (Done, found))) requests index c.read.result c.args.incoming c.read.new.self c.read.new.connection t place is c.read.ensures.same
    (c.read.ensures.reads start before t f is) (λ u at r. (tt, answer_read u index c.read.new.self found at (subst (λ z. IsReadTo z u c.read.new.self) answer r) spelled))

pub returns-in-Refused-clause-receives : goal.returns-in-Refused-clause-receives
returns-in-Refused-clause-receives g c = λ requests index start before t f place is.
    read_advances start before (IsAdvanced requests index (Ok (Done, None))) requests index c.read.result c.args.incoming c.read.new.self c.read.new.connection t place is c.read.ensures.same
    (c.read.ensures.reads start before t f is) (λ u at r. (tt, tt))
