use Rattle.std.proofs.Common.{sym, subst}
use Rattle.qh_spec.specs.Message.{PlainHead, Response, IsResponse}
use Rattle.qh_message.proofs.Spelled.{spelled, no_response}
use Rattle.qh_message.proofs.read.read_response.Goals as goal

pub returns-in-Ok-clause-spells : goal.returns-in-Ok-clause-spells
returns-in-Ok-clause-spells c =
    let s = spelled c.args.bytes.now c.in-Some.field-0.header c.in-Some.field-0.body.items c.as_slice.result.now c.in-Some.field-0.trailers (Response _) _ c.in_ok-message-in-Ok.message c.in_ok-filled-in-Ok.field-0
    (rw c.in-Some.is at c.in_ok-header.ensures.found) c.in-Ok.ensures.means c.in-Ok.ensures.value.1 c.in_ok-message-in-Ok.ensures.value c.as_slice.ensures.value c.in_ok-filled-in-Ok.ensures in
    (s.0, subst (λ (z : PlainHead). IsResponse z) (sym s.1) tt)

pub returns-clause-none : goal.returns-clause-none
returns-clause-none c =
    λ e. no_response c.args.bytes.now c.in-Some.field-0.header c.in-Some.field-0.body.items c.in-Some.field-0.trailers (rw c.in-Some.is at c.in_ok-header.ensures.found) c.in-Err.ensures.value.1
