use Rattle.std.proofs.Common.{sym, subst}
use Rattle.qh_spec.specs.Message.{PlainHead, Request, IsRequest, target_of}
use Rattle.qh_message.proofs.Spelled.{spelled, no_request}
use Rattle.qh_message.proofs.read.read_request.Goals as goal

pub returns-in-Ok-clause-spells : goal.returns-in-Ok-clause-spells
returns-in-Ok-clause-spells c =
    let s = spelled c.args.bytes.now c.in-Some.field-0.header c.in-Some.field-0.body.items c.as_slice.result.now c.in-Some.field-0.trailers (Request c.in-Ok.method (target_of c.in-Ok.uri)) c.in-Ok.fields c.in_ok-message-in-Ok.message c.in_ok-filled-in-Ok.field-0
    (rw c.in-Some.is at c.in_ok-header.ensures.found) c.in-Ok.ensures.means c.in-Ok.ensures.value.2 c.in_ok-message-in-Ok.ensures.value c.as_slice.ensures.value c.in_ok-filled-in-Ok.ensures in
    (s.0, subst (λ (z : PlainHead). IsRequest z) (sym s.1) tt)

pub returns : goal.returns
returns c = record {
  spells = tt;
  none = λ e. no_request c.args.bytes.now c.in-Some.field-0.header c.in-Some.field-0.body.items c.in-Some.field-0.trailers c.in-Err.error (rw c.in-Some.is at c.in_ok-header.ensures.found) c.in_default-error.not-Memory c.in-Err.ensures.refused;
}
