use Rattle.std.proofs.Common.{refl}
use Rattle.qh_spec.specs.ScriptLine as says
use Rattle.qh_spec.specs.Message.{PlainTarget}
use Rattle.qh_script.proofs.Arguments.{no_request, request_only}
use Rattle.qh_script.proofs.Refusals.{refused, no_asked, no_method, no_uri}
use Rattle.qh_script.proofs.line.messages.read_request.Goals as goal

pub returns-in_err-method : goal.returns-in_err-method
returns-in_err-method c =
    rw (c.from_residual.ensures) (no_request c.args.text.now (no_asked c.args.text.now c.in_err-method.ensures))

pub returns-then-not-is_token : goal.returns-then-not-is_token
returns-then-not-is_token c =
    no_request c.args.text.now
    (no_method c.args.text.now c.in_ok-method.method.now c.in_ok-method.uri.now c.in_ok-method.ensures (λ t. refused (c.is_token.ensures.1 t) c.if-not-is_token.true))

pub returns-then-not-is_uri : goal.returns-then-not-is_uri
returns-then-not-is_uri c =
    no_request c.args.text.now
    (no_uri c.args.text.now c.in_ok-method.method.now c.in_ok-method.uri.now c.in_ok-method.ensures (λ u. refused (c.is_uri.ensures.1 u) c.if-not-is_uri.true))

pub returns : goal.returns
returns c =
    let u = c.is_uri.ensures.0 c.if-not-is_uri.false in
    let target : PlainTarget = record { scheme = u.0; authority = u.1; path_and_query = u.2 } in
    record {
      meant = says.Request c.in_ok-method.method.now target;
      is = (target, c.is_token.ensures.0 c.if-not-is_token.false, u.3, refl);
      only = request_only c.args.text.now c.in_ok-method.method.now c.in_ok-method.uri.now c.in_ok-method.ensures;
    }
