use Rattle.std.proofs.Common.{subst}
use Rattle.qh_base.proofs.CountedBytes.{at_none}
use Rattle.qh_token.proofs.Forms.{allowed, token_parts, parts_once}
use Rattle.qh_token.proofs.token.Token.decode.Goals as goal
use Rattle.qh_token.specs.Parts.{IsAllowed, value_of_parts}

pub returns-in_err-payload_of-clause-none : goal.returns-in_err-payload_of-clause-none
returns-in_err-payload_of-clause-none c = at_none c.from_residual-in_err-payload_of.result (λ v t.
    c.in_err-payload_of.ensures.none
    (subst IsAllowed (parts_once c.args.bytes.now v (value_of_parts c.in_ok-parts.parts) (token_parts c.args.bytes.now v t) c.in_ok-parts.ensures.found) (allowed v t.fits)))
