use Rattle.qh_base.proofs.CountedBytes.{at_none}
use Rattle.qh_packet.proofs.InitialForms.{after_counted, counted_at}
use Rattle.qh_stateless.proofs.long.token_of.Goals as goal

pub returns-in_err-token-clause-none : goal.returns-in_err-token-clause-none
returns-in_err-token-clause-none c = at_none c.from_residual.result (λ token t. c.in_err-token.ensures.none token t.after_token t.token_is)

pub returns-in_err-get_counted-clause-none : goal.returns-in_err-get_counted-clause-none
returns-in_err-get_counted-clause-none c = at_none c.from_residual-in_err-get_counted.result (λ token t.
    c.in_err-get_counted.ensures.none t.body t.rest
    (counted_at t.after_token c.in_ok-token.rest.now t.body t.rest (after_counted c.args.bytes.now token t.after_token c.in_ok-token.token.now c.in_ok-token.rest.now t.token_is c.in_ok-token.ensures.found) t.body_is))
