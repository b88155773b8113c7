use Rattle.std.proofs.Common.{ap, sym, ◌∙◌, arith}
use Rattle.qh_conn.proofs.InReset.{reset_no, reset_yes}
use Rattle.qh_conn.proofs.connection.Connection.is_reset.Goals as goal

pub returns-in-Some-clause-yes : goal.returns-in-Some-clause-yes
returns-in-Some-clause-yes g c =
    reset_yes _ c.in-Some.token c.args.datagram.now c.ends_with.result (ap (λ x. x.reset_token) (sym c.active.ensures.value) ∙ c.in-Some.is) (omega (arith, c.if-datagram-ge-LEAST_RESET.true)) c.ends_with.ensures.value

pub returns-in-Some-clause-no : goal.returns-in-Some-clause-no
returns-in-Some-clause-no g c = reset_no _ c.in-Some.token c.args.datagram.now c.ends_with.result (ap (λ x. x.reset_token) (sym c.active.ensures.value) ∙ c.in-Some.is) c.ends_with.ensures.value
