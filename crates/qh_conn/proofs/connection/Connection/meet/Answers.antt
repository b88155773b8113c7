use Rattle.std.proofs.Common.{sym, ◌∙◌}
use Rattle.qh_conn.proofs.InClosed.{none_when}
use Rattle.qh_conn.proofs.InFed.{read_known}
use Rattle.qh_conn.proofs.LogKept.{stands_still}
use Rattle.std.proofs.lemmas.Result.{on_err_weaker}
use Rattle.qh_conn.proofs.connection.Connection.meet.Goals as goal

pub returns-then-was_greeted-clause-hears : goal.returns-then-was_greeted-clause-hears
returns-then-was_greeted-clause-hears g c = λ accepts sealed hello d before t r was. (read_known accepts sealed hello before t d c.args.self.now (sym was ∙ c.if-was_greeted.true) r, tt)

pub returns-clause-hears : goal.returns-clause-hears
returns-clause-hears g c = λ accepts sealed hello d before t r was. c.greet.ensures.hears accepts sealed hello d before t r (none_when before.peer (sym was ∙ c.if-was_greeted.false))

pub returns-then-was_greeted-clause-same : goal.returns-then-was_greeted-clause-same
returns-then-was_greeted-clause-same g c = λ before was p. p

pub returns-clause-same : goal.returns-clause-same
returns-clause-same g c = λ before was p. c.greet.ensures.same before (none_when before.handshake.peer (sym was ∙ c.if-was_greeted.false)) p

pub returns-then-was_greeted-clause-log : goal.returns-then-was_greeted-clause-log
returns-then-was_greeted-clause-log g c = stands_still c.args.self.now

pub returns-clause-cut : goal.returns-clause-cut
returns-clause-cut g c = on_err_weaker c.greet.result (λ cut. (c.if-was_greeted.false, cut)) c.greet.ensures.cut
