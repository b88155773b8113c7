use Rattle.std.proofs.Common.{sym, ◌∙◌}
use Rattle.std.proofs.lemmas.Result.{on_err_weaker}
use Rattle.qh_conn.proofs.OnStreams.{carried, whole_after}
use Rattle.qh_conn.proofs.connection.Connection.stop.Goals as goal

pub returns-clause-carries : goal.returns-clause-carries
returns-clause-carries g c =
    let e = c.stop.ensures in
    carried c.sends.ensures.called c.args.self.now c.stop.new.self _ (sym c.is_greeted.ensures ∙ c.if-not-is_greeted.false)
    (c.made.ensures.stop c.args.id.0 c.args.code c.stop.result c.args.self.now.core c.stop.new.self e.ok (on_err_weaker c.stop.result (λ h. h.1) e.fault) e.follows)

pub returns-clause-whole : goal.returns-clause-whole
returns-clause-whole g c =
    let e = c.stop.ensures in
    whole_after c.args.self.now c.stop.new.self _ c.requires
    (c.made.ensures.stop c.args.id.0 c.args.code c.stop.result c.args.self.now.core c.stop.new.self e.ok (on_err_weaker c.stop.result (λ h. h.1) e.fault) e.follows)
