use Rattle.std.proofs.Common.{sym, ◌∙◌}
use Rattle.std.proofs.lemmas.Result.{on_err_weaker}
use Rattle.qh_conn.proofs.OnStreams.{carried, whole_after}
use Rattle.qh_conn.proofs.connection.Connection.reset.Goals as goal

pub returns-clause-carries : goal.returns-clause-carries
returns-clause-carries g c =
    let e = c.reset.ensures in
    carried c.sends.ensures.called c.args.self.now c.reset.new.self _ (sym c.is_greeted.ensures ∙ c.if-not-is_greeted.false)
    (c.made.ensures.reset c.args.id.0 c.args.code c.reset.result c.args.self.now.core c.reset.new.self e.ok (on_err_weaker c.reset.result (λ h. h.1) e.fault) e.follows)

pub returns-clause-whole : goal.returns-clause-whole
returns-clause-whole g c =
    let e = c.reset.ensures in
    whole_after c.args.self.now c.reset.new.self _ c.requires
    (c.made.ensures.reset c.args.id.0 c.args.code c.reset.result c.args.self.now.core c.reset.new.self e.ok (on_err_weaker c.reset.result (λ h. h.1) e.fault) e.follows)
