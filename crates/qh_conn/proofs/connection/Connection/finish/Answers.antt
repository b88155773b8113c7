use Rattle.std.proofs.Common.{sym, ◌∙◌}
use Rattle.std.proofs.lemmas.Result.{IfErr-weaker}
use Rattle.qh_conn.proofs.OnStreams.{carried, whole_after}
use Rattle.qh_conn.proofs.connection.Connection.finish.Goals as goal

pub returns-clause-carries : goal.returns-clause-carries
returns-clause-carries g c =
    let e = c.finish.ensures in
    carried c.sends.ensures.called c.args.self.now c.finish.new.self _ (sym c.is_greeted.ensures ∙ c.if-not-is_greeted.false)
    (c.made.ensures.finish c.args.id.0 c.finish.result c.args.self.now.core c.finish.new.self e.ok (IfErr-weaker c.finish.result _ _ (λ _ h. h.1) e.fault) e.follows)

pub returns-clause-whole : goal.returns-clause-whole
returns-clause-whole g c =
    let e = c.finish.ensures in
    whole_after c.args.self.now c.finish.new.self _ c.requires
    (c.made.ensures.finish c.args.id.0 c.finish.result c.args.self.now.core c.finish.new.self e.ok (IfErr-weaker c.finish.result _ _ (λ _ h. h.1) e.fault) e.follows)
