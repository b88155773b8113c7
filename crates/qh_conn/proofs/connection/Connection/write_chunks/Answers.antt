use Rattle.std.proofs.Common.{sym, ◌∙◌}
use Rattle.qh_conn.proofs.OnStreams.{carried, whole_after}
use Rattle.qh_conn.proofs.connection.Connection.write_chunks.Goals as goal

pub returns-clause-carries : goal.returns-clause-carries
returns-clause-carries g c =
    let e = c.write_chunks.ensures in
    carried c.sends.ensures.called c.args.self.now c.write_chunks.new.self _ (sym c.is_greeted.ensures ∙ c.if-not-is_greeted.false)
    (c.made.ensures.write_chunks c.args.id.0 c.args.chunks.now c.write_chunks.result c.args.self.now.core c.write_chunks.new.self e.ok e.taken e.fault e.follows)

pub returns-clause-whole : goal.returns-clause-whole
returns-clause-whole g c =
    let e = c.write_chunks.ensures in
    whole_after c.args.self.now c.write_chunks.new.self _ c.requires
    (c.made.ensures.write_chunks c.args.id.0 c.args.chunks.now c.write_chunks.result c.args.self.now.core c.write_chunks.new.self e.ok e.taken e.fault e.follows)
