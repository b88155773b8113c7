use Rattle.std.proofs.Common.{sym, ◌∙◌}
use Rattle.qh_conn.proofs.OnStreams.{carried, read_behind, whole_after}
use Rattle.qh_conn.proofs.connection.Connection.read.Goals as goal

pub returns-clause-carries : goal.returns-clause-carries
returns-clause-carries g c =
    let e = c.read.ensures in
    carried c.sends.ensures.called c.args.self.now c.read.new.self _ (sym c.is_greeted.ensures ∙ c.if-not-is_greeted.false)
    (c.made.ensures.read c.args.id.0 c.args.max_length c.args.ordered c.read.result c.args.self.now.core c.read.new.self e.ok e.fault e.rest e.follows)

pub returns-clause-whole : goal.returns-clause-whole
returns-clause-whole g c =
    let e = c.read.ensures in
    whole_after c.args.self.now c.read.new.self _ c.requires
    (c.made.ensures.read c.args.id.0 c.args.max_length c.args.ordered c.read.result c.args.self.now.core c.read.new.self e.ok e.fault e.rest e.follows)

pub returns-clause-in_order : goal.returns-clause-in_order
returns-clause-in_order g c =
    read_behind c.args.self.now c.args.id.0 c.args.ordered c.read.result c.read.ensures.in_order
