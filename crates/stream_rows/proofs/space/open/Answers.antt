use Rattle.qh_core.proofs.OpenCall.{open_go}
use Rattle.stream_rows.proofs.SpaceSteps.{called}
use Rattle.stream_rows.proofs.space.open.Goals as goal

pub returns : goal.returns
returns c =
    let go = open_go c.args.space.now.streams c.open.new.self c.args.dir c.open.result c.open.ensures.some c.open.ensures.none c.open.ensures.err c.open.ensures.keeps_out in
    called c.args.space.now c.open.new.self go c.requires
