use Rattle.qh_core.proofs.WriterCalls.{reset_call}
use Rattle.stream_rows.proofs.SpaceSteps.{called}
use Rattle.stream_rows.proofs.space.reset.Goals as goal

pub returns : goal.returns
returns c =
    let call = reset_call c.args.space.now.streams c.reset.new.self c.args.id.0 c.args.code c.reset.result c.reset.ensures.ok c.reset.ensures.fault c.reset.ensures.keeps_out in
    called c.args.space.now c.reset.new.self call.go c.requires
