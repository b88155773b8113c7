use Rattle.qh_core.proofs.WriterCalls.{finish_call}
use Rattle.stream_rows.proofs.SpaceSteps.{called}
use Rattle.stream_rows.proofs.space.finish.Goals as goal

pub returns : goal.returns
returns c =
    let call = finish_call c.args.space.now.streams c.finish.new.self c.args.id.0 c.finish.result c.finish.ensures.ok c.finish.ensures.fault c.finish.ensures.keeps_out in
    called c.args.space.now c.finish.new.self call.go c.requires
