use Rattle.qh_core.proofs.WriterCalls.{write_call}
use Rattle.stream_rows.proofs.SpaceSteps.{called}
use Rattle.stream_rows.proofs.space.write.Goals as goal

pub returns : goal.returns
returns c =
    let call = write_call c.args.space.now.streams c.write.new.self c.args.id.0 c.args.payload.now c.write.result c.write.ensures.count c.write.ensures.ok c.write.ensures.taken c.write.ensures.fault c.write.ensures.keeps_out in
    called c.args.space.now c.write.new.self call.go c.requires
