use Rattle.qh_h3wire.proofs.Heads.{readable_of}
use Rattle.qh_h3wire.proofs.headers.field.fault_of_line.Goals as goal

pub returns-in-Ok : goal.returns-in-Ok
returns-in-Ok c = readable_of c.args.line.now c.in-Ok.field c.in-Ok.ensures.ok
