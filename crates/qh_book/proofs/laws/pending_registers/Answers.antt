use Rattle.qh_book.proofs.Pending.{pending_waits}
use Rattle.qh_book.proofs.Registering.{pending_registers}
use Rattle.qh_book.proofs.laws.pending_registers.Goals as goal

pub returns-clause-registers : goal.returns-clause-registers
returns-clause-registers g c = pending_registers _

pub returns-clause-waits : goal.returns-clause-waits
returns-clause-waits g c = pending_waits _
