use Rattle.qh_recovery.proofs.PacketNumbers.{meant_once}
use Rattle.qh_recovery.proofs.packet_number.one_number.Goals as goal

pub returns : goal.returns
returns c = meant_once
