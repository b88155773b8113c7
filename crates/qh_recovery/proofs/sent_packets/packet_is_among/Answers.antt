use Rattle.qh_recovery.proofs.SentFrames.{parted}
use Rattle.qh_recovery.proofs.sent_packets.packet_is_among.Goals as goal

pub returns : goal.returns
returns g c = λ packets number packet was. parted packets number packet was
