use Rattle.qh_recovery.proofs.SentLists.{none_means, none_out}
use Rattle.qh_recovery.proofs.sent_packets.SentPackets.first.Goals as goal

pub returns : goal.returns
returns g c = none_means _ c.next_from.result (none_out c.args.self.now) c.next_from.ensures
