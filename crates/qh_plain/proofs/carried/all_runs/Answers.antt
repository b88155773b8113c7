use Rattle.qh_plain.proofs.CarriedReads.{datagram_step}
use Rattle.qh_plain.proofs.carried.all_runs.Goals as goal

pub loop-datagram-preserved : goal.loop-datagram-preserved
loop-datagram-preserved c =
    rw c.in_ok-push_packets.ensures (
    datagram_step c.args.id_length c.args.sender c.args.datagrams.now c.loop-datagram.datagram-index c.datagram-item.result c.as_slice.result.now c.loop-datagram.runs.items c.in_ok-packets.packets.items
    c.deref.result.now c.loop-datagram-test.true c.datagram-item.is c.as_slice.ensures c.deref.ensures.value c.in_ok-packets.ensures.found c.in_ok-packets.ensures.all c.loop-datagram.invariant
    )
