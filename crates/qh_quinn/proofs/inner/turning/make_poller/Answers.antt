use Rattle.std.proofs.Common.{◌≤◌, arith}
use Rattle.qh_quinn.proofs.Counting.{counted_anew, counted_none, risen_by}
use Rattle.qh_quinn.proofs.inner.turning.make_poller.Goals as goal

pub returns-in_ok-create_io_poller-clause-counted : goal.returns-in_ok-create_io_poller-clause-counted
returns-in_ok-create_io_poller-clause-counted g c =
    let made = c.args.part.now.made in
    let after = c.saturating_add-part.result in
    let grows : made ≤ after = omega arith in
    counted_anew g.X.Poller.UdpPoller.faults (g.X.AsyncUdpSocket.faults c.args.socket.now) (g.X.AsyncUdpSocket.faults c.create_io_poller.new.self) made after c.args.part.now.poller c.in_ok-create_io_poller.field-0
    c.create_io_poller.ensures.faults grows (risen_by made after c.saturating_add-part.ensures) c.in_ok-create_io_poller.ensures.fresh

pub returns-else-is_none-clause-counted : goal.returns-else-is_none-clause-counted
returns-else-is_none-clause-counted g c = counted_none g.X.Poller.UdpPoller.faults (g.X.AsyncUdpSocket.faults c.args.socket.now) c.args.part.now.made c.args.part.now.poller
