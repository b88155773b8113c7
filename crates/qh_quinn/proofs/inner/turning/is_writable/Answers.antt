use Rattle.std.proofs.Common.{false, Some, refl}
use Rattle.qh_quinn.proofs.Counting.{counted_poller, counted_then}
use Rattle.qh_runtime.specs.Socket.{is_failure}
use Rattle.qh_quinn.proofs.inner.turning.is_writable.Goals as goal

pub returns-in-Ready-Ok-clause-counted : goal.returns-in-Ready-Ok-clause-counted
returns-in-Ready-Ok-clause-counted g c =
    let faults = g.X.Poller.UdpPoller.faults in
    let n0 = g.X.AsyncUdpSocket.faults c.args.socket.now in
    let n1 = g.X.AsyncUdpSocket.faults c.make_poller.new.socket in
    let m1 = c.make_poller.new.part.made in
    let p1 = c.make_poller.new.part.poller in
    counted_then faults false n0 n1 n1 c.args.part.now.made m1 m1 c.args.part.now.poller p1 (Some c.poll_writable.new.self) c.make_poller.ensures.counted
    (rw c.in-Some.is (counted_poller faults false n1 n1 m1 c.in-Some.poller c.poll_writable.new.self refl (rw c.in-Ready-Ok.field-0-is at c.in-Ready-Ok.ensures.cause)))

pub returns-in-Ready-Err-clause-counted : goal.returns-in-Ready-Err-clause-counted
returns-in-Ready-Err-clause-counted g c =
    let faults = g.X.Poller.UdpPoller.faults in
    let n0 = g.X.AsyncUdpSocket.faults c.args.socket.now in
    let n1 = g.X.AsyncUdpSocket.faults c.make_poller.new.socket in
    let m1 = c.make_poller.new.part.made in
    let p1 = c.make_poller.new.part.poller in
    counted_then faults (is_failure c.in-Ready-Err.fault) n0 n1 n1 c.args.part.now.made m1 m1 c.args.part.now.poller p1 (Some c.poll_writable.new.self) c.make_poller.ensures.counted
    (rw c.in-Some.is (counted_poller faults (is_failure c.in-Ready-Err.fault) n1 n1 m1 c.in-Some.poller c.poll_writable.new.self refl (rw c.in-Ready-Err.field-0-is at c.in-Ready-Err.ensures.cause)))

pub returns-in-Pending-clause-counted : goal.returns-in-Pending-clause-counted
returns-in-Pending-clause-counted g c =
    let faults = g.X.Poller.UdpPoller.faults in
    let n0 = g.X.AsyncUdpSocket.faults c.args.socket.now in
    let n1 = g.X.AsyncUdpSocket.faults c.make_poller.new.socket in
    let m1 = c.make_poller.new.part.made in
    let p1 = c.make_poller.new.part.poller in
    counted_then faults false n0 n1 n1 c.args.part.now.made m1 m1 c.args.part.now.poller p1 (Some c.poll_writable.new.self) c.make_poller.ensures.counted
    (rw c.in-Some.is (counted_poller faults false n1 n1 m1 c.in-Some.poller c.poll_writable.new.self refl c.in-Pending.ensures.cause))
