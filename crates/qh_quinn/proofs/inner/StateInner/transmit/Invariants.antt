use Rattle.std.proofs.Common.{◌≡◌, ◌≤◌, false, List, Ok, length}
use Rattle.futures.specs.Task.{Keeps}
use Rattle.qh_conn.specs.Whole.{IsWhole}
use Rattle.qh_handles.specs.Turns.{AreReady, AreSent}
use Rattle.qh_quinn.specs.Turning.{AreMade, IsCounted, IsSending, IsShown}
use Rattle.qh_runtime.specs.declared.runtime.OutMessage.{OutMessage}
use Rattle.qh_shown.specs.Connections.{is_wanting}
use Rattle.qh_quinn.proofs.inner.StateInner.transmit.Given as goal

abbrev pub invariant-loop : goal.invariant-loop
invariant-loop g l = record {
  sending : (out : List OutMessage) × (sending : IsSending g.S.Session.accepts g.S.Session.sealed (Ok tt) l.fn.self l.self out) × AreSent out (g.X.AsyncUdpSocket.departed l.fn.socket) (g.X.AsyncUdpSocket.departed l.socket) × (length out ≤ l.counter)
      × (AreReady g.X.AsyncUdpSocket.never_blocks g.X.Poller.UdpPoller.never_blocks l.fn.socket l.fn.part.poller → length out ≡ l.counter) × AreMade g.S.Session.sealed l.fn.now sending.made l.fn.self.connection l.self.connection;
  arrived : g.X.AsyncUdpSocket.arrived l.socket ≡ g.X.AsyncUdpSocket.arrived l.fn.socket;
  counted : IsCounted g.X.Poller.UdpPoller.faults false (g.X.AsyncUdpSocket.faults l.fn.socket) (g.X.AsyncUdpSocket.faults l.socket) l.fn.part.made l.part.made l.fn.part.poller l.part.poller;
  ready : AreReady g.X.AsyncUdpSocket.never_blocks g.X.Poller.UdpPoller.never_blocks l.fn.socket l.fn.part.poller → AreReady g.X.AsyncUdpSocket.never_blocks g.X.Poller.UdpPoller.never_blocks l.socket l.part.poller;
  whole : IsWhole l.self.connection;
  shown : IsShown l.self.connection;
  calm : is_wanting l.self.connection ≡ false;
  held : l.part.is_held ≡ l.fn.part.is_held;
  going : l.part.keeps_going ≡ l.fn.part.keeps_going;
  kept : Keeps l.fn.cx l.cx;
}
