use Rattle.std.proofs.Common.{◌≡◌, List, ℕ, length}
use Rattle.qh_quinn_end.proofs.Segments.{GoesOn}
use Rattle.qh_quinn_end.specs.Receiving.{AreBrought, inbox}
use Rattle.qh_quinn_end.proofs.recv.RecvState.handle_message.Given as goal

-- those that were cut off were handed to the endpoint
abbrev pub invariant-loop-now : goal.invariant-loop-now
invariant-loop-now g l = record {
  brought : (done : List (List ℕ)) × GoesOn l.meta.stride l.fn.message l.left done
      × AreBrought (record { cid_len = g.K.G.ConnectionIdGenerator.cid_len; validates = g.K.G.ConnectionIdGenerator.validates; given = g.K.G.ConnectionIdGenerator.given; drawn = g.K.R.Words.given; limits = g.K.T.TokenLog.limits; stands = g.K.T.TokenLog.stands; key = g.K.S.Session.key; sealed = g.K.S.Session.sealed })
      (g.X.AsyncUdpSocket.never_blocks l.fn.socket) l.is_closed l.now (record { remote = l.meta.addr; local_ip = l.meta.dst_ip }) done l.fn.endpoint l.endpoint
      (record { departed = g.X.AsyncUdpSocket.departed l.fn.socket; faults = g.X.AsyncUdpSocket.faults l.fn.socket }) (record { departed = g.X.AsyncUdpSocket.departed l.socket; faults = g.X.AsyncUdpSocket.faults l.socket }) (inbox l.fn.self) (inbox l.self);
  arrived : g.X.AsyncUdpSocket.arrived l.socket ≡ g.X.AsyncUdpSocket.arrived l.fn.socket;
  ready : g.X.AsyncUdpSocket.never_blocks l.fn.socket → g.X.AsyncUdpSocket.never_blocks l.socket;
}

abbrev pub decreases-loop-now : goal.decreases-loop-now
decreases-loop-now g l = length l.left
