use Rattle.std.proofs.Common.{◌≡◌, true}
use Rattle.qh_conn.specs.Same.{IsSameControl}
use Rattle.qh_conn.proofs.InFrames.{AreReadUpTo}
use Rattle.qh_conn.proofs.LogKept.{GoesOn}
use Rattle.qh_conn.specs.Whole.{IsSound}
use Rattle.qh_conn.proofs.connection.Connection.take_frames.Given as goal

abbrev pub invariant-loop-left : goal.invariant-loop-left
invariant-loop-left g l = IsSound l.self × (l.self ≡ record l.fn.self { control = l.self.control }) × AreReadUpTo l.now l.accepted.frames.now l.rest l.left l.accepted.taken l.fn.self.control l.self.control × IsSameControl true l.fn.self.control l.self.control
    × GoesOn l.fn.self l.self

abbrev pub decreases-loop-left : goal.decreases-loop-left
decreases-loop-left g l = l.left
