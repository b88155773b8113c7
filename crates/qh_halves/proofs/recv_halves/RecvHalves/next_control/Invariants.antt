use Rattle.std.proofs.Common.{◌≡◌}
use Rattle.qh_halves.specs.Pending.{waiting}
use Rattle.qh_halves.specs.RecvHalves.{AreRecvHalves}
use Rattle.qh_halves.proofs.recv_halves.RecvHalves.next_control.Given as goal

abbrev pub invariant-loop-first : goal.invariant-loop-first
invariant-loop-first l =
    let s = l.self-inside in
    AreRecvHalves s.halves.entries s.due s.received s.stream_window s.announced
    × (l.fn.self ≡ record { halves = s.halves.entries; received = s.received; credited = s.credited; receive_window = s.receive_window; stream_window = s.stream_window; announced = s.announced })

abbrev pub decreases-loop-first : goal.decreases-loop-first
decreases-loop-first l = waiting l.self-inside.due
