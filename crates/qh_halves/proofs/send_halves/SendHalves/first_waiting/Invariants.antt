use Rattle.std.proofs.Common.{◌≡◌}
use Rattle.qh_halves.specs.contracts.send_halves.SendHalves.{the_view}
use Rattle.qh_halves.specs.Pending.{waiting}
use Rattle.qh_halves.specs.SendHalves.{AreSendHalves}
use Rattle.qh_halves.proofs.send_halves.SendHalves.first_waiting.Given as goal

abbrev pub invariant-loop-first : goal.invariant-loop-first
invariant-loop-first l =
    let s = l.self-inside in
    record {
      same : the_view s ≡ l.fn.self;
      kept : AreSendHalves l.fn.self.halves s.pending s.max_data s.data_sent s.unacked_data;
    }

abbrev pub decreases-loop-first : goal.decreases-loop-first
decreases-loop-first l = waiting l.self-inside.pending
