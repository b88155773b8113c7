use Rattle.std.proofs.Common.{◌≡◌, ◌≤◌, ◌==◌, not, ℕ, ◌+◌, ◌-◌, length, drop}
use Rattle.std.specs.List.{prefix_len}
use Rattle.qh_exchange.proofs.script.word_len.Given as goal

abbrev pub invariant-loop-end : goal.invariant-loop-end
invariant-loop-end l = record {
  within : l.end ≤ length l.line;
  so_far : prefix_len (λ (b : ℕ). not (b == 32)) l.line ≡ l.end + prefix_len (λ (b : ℕ). not (b == 32)) (drop l.end l.line);
}

abbrev pub decreases-loop-end : goal.decreases-loop-end
decreases-loop-end l = length l.line - l.end
