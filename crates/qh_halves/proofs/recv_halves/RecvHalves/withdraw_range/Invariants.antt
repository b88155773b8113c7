use Rattle.std.proofs.Common.{◌≡◌, ℕ, None, nat_cmp, if◌then◌else◌}
use Rattle.std.specs.Map.{keys_of}
use Rattle.std.specs.List.Sorted.{IsStrictlySortedBy}
use Rattle.qh_halves.specs.Counts.{is_in_range}
use Rattle.qh_halves.specs.RecvHalves.{recv_at}
use Rattle.qh_halves.proofs.recv_halves.RecvHalves.withdraw_range.Given as goal

abbrev pub invariant-loop-i : goal.invariant-loop-i
invariant-loop-i l = record {
  halves : (k : ℕ) → recv_at l.self k ≡ (if is_in_range l.first l.i k then None else recv_at l.fn.self k);
  rest : l.self ≡ record l.fn.self { halves = l.self.halves };
  sorted : IsStrictlySortedBy nat_cmp (keys_of l.self.halves);
}
