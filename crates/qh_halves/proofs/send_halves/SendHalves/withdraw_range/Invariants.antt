use Rattle.std.proofs.Common.{◌≡◌, ◌≤◌, ℕ, length, None, nat_cmp, if◌then◌else◌}
use Rattle.std.specs.Map.{keys_of}
use Rattle.std.specs.List.Sorted.{IsStrictlySortedBy}
use Rattle.qh_halves.specs.Counts.{is_in_range}
use Rattle.qh_halves.specs.SendHalves.{send_at}
use Rattle.qh_halves.proofs.send_halves.SendHalves.withdraw_range.Given as goal

abbrev pub invariant-loop-i : goal.invariant-loop-i
invariant-loop-i l = record {
  halves : (k : ℕ) → send_at l.self k ≡ (if is_in_range l.first l.i k then None else send_at l.fn.self k);
  rest : l.self ≡ record l.fn.self { halves = l.self.halves };
  sorted : IsStrictlySortedBy nat_cmp (keys_of l.self.halves);
  len : length l.self.halves ≤ length l.fn.self.halves;
}
