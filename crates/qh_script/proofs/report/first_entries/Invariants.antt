use Rattle.std.proofs.Common.{◌≡◌, ◌≤◌, ℕ, option_copied, drop, length}
use Rattle.std.specs.BTreeMap.{get}
use Rattle.std.specs.Ordering.{nat_cmp}
use Rattle.qh_script.specs.Report.{entry_on}
use Rattle.qh_script.proofs.report.first_entries.Given as goal

-- the map has the first of each stream among the entries that were gone over
abbrev pub invariant-loop-left : goal.invariant-loop-left
invariant-loop-left l = record {
  within : l.left ≤ length l.entries;
  first : (stream : ℕ) → option_copied (get nat_cmp l.firsts stream) ≡ entry_on stream (drop l.left l.entries);
}

abbrev pub decreases-loop-left : goal.decreases-loop-left
decreases-loop-left l = l.left
