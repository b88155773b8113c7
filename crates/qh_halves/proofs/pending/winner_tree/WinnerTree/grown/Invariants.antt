use Rattle.std.proofs.Common.{◌≡◌, ℕ, ◌<◌, ◌≤◌, length, None}
use Rattle.qh_halves.specs.Winners.{leaf}
use Rattle.qh_halves.proofs.pending.winner_tree.WinnerTree.grown.Given as goal

abbrev pub invariant-loop-place : goal.invariant-loop-place
invariant-loop-place l = record {
  len : length l.tree ≡ l.count;
  moved : (place : ℕ) → place < l.place → leaf l.tree place ≡ leaf l.self place;
  none : (place : ℕ) → l.place ≤ place → leaf l.tree place ≡ None;
}
