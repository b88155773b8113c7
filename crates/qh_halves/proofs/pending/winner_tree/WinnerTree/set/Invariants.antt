use Rattle.std.proofs.Common.{length, set, ◌-◌}
use Rattle.qh_halves.proofs.WinnerTrees.{IsRisen}
use Rattle.qh_halves.proofs.pending.winner_tree.WinnerTree.set.Given as goal

abbrev pub invariant-loop-node : goal.invariant-loop-node
invariant-loop-node l = IsRisen l.self-inside.nodes.items l.node (length l.initial.self-inside.nodes.items) (set l.fn.self l.place l.fn.stream)

abbrev pub decreases-loop-node : goal.decreases-loop-node
decreases-loop-node l = l.node - 1
