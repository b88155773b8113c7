use Rattle.std.proofs.Common.{◌-◌}
use Rattle.qh_quinn_end.specs.Sets.{AreSame}
use Rattle.qh_quinn_end.proofs.connection_set.grow.Given as goal

abbrev pub invariant-loop-numbers : goal.invariant-loop-numbers
invariant-loop-numbers l = AreSame l.initial.numbers.items l.numbers.items

abbrev pub decreases-loop-numbers : goal.decreases-loop-numbers
decreases-loop-numbers l = l.len - l.numbers.len
