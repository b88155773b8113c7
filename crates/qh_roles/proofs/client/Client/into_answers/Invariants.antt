use Rattle.std.proofs.Common.{◌≡◌, ◌++◌, length}
use Rattle.std.specs.Vec.Iter.{into_iter_items, into_iter_len}
use Rattle.qh_roles.specs.ClientSteps.{present}
use Rattle.qh_roles.proofs.client.Client.into_answers.Given as goal

-- the answers among the first places were taken
abbrev pub invariant-loop-answer : goal.invariant-loop-answer
invariant-loop-answer l =
    (l.yielded ++ into_iter_items l.answer-iterator ≡ into_iter_items l.initial.answer-iterator)
    × (l.all.items ≡ present l.yielded)
    × (into_iter_len l.answer-iterator ≡ length (into_iter_items l.answer-iterator))
