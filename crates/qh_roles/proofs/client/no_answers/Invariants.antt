use Rattle.std.proofs.Common.{◌≡◌, None, replicate}
use Rattle.qh_roles.proofs.client.no_answers.Given as goal

-- so many places were made
abbrev pub invariant-loop-place : goal.invariant-loop-place
invariant-loop-place l = l.all.items ≡ replicate l._place None
