use Rattle.std.proofs.Common.{length, List, ℕ}
use Rattle.qh_spec.specs.Parted.{EndsWith}
use Rattle.qh_conn.proofs.incoming.behind_initials.Given as goal

abbrev pub invariant-loop-form : goal.invariant-loop-form
invariant-loop-form l = (tail : List ℕ) → EndsWith tail l.rest → EndsWith tail l.datagram

abbrev pub decreases-loop-form : goal.decreases-loop-form
decreases-loop-form l = length l.rest
