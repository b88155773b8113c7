use Rattle.std.proofs.Common.{◌≤◌, ℕ, take}
use Rattle.std.specs.Prelude.{All}
use Rattle.qh_spec.specs.Link.{moments_of}
use Rattle.qh_rows.proofs.rough.latest.Given as goal

abbrev pub invariant-loop-event : goal.invariant-loop-event
invariant-loop-event l = All (λ (m : ℕ). m ≤ l.latest) (moments_of (take l.event-index l.events))
