use Rattle.std.proofs.Common.{◌≡◌, ℕ, List}
use Rattle.std.specs.Fn.{FnReturnsAt}
use Rattle.qh_generator.proofs.Tries.{AreTried}
use Rattle.qh_generator.proofs.fresh.fresh_id.Given as goal

abbrev pub invariant-loop : goal.invariant-loop
invariant-loop g l =
    goal.F-IsAlwaysCallable g l.is_issued
    × AreTried (FnReturnsAt g.F.Fn l.is_issued) (g.G.ConnectionIdGenerator.given l.initial.ids) (g.G.ConnectionIdGenerator.given l.ids) l.counter
    × (g.G.ConnectionIdGenerator.cid_len l.ids ≡ g.G.ConnectionIdGenerator.cid_len l.initial.ids)
    × ((id : List ℕ) → g.G.ConnectionIdGenerator.validates l.initial.ids id → g.G.ConnectionIdGenerator.validates l.ids id)
