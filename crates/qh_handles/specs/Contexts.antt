-- What a call that may wait leaves of the context that it may have to wait by.
use Rattle.std.proofs.Common.{inl, inr}
use Rattle.std.specs.Prelude.{◌⊎◌, Some, None}
use Rattle.std.proofs.Common.{Option}
use Rattle.std.specs.Borrow.{MutBor}
use Rattle.futures.specs.declared.task.context.Context.{Context}
use Rattle.futures.specs.Task.{IsArmed, Keeps}

-- what a borrow in an option is left as
abbrev pub Left : Type 0
Left = Unit {0} ⊎ ((MutBor Context × Unit {0}) ⊎ ⊥)

-- there is one
abbrev pub HasContext : Option (MutBor Context) → Type 0
HasContext (Some cx) = Unit {0}
HasContext None = ⊥

-- it is a context of the same poll still
abbrev pub ContextKept : Option (MutBor Context) → Left → Type 0
ContextKept (Some cx) (inr (inl left)) = Keeps cx.now left.0.now
ContextKept (Some cx) _ = ⊥
ContextKept None _ = Unit {0}

-- the task waits
abbrev pub ContextArmed : Option (MutBor Context) → Left → Type 0
ContextArmed (Some cx) (inr (inl left)) = IsArmed left.0.now
ContextArmed (Some cx) _ = ⊥
ContextArmed None _ = Unit {0}
