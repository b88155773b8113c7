-- Counts of the faults of what stands outside (own). A count never falls.
use Rattle.std.specs.Prelude.{ℕ, ◌-◌, ◌^◌, ◌<◌, ◌≤◌, ◌≡◌, ◌⊎◌, Bool, true, false}

-- the count rose, or stands at the greatest of its type, where it can't rise
abbrev pub Rose : ℕ → ℕ → Type 0
Rose before after = (before < after) ⊎ (after ≡ 2 ^ 64 - 1)

-- over a call the count doesn't fall; it rose where the call answered that it failed, and is the same where it didn't
pub record CountsFaults (before after : ℕ) (failed : Bool) : Type 0 where
  pub stays : before ≤ after
  pub cause : failed ≡ true → Rose before after
  pub still : failed ≡ false → after ≡ before
