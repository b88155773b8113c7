-- The first id from a source that isn't issued, of 64 at most.
use Rattle.std.specs.Prelude.{◌≡◌, ℕ, ◌<◌, Bool, true, false, List, [], ◌∷◌, ◌++◌, length, All}
use Rattle.qh_generator.specs.Given.{and_ids}

-- Fewer than 64 ids that are issued were given before this one, which isn't; no further one was.
pub record IsFresh (answers : List ℕ → Bool → Type 0) (old new : List (List ℕ)) (id : List ℕ) : Type 0 where
  pub issued : List (List ℕ)
  pub few : length issued < 64
  pub answered : All (λ other. answers other true) issued
  pub free : answers id false
  pub given : new ≡ and_ids old (issued ++ id ∷ [])

-- 64 ids were given, which are issued.
pub record AreIssued (answers : List ℕ → Bool → Type 0) (old new : List (List ℕ)) : Type 0 where
  pub issued : List (List ℕ)
  pub all : length issued ≡ 64
  pub answered : All (λ other. answers other true) issued
  pub given : new ≡ and_ids old issued
