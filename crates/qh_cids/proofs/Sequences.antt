-- The sequences that were issued.
use Rattle.std.proofs.Common.{ℕ, zero, suc, ◌+◌, ◌<◌, ◌≤◌, ◌^◌, List, [], ◌∷◌, ◌++◌, All, subst, append_assoc, append-nil, add-zero, arith}
use Rattle.std.specs.List.Sorted.{IsStrictlyIncreasing}
use Rattle.std.proofs.lemmas.Grind.{common_steps}
use Rattle.std.proofs.lemmas.List.Elements.{All-push, All-weaker}
use Rattle.qh_cids.specs.CidState.{PlainState, IsState, sequences_from}

pub IsStrictlyIncreasing-push : (xs : List ℕ) (y : ℕ) → IsStrictlyIncreasing xs → All (λ x. x < y) xs → IsStrictlyIncreasing (xs ++ y ∷ [])
IsStrictlyIncreasing-push xs y rising below k within = grind (arith, common_steps, rising k, below k 0)

-- with the next ones behind them, sequences still rise, and were all issued
record Goes (xs : List ℕ) (first : ℕ) : Type 0 where
  rising : IsStrictlyIncreasing xs
  below : All (λ x. x < first) xs

Goes-issued : (xs : List ℕ) (first n : ℕ) → Goes xs first → Goes (xs ++ sequences_from first n) (first + n)
Goes-issued xs first zero goes = rw (append-nil, add-zero) goes
Goes-issued xs first (suc n) goes =
    let before = Goes-issued xs first n goes in
    let more : Goes ((xs ++ sequences_from first n) ++ (first + n) ∷ []) (first + suc n) = record {
      rising = IsStrictlyIncreasing-push _ _ before.rising before.below;
      below = All-push (λ x. x < first + suc n) _ (first + n) (All-weaker (λ x. x < first + n) (λ x. x < first + suc n) (λ x h. omega arith) _ before.below) (omega arith);
    } in
    subst (λ xs. Goes xs (first + suc n)) (append_assoc xs _ _) more

pub IsState-issued : (s : PlainState) (n : ℕ) → IsState s → s.issued + n ≤ 2 ^ 62
    → IsState (record s { issued = s.issued + n; active = s.active ++ sequences_from s.issued n })
IsState-issued s n sound fits =
    let goes = Goes-issued s.active s.issued n (record { rising = sound.rising; below = sound.were_issued }) in
    record { rising = goes.rising; were_issued = goes.below; fitting = fits }
