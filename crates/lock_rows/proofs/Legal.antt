-- One more call.
use Rattle.std.proofs.Common.{◌≡◌, ℕ, ◌+◌, ◌&&◌, eq-eqb, Bool, true, false, true≢false, List, [], ◌∷◌, ◌++◌, refl, sym}
use Rattle.lock_rows.specs.declared.added.Added.{Added}
use Rattle.lock_rows.specs.Replays.{sum_of, is_legal}

both_true : (a b : Bool) → (a && b) ≡ true → (a ≡ true) × (b ≡ true)
both_true true b e = (refl, e)
both_true false b e = absurd (true≢false (sym e))

true_both : (a b : Bool) → a ≡ true → b ≡ true → (a && b) ≡ true
true_both true b p q = q
true_both false b p q = p

pub sum_of-push : (n : ℕ) (xs : List Added) (e : Added) → sum_of n (xs ++ e ∷ []) ≡ sum_of n xs + e.number
sum_of-push n [] e = refl
sum_of-push n (x ∷ xs) e = sum_of-push (n + x.number) xs e

pub is_legal-push : (n : ℕ) (xs : List Added) (e : Added) → is_legal n xs ≡ true → e.reply ≡ sum_of n xs → is_legal n (xs ++ e ∷ []) ≡ true
is_legal-push n [] e h is = true_both _ _ (eq-eqb e.reply n is) refl
is_legal-push n (x ∷ xs) e h is = let b = both_true _ _ h in true_both _ _ b.0 (is_legal-push (n + x.number) xs e b.1 is)
