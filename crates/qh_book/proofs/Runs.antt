-- Pieces of what can be read.
use Rattle.std.proofs.Common.{◌≡◌, ◌⊎◌, ℕ, zero, suc, ◌+◌, ◌-◌, ◌<◌, ◌≤◌, Bool, true, false, ◌||◌, List, [], ◌∷◌, length, Option, Some, None, is_some, slice_get, refl, sym, ap, ◌∙◌, arith, inl, inr, le_trans}
use Rattle.std.proofs.lemmas.Bool.{and_parts, cases_order, false≢true, leb-true, ltb-true, le-ltb, or_cases}
use Rattle.qh_book.specs.Interests.{has_unread_below}
use Rattle.qh_book.specs.Pages.{RecvPage, unread_at}
use Rattle.qh_book.specs.Receiving.{IsPiece}
use Rattle.qh_buffers.specs.Assembler.{byte_of, is_over}

abbrev pub run_step : Option ℕ → List ℕ → List ℕ
run_step None rest = []
run_step (Some b) rest = b ∷ rest

-- the values from k on without a gap, at most n
abbrev pub run : (ℕ → Option ℕ) → (k n : ℕ) → List ℕ
run f k zero = []
run f k (suc n) = run_step (f k) (run f (suc k) n)

few_step : (o : Option ℕ) (rest : List ℕ) (n : ℕ) → length rest ≤ n → length (run_step o rest) ≤ suc n
few_step None rest n h = omega arith
few_step (Some b) rest n h = omega (arith, h)

run_few : (f : ℕ → Option ℕ) (k n : ℕ) → length (run f k n) ≤ n
run_few f k zero = omega arith
run_few f k (suc n) = few_step (f k) (run f (suc k) n) n (run_few f (suc k) n)

longest_step : (f : ℕ → Option ℕ) (k n : ℕ) (o : Option ℕ) (rest : List ℕ) → f k ≡ o → (length rest ≡ n) ⊎ (f (suc k + length rest) ≡ None)
    → (length (run_step o rest) ≡ suc n) ⊎ (f (k + length (run_step o rest)) ≡ None)
longest_step f k n None rest is h = let e : k + 0 ≡ k = omega arith in inr (ap f e ∙ is)
longest_step f k n (Some b) rest is (inl e) = inl (ap suc e)
longest_step f k n (Some b) rest is (inr h) = let e : k + suc (length rest) ≡ suc k + length rest = omega arith in inr (ap f e ∙ h)

run_longest : (f : ℕ → Option ℕ) (k n : ℕ) → (length (run f k n) ≡ n) ⊎ (f (k + length (run f k n)) ≡ None)
run_longest f k zero = inl refl
run_longest f k (suc n) = longest_step f k n (f k) (run f (suc k) n) refl (run_longest f (suc k) n)

at_step : (f : ℕ → Option ℕ) (k : ℕ) (o : Option ℕ) (rest : List ℕ) → f k ≡ o → ((j : ℕ) → j < length rest → f (suc k + j) ≡ slice_get rest j)
    → (j : ℕ) → j < length (run_step o rest) → f (k + j) ≡ slice_get (run_step o rest) j
at_step f k None rest is h j below = absurd (omega (arith, below))
at_step f k (Some b) rest is h zero below = let e : k + 0 ≡ k = omega arith in ap f e ∙ is
at_step f k (Some b) rest is h (suc j) below = let e : k + suc j ≡ suc k + j = omega arith in ap f e ∙ h j (omega (arith, below))

run_at : (f : ℕ → Option ℕ) (k n : ℕ) → (j : ℕ) → j < length (run f k n) → f (k + j) ≡ slice_get (run f k n) j
run_at f k zero j below = absurd (omega (arith, below))
run_at f k (suc n) j below = at_step f k (f k) (run f (suc k) n) refl (run_at f (suc k) n) j below

some_step : (o : Option ℕ) (rest : List ℕ) → is_some o ≡ true → 0 < length (run_step o rest)
some_step None rest h = absurd (false≢true h)
some_step (Some b) rest h = omega arith

-- the run from an offset that can be read is a piece, in order if it begins at the next one and is as long as may be
pub run_is_piece : (p : RecvPage) (k n max_length : ℕ) (is_ordered : Bool) → is_some (unread_at p k) ≡ true → suc n ≤ max_length → (is_ordered ≡ true → (k ≡ p.next) × (suc n ≡ max_length))
    → IsPiece p max_length is_ordered (record { offset = k; bytes = run (unread_at p) k (suc n) })
run_is_piece p k n max_length is_ordered here few order = record {
  some = some_step (unread_at p k) (run (unread_at p) (suc k) n) here;
  few = le_trans (run_few (unread_at p) k (suc n)) few;
  unread = unread;
  next = λ ordered. (order ordered).0;
  longest = longest;
}
  where
    bytes : List ℕ
    bytes = run (unread_at p) k (suc n)

    at : (m : ℕ) → k ≤ m → m < k + length (run (unread_at p) k (suc n)) → unread_at p m ≡ slice_get (run (unread_at p) k (suc n)) (m - k)
    at m low high = let e : k + (m - k) ≡ m = omega (arith, low) in ap (unread_at p) (sym e) ∙ run_at (unread_at p) k (suc n) (m - k) (omega (arith, low, high))

    unread : (m : ℕ) → is_over (record { offset = k; bytes = run (unread_at p) k (suc n) }) m ≡ true → unread_at p m ≡ byte_of (record { offset = k; bytes = run (unread_at p) k (suc n) }) m
    unread m over = let h = and_parts _ _ over in rw (le-ltb m k (leb-true k m h.0)) (at m (leb-true k m h.0) (ltb-true m _ h.1))

    longest : is_ordered ≡ true → (length (run (unread_at p) k (suc n)) ≡ max_length) ⊎ (unread_at p (k + length (run (unread_at p) k (suc n))) ≡ None)
    longest ordered = elim (run_longest (unread_at p) k (suc n)) [ inl e ↦ inl (e ∙ (order ordered).1) | inr h ↦ inr h ]

-- ---- some byte can be read

pub some_unread : (p : RecvPage) (end : ℕ) → has_unread_below p end ≡ true → (k : ℕ) × (is_some (unread_at p k) ≡ true)
some_unread p zero h = absurd (false≢true h)
some_unread p (suc k) h = elim (or_cases _ _ h) [ inl here ↦ (k, here) | inr below ↦ some_unread p k below ]

pub unread_below : (p : RecvPage) (end k : ℕ) → k < end → is_some (unread_at p k) ≡ true → has_unread_below p end ≡ true
unread_below p zero k low h = absurd (omega (arith, low))
unread_below p (suc end) k low h = elim (cases_order k end) [
  | inl same ↦ rw (← same) (rw h refl)
  | inr (inl under) ↦ rw (unread_below p end k under h) (or_true (is_some (unread_at p end)))
  | inr (inr over) ↦ absurd (omega (arith, low, over))
]
  where
    or_true : (b : Bool) → (b || true) ≡ true
    or_true true = refl
    or_true false = refl
