-- Fault indices, and requests that are valid or not.
use Rattle.std.proofs.Common.{◌≡◌, inl, inr, ℕ, zero, suc, ◌<◌, ◌≤◌, List, [], ◌∷◌, length, Some, refl, ap, subst, arith}
use Rattle.std.specs.Prelude.{codes, slice_get}
use Rattle.std.proofs.lemmas.Bool.{cases_lt}
use Rattle.std.proofs.lemmas.Option.{slice_get_within}
use Rattle.qh_spec.specs.Fields.{message_fields}
use Rattle.qh_spec.specs.Message.{PlainMessage}
use Rattle.qh_spec.specs.MessageRows.{get_message, connect_message}
use Rattle.qh_spec.specs.Size.{section_size}
use Rattle.qh_spec.specs.Validity.{IsValidRequest, IsAtFault, IsFaultIndex, IsValidList}

pub fault_index_one : (k s b : ℕ) (rs : List PlainMessage) (i j : ℕ) → IsFaultIndex k s b rs i → IsFaultIndex k s b rs j → i ≡ j
fault_index_one k s b rs i j p q =
    elim (cases_lt i j) [
      | inl l ↦ absurd (q.least i l p.at_fault)
      | inr g ↦ elim (cases_lt j i) [ inl l ↦ absurd (p.least j l q.at_fault) | inr h ↦ omega (arith, g, h) ]
    ]

pub valid_no_fault : (k s b : ℕ) (rs : List PlainMessage) (i : ℕ) → IsValidList k s b rs → IsAtFault k s b rs i → ⊥
valid_no_fault k s b rs i v (l, inl e) = let few = v.few in omega (arith, few, l, e)
valid_no_fault k s b rs i v (l, inr p) = p.2 (v.each i p.0 p.1)

-- what has no fault is short enough, and no request of it is refused
pub no_fault_few : (k s b : ℕ) (rs : List PlainMessage) → ((i : ℕ) → IsAtFault k s b rs i → ⊥) → length rs ≤ k
no_fault_few k s b rs n = elim (cases_lt k (length rs)) [ inl l ↦ absurd (n k (l, inl refl)) | inr g ↦ g ]

pub no_fault_each : (k s b : ℕ) (rs : List PlainMessage) → ((i : ℕ) → IsAtFault k s b rs i → ⊥) → (i : ℕ) (m : PlainMessage) → slice_get rs i ≡ Some m
    → (IsValidRequest s b m → ⊥) → ⊥
no_fault_each k s b rs n i m e bad = n i (slice_get_within rs i m e, inr (m, e, bad))

pub get_size : section_size (message_fields get_message) ≡ 172
get_size = refl

pub get_valid : (s b : ℕ) → 172 ≤ s → IsValidRequest s b get_message
get_valid s b fits = record {
  head = (λ e. let l : ◌≡◌ {A = ℕ} 3 7 = ap length e in omega arith, record { scheme = inr refl; authority = codes "a.test"; authority_is = refl; no_user = refl; path = refl; no_fragment = refl }, tt);
  fields_fit = (omega arith, omega (arith, get_size, fits));
  trailers = tt;
  body_fits = omega arith;
}

pub get_too_long : (b : ℕ) → IsValidRequest 171 b get_message → ⊥
get_too_long b p = omega (arith, get_size, p.fields_fit.1)

pub connect_invalid : (s b : ℕ) → IsValidRequest s b connect_message → ⊥
connect_invalid s b p = p.head.0 refl

first_holds : (k s b : ℕ) (m : PlainMessage) → 0 < k → 172 ≤ s → (j : ℕ) → j < 1 → IsAtFault k s b (get_message ∷ m ∷ []) j → ⊥
first_holds k s b m some fits zero l (h, inl e) = omega (arith, some, e)
first_holds k s b m some fits zero l (h, inr p) =
    let same : get_message ≡ p.0 = cc in
    p.2 (subst (IsValidRequest s b) same (get_valid s b fits))
first_holds k s b m some fits (suc j) l h = omega (arith, l)

pub connect_index : (s b : ℕ) → 172 ≤ s → IsFaultIndex 8 s b (get_message ∷ connect_message ∷ []) 1
connect_index s b fits = record {
  at_fault = (omega arith, inr (connect_message, refl, connect_invalid s b));
  least = first_holds 8 s b connect_message (omega arith) fits;
}

-- one more than may be asked
pub many_index : (s b : ℕ) → 172 ≤ s → IsFaultIndex 1 s b (get_message ∷ get_message ∷ []) 1
many_index s b fits = record { at_fault = (omega arith, inl refl); least = first_holds 1 s b get_message (omega arith) fits }

only : (s b : ℕ) → 172 ≤ s → (i : ℕ) (m : PlainMessage) → slice_get (get_message ∷ []) i ≡ Some m → IsValidRequest s b m
only s b fits zero m e = let same : get_message ≡ m = cc in subst (IsValidRequest s b) same (get_valid s b fits)
only s b fits (suc i) m e = absurd cc

pub one_valid : (s b : ℕ) → 172 ≤ s → IsValidList 1 s b (get_message ∷ [])
one_valid s b fits = record { few = omega arith; each = only s b fits }

pub two_invalid : (s b : ℕ) → IsValidList 1 s b (get_message ∷ get_message ∷ []) → ⊥
two_invalid s b v = let few = v.few in omega (arith, few)
