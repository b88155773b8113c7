-- The requests of a list, one after another, until one is at fault.
use Rattle.std.proofs.Common.{◌≡◌, ◌≢◌, inl, inr, ℕ, ◌+◌, ◌<◌, ◌≤◌, Result, Ok, Err, OnErr, List, length, get_or, Some, sym, ◌∙◌, subst, arith}
use Rattle.std.specs.Prelude.{slice_get}
use Rattle.std.proofs.lemmas.Bool.{cases_lt}
use Rattle.std.proofs.lemmas.Option.{slice_get_read, slice_get_within, same_Some}
use Rattle.qh_spec.specs.Message.{PlainMessage}
use Rattle.qh_spec.specs.Validity.{IsValidRequest, IsAtFault, IsFaultIndex, IsValidList}
use Rattle.qh_plain.specs.Undecided.{IsUndecided, IsUndecidedList}

-- the requests in front of an index aren't too many, and may be asked
pub record AreValidUpTo (k s b : ℕ) (rs : List PlainMessage) (i : ℕ) : Type 0 where
  pub few : i ≤ k
  pub each : (j : ℕ) (m : PlainMessage) → j < i → slice_get rs j ≡ Some m → IsValidRequest s b m

pub none_yet : (k s b : ℕ) (rs : List PlainMessage) → AreValidUpTo k s b rs 0
none_yet k s b rs = record { few = omega arith; each = λ j m h e. absurd (omega (arith, h)) }

no_earlier : (k s b : ℕ) (rs : List PlainMessage) (i : ℕ) → AreValidUpTo k s b rs i → (j : ℕ) → j < i → IsAtFault k s b rs j → ⊥
no_earlier k s b rs i v j h (l, inl e) = let few = v.few in omega (arith, few, h, e)
no_earlier k s b rs i v j h (l, inr p) = p.2 (v.each j p.0 h p.1)

pub one_too_many : (k s b : ℕ) (rs : List PlainMessage) (i : ℕ) → AreValidUpTo k s b rs i → i < length rs → i ≡ k → IsFaultIndex k s b rs i
one_too_many k s b rs i v l e = record { at_fault = (l, inl e); least = no_earlier k s b rs i v }

pub one_refused : (k s b : ℕ) (rs : List PlainMessage) (i : ℕ) (m : PlainMessage) → AreValidUpTo k s b rs i → i < length rs → m ≡ get_or rs i m
    → (IsValidRequest s b m → ⊥) → IsFaultIndex k s b rs i
one_refused k s b rs i m v l e bad = record { at_fault = (l, inr (m, slice_get_read rs (length rs) i m (omega arith) l e, bad)); least = no_earlier k s b rs i v }

pub one_more : (k s b : ℕ) (rs : List PlainMessage) (i : ℕ) (m : PlainMessage) → AreValidUpTo k s b rs i → i < length rs → i ≢ k → m ≡ get_or rs i m
    → IsValidRequest s b m → AreValidUpTo k s b rs (i + 1)
one_more k s b rs i m v l n e good = record {
  few = (let few = v.few in omega (arith, few, n));
  each = λ j o h f.
      elim (cases_lt j i) [
        | inl before ↦ v.each j o before f
        | inr at ↦
            let here : j ≡ i = omega (arith, at, h) in
            let read = slice_get_read rs (length rs) i m (omega arith) l e in
            let there : slice_get rs i ≡ Some o = subst (λ (z : ℕ). slice_get rs z ≡ Some o) here f in
            subst (IsValidRequest s b) (same_Some m o (sym read ∙ there)) good
      ];
}

pub all_valid : (k s b : ℕ) (rs : List PlainMessage) (i : ℕ) → AreValidUpTo k s b rs i → length rs ≤ i → IsValidList k s b rs
all_valid k s b rs i v l = record {
  few = (let few = v.few in omega (arith, few, l));
  each = λ j m e. v.each j m (let h = slice_get_within rs j m e in omega (arith, h, l)) e;
}

at_undecided : (k s b : ℕ) (rs : List PlainMessage) (i : ℕ) (m : PlainMessage) → AreValidUpTo k s b rs i → i < length rs → i ≢ k → m ≡ get_or rs i m
    → IsUndecided s b m → IsUndecidedList k s b rs
at_undecided k s b rs i m v l n e undecided = record {
  index = i;
  request = m;
  few = (let few = v.few in omega (arith, few, n));
  is = slice_get_read rs (length rs) i m (omega arith) l e;
  undecided = undecided;
  before = v.each;
}

-- the same of an answer, which an error is
pub one_undecided : {A E : Type 0} (r : Result A E) (k s b : ℕ) (rs : List PlainMessage) (i : ℕ) (m : PlainMessage) → AreValidUpTo k s b rs i → i < length rs → i ≢ k
    → m ≡ get_or rs i m → IsUndecided s b m → OnErr r (IsUndecidedList k s b rs)
one_undecided (Ok found) k s b rs i m v l n e undecided = tt
one_undecided (Err error) k s b rs i m v l n e undecided = at_undecided k s b rs i m v l n e undecided
