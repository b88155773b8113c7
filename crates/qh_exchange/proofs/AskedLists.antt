-- Lists of requests that may be asked, and those that may not.
use Rattle.std.proofs.Common.{◌≡◌, ◌≢◌, ◌⊎◌, inl, inr, ℕ, zero, suc, ◌==◌, true, false, List, [], length, Some, Err, refl, ap, subst, arith}
use Rattle.std.specs.Prelude.{slice_get}
use Rattle.std.proofs.lemmas.Bool.{cases_eq, eq-eqb, ne_eqb}
use Rattle.qh_base.specs.declared.connection_error.ConnectionError.{ConnectionError}
use Rattle.qh_spec.specs.Message.{PlainMessage}
use Rattle.qh_spec.specs.Validity.{IsValidList}
use Rattle.qh_pair.specs.declared.error.ExchangeError.{ExchangeError}
use Rattle.qh_pair.specs.declared.error.ExchangeError.TheVariants as error
use Rattle.qh_pair.specs.Errors.{IfInvalid, IfMemory, IfOutOfRounds, IfProtocol, IfTimedOut}
use Rattle.qh_pair.proofs.Asked.{nothing_of}
use Rattle.qh_exchange.specs.Exchange.{IsInvalidAnswer, IsListError}
use Rattle.qh_pair.specs.Turn.{is_link}

-- what a test for no elements says
pub is_nothing : {X : Type 0} (xs : List X) → true ≡ (length xs == 0) → xs ≡ []
is_nothing xs e =
    elim (cases_eq (length xs) 0) [
      | inl z ↦ nothing_of xs z
      | inr n ↦ let t : length xs == 0 ≡ false = ne_eqb (length xs) 0 n in let f : ⊥ = cc in absurd f
    ]

pub is_something : {X : Type 0} (xs : List X) → false ≡ (length xs == 0) → xs ≢ []
is_something xs e z =
    let k : length xs ≡ 0 = ap length z in
    let t : length xs == 0 ≡ true = eq-eqb (length xs) 0 k in
    cc

pub no_such : (index : ℕ) (answer : PlainMessage) → slice_get [] index ≡ Some answer → ⊥
no_such zero answer e = cc
no_such (suc index) answer e = cc

-- ---- a list that may not be asked

pub invalid_still : {X Y : Type 0} (T U : Type 0) (e : ExchangeError) (P : ℕ → Type 0) (x : X) (y : Y) → IfInvalid {T = T} (Err e) P
    → IfInvalid {T = U} (Err e) (λ index. P index × (x ≡ x) × (y ≡ y))
invalid_still T U error.Link P x y h = tt
invalid_still T U error.Memory P x y h = tt
invalid_still T U error.TimedOut P x y h = tt
invalid_still T U error.OutOfRounds P x y h = tt
invalid_still T U (error.Invalid index) P x y h = (h, refl, refl)
invalid_still T U (error.Protocol z) P x y h = tt

undecided : (Valid Undecided : Type 0) → (Valid → ⊥) → Valid ⊎ Undecided → Undecided
undecided Valid Undecided bad (inl is_valid) = absurd (bad is_valid)
undecided Valid Undecided bad (inr is_undecided) = is_undecided

pub is_invalid : (T U : Type 0) (e : ExchangeError) (Valid Undecided : Type 0) → IsListError e → IfMemory {T = T} (Err e) (Valid ⊎ Undecided) → (Valid → ⊥)
    → IsInvalidAnswer {T = U} (Err e) Undecided
is_invalid T U error.Link Valid Undecided h m bad = h
is_invalid T U error.Memory Valid Undecided h m bad = undecided Valid Undecided bad m
is_invalid T U error.TimedOut Valid Undecided h m bad = h
is_invalid T U error.OutOfRounds Valid Undecided h m bad = h
is_invalid T U (error.Invalid index) Valid Undecided h m bad = tt
is_invalid T U (error.Protocol x) Valid Undecided h m bad = h

pub list_not_out : (U : Type 0) (e : ExchangeError) (P : Type 0) → IsListError e → IfOutOfRounds {T = U} (Err e) P
list_not_out U error.Link P h = tt
list_not_out U error.Memory P h = tt
list_not_out U error.TimedOut P h = tt
list_not_out U error.OutOfRounds P h = absurd h
list_not_out U (error.Invalid index) P h = tt
list_not_out U (error.Protocol x) P h = tt

pub list_not_idle : (U : Type 0) (e : ExchangeError) (P : Type 0) → IsListError e → IfTimedOut {T = U} (Err e) P
list_not_idle U error.Link P h = tt
list_not_idle U error.Memory P h = tt
list_not_idle U error.TimedOut P h = absurd h
list_not_idle U error.OutOfRounds P h = tt
list_not_idle U (error.Invalid index) P h = tt
list_not_idle U (error.Protocol x) P h = tt

pub list_not_lost : (U : Type 0) (e : ExchangeError) (P : ConnectionError → Type 0) → IsListError e → IfProtocol {T = U} (Err e) P
list_not_lost U error.Link P h = tt
list_not_lost U error.Memory P h = tt
list_not_lost U error.TimedOut P h = tt
list_not_lost U error.OutOfRounds P h = tt
list_not_lost U (error.Invalid index) P h = tt
list_not_lost U (error.Protocol x) P h = absurd h

pub list_no_link : (e : ExchangeError) → IsListError e → is_link e ≡ false
list_no_link error.Link h = absurd h
list_no_link error.Memory h = refl
list_no_link error.TimedOut h = refl
list_no_link error.OutOfRounds h = refl
list_no_link (error.Invalid index) h = refl
list_no_link (error.Protocol x) h = refl

-- no request is a valid list
pub nothing_valid : (most section body : ℕ) (requests : List PlainMessage) → requests ≡ [] → IsValidList most section body requests
nothing_valid most section body requests none = record {
  few = let l : length requests ≡ 0 = ap length none in omega (arith, l);
  each = λ i m at. absurd (no_such i m (subst (λ (z : List PlainMessage). slice_get z i ≡ Some m) none at));
}
