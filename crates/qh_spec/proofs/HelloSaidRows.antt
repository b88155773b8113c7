-- What worked greetings say, and the idle timeouts in force between ends.
use Rattle.std.proofs.Common.{◌≡◌, ◌⊎◌, inl, inr, ℕ, zero, suc, ◌<◌, ◌≤◌, min, List, [], ◌∷◌, ◌++◌, length, Some, None, ◌==◌, false, refl, sym, ap, ◌∙◌, arith, ne_eqb}
use Rattle.std.specs.Prelude.{codes}
use Rattle.qh_spec.specs.Hello.{hello_of, SaysIdleTimeout, SaysIdLimit, SaysDatagramSize, SaysOriginalId, SaysRetryId, SaysResetToken, SaysServerName, idle_in_force}
use Rattle.qh_spec.specs.HelloRows.{full_greeting, plain_greeting, short_token}
use Rattle.qh_spec.proofs.HelloWritten.{says_idle, says_id_limit, says_datagram}
use Rattle.qh_spec.proofs.HelloWrittenRows.{full_sayable, plain_sayable}

-- ---- what is said

pub full_says : SaysOriginalId (hello_of full_greeting) (Some (208 ∷ 1 ∷ [])) × SaysRetryId (hello_of full_greeting) (Some (193 ∷ []))
    × SaysResetToken (hello_of full_greeting) (Some (short_token ++ 16 ∷ [])) × SaysServerName (hello_of full_greeting) []
full_says = (refl, refl, refl, refl)

pub plain_says : SaysOriginalId (hello_of plain_greeting) None × SaysRetryId (hello_of plain_greeting) None
    × SaysResetToken (hello_of plain_greeting) None × SaysServerName (hello_of plain_greeting) (codes "a.test")
plain_says = (refl, refl, refl, refl)

pub numbers_said : SaysIdleTimeout (hello_of full_greeting) 30000 × SaysIdLimit (hello_of full_greeting) 8 × SaysDatagramSize (hello_of full_greeting) (Some 1200)
    × SaysIdleTimeout (hello_of plain_greeting) 0 × SaysIdLimit (hello_of plain_greeting) 2 × SaysDatagramSize (hello_of plain_greeting) None
numbers_said = (
  says_idle full_greeting full_sayable,
  says_id_limit full_greeting full_sayable,
  says_datagram full_greeting full_sayable,
  says_idle plain_greeting plain_sayable,
  says_id_limit plain_greeting plain_sayable,
  says_datagram plain_greeting plain_sayable,
)

some_not_none : {X : Type 0} (x : X) → Some x ≡ None → ⊥
some_not_none x e = cc

none_not_some : {X : Type 0} (x : X) → None ≡ Some x → ⊥
none_not_some x e = cc

-- two values of unlike lengths
unlike : (xs ys : List ℕ) → length xs < length ys ⊎ length ys < length xs → Some xs ≡ Some ys → ⊥
unlike xs ys l e =
    let same : xs ≡ ys = cc in
    let lens = ap (λ (z : List ℕ). length z) same in
    elim l [ inl a ↦ omega (arith, a, lens) | inr b ↦ omega (arith, b, lens) ]

pub full_says_not : (SaysResetToken (hello_of full_greeting) None → ⊥) × (SaysResetToken (hello_of full_greeting) (Some short_token) → ⊥)
    × (SaysOriginalId (hello_of full_greeting) None → ⊥) × (SaysRetryId (hello_of full_greeting) (Some (208 ∷ 1 ∷ [])) → ⊥)
full_says_not = (
  λ e. some_not_none (short_token ++ 16 ∷ []) e,
  λ e. unlike (short_token ++ 16 ∷ []) short_token (inr (omega arith)) e,
  λ e. some_not_none (208 ∷ 1 ∷ []) e,
  λ e. unlike (193 ∷ []) (208 ∷ 1 ∷ []) (inl (omega arith)) e,
)

pub plain_says_not : (bytes : List ℕ) → (SaysResetToken (hello_of plain_greeting) (Some bytes) → ⊥) × (SaysOriginalId (hello_of plain_greeting) (Some bytes) → ⊥)
    × (SaysRetryId (hello_of plain_greeting) (Some bytes) → ⊥)
plain_says_not bytes = (λ e. none_not_some bytes e, λ e. none_not_some bytes e, λ e. none_not_some bytes e)

pub name_not : SaysServerName (hello_of plain_greeting) [] → ⊥
name_not e = let lens = ap (λ (z : List ℕ). length z) e in omega (arith, lens)

-- ---- the idle timeout in force

not_zero : (n : ℕ) → (suc n == 0) ≡ false
not_zero n = ne_eqb (suc n) 0 (λ e. omega (arith, e))

pub idle_own_alone : (own : ℕ) → 0 < own → idle_in_force own 0 ≡ Some own
idle_own_alone zero l = absurd (omega (arith, l))
idle_own_alone (suc m) l = rw (not_zero m) refl

pub idle_peer_alone : (peer : ℕ) → 0 < peer → idle_in_force 0 peer ≡ Some peer
idle_peer_alone zero l = absurd (omega (arith, l))
idle_peer_alone (suc n) l = rw (not_zero n) refl

pub idle_lesser : (own peer : ℕ) → 0 < own → 0 < peer → idle_in_force own peer ≡ Some (min own peer)
idle_lesser zero peer a b = absurd (omega (arith, a))
idle_lesser (suc m) zero a b = absurd (omega (arith, b))
idle_lesser (suc m) (suc n) a b = let s = not_zero m in let t = not_zero n in rw (s, t) refl

pub idle_same : (own peer : ℕ) → idle_in_force own peer ≡ idle_in_force peer own
idle_same zero zero = refl
idle_same zero (suc n) = let l : 0 < suc n = omega arith in idle_peer_alone (suc n) l ∙ sym (idle_own_alone (suc n) l)
idle_same (suc m) zero = let l : 0 < suc m = omega arith in idle_own_alone (suc m) l ∙ sym (idle_peer_alone (suc m) l)
idle_same (suc m) (suc n) =
    let a : 0 < suc m = omega arith in
    let b : 0 < suc n = omega arith in
    let same : min (suc m) (suc n) ≡ min (suc n) (suc m) = omega arith in
    idle_lesser (suc m) (suc n) a b ∙ ap (λ (k : ℕ). Some k) same ∙ sym (idle_lesser (suc n) (suc m) b a)

pub idle_none : (own peer : ℕ) → idle_in_force own peer ≡ None → (own ≡ 0) × (peer ≡ 0)
idle_none zero zero e = (refl, refl)
idle_none zero (suc n) e = absurd (some_not_none (suc n) (sym (idle_peer_alone (suc n) (omega arith)) ∙ e))
idle_none (suc m) zero e = absurd (some_not_none (suc m) (sym (idle_own_alone (suc m) (omega arith)) ∙ e))
idle_none (suc m) (suc n) e = absurd (some_not_none (min (suc m) (suc n)) (sym (idle_lesser (suc m) (suc n) (omega arith) (omega arith)) ∙ e))

some_same : (m n : ℕ) → Some m ≡ Some n → m ≡ n
some_same m n e = cc

pub idle_within : (own peer n : ℕ) → idle_in_force own peer ≡ Some n → (0 < n) × (0 < own → n ≤ own) × (0 < peer → n ≤ peer)
idle_within zero zero n e = absurd (none_not_some n e)
idle_within zero (suc b) n e =
    let same = some_same (suc b) n (sym (idle_peer_alone (suc b) (omega arith)) ∙ e) in
    (omega (arith, same), λ l. omega (arith, l), λ l. omega (arith, same))
idle_within (suc a) zero n e =
    let same = some_same (suc a) n (sym (idle_own_alone (suc a) (omega arith)) ∙ e) in
    (omega (arith, same), λ l. omega (arith, same), λ l. omega (arith, l))
idle_within (suc a) (suc b) n e =
    let same = some_same (min (suc a) (suc b)) n (sym (idle_lesser (suc a) (suc b) (omega arith) (omega arith)) ∙ e) in
    (omega (arith, same), λ l. omega (arith, same), λ l. omega (arith, same))

pub idle_not_greater : idle_in_force 30000 20000 ≡ Some 30000 → ⊥
idle_not_greater e = let same = some_same 20000 30000 e in omega (arith, same)

pub idle_not_zero : (idle_in_force 0 30000 ≡ Some 0 → ⊥) × (idle_in_force 30000 0 ≡ Some 0 → ⊥) × (idle_in_force 0 0 ≡ Some 0 → ⊥)
idle_not_zero = (
  λ e. let same = some_same 30000 0 e in omega (arith, same),
  λ e. let same = some_same 30000 0 e in omega (arith, same),
  λ e. none_not_some 0 e,
)

pub idle_not_none : (idle_in_force 0 30000 ≡ None → ⊥) × (idle_in_force 30000 0 ≡ None → ⊥)
idle_not_none = (λ e. some_not_none 30000 e, λ e. some_not_none 30000 e)
