-- A log of tokens: what a filter refuses, and that no token counts twice while it lives.
use Rattle.std.proofs.Common.{◌≡◌, inl, inr, ℕ, zero, suc, ◌+◌, ◌-◌, ◌*◌, ◌<◌, ◌≤◌, ◌==◌, true, false, List, [], ◌∷◌, refl, sym, ◌∙◌, subst, arith, eq-eqb, ne_eqb, lt-ltb}
use Rattle.std.specs.Prelude.{flat_map}
use Rattle.std.specs.List.{list_all}
use Rattle.std.proofs.lemmas.Bool.{cases_Bool, cases_lt, false≢true, or_right, eqb-true, le-ltb}
use Rattle.std.proofs.Math.Nat.{div-mul-le_self, lt-div-mul-add, div-eq_of_lt, div-eq_of_lt-le}
use Rattle.qh_spec.specs.Lists.{In}
use Rattle.qh_spec.specs.TokenFilter.{TokenLimits, TokenFilter, positions, is_among, refuses, with_fingerprint}
use Rattle.qh_spec.specs.TokenLog.{Token, TokenLog, expiry, fingerprint, is_stale, periods, moved, is_in_second, accepts, turned, with_token, checked, IsLater, now, looked, wanting}
use Rattle.qh_spec.proofs.Members.{in_left, in_right}

-- ---- filters

among : (xs : List ℕ) (x : ℕ) → In x xs → is_among xs x ≡ true
among [] x i = absurd i
among (y ∷ ys) x (inl e) = rw (eq-eqb y x e) refl
among (y ∷ ys) x (inr i) = or_right (y == x) (is_among ys x) (among ys x i)

of_among : (xs : List ℕ) (x : ℕ) → is_among xs x ≡ true → In x xs
of_among [] x e = absurd (false≢true e)
of_among (y ∷ ys) x e =
    elim (cases_Bool (y == x)) [ inl t ↦ inl (eqb-true y x t) | inr f ↦ inr (of_among ys x (rw f at e)) ]

in_flat_map : (f : ℕ → List ℕ) (xs : List ℕ) (x y : ℕ) → In x xs → In y (f x) → In y (flat_map f xs)
in_flat_map f [] x y i j = absurd i
in_flat_map f (z ∷ xs) x y (inl e) j = in_left y (f z) (flat_map f xs) (subst (λ (w : ℕ). In y (f w)) (sym e) j)
in_flat_map f (z ∷ xs) x y (inr i) j = in_right y (f z) (flat_map f xs) (in_flat_map f xs x y i j)

all_among : (zs ys : List ℕ) → ((y : ℕ) → In y ys → In y zs) → list_all (is_among zs) ys ≡ true
all_among zs [] h = refl
all_among zs (y ∷ ys) h = rw (among zs y (h y (inl refl))) (all_among zs ys (λ w i. h w (inr i)))

pub refuses_taken : (limits : TokenLimits) (filter : TokenFilter) (x : ℕ) → In x filter.accepted → refuses limits filter x ≡ true
refuses_taken limits filter x i =
    elim (cases_Bool filter.is_bits) [
      | inl t ↦
          rw t (all_among (flat_map (positions limits) filter.accepted) (positions limits x)
          (λ y j. in_flat_map (positions limits) filter.accepted x y i j))
      | inr f ↦ rw f (among filter.accepted x i)
    ]

pub set_refuses : (limits : TokenLimits) (filter : TokenFilter) (x : ℕ) → filter.is_bits ≡ false → refuses limits filter x ≡ true → In x filter.accepted
set_refuses limits filter x f e = of_among filter.accepted x (rw f at e)

-- ---- what a log knows of a token that it took

-- Of an expiry and a fingerprint, while tokens live as long: it is before the first period, or the filter of its period
-- took the fingerprint.
data Knows (lifetime e x : ℕ) (l : TokenLog) : Type 0 where
  past : e < l.start → Knows lifetime e x l
  early : l.start ≤ e → e < l.start + lifetime → In x l.first.accepted → Knows lifetime e x l
  late : l.start + lifetime ≤ e → e < l.start + 2 * lifetime → In x l.second.accepted → Knows lifetime e x l

-- where an expiry stands among the periods of a log
data Place (start e lifetime : ℕ) : ℕ → Type 0 where
  first : start ≤ e → e < start + lifetime → Place start e lifetime 0
  second : start + lifetime ≤ e → e < start + 2 * lifetime → Place start e lifetime 1
  third : start + 2 * lifetime ≤ e → e < start + 3 * lifetime → Place start e lifetime 2
  beyond : (p : ℕ) → 2 < p → start + 3 * lifetime ≤ e → Place start e lifetime p

place_of : (start e lifetime p : ℕ) → start ≤ e → p * lifetime ≤ e - start → e - start < p * lifetime + lifetime → Place start e lifetime p
place_of start e lifetime zero h low high = first (omega arith) (omega arith)
place_of start e lifetime (suc zero) h low high = second (omega arith) (omega arith)
place_of start e lifetime (suc (suc zero)) h low high = third (omega arith) (omega arith)
place_of start e lifetime (suc (suc (suc n))) h low high = beyond (suc (suc (suc n))) (omega arith) (omega arith)

place : (l : TokenLog) (t : Token) → 0 < t.lifetime → l.start ≤ expiry t → Place l.start (expiry t) t.lifetime (periods l t)
place l t some h =
    place_of l.start (expiry t) t.lifetime (periods l t) h (div-mul-le_self (expiry t - l.start) t.lifetime)
    (lt-div-mul-add {a = expiry t - l.start} {b = t.lifetime} some)

-- the log with moved periods knows as much
knows_moved : (l : TokenLog) (t : Token) (e x p : ℕ) → Place l.start (expiry t) t.lifetime p → periods l t ≡ p → Knows t.lifetime e x l
    → Knows t.lifetime e x (moved l t)
knows_moved l t e x _ (first a b) q k = rw q k
knows_moved l t e x _ (second a b) q k = rw q k
knows_moved l t e x _ (third a b) q (past h) = rw q (past (omega arith))
knows_moved l t e x _ (third a b) q (early h g i) = rw q (past (omega arith))
knows_moved l t e x _ (third a b) q (late h g i) = rw q (early h (omega arith) i)
knows_moved l t e x _ (beyond p n a) q (past h) = rw (q, le-ltb p 2 (omega arith), ne_eqb p 2 (omega arith)) (past (omega arith))
knows_moved l t e x _ (beyond p n a) q (early h g i) = rw (q, le-ltb p 2 (omega arith), ne_eqb p 2 (omega arith)) (past (omega arith))
knows_moved l t e x _ (beyond p n a) q (late h g i) = rw (q, le-ltb p 2 (omega arith), ne_eqb p 2 (omega arith)) (past (omega arith))

-- and what it takes itself
knows_taken : (limits : TokenLimits) (l : TokenLog) (t : Token) (p : ℕ) → Place l.start (expiry t) t.lifetime p → periods l t ≡ p → 0 < t.lifetime
    → Knows t.lifetime (expiry t) (fingerprint t) (with_token limits l t)
knows_taken limits l t _ (first a b) q some = rw q (early a b (inl refl))
knows_taken limits l t _ (second a b) q some = rw q (late a b (inl refl))
knows_taken limits l t _ (third a b) q some = rw q (late (omega arith) (omega arith) (inl refl))
knows_taken limits l t _ (beyond p n a) q some =
    rw (q, le-ltb p 2 (omega arith), ne_eqb p 1 (omega arith), ne_eqb p 2 (omega arith)) (early (omega arith) (omega arith) (inl refl))

more_first : (limits : TokenLimits) (lifetime e x f : ℕ) (l : TokenLog) → Knows lifetime e x l
    → Knows lifetime e x (record l { first = with_fingerprint limits l.first f })
more_first limits lifetime e x f l (past h) = past h
more_first limits lifetime e x f l (early h g i) = early h g (inr i)
more_first limits lifetime e x f l (late h g i) = late h g i

more_second : (limits : TokenLimits) (lifetime e x f : ℕ) (l : TokenLog) → Knows lifetime e x l
    → Knows lifetime e x (record l { second = with_fingerprint limits l.second f })
more_second limits lifetime e x f l (past h) = past h
more_second limits lifetime e x f l (early h g i) = early h g i
more_second limits lifetime e x f l (late h g i) = late h g (inr i)

knows_with : (limits : TokenLimits) (lifetime e x : ℕ) (l : TokenLog) (t : Token) → Knows lifetime e x (moved l t)
    → Knows lifetime e x (with_token limits l t)
knows_with limits lifetime e x l t k =
    elim (cases_Bool (is_in_second l t)) [
      | inl i ↦ rw i (more_second limits lifetime e x (fingerprint t) (moved l t) k)
      | inr i ↦ rw i (more_first limits lifetime e x (fingerprint t) (moved l t) k)
    ]

-- ---- tokens that live, and have not expired

not_stale : (l : TokenLog) (t : Token) → 0 < t.lifetime → l.start ≤ expiry t → is_stale l t ≡ false
not_stale l t some h = rw (ne_eqb t.lifetime 0 (omega arith)) (le-ltb (expiry t) l.start h)

accepted_lives : (limits : TokenLimits) (l : TokenLog) (t : Token) → accepts limits l t ≡ true → is_stale l t ≡ false
accepted_lives limits l t a = elim (cases_Bool (is_stale l t)) [ inl s ↦ absurd (false≢true (rw s at a)) | inr s ↦ s ]

lives : (l : TokenLog) (t : Token) → is_stale l t ≡ false → 0 < t.lifetime
lives l t s = elim (cases_lt 0 t.lifetime) [ inl h ↦ h | inr h ↦ absurd (false≢true (sym s ∙ rw (eq-eqb t.lifetime 0 (omega arith)) refl)) ]

comes : (l : TokenLog) (t : Token) → is_stale l t ≡ false → l.start ≤ expiry t
comes l t s =
    elim (cases_lt (expiry t) l.start) [
      | inl h ↦ absurd (false≢true (sym s ∙ rw (ne_eqb t.lifetime 0 (let some = lives l t s in omega arith), lt-ltb (expiry t) l.start h) refl))
      | inr h ↦ h
    ]

-- ---- later logs

knows_turned : (l : TokenLog) (t : Token) (e x : ℕ) → Knows t.lifetime e x l → Knows t.lifetime e x (turned l t)
knows_turned l t e x k =
    elim (cases_Bool (is_stale l t)) [
      | inl s ↦ rw s k
      | inr s ↦ rw s (knows_moved l t e x (periods l t) (place l t (lives l t s) (comes l t s)) refl k)
    ]

knows_checked : (limits : TokenLimits) (l : TokenLog) (t : Token) (e x : ℕ) → Knows t.lifetime e x l → Knows t.lifetime e x (checked limits l t)
knows_checked limits l t e x k =
    elim (cases_Bool (accepts limits l t)) [
      | inl a ↦
          let s = accepted_lives limits l t a in
          rw a (knows_with limits t.lifetime e x l t (knows_moved l t e x (periods l t) (place l t (lives l t s) (comes l t s)) refl k))
      | inr a ↦ rw a (knows_turned l t e x k)
    ]

knows_later : (limits : TokenLimits) (lifetime e x : ℕ) (l m : TokenLog) → IsLater limits lifetime l m → Knows lifetime e x l → Knows lifetime e x m
knows_later limits lifetime e x l _ now k = k
knows_later limits lifetime e x l _ (looked m t later as_long) k =
    subst (λ (n : ℕ). Knows n e x (checked limits m t)) as_long
    (knows_checked limits m t e x (subst (λ (n : ℕ). Knows n e x m) (sym as_long) (knows_later limits lifetime e x l m later k)))
knows_later limits lifetime e x l _ (wanting m t later as_long) k =
    subst (λ (n : ℕ). Knows n e x (turned m t)) as_long
    (knows_turned m t e x (subst (λ (n : ℕ). Knows n e x m) (sym as_long) (knows_later limits lifetime e x l m later k)))

-- ---- no token counts twice

at_first : (l : TokenLog) (t : Token) → 0 < t.lifetime → l.start ≤ expiry t → expiry t < l.start + t.lifetime → periods l t ≡ 0
at_first l t some h g = div-eq_of_lt {n = expiry t - l.start} {m = t.lifetime} (omega arith)

at_second : (l : TokenLog) (t : Token) → 0 < t.lifetime → l.start + t.lifetime ≤ expiry t → expiry t < l.start + 2 * t.lifetime → periods l t ≡ 1
at_second l t some h g = div-eq_of_lt-le {k = 1} t.lifetime {m = expiry t - l.start} (omega arith) (omega arith)

known_refused : (limits : TokenLimits) (l : TokenLog) (t : Token) → 0 < t.lifetime → Knows t.lifetime (expiry t) (fingerprint t) l → accepts limits l t ≡ false
known_refused limits l t some (past h) = rw (ne_eqb t.lifetime 0 (omega arith), lt-ltb (expiry t) l.start h) refl
known_refused limits l t some (early h g i) =
    rw (not_stale l t some h, at_first l t some h g, refuses_taken limits l.first (fingerprint t) i) refl
known_refused limits l t some (late h g i) =
    rw (not_stale l t some (omega arith), at_second l t some h g, refuses_taken limits l.second (fingerprint t) i) refl

pub no_token_twice : (limits : TokenLimits) (l m : TokenLog) (t u : Token) → accepts limits l t ≡ true → IsLater limits t.lifetime (checked limits l t) m
    → fingerprint u ≡ fingerprint t → u.issued ≡ t.issued → u.lifetime ≡ t.lifetime → accepts limits m u ≡ false
no_token_twice limits l m t u a later f i n =
    let s = accepted_lives limits l t a in
    let some = lives l t s in
    let start : Knows t.lifetime (expiry t) (fingerprint t) (checked limits l t) =
    rw a (knows_taken limits l t (periods l t) (place l t some (comes l t s)) refl some) in
    let known = knows_later limits t.lifetime (expiry t) (fingerprint t) (checked limits l t) m later start in
    let same : expiry t ≡ expiry u = omega arith in
    let own : Knows t.lifetime (expiry u) (fingerprint u) m =
    subst (λ (e : ℕ). Knows t.lifetime e (fingerprint u) m) same (subst (λ (x : ℕ). Knows t.lifetime (expiry t) x m) (sym f) known) in
    known_refused limits m u (omega arith) (subst (λ (k : ℕ). Knows k (expiry u) (fingerprint u) m) (sym n) own)
