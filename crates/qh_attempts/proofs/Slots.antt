-- The attempts after a change by one key, and the sum of their bytes.
use Rattle.std.proofs.Common.{◌≡◌, ◌≢◌, ◌⊎◌, ℕ, zero, suc, ◌+◌, ◌<◌, ◌≤◌, List, [], ◌∷◌, ◌++◌, get_or, length, Option, Some, None, refl, sym, ap, subst, ◌∙◌, arith, inl, inr}
use Rattle.std.specs.List.{sum_by}
use Rattle.std.specs.Option.{unwrap_or}
use Rattle.std.proofs.lemmas.Bool.{cases_eq}
use Rattle.std.proofs.lemmas.List.Sums.{sum_by-cons, sum_by_push}
use Rattle.qh_attempts.specs.Attempts.{PlainAttempt, PlainBuffers, AreAttempts, HasInstead, attempt_at, bytes_kept, bytes_of, slot_bytes, total_bytes}
use Rattle.qh_attempts.specs.declared.attempt.KeptDatagram.{KeptDatagram}

-- ---- sums over lists of places, which are empty past their end

module _ {T : Type 0} (f : Option T → ℕ) (none : f None ≡ 0) where
  same_sum : (old new : List (Option T)) → ((k : ℕ) → get_or new k None ≡ get_or old k None) → sum_by f new ≡ sum_by f old
  same_sum [] [] same = refl
  same_sum [] (y ∷ ys) same = omega (arith, sum_by-cons f y ys, ap f (same 0), none, same_sum [] ys (λ k. same (suc k)))
  same_sum (x ∷ xs) [] same = omega (arith, sum_by-cons f x xs, ap f (same 0), none, same_sum xs [] (λ k. same (suc k)))
  same_sum (x ∷ xs) (y ∷ ys) same = omega (arith, sum_by-cons f x xs, sum_by-cons f y ys, ap f (same 0), same_sum xs ys (λ k. same (suc k)))

  -- one place is changed
  pub sum_instead : (old new : List (Option T)) (key : ℕ) → ((other : ℕ) → other ≢ key → get_or new other None ≡ get_or old other None)
      → sum_by f new + f (get_or old key None) ≡ sum_by f old + f (get_or new key None)
  sum_instead [] [] key others = refl
  sum_instead [] (y ∷ ys) zero others =
      omega (arith, sum_by-cons f y ys, none, same_sum [] ys (λ k. others (suc k) (λ e. absurd (cc))))
  sum_instead [] (y ∷ ys) (suc key) others =
      omega (arith, sum_by-cons f y ys, ap f (others 0 (λ e. absurd (cc))), none, sum_instead [] ys key (λ k apart. others (suc k) (λ e. apart (omega (arith, e)))))
  sum_instead (x ∷ xs) [] zero others =
      omega (arith, sum_by-cons f x xs, none, same_sum xs [] (λ k. others (suc k) (λ e. absurd (cc))))
  sum_instead (x ∷ xs) [] (suc key) others =
      omega (arith, sum_by-cons f x xs, ap f (others 0 (λ e. absurd (cc))), none, sum_instead xs [] key (λ k apart. others (suc k) (λ e. apart (omega (arith, e)))))
  sum_instead (x ∷ xs) (y ∷ ys) zero others =
      omega (arith, sum_by-cons f x xs, sum_by-cons f y ys, same_sum xs ys (λ k. others (suc k) (λ e. absurd (cc))))
  sum_instead (x ∷ xs) (y ∷ ys) (suc key) others =
      omega (arith, sum_by-cons f x xs, sum_by-cons f y ys, ap f (others 0 (λ e. absurd (cc))), sum_instead xs ys key (λ k apart. others (suc k) (λ e. apart (omega (arith, e)))))

module _ {C : Type 0} (old new : PlainBuffers C) (key : ℕ) (slot : Option (PlainAttempt C)) (put : HasInstead old new key slot) where
  pub total_instead : total_bytes new + slot_bytes (attempt_at old key) ≡ total_bytes old + slot_bytes slot
  total_instead =
      sum_instead slot_bytes refl old.slots new.slots key put.others
      ∙ ap (λ (o : Option (PlainAttempt C)). total_bytes old + slot_bytes o) put.there

  -- one that waits now is the one that was put there, or waited before by another key
  pub found : (other : ℕ) (o : PlainAttempt C) → attempt_at new other ≡ Some o → ((other ≡ key) × (slot ≡ Some o)) ⊎ ((other ≢ key) × (attempt_at old other ≡ Some o))
  found other o e = elim (cases_eq other key) [
    | inl same ↦ inl (same, sym put.there ∙ ap (attempt_at new) (sym same) ∙ e)
    | inr apart ↦ inr (apart, sym (put.others other apart) ∙ e)
  ]

pub same_attempt : {C : Type 0} (a o : PlainAttempt C) → ◌≡◌ {A = Option (PlainAttempt C)} (Some a) (Some o) → a ≡ o
same_attempt a o e = ap (λ (slot : Option _). unwrap_or slot a) e

-- ---- what holds at any time holds after the change

module _ {C : Type 0} (old new : PlainBuffers C) (key : ℕ) (ok : AreAttempts old) where
  -- an attempt leaves
  pub attempts_left : HasInstead old new key None → new.numbered ≡ old.numbered → AreAttempts new
  attempts_left put same = record {
    given = λ other o e. elim (found old new key None put other o e) [
      | inl here ↦ absurd (let no = here.1 in cc)
      | inr there ↦ let below = ok.given other o there.1 in omega (arith, below, same)
    ];
    apart = λ other third o p e h same. elim (found old new key None put other o e) [
      | inl here ↦ absurd (let no = here.1 in cc)
      | inr there ↦ elim (found old new key None put third p h) [
        | inl here ↦ absurd (let no = here.1 in cc)
        | inr too ↦ ok.apart other third o p there.1 too.1 same
      ]
    ];
    within = λ other o e. elim (found old new key None put other o e) [
      | inl here ↦ absurd (let no = here.1 in cc)
      | inr there ↦ ok.within other o there.1
    ];
  }

  -- an attempt comes, or one that waits is given more
  module _ (a : PlainAttempt C) (put : HasInstead old new key (Some a)) (more : old.numbered ≤ new.numbered) (given : a.number < new.numbered)
      (own : (other : ℕ) (o : PlainAttempt C) → attempt_at old other ≡ Some o → o.number ≡ a.number → other ≡ key) (within : bytes_kept a ≤ a.limits.incoming_buffer_size) where
    pub attempts_put : AreAttempts new
    attempts_put = record {
      given = λ other o e. elim (found old new key (Some a) put other o e) [
        | inl here ↦ let same : a.number ≡ o.number = ap (λ (p : PlainAttempt C). p.number) (same_attempt a o here.1) in omega (arith, given, same)
        | inr there ↦ let below = ok.given other o there.1 in omega (arith, below, more)
      ];
      apart = λ other third o p e h same. elim (found old new key (Some a) put other o e) [
        | inl here ↦
            let is : a.number ≡ o.number = ap (λ (q : PlainAttempt C). q.number) (same_attempt a o here.1) in
            elim (found old new key (Some a) put third p h) [
              | inl too ↦ here.0 ∙ sym too.0
              | inr there ↦ here.0 ∙ sym (own third p there.1 (sym same ∙ sym is))
            ]
        | inr there ↦ elim (found old new key (Some a) put third p h) [
          | inl here ↦
              let is : a.number ≡ p.number = ap (λ (q : PlainAttempt C). q.number) (same_attempt a p here.1) in
              own other o there.1 (same ∙ sym is) ∙ sym here.0
          | inr too ↦ ok.apart other third o p there.1 too.1 same
        ]
      ];
      within = λ other o e. elim (found old new key (Some a) put other o e) [
        | inl here ↦ let P : PlainAttempt C → Type 0 = λ p. bytes_kept p ≤ p.limits.incoming_buffer_size in subst P (same_attempt a o here.1) within
        | inr there ↦ ok.within other o there.1
      ];
    }

-- with the next number
pub attempts_come : {C : Type 0} (old new : PlainBuffers C) (key : ℕ) → AreAttempts old → (a : PlainAttempt C) → HasInstead old new key (Some a)
    → a.number ≡ old.numbered → new.numbered ≡ old.numbered + 1 → bytes_kept a ≡ 0 → AreAttempts new
attempts_come old new key ok a put number more none =
    attempts_put old new key ok a put (omega (arith, more)) (omega (arith, number, more))
    (λ other o e same. absurd (let below = ok.given other o e in omega (arith, below, same, number))) (omega (arith, none))

-- that waits is given more
pub attempts_kept : {C : Type 0} (old new : PlainBuffers C) (key : ℕ) → AreAttempts old → (was a : PlainAttempt C) → attempt_at old key ≡ Some was → HasInstead old new key (Some a)
    → a.number ≡ was.number → new.numbered ≡ old.numbered → bytes_kept a ≤ a.limits.incoming_buffer_size → AreAttempts new
attempts_kept old new key ok was a there put number same_count within =
    attempts_put old new key ok a put (omega (arith, same_count)) (let below = ok.given key was there in omega (arith, below, number, same_count))
    (λ other o e same. ok.apart other key o was e there (same ∙ number)) within

pub total_come : {C : Type 0} (old new : PlainBuffers C) (key : ℕ) (a : PlainAttempt C) → HasInstead old new key (Some a) → attempt_at old key ≡ None → bytes_kept a ≡ 0
    → total_bytes new ≡ total_bytes old
total_come old new key a put free empty = omega (arith, total_instead old new key (Some a) put, ap slot_bytes free, empty)

pub total_kept : {C : Type 0} (old new : PlainBuffers C) (key : ℕ) (was a : PlainAttempt C) → HasInstead old new key (Some a) → attempt_at old key ≡ Some was → (size : ℕ)
    → bytes_kept a ≡ bytes_kept was + size → total_bytes new ≡ total_bytes old + size
total_kept old new key was a put there size more = omega (arith, total_instead old new key (Some a) put, ap slot_bytes there, more)

-- one datagram more
pub bytes_push : {C : Type 0} (was a : PlainAttempt C) (d : KeptDatagram) → a.datagrams ≡ was.datagrams ++ d ∷ [] → bytes_kept a ≡ bytes_kept was + length d.payload
bytes_push was a d e = ap bytes_of e ∙ sum_by_push (λ (k : KeptDatagram). length k.payload) was.datagrams d
