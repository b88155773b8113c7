-- The names of attempts, and which of them are pending later.
use Rattle.std.proofs.Common.{◌≡◌, ◌≢◌, ◌↔◌, ℕ, ◌≤◌, Option, Some, None, IsSomeAnd, refl, sym, ap, subst, ◌∙◌, arith, inl, inr}
use Rattle.std.proofs.lemmas.Bool.{cases_eq}
use Rattle.qh_attempts.specs.Attempts.{PlainAttempt, PlainBuffers, AreAttempts, HasInstead, IsLater, IsName, IsPending, Waits, attempt_at}
use Rattle.qh_attempts.specs.declared.incoming_buffers.AttemptKey.{AttemptKey}
use Rattle.qh_attempts.proofs.Slots.{found, same_attempt}

module _ {C : Type 0} where
  -- the attempt that is pending
  pub pending_in : (slot : Option (PlainAttempt C)) (number : ℕ) → IsSomeAnd slot (λ a. a.number ≡ number) → (a : PlainAttempt C) × (slot ≡ Some a) × (a.number ≡ number)
  pending_in None number p = absurd p
  pending_in (Some a) number p = (a, refl, p)

  pub pending_by : (b : PlainBuffers C) (k : AttemptKey) (a : PlainAttempt C) → attempt_at b k.key ≡ Some a → a.number ≡ k.number → IsPending b k
  pending_by b k a e same = let P : Option (PlainAttempt C) → Type 0 = λ slot. IsSomeAnd slot (λ p. p.number ≡ k.number) in subst P (sym e) same

  module _ (old new : PlainBuffers C) (key : ℕ) where
    pub later_left : HasInstead old new key None → new.numbered ≡ old.numbered → IsLater old new
    later_left put same = record {
      numbered = omega (arith, same);
      waited = λ k below p.
          let at = pending_in (attempt_at new k.key) k.number p in
          elim (found old new key None put k.key at.0 at.1) [
            | inl here ↦ absurd (let no = here.1 in cc)
            | inr there ↦ pending_by old k at.0 there.1 at.2
          ];
    }

    -- an attempt comes
    pub later_come : (a : PlainAttempt C) → HasInstead old new key (Some a) → a.number ≡ old.numbered → old.numbered ≤ new.numbered → IsLater old new
    later_come a put number more = record {
      numbered = more;
      waited = λ k below p.
          let at = pending_in (attempt_at new k.key) k.number p in
          elim (found old new key (Some a) put k.key at.0 at.1) [
            | inl here ↦ absurd (let same : a.number ≡ at.0.number = ap (λ (q : PlainAttempt C). q.number) (same_attempt a at.0 here.1) in let is = at.2 in omega (arith, same, is, number, below))
            | inr there ↦ pending_by old k at.0 there.1 at.2
          ];
    }

    -- one that waits is given more
    pub later_more : (was a : PlainAttempt C) → attempt_at old key ≡ Some was → was.number ≡ a.number → HasInstead old new key (Some a) → new.numbered ≡ old.numbered → IsLater old new
    later_more was a there_was number put same_count = record {
      numbered = omega (arith, same_count);
      waited = λ k below p.
          let at = pending_in (attempt_at new k.key) k.number p in
          elim (found old new key (Some a) put k.key at.0 at.1) [
            | inl here ↦
                let same : a.number ≡ at.0.number = ap (λ (q : PlainAttempt C). q.number) (same_attempt a at.0 here.1) in
                pending_by old k was (ap (attempt_at old) here.0 ∙ there_was) (number ∙ same ∙ at.2)
            | inr there ↦ pending_by old k at.0 there.1 at.2
          ];
    }

  pub later_same : (b : PlainBuffers C) → IsLater b b
  later_same b = record { numbered = omega arith; waited = λ k below p. p }

  pub later_than : (old between new : PlainBuffers C) → IsLater old between → IsLater between new → IsLater old new
  later_than old between new p q =
      let first = p.numbered in
      record {
        numbered = let second = q.numbered in omega (arith, first, second);
        waited = λ k below r. p.waited k below (q.waited k (omega (arith, below, first)) r);
      }

  -- ---- what stays pending

  pub others_pending : (old new : PlainBuffers C) (key : ℕ) (slot : Option (PlainAttempt C)) (k : AttemptKey) → HasInstead old new key slot → k.key ≢ key → IsPending new k ↔ IsPending old k
  others_pending old new key slot k put apart =
      let P : Option (PlainAttempt C) → Type 0 = λ s. IsSomeAnd s (λ p. p.number ≡ k.number) in
      (subst P (put.others k.key apart), subst P (sym (put.others k.key apart)))

  pub same_pending : (old new : PlainBuffers C) (key : ℕ) (was now : PlainAttempt C) (k : AttemptKey) → attempt_at old key ≡ Some was → HasInstead old new key (Some now) → now.number ≡ was.number
      → IsPending new k ↔ IsPending old k
  same_pending old new key was now k there put number = elim (cases_eq k.key key) [
    | inl same ↦ (
      (λ p. let at = pending_in (attempt_at new k.key) k.number p in
          let is : now.number ≡ at.0.number = ap (λ (q : PlainAttempt C). q.number) (same_attempt now at.0 (sym put.there ∙ ap (attempt_at new) (sym same) ∙ at.1)) in
          pending_by old k was (ap (attempt_at old) same ∙ there) (sym number ∙ is ∙ at.2)),
      (λ p. let at = pending_in (attempt_at old k.key) k.number p in
          let is : was.number ≡ at.0.number = ap (λ (q : PlainAttempt C). q.number) (same_attempt was at.0 (sym there ∙ ap (attempt_at old) (sym same) ∙ at.1)) in
          pending_by new k now (ap (attempt_at new) same ∙ put.there) (number ∙ is ∙ at.2)),
    )
    | inr apart ↦ others_pending old new key (Some now) k put apart
  ]

  -- ---- names

  -- one that waits has its name
  pub name_of : (b : PlainBuffers C) (k : AttemptKey) (a : PlainAttempt C) → AreAttempts b → attempt_at b k.key ≡ Some a → a.number ≡ k.number → IsName b k
  name_of b k a ok e same =
      record {
        given = let below = ok.given k.key a e in omega (arith, below, same);
        by_key = λ key o there number. ok.apart key k.key o a there e (number ∙ sym same);
      }

  pub name_stays : (old new : PlainBuffers C) (k : AttemptKey) → IsLater old new → IsName old k → IsName new k
  name_stays old new k later name =
      let below = name.given in
      record {
        given = let more = later.numbered in omega (arith, below, more);
        by_key = λ key a there number.
            let other : AttemptKey = record { key = key; number = k.number } in
            let was = pending_in (attempt_at old key) k.number (later.waited other below (pending_by new other a there number)) in
            name.by_key key was.0 was.1 was.2;
      }

  pub name_pending : (b : PlainBuffers C) (k : AttemptKey) → IsName b k → IsPending b k ↔ Waits b k.number
  name_pending b k name = (
    (λ p. let at = pending_in (attempt_at b k.key) k.number p in (k.key, at.0, at.1, at.2)),
    (λ w. pending_by b k w.1 (ap (attempt_at b) (sym (name.by_key w.0 w.1 w.2 w.3)) ∙ w.2) w.3),
  )
