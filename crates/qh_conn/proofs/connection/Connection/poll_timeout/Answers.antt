use Rattle.std.proofs.Common.{◌≡◌, ◌⊎◌, ◌≤◌, Option, None, Some, true, false, ℕ, refl, sym, subst, ◌∙◌, inl, inr, arith}
use Rattle.std.specs.Prelude.{MatchOption}
use Rattle.qh_conn.proofs.OutKeys.{open_of}
use Rattle.qh_base.specs.declared.time.Moment.{Moment}
use Rattle.qh_conn.specs.Telling.{IsDueAt, IsFirstDue}
use Rattle.qh_conn.specs.declared.connection.Connection.{Connection}
use Rattle.qh_core.specs.Inner.{is_open}
use Rattle.qh_core.specs.Timers.{IsDueAt as IsCoreDueAt, IsFirstDue as IsCoreFirstDue}
use Rattle.qh_handshake.specs.Moments.{IsDueAt as IsHandshakeDueAt, IsFirstDue as IsHandshakeFirstDue}
use Rattle.qh_conn.proofs.connection.Connection.poll_timeout.Goals as goal

module _ {S : Type 0} where
  due_core : (c : Connection S) (m : ℕ) → is_open c.core.state ≡ false → IsDueAt c m → IsCoreDueAt c.core m
  due_core c m shut (IsDueAt.core d) = d
  due_core c m shut (IsDueAt.handshake up d) = let z : true ≡ false = sym up ∙ shut in cc

  shut_first : (c : Connection S) (r : Option Moment) → is_open c.core.state ≡ false → MatchOption r ((m : ℕ) → IsCoreDueAt c.core m → ⊥) (λ t. IsCoreFirstDue c.core t.0)
      → MatchOption r ((m : ℕ) → IsDueAt c m → ⊥) (λ t. IsFirstDue c t.0)
  shut_first c None shut h = λ m d. h m (due_core c m shut d)
  shut_first c (Some t) shut h = record { is = IsDueAt.core h.is; first = λ m d. h.first m (due_core c m shut d) }

  below_core : (c : Connection S) (t : ℕ) (r : Option Moment) (m : ℕ) → ((s : Moment) → r ≡ Some s → t ≤ s.0) → MatchOption r ((m : ℕ) → IsCoreDueAt c.core m → ⊥) (λ t. IsCoreFirstDue c.core t.0)
      → IsCoreDueAt c.core m → t ≤ m
  below_core c t None m below h d = absurd (h m d)
  below_core c t (Some s) m below h d = let a : t ≤ s.0 = below s refl in let b : s.0 ≤ m = h.first m d in omega (arith, a, b)

  below_handshake : (c : Connection S) (t : ℕ) (r : Option Moment) (m : ℕ) → ((s : Moment) → r ≡ Some s → t ≤ s.0)
      → MatchOption r ((m : ℕ) → IsHandshakeDueAt c.handshake m → ⊥) (λ t. IsHandshakeFirstDue c.handshake t.0) → IsHandshakeDueAt c.handshake m → t ≤ m
  below_handshake c t None m below h d = absurd (h m d)
  below_handshake c t (Some s) m below h d = let a : t ≤ s.0 = below s refl in let b : s.0 ≤ m = h.first m d in omega (arith, a, b)

  is_due : (c : Connection S) (r q : Option Moment) (t : Moment) → is_open c.core.state ≡ true → MatchOption r ((m : ℕ) → IsCoreDueAt c.core m → ⊥) (λ t. IsCoreFirstDue c.core t.0)
      → MatchOption q ((m : ℕ) → IsHandshakeDueAt c.handshake m → ⊥) (λ t. IsHandshakeFirstDue c.handshake t.0) → (r ≡ Some t) ⊎ (q ≡ Some t) → IsDueAt c t.0
  is_due c r q t up h k (inl e) = let f = subst (λ (z : Option Moment). MatchOption z ((m : ℕ) → IsCoreDueAt c.core m → ⊥) (λ t. IsCoreFirstDue c.core t.0)) e h in IsDueAt.core f.is
  is_due c r q t up h k (inr e) =
      let f = subst (λ (z : Option Moment). MatchOption z ((m : ℕ) → IsHandshakeDueAt c.handshake m → ⊥) (λ t. IsHandshakeFirstDue c.handshake t.0)) e k in IsDueAt.handshake up f.is

  first_by : (c : Connection S) (r q : Option Moment) (t m : ℕ) → ((s : Moment) → (r ≡ Some s) ⊎ (q ≡ Some s) → t ≤ s.0) → MatchOption r ((m : ℕ) → IsCoreDueAt c.core m → ⊥) (λ t. IsCoreFirstDue c.core t.0)
      → MatchOption q ((m : ℕ) → IsHandshakeDueAt c.handshake m → ⊥) (λ t. IsHandshakeFirstDue c.handshake t.0) → IsDueAt c m → t ≤ m
  first_by c r q t m first h k (IsDueAt.core d) = below_core c t r m (λ s e. first s (inl e)) h d
  first_by c r q t m first h k (IsDueAt.handshake up d) = below_handshake c t q m (λ s e. first s (inr e)) k d

  none_due : (c : Connection S) (m : ℕ) → ((m : ℕ) → IsCoreDueAt c.core m → ⊥) → ((m : ℕ) → IsHandshakeDueAt c.handshake m → ⊥) → IsDueAt c m → ⊥
  none_due c m h k (IsDueAt.core d) = h m d
  none_due c m h k (IsDueAt.handshake up d) = k m d

  open_first : (c : Connection S) (o r q : Option Moment) → is_open c.core.state ≡ true → MatchOption r ((m : ℕ) → IsCoreDueAt c.core m → ⊥) (λ t. IsCoreFirstDue c.core t.0)
      → MatchOption q ((m : ℕ) → IsHandshakeDueAt c.handshake m → ⊥) (λ t. IsHandshakeFirstDue c.handshake t.0) → (o ≡ None → (r ≡ None) × (q ≡ None))
      → ((t : Moment) → o ≡ Some t → (r ≡ Some t) ⊎ (q ≡ Some t)) → ((t s : Moment) → o ≡ Some t → (r ≡ Some s) ⊎ (q ≡ Some s) → t.0 ≤ s.0)
      → MatchOption o ((m : ℕ) → IsDueAt c m → ⊥) (λ t. IsFirstDue c t.0)
  open_first c None r q up h k none one first = λ m d.
      none_due c m (subst (λ (z : Option Moment). MatchOption z ((m : ℕ) → IsCoreDueAt c.core m → ⊥) (λ t. IsCoreFirstDue c.core t.0)) (none refl).0 h)
      (subst (λ (z : Option Moment). MatchOption z ((m : ℕ) → IsHandshakeDueAt c.handshake m → ⊥) (λ t. IsHandshakeFirstDue c.handshake t.0)) (none refl).1 k) d
  open_first c (Some t) r q up h k none one first = record { is = is_due c r q t up h k (one t refl); first = λ m d. first_by c r q t.0 m (λ s e. first t s refl e) h k d }

pub returns : goal.returns
returns g c =
    open_first c.args.self.now c.earlier.result c.poll_timeout-core.result c.poll_timeout.result
    (open_of (is_open c.args.self.now.core.state) c.is_closed.result c.is_closed.ensures c.if-is_closed.false) c.poll_timeout-core.ensures c.poll_timeout.ensures
    c.earlier.ensures.none c.earlier.ensures.one c.earlier.ensures.first
