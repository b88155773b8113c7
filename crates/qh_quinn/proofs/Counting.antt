-- How often a socket and its poller failed, over one call and then another.
use Rattle.std.proofs.Common.{◌≡◌, ◌⊎◌, ℕ, ◌+◌, ◌-◌, ◌^◌, ◌≤◌, min, Bool, true, false, Option, None, Some, refl, sym, ap, subst, inl, inr, ◌∙◌, arith}
use Rattle.std.proofs.lemmas.Bool.{cases_lt, false≢true}
use Rattle.qh_handles.specs.Turns.{count_of}
use Rattle.qh_quinn.specs.Turning.{FailsPoller, IsCounted, LeavesPoller}
use Rattle.qh_spec.specs.Fault.{CountsFaults, Rose}

-- ---- numbers that rise

risen_before : (a b c : ℕ) → a ≤ b → Rose b c → Rose a c
risen_before a b c le (inl lt) = inl (omega arith)
risen_before a b c le (inr end) = inr end

-- one more, unless the number stands at its end
pub risen_by : (a b : ℕ) → b ≡ min (a + 1) (2 ^ 64 - 1) → Rose a b
risen_by a b is = elim (cases_lt a (2 ^ 64 - 1)) [
  | inl lt ↦ inl (omega (arith, is, lt))
  | inr le ↦ inr (omega (arith, is, le))
]

pub counts_before : (a b c : ℕ) → a ≤ b → CountsFaults b c true → CountsFaults a c true
counts_before a b c le y = record {
  stays = omega (arith, le, y.stays);
  cause = λ is. risen_before a b c le (y.cause is);
  still = λ is. absurd (false≢true (sym is));
}

some_is : {P : Type 0} (p q : P) → Some p ≡ Some q → p ≡ q
some_is p q is = cc

module _ {P : Type 0} (faults : P → ℕ) where
  fails_then : (m0 m1 m2 : ℕ) (p0 p1 p2 : Option P) → m0 ≤ m1 → LeavesPoller faults m0 m1 p0 p1 → FailsPoller faults m1 m2 p1 p2 → FailsPoller faults m0 m2 p0 p2
  fails_then m0 m1 m2 p0 p1 p2 le (LeavesPoller.kept old new before after same made) (FailsPoller.kept poller is same2 counts) =
      let e : faults poller ≡ faults old = ap faults (some_is poller new (sym is ∙ after)) ∙ same in
      FailsPoller.kept old before (same2 ∙ made) (subst (λ (n : ℕ). CountsFaults n (count_of faults p2) true) e counts)
  fails_then m0 m1 m2 p0 p1 p2 le (LeavesPoller.anew new after none made) (FailsPoller.kept poller is same2 counts) =
      let e : faults poller ≡ 0 = ap faults (some_is poller new (sym is ∙ after)) ∙ none in
      FailsPoller.anew (subst (λ (n : ℕ). Rose m0 n) (sym same2) made) (subst (λ (n : ℕ). CountsFaults n (count_of faults p2) true) e counts)
  fails_then m0 m1 m2 p0 p1 p2 le (LeavesPoller.gone after) (FailsPoller.kept poller is same2 counts) = cc
  fails_then m0 m1 m2 p0 p1 p2 le leaves (FailsPoller.anew made counts) = FailsPoller.anew (risen_before m0 m1 m2 le made) counts

  leaves_then : (m0 m1 m2 : ℕ) (p0 p1 p2 : Option P) → m0 ≤ m1 → LeavesPoller faults m0 m1 p0 p1 → LeavesPoller faults m1 m2 p1 p2 → LeavesPoller faults m0 m2 p0 p2
  leaves_then m0 m1 m2 p0 p1 p2 le (LeavesPoller.kept old new before after same made) (LeavesPoller.kept old2 new2 before2 after2 same2 made2) =
      LeavesPoller.kept old new2 before after2 (same2 ∙ (ap faults (some_is old2 new (sym before2 ∙ after)) ∙ same)) (made2 ∙ made)
  leaves_then m0 m1 m2 p0 p1 p2 le (LeavesPoller.anew new after none made) (LeavesPoller.kept old2 new2 before2 after2 same2 made2) =
      LeavesPoller.anew new2 after2 (same2 ∙ (ap faults (some_is old2 new (sym before2 ∙ after)) ∙ none)) (subst (λ (n : ℕ). Rose m0 n) (sym made2) made)
  leaves_then m0 m1 m2 p0 p1 p2 le (LeavesPoller.gone after) (LeavesPoller.kept old2 new2 before2 after2 same2 made2) = cc
  leaves_then m0 m1 m2 p0 p1 p2 le leaves (LeavesPoller.anew new after none made) = LeavesPoller.anew new after none (risen_before m0 m1 m2 le made)
  leaves_then m0 m1 m2 p0 p1 p2 le leaves (LeavesPoller.gone after) = LeavesPoller.gone after

  -- a call that didn't fail, and then another one
  pub counted_then : (failed : Bool) (a b c : ℕ) (m0 m1 m2 : ℕ) (p0 p1 p2 : Option P) → IsCounted faults false a b m0 m1 p0 p1 → IsCounted faults failed b c m1 m2 p1 p2 → IsCounted faults failed a c m0 m2 p0 p2
  counted_then failed a b c m0 m1 m2 p0 p1 p2 x y = record {
    socket = omega (arith, x.socket, y.socket);
    made = omega (arith, x.made, y.made);
    cause = λ is. cause_then (y.cause is);
    still = λ is. leaves_then m0 m1 m2 p0 p1 p2 x.made (x.still refl) (y.still is);
  }
    where
      cause_then : CountsFaults b c true ⊎ FailsPoller faults m1 m2 p1 p2 → CountsFaults a c true ⊎ FailsPoller faults m0 m2 p0 p2
      cause_then (inl h) = inl (counts_before a b c x.socket h)
      cause_then (inr h) = inr (fails_then m0 m1 m2 p0 p1 p2 x.made (x.still refl) h)

  -- nothing but the socket was asked
  pub counted_socket : (failed : Bool) (a b made : ℕ) (p : Option P) → CountsFaults a b failed → IsCounted faults failed a b made made p p
  counted_socket failed a b made None h = record { socket = h.stays; made = omega arith; cause = λ is. inl (subst (λ (f : Bool). CountsFaults a b f) is h); still = λ is. LeavesPoller.gone refl }
  counted_socket failed a b made (Some p) h =
      record { socket = h.stays; made = omega arith; cause = λ is. inl (subst (λ (f : Bool). CountsFaults a b f) is h); still = λ is. LeavesPoller.kept p p refl refl refl refl }

  -- nothing but the poller was asked
  pub counted_poller : (failed : Bool) (a b made : ℕ) (old new : P) → b ≡ a → CountsFaults (faults old) (faults new) failed → IsCounted faults failed a b made made (Some old) (Some new)
  counted_poller failed a b made old new same h =
      record { socket = omega (arith, same); made = omega arith; cause = λ is. inr (FailsPoller.kept old refl refl (subst (λ (f : Bool). CountsFaults (faults old) (faults new) f) is h)); still = λ is. LeavesPoller.kept old new refl refl (h.still is) refl }

  -- a poller was made
  pub counted_anew : (a b m0 m1 : ℕ) (old : Option P) (new : P) → b ≡ a → m0 ≤ m1 → Rose m0 m1 → faults new ≡ 0 → IsCounted faults false a b m0 m1 old (Some new)
  counted_anew a b m0 m1 old new same le rose fresh =
      record { socket = omega (arith, same); made = le; cause = λ is. absurd (false≢true is); still = λ is. LeavesPoller.anew new refl fresh rose }

  -- nothing was asked
  pub counted_none : (n made : ℕ) (p : Option P) → IsCounted faults false n n made made p p
  counted_none n made p = counted_socket false n n made p (record { stays = omega arith; cause = λ is. absurd (false≢true is); still = λ is. refl })
