-- A list of fields has at most one fault, and has a meaning or a fault.
use Rattle.std.proofs.Common.{◌≡◌, ◌⊎◌, inl, inr, ℕ, true, false, List, [], ◌∷◌, ◌++◌, Option, Some, None, refl, sym, ap, ◌∙◌, subst, arith}
use Rattle.std.specs.Prelude.{codes, is_some, bytes_eq, slice_index}
use Rattle.std.proofs.lemmas.Bool.{cases_Bool}
use Rattle.std.proofs.lemmas.Slice.Eq.{bytes_eq-Decides}
use Rattle.qh_spec.specs.Fields.{Field}
use Rattle.qh_spec.specs.Meaning.{AreReadable, IsReadable, method, scheme, authority, path, status, plain, pseudo, host_of, ChoosesAuthority, MakesTarget, MeansRequest, given_target}
use Rattle.qh_spec.specs.Message.{PlainTarget}
use Rattle.qh_spec.specs.MessageRows.{hosts_fields, upper_fields}
use Rattle.qh_spec.specs.Refusal.{HeaderFault, InvalidHeaderName, InvalidHeaderValue, MissingMethod, MissingAuthority, ContradictedAuthority, InvalidRequest, MissingStatus, IsReadableName, IsOneTooMany, IsTaken, IsFieldFault, AreTaken, IsRefused, HasMethod, IsRequestFault}
use Rattle.qh_spec.proofs.MessageLaws.{authority_one}
use Rattle.qh_spec.proofs.SameLaws.{target_refl}

-- a field that can be read has a name that can
readable_name : (f : Field) → IsReadable f → IsReadableName f.name
readable_name f (method n v) = inl (inl (sym n))
readable_name f (scheme n v) = inl (inr (inl (sym n)))
readable_name f (authority n v) = inl (inr (inr (inl (sym n))))
readable_name f (path n v) = inl (inr (inr (inr (inl (sym n)))))
readable_name f (status n v) = inl (inr (inr (inr (inr (inl (sym n))))))
readable_name f (plain n v) = inr n

name_and_value : (front : List Field) (f : Field) → (IsReadableName f.name → ⊥) ⊎ (IsReadable f × IsOneTooMany front f) → IsReadableName f.name × (IsReadable f → ⊥) → ⊥
name_and_value front f p q = elim p [ inl n ↦ n q.0 | inr m ↦ q.1 m.0 ]

field_fault_one : (front : List Field) (f : Field) (a b : HeaderFault) → IsFieldFault front f a → IsFieldFault front f b → a ≡ b
field_fault_one front f InvalidHeaderName InvalidHeaderName p q = refl
field_fault_one front f InvalidHeaderName InvalidHeaderValue p q = absurd (name_and_value front f p q)
field_fault_one front f InvalidHeaderName MissingMethod p q = absurd q
field_fault_one front f InvalidHeaderName MissingAuthority p q = absurd q
field_fault_one front f InvalidHeaderName ContradictedAuthority p q = absurd q
field_fault_one front f InvalidHeaderName InvalidRequest p q = absurd q
field_fault_one front f InvalidHeaderName MissingStatus p q = absurd q
field_fault_one front f InvalidHeaderValue InvalidHeaderName p q = absurd (name_and_value front f q p)
field_fault_one front f InvalidHeaderValue InvalidHeaderValue p q = refl
field_fault_one front f InvalidHeaderValue MissingMethod p q = absurd q
field_fault_one front f InvalidHeaderValue MissingAuthority p q = absurd q
field_fault_one front f InvalidHeaderValue ContradictedAuthority p q = absurd q
field_fault_one front f InvalidHeaderValue InvalidRequest p q = absurd q
field_fault_one front f InvalidHeaderValue MissingStatus p q = absurd q
field_fault_one front f MissingMethod b p q = absurd p
field_fault_one front f MissingAuthority b p q = absurd p
field_fault_one front f ContradictedAuthority b p q = absurd p
field_fault_one front f InvalidRequest b p q = absurd p
field_fault_one front f MissingStatus b p q = absurd p

taken_has_none : (front : List Field) (f : Field) (a : HeaderFault) → IsTaken front f → IsFieldFault front f a → ⊥
taken_has_none front f InvalidHeaderName t p = elim p [ inl n ↦ n (readable_name f t.0) | inr m ↦ t.1 m.1 ]
taken_has_none front f InvalidHeaderValue t p = p.1 t.0
taken_has_none front f MissingMethod t p = absurd p
taken_has_none front f MissingAuthority t p = absurd p
taken_has_none front f ContradictedAuthority t p = absurd p
taken_has_none front f InvalidRequest t p = absurd p
taken_has_none front f MissingStatus t p = absurd p

-- a list is refused for one fault
pub refused_one : (front fs : List Field) (a b : HeaderFault) → IsRefused front fs a → IsRefused front fs b → a ≡ b
refused_one front [] a b p q = absurd p
refused_one front (f ∷ fs) a b (inl p) (inl q) = field_fault_one front f a b p q
refused_one front (f ∷ fs) a b (inl p) (inr q) = absurd (taken_has_none front f a q.0 p)
refused_one front (f ∷ fs) a b (inr p) (inl q) = absurd (taken_has_none front f b p.0 q)
refused_one front (f ∷ fs) a b (inr p) (inr q) = refused_one (front ++ f ∷ []) fs a b p.1 q.1

-- and not where each field is kept
pub taken_not_refused : (front fs : List Field) (a : HeaderFault) → AreTaken front fs → IsRefused front fs a → ⊥
taken_not_refused front [] a t p = p
taken_not_refused front (f ∷ fs) a t (inl p) = taken_has_none front f a t.0 p
taken_not_refused front (f ∷ fs) a t (inr p) = taken_not_refused (front ++ f ∷ []) fs a t.1 p.1

-- fields that are kept can be read
pub taken_readable : (front fs : List Field) → AreTaken front fs → AreReadable fs
taken_readable front [] t = tt
taken_readable front (f ∷ fs) t = (t.0.0, taken_readable (front ++ f ∷ []) fs t.1)

-- no list is neither kept nor refused
field_judged : (front : List Field) (f : Field) → (IsTaken front f → ⊥) → ((a : HeaderFault) → IsFieldFault front f a → ⊥) → ⊥
field_judged front f t n =
    n InvalidHeaderName (inl (λ name. n InvalidHeaderValue (name, λ r. t (r, λ m. n InvalidHeaderName (inr (r, m))))))

pub judged : (front fs : List Field) → (AreTaken front fs → ⊥) → ((a : HeaderFault) → IsRefused front fs a → ⊥) → ⊥
judged front [] t n = t tt
judged front (f ∷ fs) t n =
    field_judged front f
    (λ taken. judged (front ++ f ∷ []) fs (λ rest. t (taken, rest)) (λ a p. n a (inr (taken, p))))
    (λ a p. n a (inl p))

none_some : (x : Option (List ℕ)) (v : List ℕ) → x ≡ None → x ≡ Some v → ⊥
none_some x v n s = let both : true ≡ false = sym (ap is_some s) ∙ ap is_some n in cc

no_method : (fs : List Field) → pseudo (codes ":method") fs ≡ None → HasMethod fs → ⊥
no_method fs n s = let both : true ≡ false = sym s ∙ ap is_some n in cc

chooses_none : (x h : Option (List ℕ)) (a : List ℕ) → x ≡ None → h ≡ None → ChoosesAuthority x h a → ⊥
chooses_none None None a p q c = c
chooses_none (Some x) h a p q c = none_some (Some x) x p refl
chooses_none None (Some h) a p q c = none_some (Some h) h q refl

chooses_one : (x h : Option (List ℕ)) (v w a : List ℕ) → x ≡ Some v → h ≡ Some w → ChoosesAuthority x h a → v ≡ w
chooses_one None h v w a p q c = absurd (none_some None v refl p)
chooses_one (Some x) None v w a p q c = absurd (none_some None w refl q)
chooses_one (Some x) (Some h) v w a p q c = let one : x ≡ v = cc in let two : h ≡ w = cc in sym one ∙ c.1 ∙ two

-- the parts of a request have one fault
pub request_fault_one : (fs : List Field) (a b : HeaderFault) → IsRequestFault fs a → IsRequestFault fs b → a ≡ b
request_fault_one fs InvalidHeaderName b p q = absurd p
request_fault_one fs InvalidHeaderValue b p q = absurd p
request_fault_one fs MissingStatus b p q = absurd p
request_fault_one fs MissingMethod InvalidHeaderName p q = absurd q
request_fault_one fs MissingMethod InvalidHeaderValue p q = absurd q
request_fault_one fs MissingMethod MissingStatus p q = absurd q
request_fault_one fs MissingMethod MissingMethod p q = refl
request_fault_one fs MissingMethod MissingAuthority p q = absurd (no_method fs p q.0)
request_fault_one fs MissingMethod ContradictedAuthority p q = absurd (no_method fs p q.0)
request_fault_one fs MissingMethod InvalidRequest p q = absurd (no_method fs p q.0)
request_fault_one fs MissingAuthority InvalidHeaderName p q = absurd q
request_fault_one fs MissingAuthority InvalidHeaderValue p q = absurd q
request_fault_one fs MissingAuthority MissingStatus p q = absurd q
request_fault_one fs MissingAuthority MissingMethod p q = absurd (no_method fs q p.0)
request_fault_one fs MissingAuthority MissingAuthority p q = refl
request_fault_one fs MissingAuthority ContradictedAuthority p q = absurd (none_some (pseudo (codes ":authority") fs) q.1 p.1 q.3)
request_fault_one fs MissingAuthority InvalidRequest p q = absurd (chooses_none (pseudo (codes ":authority") fs) (host_of fs) q.1 p.1 p.2 q.2)
request_fault_one fs ContradictedAuthority InvalidHeaderName p q = absurd q
request_fault_one fs ContradictedAuthority InvalidHeaderValue p q = absurd q
request_fault_one fs ContradictedAuthority MissingStatus p q = absurd q
request_fault_one fs ContradictedAuthority MissingMethod p q = absurd (no_method fs q p.0)
request_fault_one fs ContradictedAuthority MissingAuthority p q = absurd (none_some (pseudo (codes ":authority") fs) p.1 q.1 p.3)
request_fault_one fs ContradictedAuthority ContradictedAuthority p q = refl
request_fault_one fs ContradictedAuthority InvalidRequest p q = absurd (p.5 (chooses_one (pseudo (codes ":authority") fs) (host_of fs) p.1 p.2 q.1 p.3 p.4 q.2))
request_fault_one fs InvalidRequest InvalidHeaderName p q = absurd q
request_fault_one fs InvalidRequest InvalidHeaderValue p q = absurd q
request_fault_one fs InvalidRequest MissingStatus p q = absurd q
request_fault_one fs InvalidRequest MissingMethod p q = absurd (no_method fs q p.0)
request_fault_one fs InvalidRequest MissingAuthority p q = absurd (chooses_none (pseudo (codes ":authority") fs) (host_of fs) p.1 q.1 q.2 p.2)
request_fault_one fs InvalidRequest ContradictedAuthority p q = absurd (q.5 (chooses_one (pseudo (codes ":authority") fs) (host_of fs) q.1 q.2 p.1 q.3 q.4 p.2))
request_fault_one fs InvalidRequest InvalidRequest p q = refl

-- and none where they mean a request
pub request_has_none : (fs : List Field) (m : List ℕ) (t : PlainTarget) (a : HeaderFault) → MeansRequest fs m t → IsRequestFault fs a → ⊥
request_has_none fs m t InvalidHeaderName r p = absurd p
request_has_none fs m t InvalidHeaderValue r p = absurd p
request_has_none fs m t MissingMethod r p = none_some (pseudo (codes ":method") fs) m p r.method_is
request_has_none fs m t MissingAuthority r p = chooses_none (pseudo (codes ":authority") fs) (host_of fs) r.authority p.1 p.2 r.chosen
request_has_none fs m t ContradictedAuthority r p = p.5 (chooses_one (pseudo (codes ":authority") fs) (host_of fs) p.1 p.2 r.authority p.3 p.4 r.chosen)
request_has_none fs m t InvalidRequest r p =
    p.3 (subst (MakesTarget fs) (authority_one (pseudo (codes ":authority") fs) (host_of fs) r.authority p.1 r.chosen p.2) r.makes)
request_has_none fs m t MissingStatus r p = absurd p

-- with a method and an authority, the parts make a target or don't
chosen_judged : (fs : List Field) (m a : List ℕ) → pseudo (codes ":method") fs ≡ Some m → ChoosesAuthority (pseudo (codes ":authority") fs) (host_of fs) a
    → ((n : List ℕ) (t : PlainTarget) → MeansRequest fs n t → ⊥) → ((b : HeaderFault) → IsRequestFault fs b → ⊥) → ⊥
chosen_judged fs m a e c n f =
    f InvalidRequest (
      ap is_some e,
      a,
      c,
      λ makes. n m (given_target fs a) (record {
        method_is = e;
        authority = a;
        chosen = c;
        makes = makes;
        target_is = target_refl (given_target fs a);
      }),
    )

with_method : (fs : List Field) (m : List ℕ) (x h : Option (List ℕ)) → pseudo (codes ":method") fs ≡ Some m → pseudo (codes ":authority") fs ≡ x → host_of fs ≡ h
    → ((n : List ℕ) (t : PlainTarget) → MeansRequest fs n t → ⊥) → ((b : HeaderFault) → IsRequestFault fs b → ⊥) → ⊥
with_method fs m None None e p q n f = f MissingAuthority (ap is_some e, p, q)
with_method fs m (Some x) None e p q n f = chosen_judged fs m x e (rw (p, q) refl) n f
with_method fs m None (Some h) e p q n f = chosen_judged fs m h e (rw (p, q) refl) n f
with_method fs m (Some x) (Some h) e p q n f =
    elim (cases_Bool (bytes_eq x h)) [
      | inl t ↦ let same : x ≡ h = (bytes_eq-Decides x h).0 t in chosen_judged fs m h e (rw (p, q) (refl, same)) n f
      | inr t ↦
          f ContradictedAuthority (
            ap is_some e,
            x,
            h,
            p,
            q,
            λ same.
                let u : bytes_eq x h ≡ true = (bytes_eq-Decides x h).1 same in
                let both : true ≡ false = sym u ∙ t in
                cc,
          )
    ]

by_method : (fs : List Field) (x : Option (List ℕ)) → pseudo (codes ":method") fs ≡ x
    → ((n : List ℕ) (t : PlainTarget) → MeansRequest fs n t → ⊥) → ((b : HeaderFault) → IsRequestFault fs b → ⊥) → ⊥
by_method fs None e n f = f MissingMethod e
by_method fs (Some m) e n f = with_method fs m (pseudo (codes ":authority") fs) (host_of fs) e refl refl n f

-- no list of fields neither means a request nor has a fault
pub request_judged : (fs : List Field) → ((n : List ℕ) (t : PlainTarget) → MeansRequest fs n t → ⊥) → ((b : HeaderFault) → IsRequestFault fs b → ⊥) → ⊥
request_judged fs n f = by_method fs (pseudo (codes ":method") fs) refl n f

two_hosts : codes "a.test" ≡ codes "b.test" → ⊥
two_hosts e = let first : ◌≡◌ {A = ℕ} 97 98 = ap (λ (z : List ℕ). slice_index z 0) e in omega arith

pub hosts_fault : IsRequestFault hosts_fields ContradictedAuthority
hosts_fault = (refl, codes "a.test", codes "b.test", refl, refl, two_hosts)

upper_name : IsReadableName (codes "Host") → ⊥
upper_name (inl (inl e)) = let first : ◌≡◌ {A = ℕ} 58 72 = ap (λ (z : List ℕ). slice_index z 0) e in omega arith
upper_name (inl (inr (inl e))) = let first : ◌≡◌ {A = ℕ} 58 72 = ap (λ (z : List ℕ). slice_index z 0) e in omega arith
upper_name (inl (inr (inr (inl e)))) = let first : ◌≡◌ {A = ℕ} 58 72 = ap (λ (z : List ℕ). slice_index z 0) e in omega arith
upper_name (inl (inr (inr (inr (inl e))))) = let first : ◌≡◌ {A = ℕ} 58 72 = ap (λ (z : List ℕ). slice_index z 0) e in omega arith
upper_name (inl (inr (inr (inr (inr (inl e)))))) = let first : ◌≡◌ {A = ℕ} 58 72 = ap (λ (z : List ℕ). slice_index z 0) e in omega arith
upper_name (inl (inr (inr (inr (inr (inr e)))))) = e
upper_name (inr n) = let first : ◌≡◌ {A = ℕ} 104 72 = ap (λ (z : List ℕ). slice_index z 0) n.1 in omega arith

pub upper_refused : IsRefused [] upper_fields InvalidHeaderName
upper_refused = inl (inl upper_name)
