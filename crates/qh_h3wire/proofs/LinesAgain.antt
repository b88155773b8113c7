-- Lines that are looked at again, where there was no memory to keep them.
use Rattle.std.proofs.Common.{◌≡◌, inl, inr, ℕ, ◌+◌, ◌<◌, ◌≤◌, List, [], ◌∷◌, ◌++◌, length, take, drop, get_or, refl, sym, ap, ◌∙◌, subst, arith}
use Rattle.std.specs.Prelude.{min}
use Rattle.std.proofs.lemmas.Bool.{cases_lt}
use Rattle.std.proofs.lemmas.List.{take_all, take-append-drop, length-take}
use Rattle.qh_spec.specs.Fields.{Field}
use Rattle.qh_spec.specs.Meaning.{IsReadable, AreReadable}
use Rattle.qh_spec.specs.Refusal.{HeaderFault, IsRefused}
use Rattle.qh_h3wire.proofs.FieldLists.{field_more}
use Rattle.qh_h3wire.proofs.Heads.{fault_in, in_list, split_at, unread}
use Rattle.qh_h3wire.proofs.Room.{few_taken}
use Rattle.qh_h3wire.specs.HeadReading.{RefusesLines}
use Rattle.qh_h3wire.specs.HeaderFault.{IfFault, RefusesField}
use Rattle.qh_h3wire.specs.declared.headers.HeaderError.{HeaderError}
use Rattle.qh_h3wire.specs.declared.headers.HeaderError.TheVariants.{InvalidHeaderName, InvalidHeaderValue, InvalidRequest, MissingMethod, MissingStatus, MissingAuthority, ContradictedAuthority, Memory}

readable_push : (fs : List Field) (f : Field) → AreReadable fs → IsReadable f → AreReadable (fs ++ f ∷ [])
readable_push [] f r is = (is, tt)
readable_push (g ∷ fs) f r is = (r.0, readable_push fs f r.1 is)

-- one line more can be read
pub readable_more : (fs : List Field) (i : ℕ) (f : Field) → i < length fs → f ≡ get_or fs i f → AreReadable (take i fs) → IsReadable f → AreReadable (take (i + 1) fs)
readable_more fs i f l same r is =
    let more : take (i + 1) fs ≡ take i fs ++ f ∷ [] = field_more fs i f l ∙ ap (λ (z : Field). take i fs ++ z ∷ []) (sym same) in
    rw more (readable_push (take i fs) f r is)

-- the fault of the front is that of all lines
refused_front : (before xs ys : List Field) (e : HeaderFault) → IsRefused before xs e → IsRefused before (xs ++ ys) e
refused_front before [] ys e r = absurd r
refused_front before (x ∷ xs) ys e (inl r) = inl r
refused_front before (x ∷ xs) ys e (inr r) = inr (r.0, refused_front (before ++ x ∷ []) xs ys e r.1)

-- a fault isn't want of memory
pub refuses : (e : HeaderError) (fs : List Field) → (e ≡ Memory → ⊥) → IfFault e (IsRefused [] fs) → RefusesLines e fs
refuses Memory fs n h = absurd (n refl)
refuses InvalidHeaderName fs n h = h
refuses InvalidHeaderValue fs n h = h
refuses InvalidRequest fs n h = h
refuses MissingMethod fs n h = h
refuses MissingStatus fs n h = h
refuses MissingAuthority fs n h = h
refuses ContradictedAuthority fs n h = h

-- a line among the first can't be read
pub fault_found : (fs : List Field) (n i : ℕ) (f : Field) (e : HeaderError) → n ≤ 24576 → i < length (take n fs) → f ≡ get_or (take n fs) i f → AreReadable (take i (take n fs))
    → RefusesField e f → (e ≡ Memory → ⊥) → RefusesLines e fs
fault_found fs n i f e few l same r fault other =
    let g : List Field = take n fs in
    let a = length-take n fs in
    let b = length-take i g in
    let taken = few_taken (take i g) (omega arith) r in
    let here = in_list g i f e (split_at g i f l same) taken (unread (take i g) f e fault) in
    refuses e fs other
    (subst (λ (z : List Field). IfFault e (IsRefused [] z)) (take-append-drop n fs)
    (fault_in (IsRefused [] g) (IsRefused [] (g ++ drop n fs)) e (λ a r. refused_front [] g (drop n fs) a r) here))

-- all of the first can be read
pub all_readable : (fs : List Field) (n i : ℕ) → n ≡ min (length fs) 24576 → length (take n fs) ≤ i → AreReadable (take i (take n fs)) → AreReadable (take 24576 fs)
all_readable fs n i is end r =
    let g : List Field = take n fs in
    let whole : AreReadable g = subst (λ (z : List Field). AreReadable z) (take_all i g end) r in
    elim (cases_lt (length fs) 24576) [
      | inl few ↦
          let one : g ≡ fs = take_all n fs (omega (arith, is)) in
          let two : take 24576 fs ≡ fs = take_all 24576 fs (omega arith) in
          subst (λ (z : List Field). AreReadable z) (one ∙ sym two) whole
      | inr many ↦
          let same : n ≡ 24576 = omega (arith, is) in
          subst (λ (z : ℕ). AreReadable (take z fs)) same whole
    ]
