-- Fields have room exactly where they aren't too many and not too large.
use Rattle.std.proofs.Common.{◌≡◌, inl, inr, ◌+◌, ◌-◌, ◌<◌, ◌≤◌, nat_lt, nat_le, true, false, List, [], ◌∷◌, ◌++◌, length, Option, Some, None, refl, sym, ap, ◌∙◌, arith, ◌↔◌}
use Rattle.std.specs.Prelude.{IsSome, is_some}
use Rattle.std.proofs.lemmas.Bool.{cases_lt, lt-ltb, le-ltb, lt-leb, le-leb}
use Rattle.std.proofs.lemmas.List.Sums.{sum_by-cons, fold-append}
use Rattle.qh_spec.specs.Fields.{Field}
use Rattle.qh_spec.specs.Size.{section_size}
use Rattle.qh_plain.specs.Room.{field_size, after_field, after_fields}
use Rattle.qh_plain.specs.declared.requests.room.Room.{Room}

-- no room stays no room
none_stays : (fs : List Field) → after_fields None fs ≡ None
none_stays [] = refl
none_stays (f ∷ fs) = none_stays fs

abbrev pub HasRoom : Room → List Field → Type 0
HasRoom r fs = (length fs ≤ r.fields) × (section_size fs ≤ r.bytes)

size_more : (f : Field) (fs : List Field) → section_size (f ∷ fs) ≡ field_size f + section_size fs
size_more f fs = sum_by-cons field_size f fs

taken : (r : Room) (f : Field) → 0 < r.fields → field_size f ≤ r.bytes → after_field (Some r) f ≡ Some (record { fields = r.fields - 1; bytes = r.bytes - field_size f })
taken r f a b = let s : nat_lt 0 r.fields ≡ true = lt-ltb 0 r.fields a in let t : nat_le (field_size f) r.bytes ≡ true = le-leb (field_size f) r.bytes b in rw (s, t) refl

too_many : (r : Room) (f : Field) → r.fields ≤ 0 → after_field (Some r) f ≡ None
too_many r f a = let s : nat_lt 0 r.fields ≡ false = le-ltb 0 r.fields a in rw s refl

too_large : (r : Room) (f : Field) → 0 < r.fields → r.bytes < field_size f → after_field (Some r) f ≡ None
too_large r f a b = let s : nat_lt 0 r.fields ≡ true = lt-ltb 0 r.fields a in let t : nat_le (field_size f) r.bytes ≡ false = lt-leb (field_size f) r.bytes b in rw (s, t) refl

no_room : (P : Type 0) (o : Option Room) (fs : List Field) → o ≡ None → (P → ⊥) → IsSome (after_fields o fs) ↔ P
no_room P o fs e n =
    (λ s. let gone : after_fields o fs ≡ None = ap (λ (z : Option Room). after_fields z fs) e ∙ none_stays fs in let both : true ≡ false = sym s ∙ ap is_some gone in cc, λ p. absurd (n p))

pub room_is : (r : Room) (fs : List Field) → IsSome (after_fields (Some r) fs) ↔ HasRoom r fs
room_is r [] = (λ _. (omega arith, omega arith), λ _. refl)
room_is r (f ∷ fs) =
    let more = size_more f fs in
    elim (cases_lt 0 r.fields) [
      | inr none ↦ no_room (HasRoom r (f ∷ fs)) (after_field (Some r) f) fs (too_many r f none) (λ h. let a = h.0 in omega (arith, a, none))
      | inl some ↦ elim (cases_lt r.bytes (field_size f)) [
        | inl small ↦ no_room (HasRoom r (f ∷ fs)) (after_field (Some r) f) fs (too_large r f some small) (λ h. let b = h.1 in omega (arith, b, more, small))
        | inr fits ↦
            let q : Room = record { fields = r.fields - 1; bytes = r.bytes - field_size f } in
            let rest = room_is q fs in
            let same : after_fields (after_field (Some r) f) fs ≡ after_fields (Some q) fs = ap (λ (z : Option Room). after_fields z fs) (taken r f some fits) in (
              λ s. let h = rest.0 (sym (ap is_some same) ∙ s) in let a = h.0 in let b = h.1 in (omega (arith, a, some), omega (arith, b, more, fits)),
              λ h. let a = h.0 in let b = h.1 in ap is_some same ∙ rest.1 (omega (arith, a, some), omega (arith, b, more, fits)),
            )
      ]
    ]

-- the fields of a head and then those of a map
pub two_rooms : (start middle end : Option Room) (xs ys : List Field) → middle ≡ after_fields start xs → end ≡ after_fields middle ys → end ≡ after_fields start (xs ++ ys)
two_rooms start middle end xs ys e f = f ∙ ap (λ (z : Option Room). after_fields z ys) e ∙ sym (fold-append after_field start xs ys)
