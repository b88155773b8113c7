-- Ids that are given one after another, and tries of them.
use Rattle.std.proofs.Common.{◌≡◌, List, ℕ, ◌+◌, ◌-◌, ◌^◌, ◌<◌, ◌≤◌, min, Bool, true, false, if◌then◌else◌, [], ◌∷◌, ◌++◌, length, refl, sym, ap, ◌∙◌, inl, inr, arith, length-append, append-nil, append_assoc}
use Rattle.std.proofs.lemmas.Bool.{cases_lt, le-ltb, lt-ltb}
use Rattle.std.specs.Prelude.{All}
use Rattle.std.proofs.lemmas.List.Elements.{All-nil, All-push}
use Rattle.qh_generator.specs.Fresh.{IsFresh}
use Rattle.qh_generator.specs.Given.{and_id, and_ids}

pub ids_append : (given ids more : List (List ℕ)) → and_ids given (ids ++ more) ≡ and_ids (and_ids given ids) more
ids_append given [] more = refl
ids_append given (id ∷ ids) more = ids_append (and_id given id) ids more

-- one id more, before and where the list is full
room_left : (given : List (List ℕ)) (id : List ℕ) → length given < 2 ^ 64 - 1 → and_id given id ≡ given ++ id ∷ []
unfolding and_id
room_left given id room = ap (λ (b : Bool). if b then given ++ id ∷ [] else given) (lt-ltb (length given) (2 ^ 64 - 1) room)

no_room : (given : List (List ℕ)) (id : List ℕ) → 2 ^ 64 - 1 ≤ length given → and_id given id ≡ given
unfolding and_id
no_room given id full = ap (λ (b : Bool). if b then given ++ id ∷ [] else given) (le-ltb (length given) (2 ^ 64 - 1) full)

pub ids_told : (given ids : List (List ℕ)) → length given + length ids ≤ 2 ^ 64 - 1 → and_ids given ids ≡ given ++ ids
ids_told given [] room = sym (append-nil given)
ids_told given (id ∷ ids) room =
    let one = room_left given id (omega (arith, room)) in
    ap (λ (z : List (List ℕ)). and_ids z ids) one ∙ ids_told (given ++ id ∷ []) ids (omega (arith, room, length-append given (id ∷ []))) ∙ append_assoc given (id ∷ []) ids

id_count : (given : List (List ℕ)) (id : List ℕ) → length given ≤ 2 ^ 64 - 1 → length (and_id given id) ≡ min (length given + 1) (2 ^ 64 - 1)
id_count given id fits =
    elim (cases_lt (length given) (2 ^ 64 - 1)) [
      | inl room ↦ let e = ap (λ (z : List (List ℕ)). length z) (room_left given id room) in omega (arith, e, room, length-append given (id ∷ []))
      | inr full ↦ let e = ap (λ (z : List (List ℕ)). length z) (no_room given id full) in omega (arith, e, full, fits)
    ]

pub ids_count : (given ids : List (List ℕ)) → length given ≤ 2 ^ 64 - 1 → length (and_ids given ids) ≡ min (length given + length ids) (2 ^ 64 - 1)
ids_count given [] fits = omega (arith, fits)
ids_count given (id ∷ ids) fits =
    let one = id_count given id fits in
    let rest = ids_count (and_id given id) ids (omega (arith, one, fits)) in
    omega (arith, one, rest, fits)

-- so many ids were given, each of them issued
pub record AreTried (answers : List ℕ → Bool → Type 0) (old now : List (List ℕ)) (count : ℕ) : Type 0 where
  pub issued : List (List ℕ)
  pub count_is : length issued ≡ count
  pub answered : All (λ other. answers other true) issued
  pub given : now ≡ and_ids old issued

pub none_tried : (answers : List ℕ → Bool → Type 0) (old : List (List ℕ)) → AreTried answers old old 0
none_tried answers old = record { issued = []; count_is = refl; answered = All-nil (λ other. answers other true); given = refl }

pub one_tried : (answers : List ℕ → Bool → Type 0) (old now next : List (List ℕ)) (count : ℕ) (id : List ℕ) → AreTried answers old now count → next ≡ and_id now id → answers id true → AreTried answers old next (count + 1)
one_tried answers old now next count id t e a =
    let size = t.count_is in
    record {
      issued = t.issued ++ id ∷ [];
      count_is = omega (arith, length-append t.issued (id ∷ []), size);
      answered = All-push (λ other. answers other true) t.issued id t.answered a;
      given = e ∙ ap (λ (z : List (List ℕ)). and_id z id) t.given ∙ sym (ids_append old t.issued (id ∷ []));
    }

pub first_fresh : (answers : List ℕ → Bool → Type 0) (old now next : List (List ℕ)) (count : ℕ) (id : List ℕ) → AreTried answers old now count → count < 64 → next ≡ and_id now id → answers id false → IsFresh answers old next id
first_fresh answers old now next count id t few e a =
    let size = t.count_is in
    record {
      issued = t.issued;
      few = omega (arith, few, size);
      answered = t.answered;
      free = a;
      given = e ∙ ap (λ (z : List (List ℕ)). and_id z id) t.given ∙ sym (ids_append old t.issued (id ∷ []));
    }
