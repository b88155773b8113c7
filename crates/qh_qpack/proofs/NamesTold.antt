-- The rows that are kept by the length of their name are those that the static table has.
use Rattle.std.proofs.Common.{◌≡◌, ℕ, zero, suc, ◌+◌, Bool, true, false, List, [], ◌∷◌, length, get_or, map, refl, sym, ap, ◌∙◌, inl, inr, bytes_eq, Option, Some, None, slice_get, subst}
use Rattle.std.specs.Prelude.{◌&&◌, ◌||◌}
use Rattle.std.proofs.lemmas.Bool.{cases_Bool}
use Rattle.std.proofs.lemmas.Slice.Eq.{bytes_eq-Decides}
use Rattle.qh_spec.specs.Fields.{Field}
use Rattle.qh_spec.specs.StaticTable.{static_table}
use Rattle.qh_qpack.specs.Places.{has_name, passes, places, first_has, rows_among, rows_by_length}
use Rattle.qh_qpack.specs.declared.static_.TheConstants.{BY_LENGTH}

unfoldable pub by_length : List (List (List ℕ))
by_length = map (λ names. map (λ rows. rows.now) names.now) BY_LENGTH

both_true : (a b : Bool) → (a && b) ≡ true → (a ≡ true) × (b ≡ true)
both_true true b h = (refl, h)
both_true false b h = cc

-- the name of a row
abbrev name_of : Option Field → List ℕ
name_of None = []
name_of (Some f) = f.name

-- these are all rows with the name of the first
abbrev are_whole : List Field → List ℕ → Bool
are_whole table [] = false
are_whole table (i ∷ is) = bytes_eq (i ∷ is) (places (has_name (name_of (slice_get table i))) 0 table)

abbrev all_whole : List Field → List (List ℕ) → Bool
all_whole table [] = true
all_whole table (rows ∷ more) = are_whole table rows && all_whole table more

abbrev each_whole : List Field → List (List (List ℕ)) → Bool
each_whole table [] = true
each_whole table (names ∷ more) = all_whole table names && each_whole table more

whole : each_whole static_table by_length ≡ true
unfolding static_table by_length
whole = refl

-- some of these lists has the name
abbrev some_has : List (List ℕ) → List ℕ → Bool
some_has [] name = false
some_has (rows ∷ more) name = first_has rows name || some_has more name

-- the name of each of these rows is among those of its length
abbrev are_kept : List (List (List ℕ)) → List Field → Bool
are_kept kept [] = true
are_kept kept (f ∷ fs) = some_has (get_or kept (length f.name) []) f.name && are_kept kept fs

kept : are_kept by_length static_table ≡ true
unfolding static_table by_length
kept = refl

whole_at : (kept : List (List (List ℕ))) (n : ℕ) → each_whole static_table kept ≡ true → all_whole static_table (get_or kept n []) ≡ true
whole_at [] n h = refl
whole_at (names ∷ more) zero h = (both_true (all_whole static_table names) (each_whole static_table more) h).0
whole_at (names ∷ more) (suc n) h = whole_at more n (both_true (all_whole static_table names) (each_whole static_table more) h).1

name_is : (name : List ℕ) (r : Option Field) → passes (has_name name) r ≡ true → name_of r ≡ name
name_is name None h = cc
name_is name (Some f) h = (bytes_eq-Decides f.name name).0 h

rows_are : (rows name : List ℕ) → are_whole static_table rows ≡ true → first_has rows name ≡ true → rows ≡ places (has_name name) 0 static_table
rows_are [] name w h = cc
rows_are (i ∷ is) name w h =
    (bytes_eq-Decides (i ∷ is) (places (has_name (name_of (slice_get static_table i))) 0 static_table)).0 w
    ∙ ap (λ (z : List ℕ). places (has_name z) 0 static_table) (name_is name (slice_get static_table i) h)

some_among : (names : List (List ℕ)) (name : List ℕ) → all_whole static_table names ≡ true → some_has names name ≡ true → rows_among names name ≡ places (has_name name) 0 static_table
some_among [] name w h = cc
some_among (rows ∷ more) name w h =
    let parts = both_true (are_whole static_table rows) (all_whole static_table more) w in
    elim (cases_Bool (first_has rows name)) [
      | inl t ↦ rw t (rows_are rows name parts.0 t)
      | inr t ↦ let later : some_has more name ≡ true = rw t at h in rw t (some_among more name parts.1 later)
    ]

none_among : (names : List (List ℕ)) (name : List ℕ) → some_has names name ≡ false → rows_among names name ≡ []
none_among [] name h = refl
none_among (rows ∷ more) name h =
    elim (cases_Bool (first_has rows name)) [
      | inl t ↦ let e = rw t at h in cc
      | inr t ↦ let later : some_has more name ≡ false = rw t at h in rw t (none_among more name later)
    ]

no_places : (kept : List (List (List ℕ))) (k : ℕ) (fs : List Field) (name : List ℕ) → are_kept kept fs ≡ true → some_has (get_or kept (length name) []) name ≡ false → places (has_name name) k fs ≡ []
no_places kept k [] name a h = refl
no_places kept k (f ∷ fs) name a h =
    let parts = both_true (some_has (get_or kept (length f.name) []) f.name) (are_kept kept fs) a in
    elim (cases_Bool (bytes_eq f.name name)) [
      | inl t ↦
          let same : f.name ≡ name = (bytes_eq-Decides f.name name).0 t in
          let e : some_has (get_or kept (length name) []) name ≡ true = subst (λ (z : List ℕ). some_has (get_or kept (length z) []) z ≡ true) same parts.0 in
          let wrong : true ≡ false = sym e ∙ h in
          cc
      | inr t ↦ rw t (no_places kept (k + 1) fs name parts.1 h)
    ]

pub rows_told : (name : List ℕ) → rows_by_length by_length name ≡ places (has_name name) 0 static_table
rows_told name =
    let names : List (List ℕ) = get_or by_length (length name) [] in
    elim (cases_Bool (some_has names name)) [
      | inl t ↦ some_among names name (whole_at by_length (length name) whole) t
      | inr t ↦ none_among names name t ∙ sym (no_places by_length 0 static_table name kept t)
    ]
