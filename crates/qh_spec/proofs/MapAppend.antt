-- A map of fields stays one with a value more.
use Rattle.std.proofs.Common.{◌≡◌, inl, inr, ℕ, ◌+◌, ◌<◌, ◌≤◌, List, [], ◌∷◌, ◌++◌, length, Option, Some, None, refl, sym, subst, arith, length-append}
use Rattle.std.specs.Prelude.{bytes_eq, All}
use Rattle.std.proofs.lemmas.Bool.{cases_Bool}
use Rattle.std.proofs.lemmas.List.Elements.{All-nil, All-cons, All-head, All-tail}
use Rattle.std.proofs.lemmas.List.Sums.{sum_by-cons}
use Rattle.http_header.specs.HeaderMap.{Entry, Entries, entry_at, value_count, append, index_of, IsUnique, IsHeaderMap}
use Rattle.http_header.proofs.BucketsLemmas.{IsUnique-with_values, IsUnique-push}
use Rattle.http_header.proofs.PlacesLemmas.{IsAt-from_index_of, IsAbsent-from_index_of}

module _ {X : Type 0} where
  -- no name stands twice, and each has a value
  pub record IsNamed (m : Entries X) : Type 0 where
    pub unique : IsUnique m
    pub filled : All (λ (e : Entry X). 0 < length e.1) m

  pub named_nil : IsNamed []
  named_nil = record { unique = λ i j a b s. absurd (omega arith); filled = All-nil (λ (e : Entry X). 0 < length e.1) }

  count_cons : (e : Entry X) (m : Entries X) → value_count (e ∷ m) ≡ length e.1 + value_count m
  count_cons e m = sum_by-cons (λ (x : Entry X). length x.1) e m

  names_below : (m : Entries X) → All (λ (e : Entry X). 0 < length e.1) m → length m ≤ value_count m
  names_below [] h = omega arith
  names_below (e ∷ m) h =
      let here = All-head (λ (x : Entry X). 0 < length x.1) e m h in
      let rest = names_below m (All-tail (λ (x : Entry X). 0 < length x.1) e m h) in
      omega (arith, here, rest, count_cons e m)

  -- a map with few values has room
  pub named_is_map : (m : Entries X) → IsNamed m → value_count m ≤ 2000 → IsHeaderMap m
  named_is_map m n few = record { unique = n.unique; filled = n.filled; names_fit = omega (arith, names_below m n.filled); values_fit = omega arith }

  pub count_append : (m : Entries X) (name : List ℕ) (x : X) → value_count (append m name x) ≡ value_count m + 1
  count_append [] name x = refl
  count_append (e ∷ m) name x =
      elim (cases_Bool (bytes_eq e.0 name)) [
        | inl t ↦ rw t (omega (arith, count_cons (e.0, e.1 ++ x ∷ []) m, count_cons e m, length-append e.1 (x ∷ [])))
        | inr f ↦ rw f (omega (arith, count_cons e (append m name x), count_cons e m, count_append m name x))
      ]

  filled_append : (m : Entries X) (name : List ℕ) (x : X) → All (λ (e : Entry X). 0 < length e.1) m → All (λ (e : Entry X). 0 < length e.1) (append m name x)
  filled_append [] name x h = All-cons (λ (e : Entry X). 0 < length e.1) (name, x ∷ []) [] (omega arith) h
  filled_append (e ∷ m) name x h =
      let here = All-head (λ (y : Entry X). 0 < length y.1) e m h in
      let rest = All-tail (λ (y : Entry X). 0 < length y.1) e m h in
      elim (cases_Bool (bytes_eq e.0 name)) [
        | inl t ↦ rw t (All-cons (λ (y : Entry X). 0 < length y.1) (e.0, e.1 ++ x ∷ []) m (omega (arith, here, length-append e.1 (x ∷ []))) rest)
        | inr f ↦ rw f (All-cons (λ (y : Entry X). 0 < length y.1) e (append m name x) here (filled_append m name x rest))
      ]

  unique_append : (m : Entries X) (name : List ℕ) (x : X) → IsUnique m → IsUnique (append m name x)
  unique_append m name x u = by (index_of m name) refl
    where
      by : (o : Option ℕ) → index_of m name ≡ o → IsUnique (append m name x)
      by None e =
          let a = IsAbsent-from_index_of m name e in
          subst IsUnique (sym (a.updates (λ (xs : List X). xs ++ x ∷ []))) (IsUnique-push m (name, x ∷ []) a.absent u)
      by (Some i) e =
          let a = IsAt-from_index_of m name i e in
          subst IsUnique (sym (a.updates (λ (xs : List X). xs ++ x ∷ []))) (IsUnique-with_values m i ((entry_at m i).1 ++ x ∷ []) a.within u)

  pub named_append : (m : Entries X) (name : List ℕ) (x : X) → IsNamed m → IsNamed (append m name x)
  named_append m name x n = record { unique = unique_append m name x n.unique; filled = filled_append m name x n.filled }
