-- The values of a range of keys, each fourth key from the first on, are put in or taken out one after another.
use Rattle.std.proofs.Common.{◌≡◌, ℕ, ◌<◌, ◌≤◌, true, List, [], ◌∷◌, length, Option, Some, None, nat_cmp, if◌then◌else◌, refl, sym, ap, Less, is_eq, unwrap_or, ◌∙◌, arith, inl, inr}
use Rattle.std.specs.BTreeMap.{is_at}
use Rattle.std.specs.Map.{lookup, keys_of}
use Rattle.std.specs.List.Sorted.{IsStrictlySortedBy}
use Rattle.std.proofs.lemmas.Bool.{cases_Bool, cases_order}
use Rattle.std.proofs.lemmas.Cmp.{nat_cmp_total, eq_by_cmp_equiv, tied_itself}
use Rattle.std.proofs.lemmas.Map.{lookup-none}
use Rattle.std.proofs.lemmas.Map.Entries.{lookup_head, lookup_tail, none_past_head, none_below_head}
use Rattle.std.proofs.lemmas.Map.Keys.{sorted_tail, IsDistinct-from_sorted}
use Rattle.qh_halves.specs.Counts.{is_in_range}

-- a part of a range from its first key on
pub in_within : (first count i k : ℕ) → i ≤ count → is_in_range first i k ≡ true → is_in_range first count k ≡ true
in_within first count i k below inside = grind (arith, below, inside)

less_is : (m n : ℕ) → m < n → nat_cmp m n ≡ Less
less_is m n h = grind (arith, h)

module _ {X : Type 0} where
  abbrev value_in : List (ℕ × X) → (k : ℕ) → Option X
  value_in es k = lookup (is_at (nat_cmp k)) es

  abbrev AreSorted : List (ℕ × X) → Type 0
  AreSorted es = IsStrictlySortedBy nat_cmp (keys_of es)

  first_value : (e : ℕ × X) (es : List (ℕ × X)) → value_in (e ∷ es) e.0 ≡ Some e.1
  first_value e es = lookup_head (is_at (nat_cmp e.0)) e es (ap is_eq (tied_itself nat_cmp_total e.0))

  -- no key at the first one or below it stands behind it
  none_behind : (e : ℕ × X) (es : List (ℕ × X)) (k : ℕ) → AreSorted (e ∷ es) → is_at (nat_cmp k) e.0 ≡ true → value_in es k ≡ None
  none_behind e es k s here = lookup-none (is_at (nat_cmp k)) es (none_past_head (eq_by_cmp_equiv nat_cmp_total) k e es (IsDistinct-from_sorted nat_cmp (keys_of (e ∷ es)) s) here)

  none_below : (e : ℕ × X) (es : List (ℕ × X)) (k : ℕ) → AreSorted (e ∷ es) → k < e.0 → value_in (e ∷ es) k ≡ None
  none_below e es k s below = lookup-none (is_at (nat_cmp k)) (e ∷ es) (none_below_head nat_cmp_total k e es s (less_is k e.0 below))

  first_key : (e f : ℕ × X) (es fs : List (ℕ × X)) → AreSorted (e ∷ es) → AreSorted (f ∷ fs) → ((k : ℕ) → value_in (e ∷ es) k ≡ value_in (f ∷ fs) k) → e.0 ≡ f.0
  first_key e f es fs s t h = elim (cases_order e.0 f.0) [
    | inl same ↦ same
    | inr apart ↦ elim apart [
      | inl below ↦ absurd (let some = first_value e es in let none = h e.0 ∙ none_below f fs e.0 t below in cc)
      | inr above ↦ absurd (let some = first_value f fs in let none = sym (h f.0) ∙ none_below e es f.0 s above in cc)
    ]
  ]

  -- maps with the same value at each key
  pub same_values : (es fs : List (ℕ × X)) → AreSorted es → AreSorted fs → ((k : ℕ) → value_in es k ≡ value_in fs k) → es ≡ fs
  same_values [] [] s t h = refl
  same_values [] (f ∷ fs) s t h = absurd (let some = first_value f fs in let none = h f.0 in cc)
  same_values (e ∷ es) [] s t h = absurd (let some = first_value e es in let none = h e.0 in cc)
  same_values (e ∷ es) (f ∷ fs) s t h =
      let key = first_key e f es fs s t h in
      let value : e.1 ≡ f.1 = ap (λ (o : Option X). unwrap_or o e.1) (sym (first_value e es) ∙ h e.0 ∙ ap (value_in (f ∷ fs)) key ∙ first_value f fs) in
      let rest = same_values es fs (sorted_tail nat_cmp e.0 (keys_of es) s) (sorted_tail nat_cmp f.0 (keys_of fs) t) (λ k. elim (cases_Bool (is_at (nat_cmp k) e.0)) [
        | inl here ↦ none_behind e es k s here ∙ sym (none_behind f fs k t (rw key at here))
        | inr later ↦ sym (lookup_tail (is_at (nat_cmp k)) e es later) ∙ h k ∙ lookup_tail (is_at (nat_cmp k)) f fs (rw key at later)
      ]) in
      λ i. (key i, value i) ∷ rest i

  -- a range that was put in is taken out again
  pub put_back : (es fs gs : List (ℕ × X)) (x : X) (first count : ℕ) → IsStrictlySortedBy nat_cmp (keys_of es) → IsStrictlySortedBy nat_cmp (keys_of gs)
      → ((k : ℕ) → is_in_range first count k ≡ true → lookup (is_at (nat_cmp k)) es ≡ None)
      → ((k : ℕ) → lookup (is_at (nat_cmp k)) fs ≡ (if is_in_range first count k then Some x else lookup (is_at (nat_cmp k)) es))
      → ((k : ℕ) → lookup (is_at (nat_cmp k)) gs ≡ (if is_in_range first count k then None else lookup (is_at (nat_cmp k)) fs)) → gs ≡ es
  put_back es fs gs x first count sorted after fresh added gone = same_values gs es after sorted (λ k. elim (cases_Bool (is_in_range first count k)) [
    | inl inside ↦ rw inside at (gone k) ∙ sym (fresh k inside)
    | inr outside ↦ rw outside at (gone k) ∙ rw outside at (added k)
  ])

  -- if there are none, none is left
  pub none_left : (es : List (ℕ × X)) (first count : ℕ) → length es ≡ 0 → (k : ℕ) → lookup (is_at (nat_cmp k)) es ≡ (if is_in_range first count k then None else lookup (is_at (nat_cmp k)) es)
  none_left [] first count none k = elim (cases_Bool (is_in_range first count k)) [
    | inl inside ↦ rw inside refl
    | inr outside ↦ rw outside refl
  ]
  none_left (e ∷ es) first count none k = absurd (omega (arith, none))
