-- An entry that was put into a map and is taken out of it again.
use Rattle.std.proofs.Common.{◌≡◌, ℕ, true, cond, List, [], ◌∷◌, Some, None, Ordering, Less, Equal, Greater, nat_cmp, is_eq, refl, ap}
use Rattle.std.specs.Ordering.{match_ordering}
use Rattle.std.specs.BTreeMap.{is_at, insert_entry}
use Rattle.std.specs.Map.{lookup, remove_entry}
use Rattle.std.proofs.lemmas.Cmp.{nat_cmp_total, tied_itself}

module _ {X : Type 0} (id : ℕ) (x : X) where
  at_itself : is_at (nat_cmp id) id ≡ true
  at_itself = ap is_eq (tied_itself nat_cmp_total id)

  -- in front of an entry, in its place, or behind it
  removed_at : (o : Ordering) (e : ℕ × X) (es : List (ℕ × X)) → nat_cmp id e.0 ≡ o → cond (is_eq o) (Some e.1) (lookup (is_at (nat_cmp id)) es) ≡ None
      → (lookup (is_at (nat_cmp id)) es ≡ None → remove_entry (is_at (nat_cmp id)) (insert_entry nat_cmp es id x) ≡ es)
      → remove_entry (is_at (nat_cmp id)) (match_ordering o ((id, x) ∷ e ∷ es) ((e.0, x) ∷ es) (e ∷ insert_entry nat_cmp es id x)) ≡ e ∷ es
  removed_at Less e es is none rest = rw at_itself refl
  removed_at Equal e es is none rest = absurd (cc)
  removed_at Greater e es is none rest = rw is (ap (λ (l : List (ℕ × X)). e ∷ l) (rest none))

  pub removed_again : (es : List (ℕ × X)) → lookup (is_at (nat_cmp id)) es ≡ None → remove_entry (is_at (nat_cmp id)) (insert_entry nat_cmp es id x) ≡ es
  removed_again [] none = rw at_itself refl
  removed_again (e ∷ es) none = removed_at (nat_cmp id e.0) e es refl none (removed_again es)
