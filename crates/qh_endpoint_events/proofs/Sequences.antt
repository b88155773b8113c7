-- The ids of a connection by their sequences, when one is put.
use Rattle.std.proofs.Common.{◌≡◌, ◌≢◌, ◌≤◌, arith, ℕ, false, cond, List, [], ◌∷◌, Option, Some, None, refl, sym, ap, ◌∙◌, inl, inr}
use Rattle.std.specs.declared.cmp.Ordering.{Ordering}
use Rattle.std.specs.declared.cmp.Ordering.TheVariants.{Less, Equal, Greater}
use Rattle.std.specs.BTreeMap.{insert_entry, is_at}
use Rattle.std.specs.Map.{lookup}
use Rattle.std.specs.Ordering.{match_ordering, nat_cmp}
use Rattle.std.proofs.lemmas.Bool.{cases_Bool}
use Rattle.std.proofs.lemmas.Map.Lookups.{exact_unsigned}
use Rattle.std.proofs.lemmas.Map.Views.{tells_apart}
use Rattle.qh_connections.specs.Connections.{id_at, with_id}
use Rattle.qh_routes.specs.ConnectionMeta.{PlainMeta}

abbrev Ids : Type 0
Ids = List (ℕ × List ℕ)

-- the id with this sequence
abbrev at : Ids → (sequence : ℕ) → Option (List ℕ)
at es n = lookup (is_at (nat_cmp n)) es

elsewhere : (q n : ℕ) → q ≢ n → is_at (nat_cmp q) n ≡ false
elsewhere q n apart = elim (cases_Bool (is_at (nat_cmp q) n)) [ inl t ↦ absurd (apart (tells_apart exact_unsigned q n t)) | inr f ↦ f ]

other_by : (o : Ordering) (q n : ℕ) (id : List ℕ) (e : ℕ × List ℕ) (es rest : Ids) → q ≢ n → nat_cmp n e.0 ≡ o → at rest q ≡ at es q
    → at (match_ordering o ((n, id) ∷ e ∷ es) ((e.0, id) ∷ es) (e ∷ rest)) q ≡ at (e ∷ es) q
other_by Less q n id e es rest apart is w = ap (λ b. cond b (Some id) (at (e ∷ es) q)) (elsewhere q n apart)
other_by Equal q n id e es rest apart is w =
    let no = elsewhere q e.0 (λ same. apart (same ∙ sym (exact_unsigned n e.0 is))) in
    ap (λ b. cond b (Some id) (at es q)) no ∙ sym (ap (λ b. cond b (Some e.1) (at es q)) no)
other_by Greater q n id e es rest apart is w = ap (cond (is_at (nat_cmp q) e.0) (Some e.1)) w

put_other : (q n : ℕ) (id : List ℕ) (es : Ids) → q ≢ n → at (insert_entry nat_cmp es n id) q ≡ at es q
put_other q n id [] apart = ap (λ b. cond b (Some id) None) (elsewhere q n apart)
put_other q n id (e ∷ es) apart = other_by (nat_cmp n e.0) q n id e es (insert_entry nat_cmp es n id) apart refl (put_other q n id es apart)

-- no sequence that wasn't given yet has an id
abbrev pub IsUnused : PlainMeta → Type 0
IsUnused m = (n : ℕ) → m.cids_issued ≤ n → id_at m n ≡ None

pub still_unused : (m : PlainMeta) (id : List ℕ) → IsUnused m → IsUnused (with_id m id)
still_unused m id unused n above = put_other n m.cids_issued id m.loc_cids (λ e. omega (arith, above, e)) ∙ unused n (omega (arith, above))

-- an id that it had is its yet
pub had_yet : (m : PlainMeta) (id had : List ℕ) (sequence : ℕ) → IsUnused m → id_at m sequence ≡ Some had → id_at (with_id m id) sequence ≡ Some had
had_yet m id had sequence unused is =
    put_other sequence m.cids_issued id m.loc_cids (λ e. let no : ◌≡◌ {A = Option (List ℕ)} None (Some had) = sym (unused sequence (omega (arith, e))) ∙ is in cc) ∙ is
