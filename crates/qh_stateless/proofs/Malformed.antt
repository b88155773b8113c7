-- A header is malformed exactly if something is wrong with it.
use Rattle.std.proofs.Common.{◌≡◌, ◌≢◌, ℕ, zero, suc, ◌+◌, ◌<◌, ◌≤◌, ◌^◌, ◌/◌, ◌%◌, Bool, true, false, List, [], ◌∷◌, ◌++◌, length, get_or, take, drop, refl, sym, ap, ◌∙◌, arith, subst, inl, inr, length-append}
use Rattle.std.proofs.lemmas.Bool.{cases_Bool, cases_lt, eqb-true}
use Rattle.std.proofs.lemmas.Cmp.{nat_eq_equiv}
use Rattle.std.proofs.lemmas.List.{length-take-le, take-append-drop}
use Rattle.std.proofs.lemmas.Map.Views.{Contains-from_any, list_any-from_Contains}
use Rattle.std.proofs.lemmas.Nat.{be_bytes_4}
use Rattle.std.specs.Int.{w32, from_be_bytes, to_be_bytes}
use Rattle.std.specs.List.{AllByRecursion, list_any}
use Rattle.std.specs.Prelude.{◌⊎◌, Contains, nat_eq}
use Rattle.qh_base.proofs.Varints.{IsBytes}
use Rattle.qh_packet.proofs.LongHeaders.{after_id, ids_bytes, long_whole}
use Rattle.qh_spec.proofs.Cuts.{halves}
use Rattle.qh_stateless.specs.Header as header
use Rattle.qh_stateless.specs.Header.{IsBadId, no_length, cut, too_long, IsFixed, IsHeader, IsListed, IsLong, IsMalformed, IsShort, IsTokenAndBody, IsWrong, is_empty, has_no_bit, is_short_cut, is_long_cut, has_bad_destination, has_bad_source, has_cut_token, type_of}
use Rattle.qh_stateless.proofs.Headers.{HasLong, empty_malformed, first_of, neither, no_short, short_first, token_cut}

-- ---- what is wrong makes it malformed

not_fixed : (first first' : ℕ) → first ≡ first' → first / 64 % 2 ≡ 0 → IsFixed false first' → ⊥
not_fixed first first' same unset (inl e) = cc
not_fixed first first' same unset (inr e) = omega (arith, same, unset, e)

no_bit : (n first : ℕ) (vs rest : List ℕ) → first / 64 % 2 ≡ 0 → IsMalformed n vs false (first ∷ rest)
no_bit n first vs rest unset =
    neither n vs false (first ∷ rest) (λ l. not_fixed first l.first (first_of false (first ∷ rest) l.first l.version l.destination l.source l.rest l.long) unset l.long.fixed)
    (λ first' d i. not_fixed first first' (ap (λ (z : List ℕ). get_or z 0 0) i.whole) unset i.fixed)

bad_short : (n first : ℕ) (vs : List ℕ) (g : Bool) (rest : List ℕ) → first < 128 → (length (first ∷ rest) < 1 + n) ⊎ (20 < n) → IsMalformed n vs g (first ∷ rest)
bad_short n first vs g rest low (inl few) =
    no_short n vs g (first ∷ rest) low (λ first' d i.
    let size = ap length i.whole in
    let sum = length-append d i.rest in
    let is = i.length_is in
    omega (arith, size, sum, is, few))
bad_short n first vs g rest low (inr big) =
    no_short n vs g (first ∷ rest) low (λ first' d i.
    let is = i.length_is in
    let fits = i.destination_fits in
    omega (arith, is, fits, big))

-- what stands behind a version of four bytes
behind_version : (g : Bool) (first : ℕ) (version ids : List ℕ) → length version ≡ 4 → (l : HasLong g (first ∷ (version ++ ids))) → ids ≡ ids_bytes l.destination l.source l.rest
behind_version g first version ids four l =
    let e : first ∷ (version ++ ids) ≡ l.first ∷ (to_be_bytes w32 l.version ++ ids_bytes l.destination l.source l.rest) = l.long.whole ∙ long_whole l.first l.version l.destination l.source l.rest in
    (halves version ids (to_be_bytes w32 l.version) (ids_bytes l.destination l.source l.rest) four (ap (λ (z : List ℕ). drop 1 z) e)).1

bad_id : (ids id more : List ℕ) → IsBadId ids → ids ≡ length id ∷ (id ++ more) → length id ≤ 20 → ⊥
bad_id ids id more (no_length none) e fits = let size = ap length (sym none ∙ e) in omega (arith, size)
bad_id ids id more (cut size rest is few) e fits =
    let both : size ∷ rest ≡ length id ∷ (id ++ more) = sym is ∙ e in
    let same : size ≡ length id = ap (λ (z : List ℕ). get_or z 0 0) both in
    let all : length rest ≡ length (id ++ more) = ap (λ (z : List ℕ). length (drop 1 z)) both in
    let sum = length-append id more in
    omega (arith, same, all, sum, few)
bad_id ids id more (too_long size rest is big) e fits =
    let same : size ≡ length id = ap (λ (z : List ℕ). get_or z 0 0) (sym is ∙ e) in
    omega (arith, same, fits, big)

bad_destination : (n first : ℕ) (vs : List ℕ) (g : Bool) (version ids : List ℕ) → 128 ≤ first → length version ≡ 4 → IsBadId ids → IsMalformed n vs g (first ∷ (version ++ ids))
bad_destination n first vs g version ids high four bad =
    neither n vs g (first ∷ (version ++ ids)) (λ l. bad_id ids l.destination (length l.source ∷ (l.source ++ l.rest)) bad (behind_version g first version ids four l) l.long.destination_fits)
    (λ first' d i. let low = short_first n g (first ∷ (version ++ ids)) first' d i in omega (arith, low, high))

bad_source : (n first : ℕ) (vs : List ℕ) (g : Bool) (version d ids : List ℕ) → 128 ≤ first → length version ≡ 4 → IsBadId ids → IsMalformed n vs g (first ∷ (version ++ (length d ∷ (d ++ ids))))
bad_source n first vs g version d ids high four bad =
    neither n vs g (first ∷ (version ++ (length d ∷ (d ++ ids)))) (λ l.
    let behind = after_id d ids l.destination (length l.source ∷ (l.source ++ l.rest)) (behind_version g first version (length d ∷ (d ++ ids)) four l) in
    bad_id ids l.source l.rest bad behind.1 l.long.source_fits)
    (λ first' d' i. let low = short_first n g (first ∷ (version ++ (length d ∷ (d ++ ids)))) first' d' i in omega (arith, low, high))

bad_long : (n first : ℕ) (vs : List ℕ) (g : Bool) (rest : List ℕ) → 128 ≤ first → length rest < 4 → IsMalformed n vs g (first ∷ rest)
bad_long n first vs g rest high few =
    neither n vs g (first ∷ rest) (λ l.
    let e = ap length (l.long.whole ∙ long_whole l.first l.version l.destination l.source l.rest) in
    omega (arith, e, few))
    (λ first' d i. let low = short_first n g (first ∷ rest) first' d i in omega (arith, low, high))

pub is_malformed : (n : ℕ) (vs : List ℕ) (g : Bool) (dg : List ℕ) → IsWrong n vs g dg → IsMalformed n vs g dg
is_malformed n vs g dg (is_empty e) = empty_malformed n vs g dg (ap length e)
is_malformed n vs g dg (has_no_bit first rest e g_is unset) =
    subst (λ (z : Bool). IsMalformed n vs z dg) (sym g_is) (subst (λ (z : List ℕ). IsMalformed n vs false z) (sym e) (no_bit n first vs rest unset))
is_malformed n vs g dg (is_short_cut first rest e low why) =
    subst (λ (z : List ℕ). IsMalformed n vs g z) (sym e) (bad_short n first vs g rest low (subst (λ (z : List ℕ). (length z < 1 + n) ⊎ (20 < n)) e why))
is_malformed n vs g dg (is_long_cut first rest e high few) = subst (λ (z : List ℕ). IsMalformed n vs g z) (sym e) (bad_long n first vs g rest high few)
is_malformed n vs g dg (has_bad_destination first version ids e high four bad) = subst (λ (z : List ℕ). IsMalformed n vs g z) (sym e) (bad_destination n first vs g version ids high four bad)
is_malformed n vs g dg (has_bad_source first version d ids e high four bad) = subst (λ (z : List ℕ). IsMalformed n vs g z) (sym e) (bad_source n first vs g version d ids high four bad)
is_malformed n vs g dg (has_cut_token first version d s rest h listed initial none) = token_cut n vs g dg first version d s rest h listed initial none

-- ---- and nothing else does

bytes_of : (xs : List ℕ) → AllByRecursion (λ b. b < 256) xs → IsBytes xs
bytes_of [] all i = omega arith
bytes_of (x ∷ xs) all zero = all.0
bytes_of (x ∷ xs) all (suc i) = bytes_of xs all.1 i

-- an id is read, or it is a bad one
pub record IsId (bytes : List ℕ) : Type 0 where
  pub id : List ℕ
  pub rest : List ℕ
  pub whole : bytes ≡ length id ∷ (id ++ rest)
  pub fits : length id ≤ 20

read_id : (bytes : List ℕ) → IsBadId bytes ⊎ IsId bytes
read_id [] = inl (no_length refl)
read_id (size ∷ rest) =
    elim (cases_lt 20 size) [
      | inl big ↦ inl (too_long size rest refl big)
      | inr fits ↦ elim (cases_lt (length rest) size) [
        | inl few ↦ inl (cut size rest refl few)
        | inr there ↦
            let same : length (take size rest) ≡ size = length-take-le size rest there in
            inr (record {
              id = take size rest;
              rest = drop size rest;
              whole = ap (λ (n : ℕ). n ∷ rest) (sym same) ∙ ap (λ (z : List ℕ). length (take size rest) ∷ z) (sym (take-append-drop size rest));
              fits = omega (arith, same, fits);
            })
      ]
    ]

listed_or_not : (vs : List ℕ) (version : ℕ) → Contains vs version ⊎ (Contains vs version → ⊥)
listed_or_not vs version =
    elim (cases_Bool (list_any (nat_eq version) vs)) [
      | inl found ↦ inl (Contains-from_any eqb-true version vs found)
      | inr missing ↦ inr (λ there.
          let found : list_any (nat_eq version) vs ≡ true = list_any-from_Contains nat_eq_equiv version vs there in
          let both : false ≡ true = sym missing ∙ found in
          cc)
    ]

module _ (n : ℕ) (vs : List ℕ) (g : Bool) (dg : List ℕ) (m : IsMalformed n vs g dg) where
  -- a long header with these parts
  with_long : (first version : ℕ) (d s rest : List ℕ) → IsLong g dg first version d s rest → IsWrong n vs g dg
  with_long first version d s rest h =
      elim (cases_lt version 1) [
        | inl none ↦ absurd (m.no_header (header.Long version d s) (record { first = first; after_source = rest; long = h; kind = inl (omega (arith, none)) }))
        | inr some ↦
            let other : version ≢ 0 = λ e. omega (arith, some, e) in
            elim (listed_or_not vs version) [
              | inr unlisted ↦ absurd (m.no_version version d s (record { first = first; after_source = rest; long = h; other = other; unlisted = unlisted }))
              | inl there ↦ elim (cases_lt (type_of first) 1) [
                | inl low ↦
                    let initial : type_of first ≡ 0 = omega (arith, low) in
                    has_cut_token first version d s rest h (other, there) initial
                    (λ t is. m.no_header (header.Initial version first d s t) (record { after_source = rest; long = h; listed = (other, there); type_is = initial; token_is = is }))
                | inr more ↦ elim (cases_lt (type_of first) 2) [
                  | inl one ↦ absurd (m.no_header (header.ZeroRtt version d s) (record { first = first; after_source = rest; long = h; listed = (other, there); type_is = omega (arith, more, one) }))
                  | inr two ↦ absurd (m.no_header (header.Long version d s) (record { first = first; after_source = rest; long = h; kind = inr ((other, there), omega (arith, two)) }))
                ]
              ]
            ]
      ]

  -- a short header
  with_short : (first : ℕ) (rest : List ℕ) → dg ≡ first ∷ rest → first < 128 → IsFixed g first → IsWrong n vs g dg
  with_short first rest e low fixed =
      let size = ap length e in
      elim (cases_lt 20 n) [
        | inl big ↦ is_short_cut first rest e low (inr big)
        | inr fits ↦ elim (cases_lt (length rest) n) [
          | inl few ↦ is_short_cut first rest e low (inl (omega (arith, size, few)))
          | inr there ↦
              let same : length (take n rest) ≡ n = length-take-le n rest there in
              absurd (m.no_header (header.Short first (take n rest)) (record {
                rest = drop n rest;
                whole = e ∙ ap (λ (z : List ℕ). first ∷ z) (sym (take-append-drop n rest));
                short_form = low;
                fixed = fixed;
                length_is = same;
                destination_fits = omega (arith, same, fits);
              }))
        ]
      ]

  -- a long one behind its version
  with_ids : (first version : ℕ) (chunk ids : List ℕ) → dg ≡ first ∷ (chunk ++ ids) → 128 ≤ first → first < 256 → IsFixed g first → version < 2 ^ 32 → to_be_bytes w32 version ≡ chunk → length chunk ≡ 4
      → IsWrong n vs g dg
  with_ids first version chunk ids e high fits fixed bound spelled four =
      elim (read_id ids) [
        | inl bad ↦ has_bad_destination first chunk ids e high four bad
        | inr d ↦
            let to_source : dg ≡ first ∷ (chunk ++ (length d.id ∷ (d.id ++ d.rest))) = e ∙ ap (λ (z : List ℕ). first ∷ (chunk ++ z)) d.whole in
            elim (read_id d.rest) [
              | inl bad ↦ has_bad_source first chunk d.id d.rest to_source high four bad
              | inr s ↦ with_long first version d.id s.id s.rest (record {
                whole = to_source ∙ ap (λ (z : List ℕ). first ∷ (chunk ++ (length d.id ∷ (d.id ++ z)))) s.whole
                    ∙ ap (λ (z : List ℕ). first ∷ (z ++ ids_bytes d.id s.id s.rest)) (sym spelled) ∙ sym (long_whole first version d.id s.id s.rest);
                long_form = high;
                fixed = fixed;
                first_fits = fits;
                version_fits = bound;
                destination_fits = d.fits;
                source_fits = s.fits;
              })
            ]
      ]

  with_version : (first : ℕ) (rest : List ℕ) → dg ≡ first ∷ rest → 128 ≤ first → first < 256 → IsFixed g first → AllByRecursion (λ b. b < 256) rest → IsWrong n vs g dg
  with_version first [] e high fits fixed all = is_long_cut first [] e high (omega arith)
  with_version first (a ∷ []) e high fits fixed all = is_long_cut first (a ∷ []) e high (omega arith)
  with_version first (a ∷ b ∷ []) e high fits fixed all = is_long_cut first (a ∷ b ∷ []) e high (omega arith)
  with_version first (a ∷ b ∷ c ∷ []) e high fits fixed all = is_long_cut first (a ∷ b ∷ c ∷ []) e high (omega arith)
  with_version first (a ∷ b ∷ c ∷ d ∷ ids) e high fits fixed all =
      let chunk : List ℕ = a ∷ b ∷ c ∷ d ∷ [] in
      let are : IsBytes chunk = bytes_of chunk (all.0, (all.1.0, (all.1.1.0, (all.1.1.1.0, tt)))) in
      let small_a = all.0 in
      let small_b = all.1.0 in
      let small_c = all.1.1.0 in
      let small_d = all.1.1.1.0 in
      with_ids first (from_be_bytes w32 chunk) chunk ids e high fits fixed (omega (arith, small_a, small_b, small_c, small_d)) (be_bytes_4 chunk (from_be_bytes w32 chunk) refl are refl) refl

  with_fixed : (first : ℕ) (rest : List ℕ) → dg ≡ first ∷ rest → first < 256 → IsFixed g first → AllByRecursion (λ b. b < 256) rest → IsWrong n vs g dg
  with_fixed first rest e fits fixed all =
      elim (cases_lt first 128) [
        | inl low ↦ with_short first rest e low fixed
        | inr high ↦ with_version first rest e high fits fixed all
      ]

  with_first : (first : ℕ) (rest : List ℕ) → dg ≡ first ∷ rest → first < 256 → AllByRecursion (λ b. b < 256) rest → IsWrong n vs g dg
  with_first first rest e fits all =
      elim (cases_Bool g) [
        | inl on ↦ with_fixed first rest e fits (inl on) all
        | inr off ↦ elim (cases_lt (first / 64 % 2) 1) [
          | inl less ↦ has_no_bit first rest e off (omega (arith, less))
          | inr set ↦ with_fixed first rest e fits (inr (omega (arith, set))) all
        ]
      ]

  with_all : (xs : List ℕ) → dg ≡ xs → AllByRecursion (λ b. b < 256) xs → IsWrong n vs g dg
  with_all [] e all = is_empty e
  with_all (first ∷ rest) e all = with_first first rest e all.0 all.1

pub is_wrong : (n : ℕ) (vs : List ℕ) (g : Bool) (dg : List ℕ) → AllByRecursion (λ b. b < 256) dg → IsMalformed n vs g dg → IsWrong n vs g dg
is_wrong n vs g dg all m = with_all n vs g dg m dg refl all
