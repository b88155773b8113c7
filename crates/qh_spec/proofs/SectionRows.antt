-- A worked section, and the size of the static table.
use Rattle.std.proofs.Common.{◌≡◌, ℕ, ◌+◌, ◌^◌, ◌<◌, List, [], ◌∷◌, ◌++◌, length, Option, Some, None, refl, sym, ap, ◌∙◌, arith, subst, append_assoc, get_or, drop}
use Rattle.std.specs.Prelude.{codes, slice_get}
use Rattle.qh_spec.specs.Fields.{Field}
use Rattle.qh_spec.specs.PrefixInteger.{IsPrefixed, short, long}
use Rattle.qh_spec.specs.Section.{Form, Indexed, Named, lead_of, bits_of, FollowsInteger, IsLine, AreLines, IsSection}
use Rattle.qh_spec.specs.StaticTable.{static_table}
use Rattle.qh_spec.specs.WireRows.{get_fields, get_section}
use Rattle.qh_spec.proofs.Cuts.{prefixed_agree}
use Rattle.qh_spec.proofs.SectionLaws.{form_at, form_is}

pub indexed : (n : ℕ) (f : Field) → n + 1 < 2 ^ 6 → slice_get static_table n ≡ Some f → IsLine ((192 + n) ∷ []) f
indexed n f small is = record { form = Indexed; start = (192 + n) ∷ []; number = n; rest = []; whole = refl; integer = short small refl; follows = (refl, is) }

row_17 : slice_get static_table 17 ≡ Some (record { name = codes ":method"; value = codes "GET" })
unfolding static_table
row_17 = refl

row_23 : slice_get static_table 23 ≡ Some (record { name = codes ":scheme"; value = codes "https" })
unfolding static_table
row_23 = refl

row_1 : slice_get static_table 1 ≡ Some (record { name = codes ":path"; value = codes "/" })
unfolding static_table
row_1 = refl

row_0 : slice_get static_table 0 ≡ Some (record { name = codes ":authority"; value = codes "" })
unfolding static_table
row_0 = refl

pub table_size : length static_table ≡ 99
unfolding static_table
table_size = refl

a_test : IsLine (80 ∷ 6 ∷ 97 ∷ 46 ∷ 116 ∷ 101 ∷ 115 ∷ 116 ∷ []) (record { name = codes ":authority"; value = codes "a.test" })
a_test = record {
  form = Named;
  start = 80 ∷ [];
  number = 0;
  rest = 6 ∷ 97 ∷ 46 ∷ 116 ∷ 101 ∷ 115 ∷ 116 ∷ [];
  whole = refl;
  integer = short (omega arith) refl;
  follows = record {
    row = record { name = codes ":authority"; value = codes "" };
    found = row_0;
    name = refl;
    value = record { start = 6 ∷ []; whole = refl; count = short (omega arith) refl };
  };
}

pub get_section_is : IsSection get_section get_fields
get_section_is = (
  _,
  refl,
  (
    209 ∷ [],
    _,
    refl,
    indexed 17 _ (omega arith) row_17,
    (
      215 ∷ [],
      _,
      refl,
      indexed 23 _ (omega arith) row_23,
      (
        80 ∷ 6 ∷ 97 ∷ 46 ∷ 116 ∷ 101 ∷ 115 ∷ 116 ∷ [],
        _,
        refl,
        a_test,
        (193 ∷ [], [], refl, indexed 1 _ (omega arith) row_1, refl),
      ),
    ),
  ),
)

past_table : slice_get static_table 99 ≡ None
unfolding static_table
past_table = refl

ninety_nine : IsPrefixed 192 6 (255 ∷ 36 ∷ []) 99
ninety_nine = long (36 ∷ []) 36 refl (omega arith, refl) (omega arith) (omega arith)

first_is_indexed : form_at 255 ≡ Indexed
unfolding form_at
first_is_indexed = refl

no_row : (form : Form) → form ≡ Indexed → (start rest after : List ℕ) (n : ℕ) (f : Field) → IsPrefixed (lead_of form) (bits_of form) start n → FollowsInteger form n rest f
    → (255 ∷ 36 ∷ []) ≡ start ++ (rest ++ after) → ⊥
no_row form same start rest after n f p q e =
    let p' : IsPrefixed 192 6 start n = subst (λ (z : Form). IsPrefixed (lead_of z) (bits_of z) start n) same p in
    let q' = subst (λ (z : Form). FollowsInteger z n rest f) same q in
    let r = prefixed_agree 192 6 (255 ∷ 36 ∷ []) [] start (rest ++ after) 99 n ninety_nine p' e in
    let row : ◌≡◌ {A = Option Field} None (Some f) = sym past_table ∙ ap (slice_get static_table) r.0 ∙ q'.1 in
    cc

no_lines : (fs : List Field) → AreLines (255 ∷ 36 ∷ []) fs → ⊥
no_lines [] h = cc
no_lines (f ∷ fs) h =
    let line = h.3 in
    let e : (255 ∷ 36 ∷ []) ≡ line.start ++ (line.rest ++ h.1) = h.2 ∙ ap (λ (z : List ℕ). z ++ h.1) line.whole ∙ append_assoc line.start line.rest h.1 in
    let form : line.form ≡ Indexed
    = sym (form_is line.form line.start (line.rest ++ h.1) line.number line.integer) ∙ ap (λ (z : List ℕ). form_at (get_or z 0 0)) (sym e) ∙ first_is_indexed in
    no_row line.form form line.start line.rest h.1 line.number f line.integer line.follows e

-- a line with the index 99
pub past_table_none : (fs : List Field) → IsSection (0 ∷ 0 ∷ 255 ∷ 36 ∷ []) fs → ⊥
past_table_none fs p =
    let both : 0 ∷ 0 ∷ 255 ∷ 36 ∷ [] ≡ 0 ∷ 0 ∷ p.0 = p.1 in
    let lines : 255 ∷ 36 ∷ [] ≡ p.0 = ap (λ (z : List ℕ). drop 2 z) both in
    no_lines fs (subst (λ (z : List ℕ). AreLines z fs) (sym lines) p.2)
