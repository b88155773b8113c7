-- What is told of a line is wrong with it.
use Rattle.std.proofs.Common.{◌≡◌, ℕ, ◌+◌, ◌^◌, ◌<◌, ◌≤◌, nat_lt, true, false, List, [], ◌∷◌, ◌++◌, length, refl, sym, ap, ◌∙◌, arith, inl, inr, Result, Ok, Err, subst, slice_get}
use Rattle.std.proofs.lemmas.Bool.{cases_lt, lt-ltb, le-ltb}
use Rattle.std.proofs.lemmas.Option.{slice_get_within}
use Rattle.qh_base.proofs.Varints.{IsBytes}
use Rattle.qh_spec.specs.Fields.{Field}
use Rattle.qh_spec.specs.StaticTable.{static_table}
use Rattle.qh_spec.specs.PrefixInteger.{IsPrefixed}
use Rattle.qh_spec.specs.Section.{Form, Indexed, Named, NamedNever, Literal, LiteralNever, lead_of, bits_of}
use Rattle.qh_qpack.specs.declared.decoder.DecoderError.{DecoderError}
use Rattle.qh_qpack.specs.declared.decoder.DecoderError.TheVariants.{Malformed, Huffman, Dynamic}
use Rattle.qh_qpack.specs.SectionAt.{prefixed_at, counted, plain_at, string_at, indexed_at, named_at, literal_at, form_line_at, line_at}
use Rattle.qh_qpack.specs.SectionFault.{IsBeforeValue, HasHuffmanValue, HasHuffman, HasDynamic, BeginsLine, IsLineFault}
use Rattle.qh_qpack.proofs.LineAgain.{form_found, huffman_byte, dynamic_byte, line_again, huffman_again, dynamic_again}
use Rattle.qh_qpack.proofs.LineTakes.{Front, FirstByte, is_form, is_huffman, is_dynamic, first_byte, prefixed_takes, counted_takes, then_err, or_err, plain_err}

-- what may be told of a line: bytes that no line begins may be told to be malformed
data Told (bytes : List ℕ) : DecoderError → Type 0 where
  malformed : Told bytes Malformed
  huffman : HasHuffman bytes → Told bytes Huffman
  dynamic : HasDynamic bytes → Told bytes Dynamic

is_malformed : (bytes : List ℕ) (e : DecoderError) → Malformed ≡ e → Told bytes e
is_malformed bytes e h = subst (Told bytes) h malformed

-- what a string tells
data StringTold (bytes : List ℕ) : DecoderError → Type 0 where
  string_malformed : StringTold bytes Malformed
  compressed : (b : ℕ) (bs : List ℕ) → bytes ≡ b ∷ bs → 128 ≤ b → StringTold bytes Huffman

string_tells : (bytes : List ℕ) (e : DecoderError) → string_at bytes ≡ Err e → StringTold bytes e
string_tells [] e h = let same : Malformed ≡ e = cc in subst (StringTold []) same string_malformed
string_tells (b ∷ bs) e h =
    elim (cases_lt b 128) [
      | inl t ↦
          let u : nat_lt b 128 ≡ true = lt-ltb b 128 t in
          subst (StringTold (b ∷ bs)) (or_err (plain_at (b ∷ bs)) Malformed e (rw u at h)) string_malformed
      | inr t ↦
          let u : nat_lt b 128 ≡ false = le-ltb b 128 t in
          let d = rw u at h in
          let same : Huffman ≡ e = cc in
          subst (StringTold (b ∷ bs)) same (compressed b bs refl t)
    ]

-- what follows the integer of a line tells
data RestTold (form : Form) (n : ℕ) (bytes : List ℕ) : DecoderError → Type 0 where
  rest_malformed : RestTold form n bytes Malformed
  rest_compressed : (name : List ℕ) (b : ℕ) (bs : List ℕ) → bytes ≡ name ++ b ∷ bs → IsBeforeValue form n name → 128 ≤ b → RestTold form n bytes Huffman

rest_is : (form : Form) (n : ℕ) (bytes : List ℕ) (e : DecoderError) → Malformed ≡ e → RestTold form n bytes e
rest_is form n bytes e h = subst (RestTold form n bytes) h rest_malformed

value_told : (form : Form) (n : ℕ) (bytes name after : List ℕ) (e : DecoderError) → bytes ≡ name ++ after → IsBeforeValue form n name → StringTold after e → RestTold form n bytes e
value_told form n bytes name after e w before string_malformed = rest_malformed
value_told form n bytes name after e w before (compressed b bs is set) = rest_compressed name b bs (w ∙ ap (λ (z : List ℕ). name ++ z) is) before set

named_tells : (form : Form) (n : ℕ) (bytes : List ℕ) (e : DecoderError) → (n < length static_table → IsBeforeValue form n []) → named_at n bytes ≡ Err e → RestTold form n bytes e
named_tells form n bytes e before h =
    elim (plain_err (slice_get static_table n) Malformed _ e h) [
      | inl m ↦ rest_is form n bytes e m
      | inr row ↦
          elim (then_err (string_at bytes) _ e row.2) [
            | inl t ↦ value_told form n bytes [] bytes e refl (before (slice_get_within static_table n row.0 row.1)) (string_tells bytes e t)
            | inr t ↦ let wrong = t.2 in cc
          ]
    ]

literal_tells : (form : Form) (n : ℕ) (bytes : List ℕ) (e : DecoderError) → IsBytes bytes → ((name : List ℕ) → n ≡ length name → IsBeforeValue form n name) → literal_at n bytes ≡ Err e → RestTold form n bytes e
literal_tells form n bytes e are before h =
    elim (plain_err (counted n bytes) Malformed _ e h) [
      | inl m ↦ rest_is form n bytes e m
      | inr name ↦
          let c = counted_takes n bytes name.0.0 name.0.1 are name.1 in
          elim (then_err (string_at name.0.1) _ e name.2) [
            | inl t ↦ value_told form n bytes name.0.0 name.0.1 e c.0 (before name.0.0 c.1) (string_tells name.0.1 e t)
            | inr t ↦ let wrong = t.2 in cc
          ]
    ]

indexed_tells : (form : Form) (n : ℕ) (bytes : List ℕ) (e : DecoderError) → indexed_at n bytes ≡ Err e → RestTold form n bytes e
indexed_tells form n bytes e h =
    elim (plain_err (slice_get static_table n) Malformed _ e h) [
      | inl m ↦ rest_is form n bytes e m
      | inr row ↦ let wrong = row.2 in cc
    ]

-- the integer, and what is told behind it
told_behind : (form : Form) (bytes mid : List ℕ) (n : ℕ) (e : DecoderError) → (b : ℕ) (bs : List ℕ) → bytes ≡ b ∷ bs → Front (λ a. IsPrefixed (lead_of form) (bits_of form) a n) bytes mid → RestTold form n mid e
    → Told bytes e
told_behind form bytes mid n e b bs is i rest_malformed = malformed
told_behind form bytes mid n e b bs is i (rest_compressed name first rest w before set) =
    let value : HasHuffmanValue bytes =
    record { form = form; start = i.front; number = n; name = name; first = first; rest = rest; whole = i.whole ∙ ap (λ (z : List ℕ). i.front ++ z) w; integer = i.is; before = before; set = set } in
    huffman (subst HasHuffman (sym is) (inr (subst HasHuffmanValue is value)))

form_tells : (form : Form) (b : ℕ) (bs : List ℕ) (e : DecoderError) → IsBytes (b ∷ bs) → lead_of form ≤ b → b < lead_of form + 2 ^ bits_of form → form_line_at form (b ∷ bs) ≡ Err e → Told (b ∷ bs) e
form_tells Indexed b bs e are low high h =
    elim (plain_err (prefixed_at 192 64 (b ∷ bs)) Malformed _ e h) [
      | inl m ↦ is_malformed (b ∷ bs) e m
      | inr s ↦
          let n = prefixed_takes 192 6 b bs s.0.1 s.0.0 are low high s.1 in
          told_behind Indexed (b ∷ bs) s.0.1 s.0.0 e b bs refl n (indexed_tells Indexed s.0.0 s.0.1 e s.2)
    ]
form_tells Named b bs e are low high h =
    elim (plain_err (prefixed_at 80 16 (b ∷ bs)) Malformed _ e h) [
      | inl m ↦ is_malformed (b ∷ bs) e m
      | inr s ↦
          let n = prefixed_takes 80 4 b bs s.0.1 s.0.0 are low high s.1 in
          told_behind Named (b ∷ bs) s.0.1 s.0.0 e b bs refl n (named_tells Named s.0.0 s.0.1 e (λ l. (refl, l)) s.2)
    ]
form_tells NamedNever b bs e are low high h =
    elim (plain_err (prefixed_at 112 16 (b ∷ bs)) Malformed _ e h) [
      | inl m ↦ is_malformed (b ∷ bs) e m
      | inr s ↦
          let n = prefixed_takes 112 4 b bs s.0.1 s.0.0 are low high s.1 in
          told_behind NamedNever (b ∷ bs) s.0.1 s.0.0 e b bs refl n (named_tells NamedNever s.0.0 s.0.1 e (λ l. (refl, l)) s.2)
    ]
form_tells Literal b bs e are low high h =
    elim (plain_err (prefixed_at 32 8 (b ∷ bs)) Malformed _ e h) [
      | inl m ↦ is_malformed (b ∷ bs) e m
      | inr s ↦
          let n = prefixed_takes 32 3 b bs s.0.1 s.0.0 are low high s.1 in
          told_behind Literal (b ∷ bs) s.0.1 s.0.0 e b bs refl n (literal_tells Literal s.0.0 s.0.1 e n.rest_are (λ name l. l) s.2)
    ]
form_tells LiteralNever b bs e are low high h =
    elim (plain_err (prefixed_at 48 8 (b ∷ bs)) Malformed _ e h) [
      | inl m ↦ is_malformed (b ∷ bs) e m
      | inr s ↦
          let n = prefixed_takes 48 3 b bs s.0.1 s.0.0 are low high s.1 in
          told_behind LiteralNever (b ∷ bs) s.0.1 s.0.0 e b bs refl n (literal_tells LiteralNever s.0.0 s.0.1 e n.rest_are (λ name l. l) s.2)
    ]

cell_tells : (b : ℕ) (bs : List ℕ) (e : DecoderError) → IsBytes (b ∷ bs) → FirstByte b → line_at (b ∷ bs) ≡ Err e → Told (b ∷ bs) e
cell_tells b bs e are (is_form form low high) h = let d : form_line_at form (b ∷ bs) ≡ Err e = rw (form_found form b low high) at h in form_tells form b bs e are low high d
cell_tells b bs e are (is_huffman p) h = let d = rw (huffman_byte b p) at h in let same : Huffman ≡ e = cc in subst (Told (b ∷ bs)) same (huffman (inl p))
cell_tells b bs e are (is_dynamic p) h = let d = rw (dynamic_byte b p) at h in let same : Dynamic ≡ e = cc in subst (Told (b ∷ bs)) same (dynamic p)

line_tells : (bytes : List ℕ) (e : DecoderError) → IsBytes bytes → line_at bytes ≡ Err e → Told bytes e
line_tells [] e are h = is_malformed [] e cc
line_tells (b ∷ bs) e are h = let small = are 0 in cell_tells b bs e are (first_byte b (omega (arith, small))) h

begins_none : (bytes : List ℕ) (f : Field) (e : DecoderError) → line_at bytes ≡ Err e → BeginsLine bytes f → ⊥
begins_none bytes f e h l =
    let both : ◌≡◌ {A = Result (Field × List ℕ) DecoderError} (Err e) (Ok (f, l.rest)) = sym h ∙ ap line_at l.whole ∙ line_again l.line l.rest f l.is_line in
    cc

told_fault : (max_size : ℕ) (front : List Field) (bytes : List ℕ) (e : DecoderError) → line_at bytes ≡ Err e → Told bytes e → IsLineFault max_size front bytes e
told_fault max_size front bytes e h malformed = (
  λ d. let both : ◌≡◌ {A = Result (Field × List ℕ) DecoderError} (Err Malformed) (Err Dynamic) = sym h ∙ dynamic_again bytes d in cc,
  λ u. let both : ◌≡◌ {A = Result (Field × List ℕ) DecoderError} (Err Malformed) (Err Huffman) = sym h ∙ huffman_again bytes u in cc,
  λ f l. begins_none bytes f Malformed h l,
)
told_fault max_size front bytes e h (huffman u) = u
told_fault max_size front bytes e h (dynamic d) = d

-- what is told of a line is wrong with it
pub line_fault : (max_size : ℕ) (front : List Field) (bytes : List ℕ) (e : DecoderError) → IsBytes bytes → line_at bytes ≡ Err e → IsLineFault max_size front bytes e
line_fault max_size front bytes e are h = told_fault max_size front bytes e h (line_tells bytes e are h)
