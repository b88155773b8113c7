-- What is read as a line is spelled so.
use Rattle.std.proofs.Common.{◌≡◌, ℕ, suc, ◌+◌, ◌-◌, ◌*◌, ◌%◌, ◌^◌, ◌<◌, ◌≤◌, nat_lt, true, false, if◌then◌else◌, List, [], ◌∷◌, ◌++◌, length, take, drop, refl, sym, ap, ◌∙◌, arith, inl, inr, Option, Some, None, Result, Ok, Err, subst, append_assoc, slice_get}
use Rattle.std.specs.Prelude.{◌⊎◌}
use Rattle.std.specs.Option.{ok_or}
use Rattle.std.proofs.lemmas.Bool.{cases_lt, lt-ltb, le-ltb}
use Rattle.std.proofs.lemmas.List.{get_or-drop, take-append-drop, length-take-le}
use Rattle.std.proofs.lemmas.Nat.{pow_pos}
use Rattle.qh_base.proofs.Varints.{IsBytes}
use Rattle.qh_spec.specs.Fields.{Field}
use Rattle.qh_spec.specs.StaticTable.{static_table}
use Rattle.qh_spec.specs.PrefixInteger.{IsContinued, IsPrefixed, short, long}
use Rattle.qh_spec.specs.Section.{Form, Indexed, Named, NamedNever, Literal, LiteralNever, lead_of, bits_of, IsString, IsNamedField, IsLiteralField, FollowsInteger, IsLine}
use Rattle.qh_qpack.specs.declared.decoder.DecoderError.{DecoderError}
use Rattle.qh_qpack.specs.declared.decoder.DecoderError.TheVariants.{Malformed}
use Rattle.qh_qpack.specs.Chain.{◌>>=◌, ◌|>◌}
use Rattle.qh_qpack.specs.SectionAt.{below_limit, septet_added, next_weight, continued_from, prefixed_at, counted, plain_at, string_at, indexed_at, named_at, literal_at, form_line_at, line_at}
use Rattle.qh_qpack.specs.SectionFault.{IsDynamicByte, IsHuffmanByte}
use Rattle.qh_qpack.proofs.LineAgain.{form_found, huffman_byte, dynamic_byte}
use Rattle.qh_qpack.proofs.Weights.{low_bits, high_bits, weighed_back, weight_one}

bind_some : {A B : Type 0} (r : Option A) (f : A → Option B) (y : B) → (r >>= f) ≡ Some y → (x : A) × (r ≡ Some x) × (f x ≡ Some y)
bind_some None f y h = cc
bind_some (Some x) f y h = (x, refl, h)

pair_is : {A B : Type 0} (a c : A) (b d : B) → ◌≡◌ {A = Option (A × B)} (Some (a, b)) (Some (c, d)) → (a ≡ c) × (b ≡ d)
pair_is {A = A} {B = B} a c b d e =
    let same : ◌≡◌ {A = A × B} (a, b) (c, d) = cc in
    (ap (λ (z : A × B). z.0) same, ap (λ (z : A × B). z.1) same)

below_some : (n m : ℕ) → below_limit n ≡ Some m → (n < 2 ^ 63) × (n ≡ m)
below_some n m h =
    elim (cases_lt n (2 ^ 63)) [
      | inl t ↦ let u : nat_lt n (2 ^ 63) ≡ true = lt-ltb n (2 ^ 63) t in let e = rw u at h in (t, cc)
      | inr t ↦ let u : nat_lt n (2 ^ 63) ≡ false = le-ltb n (2 ^ 63) t in let e = rw u at h in cc
    ]

-- a front of a front, and what follows it
join_fronts : (bytes mid rest a b : List ℕ) → bytes ≡ a ++ mid → mid ≡ b ++ rest → bytes ≡ (a ++ b) ++ rest
join_fronts bytes mid rest a b e f = e ∙ ap (λ (z : List ℕ). a ++ z) f ∙ sym (append_assoc a b rest)

ends_in : (bytes after rest a : List ℕ) → bytes ≡ a ++ after → after ≡ rest → bytes ≡ a ++ rest
ends_in bytes after rest a e f = e ∙ ap (λ (z : List ℕ). a ++ z) f

tail_bytes : (b : ℕ) (bs : List ℕ) → IsBytes (b ∷ bs) → IsBytes bs
tail_bytes b bs are i = are (suc i)

rest_bytes : (k : ℕ) (bytes : List ℕ) → IsBytes bytes → IsBytes (drop k bytes)
rest_bytes k bytes are i = let e = get_or-drop k bytes i 0 in omega (arith, are (k + i))

-- the bytes are a front of some kind and the rest
pub record Front (P : List ℕ → Type 0) (bytes rest : List ℕ) : Type 0 where
  pub front : List ℕ
  pub whole : bytes ≡ front ++ rest
  pub is : P front
  pub rest_are : IsBytes rest

more_continued : (b n high : ℕ) (front : List ℕ) → 128 ≤ b → b < 256 → n + 128 ≡ b + 128 * high → IsContinued front high → IsContinued (b ∷ front) n
more_continued b n high [] l h e p = absurd p
more_continued b n high (c ∷ front) l h e p = (l, h, high, e, p)

-- a number that goes on, and what it comes to with its weight
record Continues (value w : ℕ) (bytes rest : List ℕ) (m : ℕ) : Type 0 where
  front : List ℕ
  number : ℕ
  whole : bytes ≡ front ++ rest
  is : IsContinued front number
  sum : m ≡ value + number * w
  small : m < 2 ^ 63
  rest_are : IsBytes rest

last_read : (n w b : ℕ) (bs rest : List ℕ) (m : ℕ) → b < 128 → (if nat_lt b 128 then Some (n, bs) else continued_from n (next_weight w) bs) ≡ Some (m, rest) → (n ≡ m) × (bs ≡ rest)
last_read n w b bs rest m t h = let u : nat_lt b 128 ≡ true = lt-ltb b 128 t in let e = rw u at h in pair_is n m bs rest e

more_read : (n w b : ℕ) (bs rest : List ℕ) (m : ℕ) → 128 ≤ b → (if nat_lt b 128 then Some (n, bs) else continued_from n (next_weight w) bs) ≡ Some (m, rest) → continued_from n (next_weight w) bs ≡ Some (m, rest)
more_read n w b bs rest m t h = let u : nat_lt b 128 ≡ false = le-ltb b 128 t in rw u at h

one_continued : (b : ℕ) → b < 128 → IsContinued (b ∷ []) (b % 128)
one_continued b l = (l, low_bits b l)

continued_takes : (value w : ℕ) (bytes rest : List ℕ) (m : ℕ) → IsBytes bytes → continued_from value w bytes ≡ Some (m, rest) → Continues value w bytes rest m
continued_takes value w [] rest m are h = cc
continued_takes value w (b ∷ bs) rest m are h =
    let step = bind_some (septet_added value w b) _ (m, rest) h in
    let n = below_some (value + b % 128 * w) step.0 step.1 in
    let n_is : step.0 ≡ value + b % 128 * w = sym n.1 in
    let first = are 0 in
    elim (cases_lt b 128) [
      | inl t ↦
          let p = last_read step.0 w b bs rest m t step.2 in
          let m_is = p.0 in
          let low = n.0 in
          record {
            front = b ∷ [];
            number = b % 128;
            whole = ap (λ (z : List ℕ). b ∷ z) p.1;
            is = one_continued b t;
            sum = sym p.0 ∙ n_is;
            small = omega arith;
            rest_are = subst IsBytes p.1 (tail_bytes b bs are);
          }
      | inr t ↦
          let e = more_read step.0 w b bs rest m t step.2 in
          let later = continued_takes step.0 (next_weight w) bs rest m (tail_bytes b bs are) e in
          let sum : m ≡ value + b % 128 * w + later.number * next_weight w = later.sum ∙ ap (λ (z : ℕ). z + later.number * next_weight w) n_is in
          let high = high_bits b t (omega (arith, first)) in
          record {
            front = b ∷ later.front;
            number = b % 128 + 128 * later.number;
            whole = ap (λ (z : List ℕ). b ∷ z) later.whole;
            is = more_continued b (b % 128 + 128 * later.number) later.number later.front t (omega (arith, first)) (omega arith) later.is;
            sum = weighed_back value w (b % 128) later.number m sum later.small;
            small = later.small;
            rest_are = later.rest_are;
          }
    ]

pub prefixed_takes : (lead bits b : ℕ) (bs rest : List ℕ) (n : ℕ) → IsBytes (b ∷ bs) → lead ≤ b → b < lead + 2 ^ bits → prefixed_at lead (2 ^ bits) (b ∷ bs) ≡ Some (n, rest)
    → Front (λ a. IsPrefixed lead bits a n) (b ∷ bs) rest
prefixed_takes lead bits b bs rest n are low high h =
    elim (cases_lt (b - lead + 1) (2 ^ bits)) [
      | inl t ↦
          let u : nat_lt (b - lead + 1) (2 ^ bits) ≡ true = lt-ltb (b - lead + 1) (2 ^ bits) t in
          let e = rw u at h in
          let p = pair_is (b - lead) n bs rest e in
          let value = p.0 in
          let cell : b ≡ lead + n = omega arith in
          record { front = b ∷ []; whole = ap (λ (z : List ℕ). b ∷ z) p.1; is = short (omega arith) (ap (λ (z : ℕ). z ∷ []) cell); rest_are = subst IsBytes p.1 (tail_bytes b bs are) }
      | inr t ↦
          let u : nat_lt (b - lead + 1) (2 ^ bits) ≡ false = le-ltb (b - lead + 1) (2 ^ bits) t in
          let e = rw u at h in
          let step = bind_some (continued_from 0 1 bs) _ (n, rest) e in
          let sum = bind_some (below_limit (2 ^ bits - 1 + step.0.0)) _ (n, rest) step.2 in
          let v = below_some (2 ^ bits - 1 + step.0.0) sum.0 sum.1 in
          let p = pair_is sum.0 n step.0.1 rest sum.2 in
          let later = continued_takes 0 1 bs step.0.1 step.0.0 (tail_bytes b bs are) step.1 in
          let number : later.number ≡ step.0.0 = sym (weight_one later.number) ∙ sym later.sum in
          let n_is = p.0 in
          let some = pow_pos bits in
          let value = v.1 in
          let small = v.0 in
          let cell : b ≡ lead + (2 ^ bits - 1) = omega arith in
          record {
            front = b ∷ later.front;
            whole = ap (λ (z : List ℕ). b ∷ z) (later.whole ∙ ap (λ (z : List ℕ). later.front ++ z) p.1);
            is = long later.front later.number (ap (λ (z : ℕ). z ∷ later.front) cell) later.is (omega arith) (omega arith);
            rest_are = subst IsBytes p.1 later.rest_are;
          }
    ]

pub counted_takes : (n : ℕ) (bytes text rest : List ℕ) → IsBytes bytes → counted n bytes ≡ Some (text, rest) → (bytes ≡ text ++ rest) × (n ≡ length text) × IsBytes rest
counted_takes n bytes text rest are h =
    elim (cases_lt (length bytes) n) [
      | inl few ↦ let t : nat_lt (length bytes) n ≡ true = lt-ltb (length bytes) n few in let e = rw t at h in cc
      | inr fits ↦
          let t : nat_lt (length bytes) n ≡ false = le-ltb (length bytes) n fits in
          let e = rw t at h in
          let p = pair_is (take n bytes) text (drop n bytes) rest e in
          (sym (take-append-drop n bytes) ∙ ap (λ (z : List ℕ). z ++ drop n bytes) p.0 ∙ ap (λ (z : List ℕ). text ++ z) p.1, sym (length-take-le n bytes fits) ∙ ap length p.0, subst IsBytes p.1 (rest_bytes n bytes are))
    ]

-- a step that was made, and what it gave
pub then_ok : {A B E : Type 0} (r : Result A E) (f : A → Result B E) (y : B) → (r |> f) ≡ Ok y → (x : A) × (r ≡ Ok x) × (f x ≡ Ok y)
then_ok (Err e) f y h = cc
then_ok (Ok x) f y h = (x, refl, h)

-- a step that failed, or one behind it
pub then_err : {A B E : Type 0} (r : Result A E) (f : A → Result B E) (e : E) → (r |> f) ≡ Err e → (r ≡ Err e) ⊎ ((x : A) × (r ≡ Ok x) × (f x ≡ Err e))
then_err (Err d) f e h = inl (let same : d ≡ e = cc in ap Err same)
then_err (Ok x) f e h = inr (x, refl, h)

or_ok : {A E : Type 0} (o : Option A) (e : E) (x : A) → ok_or o e ≡ Ok x → o ≡ Some x
or_ok None e x h = cc
or_ok (Some y) e x h = let same : y ≡ x = cc in ap Some same

pub or_err : {A E : Type 0} (o : Option A) (e d : E) → ok_or o e ≡ Err d → e ≡ d
or_err None e d h = cc
or_err (Some y) e d h = cc

-- the same of an `Option` that fails for one cause
plain_ok : {A B E : Type 0} (o : Option A) (e : E) (f : A → Result B E) (y : B) → (ok_or o e |> f) ≡ Ok y → (x : A) × (o ≡ Some x) × (f x ≡ Ok y)
plain_ok o e f y h = let s = then_ok (ok_or o e) f y h in (s.0, or_ok o e s.0 s.1, s.2)

pub plain_err : {A B E : Type 0} (o : Option A) (e : E) (f : A → Result B E) (d : E) → (ok_or o e |> f) ≡ Err d → (e ≡ d) ⊎ ((x : A) × (o ≡ Some x) × (f x ≡ Err d))
plain_err None e f d h = inl cc
plain_err (Some x) e f d h = inr (x, refl, h)

made_is : {A B E : Type 0} (a c : A) (b d : B) → ◌≡◌ {A = Result (A × B) E} (Ok (a, b)) (Ok (c, d)) → (a ≡ c) × (b ≡ d)
made_is {A = A} {B = B} a c b d e =
    let same : ◌≡◌ {A = A × B} (a, b) (c, d) = cc in
    (ap (λ (z : A × B). z.0) same, ap (λ (z : A × B). z.1) same)

string_takes : (bytes text rest : List ℕ) → IsBytes bytes → string_at bytes ≡ Ok (text, rest) → Front (λ a. IsString a text) bytes rest
string_takes [] text rest are h = cc
string_takes (b ∷ bs) text rest are h =
    elim (cases_lt b 128) [
      | inl t ↦
          let u : nat_lt b 128 ≡ true = lt-ltb b 128 t in
          let e : plain_at (b ∷ bs) ≡ Some (text, rest) = or_ok (plain_at (b ∷ bs)) Malformed (text, rest) (rw u at h) in
          let step = bind_some (prefixed_at 0 128 (b ∷ bs)) _ (text, rest) e in
          let number = prefixed_takes 0 7 b bs step.0.1 step.0.0 are (omega arith) t step.1 in
          let c = counted_takes step.0.0 step.0.1 text rest number.rest_are step.2 in
          record {
            front = number.front ++ text;
            whole = join_fronts (b ∷ bs) step.0.1 rest number.front text number.whole c.0;
            is = record { start = number.front; whole = refl; count = subst (λ (z : ℕ). IsPrefixed 0 7 number.front z) c.1 number.is };
            rest_are = c.2;
          }
      | inr t ↦ let u : nat_lt b 128 ≡ false = le-ltb b 128 t in let e = rw u at h in cc
    ]

field_eq : (f : Field) (rest rest' : List ℕ) (n v : List ℕ) → ◌≡◌ {A = Result (Field × List ℕ) DecoderError} (Ok (record { name = n; value = v }, rest)) (Ok (f, rest')) → (f.name ≡ n) × (f.value ≡ v) × (rest ≡ rest')
field_eq f rest rest' n v e =
    let p = made_is (record { name = n; value = v }) f rest rest' e in
    (ap (λ (z : Field). z.name) (sym p.0), ap (λ (z : Field). z.value) (sym p.0), p.1)

named_takes : (n : ℕ) (bytes rest : List ℕ) (f : Field) → IsBytes bytes → named_at n bytes ≡ Ok (f, rest) → Front (λ a. IsNamedField n a f) bytes rest
named_takes n bytes rest f are h =
    let row = plain_ok (slice_get static_table n) Malformed _ (f, rest) h in
    let text = then_ok (string_at bytes) _ (f, rest) row.2 in
    let s = string_takes bytes text.0.0 text.0.1 are text.1 in
    let parts = field_eq f text.0.1 rest row.0.name text.0.0 text.2 in
    record {
      front = s.front;
      whole = ends_in bytes text.0.1 rest s.front s.whole parts.2;
      is = record { row = row.0; found = row.1; name = parts.0; value = subst (λ (z : List ℕ). IsString s.front z) (sym parts.1) s.is };
      rest_are = subst IsBytes parts.2 s.rest_are;
    }

renamed : (bytes name rest name' : List ℕ) → bytes ≡ name ++ rest → name' ≡ name → bytes ≡ name' ++ rest
renamed bytes name rest name' e f = e ∙ ap (λ (z : List ℕ). z ++ rest) (sym f)

literal_takes : (n : ℕ) (bytes rest : List ℕ) (f : Field) → IsBytes bytes → literal_at n bytes ≡ Ok (f, rest) → Front (λ a. IsLiteralField n a f) bytes rest
literal_takes n bytes rest f are h =
    let name = plain_ok (counted n bytes) Malformed _ (f, rest) h in
    let c = counted_takes n bytes name.0.0 name.0.1 are name.1 in
    let text = then_ok (string_at name.0.1) _ (f, rest) name.2 in
    let s = string_takes name.0.1 text.0.0 text.0.1 c.2 text.1 in
    let parts = field_eq f text.0.1 rest name.0.0 text.0.0 text.2 in
    record {
      front = f.name ++ s.front;
      whole = join_fronts bytes name.0.1 rest f.name s.front (renamed bytes name.0.0 name.0.1 f.name c.0 parts.0) (ends_in name.0.1 text.0.1 rest s.front s.whole parts.2);
      is = record { value_bytes = s.front; whole = refl; name = c.1 ∙ ap length (sym parts.0); value = subst (λ (z : List ℕ). IsString s.front z) (sym parts.1) s.is };
      rest_are = subst IsBytes parts.2 s.rest_are;
    }

indexed_takes : (n : ℕ) (bytes rest : List ℕ) (f : Field) → IsBytes bytes → indexed_at n bytes ≡ Ok (f, rest) → Front (λ a. (a ≡ []) × (slice_get static_table n ≡ Some f)) bytes rest
indexed_takes n bytes rest f are h =
    let row = plain_ok (slice_get static_table n) Malformed _ (f, rest) h in
    let p = made_is row.0 f bytes rest row.2 in
    record { front = []; whole = p.1; is = (refl, row.1 ∙ ap Some p.0); rest_are = subst IsBytes p.1 are }

line_is : (form : Form) (start rest : List ℕ) (number : ℕ) (f : Field) → IsPrefixed (lead_of form) (bits_of form) start number → FollowsInteger form number rest f → IsLine (start ++ rest) f
line_is form start rest number f i r = record { form = form; start = start; number = number; rest = rest; whole = refl; integer = i; follows = r }

-- an integer, and what follows it
joined : (form : Form) (bytes mid rest : List ℕ) (number : ℕ) (f : Field) → Front (λ a. IsPrefixed (lead_of form) (bits_of form) a number) bytes mid → Front (λ a. FollowsInteger form number a f) mid rest → Front (λ a. IsLine a f) bytes rest
joined form bytes mid rest number f n r = record {
  front = n.front ++ r.front;
  whole = join_fronts bytes mid rest n.front r.front n.whole r.whole;
  is = line_is form n.front r.front number f n.is r.is;
  rest_are = r.rest_are;
}

form_takes : (form : Form) (b : ℕ) (bs rest : List ℕ) (f : Field) → IsBytes (b ∷ bs) → lead_of form ≤ b → b < lead_of form + 2 ^ bits_of form → form_line_at form (b ∷ bs) ≡ Ok (f, rest)
    → Front (λ a. IsLine a f) (b ∷ bs) rest
form_takes Indexed b bs rest f are low high h =
    let s = plain_ok (prefixed_at 192 64 (b ∷ bs)) Malformed _ (f, rest) h in
    let n = prefixed_takes 192 6 b bs s.0.1 s.0.0 are low high s.1 in
    joined Indexed (b ∷ bs) s.0.1 rest s.0.0 f n (indexed_takes s.0.0 s.0.1 rest f n.rest_are s.2)
form_takes Named b bs rest f are low high h =
    let s = plain_ok (prefixed_at 80 16 (b ∷ bs)) Malformed _ (f, rest) h in
    let n = prefixed_takes 80 4 b bs s.0.1 s.0.0 are low high s.1 in
    joined Named (b ∷ bs) s.0.1 rest s.0.0 f n (named_takes s.0.0 s.0.1 rest f n.rest_are s.2)
form_takes NamedNever b bs rest f are low high h =
    let s = plain_ok (prefixed_at 112 16 (b ∷ bs)) Malformed _ (f, rest) h in
    let n = prefixed_takes 112 4 b bs s.0.1 s.0.0 are low high s.1 in
    joined NamedNever (b ∷ bs) s.0.1 rest s.0.0 f n (named_takes s.0.0 s.0.1 rest f n.rest_are s.2)
form_takes Literal b bs rest f are low high h =
    let s = plain_ok (prefixed_at 32 8 (b ∷ bs)) Malformed _ (f, rest) h in
    let n = prefixed_takes 32 3 b bs s.0.1 s.0.0 are low high s.1 in
    joined Literal (b ∷ bs) s.0.1 rest s.0.0 f n (literal_takes s.0.0 s.0.1 rest f n.rest_are s.2)
form_takes LiteralNever b bs rest f are low high h =
    let s = plain_ok (prefixed_at 48 8 (b ∷ bs)) Malformed _ (f, rest) h in
    let n = prefixed_takes 48 3 b bs s.0.1 s.0.0 are low high s.1 in
    joined LiteralNever (b ∷ bs) s.0.1 rest s.0.0 f n (literal_takes s.0.0 s.0.1 rest f n.rest_are s.2)

-- what a first byte tells
pub data FirstByte (b : ℕ) : Type 0 where
  is_form : (form : Form) → lead_of form ≤ b → b < lead_of form + 2 ^ bits_of form → FirstByte b
  is_huffman : IsHuffmanByte b → FirstByte b
  is_dynamic : IsDynamicByte b → FirstByte b

from_80 : (b : ℕ) → 80 ≤ b → b < 256 → FirstByte b
from_80 b low small =
    elim (cases_lt b 96) [
      | inl t ↦ is_form Named low t
      | inr a ↦
          elim (cases_lt b 112) [
            | inl t ↦ is_dynamic (inr (inr (inl (a, t))))
            | inr c ↦
                elim (cases_lt b 128) [
                  | inl t ↦ is_form NamedNever c t
                  | inr d ↦ elim (cases_lt b 192) [ inl t ↦ is_dynamic (inl (d, t)) | inr e ↦ is_form Indexed e small ]
                ]
          ]
    ]

from_48 : (b : ℕ) → 48 ≤ b → b < 256 → FirstByte b
from_48 b low small =
    elim (cases_lt b 56) [
      | inl t ↦ is_form LiteralNever low t
      | inr a ↦
          elim (cases_lt b 64) [
            | inl t ↦ is_huffman (inr (a, t))
            | inr c ↦ elim (cases_lt b 80) [ inl t ↦ is_dynamic (inr (inl (c, t))) | inr d ↦ from_80 b d small ]
          ]
    ]

pub first_byte : (b : ℕ) → b < 256 → FirstByte b
first_byte b small =
    elim (cases_lt b 32) [
      | inl t ↦ is_dynamic (inr (inr (inr t)))
      | inr a ↦
          elim (cases_lt b 40) [
            | inl t ↦ is_form Literal a t
            | inr c ↦ elim (cases_lt b 48) [ inl t ↦ is_huffman (inl (c, t)) | inr d ↦ from_48 b d small ]
          ]
    ]

line_cell : (b : ℕ) (bs rest : List ℕ) (f : Field) → IsBytes (b ∷ bs) → FirstByte b → line_at (b ∷ bs) ≡ Ok (f, rest) → Front (λ a. IsLine a f) (b ∷ bs) rest
line_cell b bs rest f are (is_form form low high) h = let e : form_line_at form (b ∷ bs) ≡ Ok (f, rest) = rw (form_found form b low high) at h in form_takes form b bs rest f are low high e
line_cell b bs rest f are (is_huffman p) h = let e = rw (huffman_byte b p) at h in cc
line_cell b bs rest f are (is_dynamic p) h = let e = rw (dynamic_byte b p) at h in cc

-- what is read as a line is spelled so
pub line_takes : (bytes rest : List ℕ) (f : Field) → IsBytes bytes → line_at bytes ≡ Ok (f, rest) → Front (λ a. IsLine a f) bytes rest
line_takes [] rest f are h = cc
line_takes (b ∷ bs) rest f are h = let small = are 0 in line_cell b bs rest f are (first_byte b (omega (arith, small))) h
