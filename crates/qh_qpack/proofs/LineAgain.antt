-- What is spelled as a line is read as it, and what is wrong with a line is told.
use Rattle.std.proofs.Common.{◌≡◌, ℕ, ◌+◌, ◌-◌, ◌*◌, ◌%◌, ◌^◌, ◌<◌, ◌≤◌, nat_lt, true, false, List, [], ◌∷◌, ◌++◌, length, refl, sym, ap, ◌∙◌, arith, inl, inr, Some, Result, Ok, Err, append_assoc, length-append, slice_get}
use Rattle.std.proofs.lemmas.Bool.{lt-ltb, le-ltb}
use Rattle.std.proofs.lemmas.List.{take_at, drop_at}
use Rattle.std.proofs.lemmas.Nat.{pow_pos}
use Rattle.std.proofs.lemmas.Option.{slice_get-get_or}
use Rattle.qh_spec.specs.Fields.{Field}
use Rattle.qh_spec.specs.PrefixInteger.{IsContinued, IsPrefixed, short, long}
use Rattle.qh_spec.specs.Section.{Form, Indexed, Named, NamedNever, Literal, LiteralNever, lead_of, bits_of, IsString, IsNamedField, IsLiteralField, FollowsInteger, IsLine}
use Rattle.qh_spec.specs.StaticTable.{static_table}
use Rattle.qh_spec.proofs.SectionLaws.{field_is}
use Rattle.qh_qpack.specs.declared.decoder.DecoderError.{DecoderError}
use Rattle.qh_qpack.specs.declared.decoder.DecoderError.TheVariants.{Huffman, Dynamic}
use Rattle.qh_qpack.specs.SectionAt.{below_limit, septet_added, next_weight, continued_from, prefixed_at, counted, string_at, form_of, indexed_at, named_at, literal_at, form_line_at, line_at}
use Rattle.qh_qpack.specs.SectionFault.{IsDynamicByte, IsHuffmanByte, IsBeforeValue, HasHuffman, HasDynamic}
use Rattle.qh_qpack.proofs.Weights.{low_bits, high_bits, weighed_more, weight_one}

below_is : (n : ℕ) → n < 2 ^ 63 → below_limit n ≡ Some n
below_is n h = let t : nat_lt n (2 ^ 63) ≡ true = lt-ltb n (2 ^ 63) h in rw t refl

last_step : (value w b : ℕ) (bs : List ℕ) (m : ℕ) → b < 128 → septet_added value w b ≡ Some m → continued_from value w (b ∷ bs) ≡ Some (m, bs)
last_step value w b bs m l e = let t : nat_lt b 128 ≡ true = lt-ltb b 128 l in rw (e, t) refl

next_step : (value w b : ℕ) (bs : List ℕ) (m : ℕ) → 128 ≤ b → septet_added value w b ≡ Some m → continued_from value w (b ∷ bs) ≡ continued_from m (next_weight w) bs
next_step value w b bs m l e = let t : nat_lt b 128 ≡ false = le-ltb b 128 l in rw (e, t) refl

-- a number that goes on is read, with the weight that its first seven bits have
continued_again : (value w : ℕ) (a rest : List ℕ) (n : ℕ) → IsContinued a n → value + n * w < 2 ^ 63 → continued_from value w (a ++ rest) ≡ Some (value + n * w, rest)
continued_again value w [] rest n p small = absurd p
continued_again value w (b ∷ []) rest n p small =
    let low : b % 128 ≡ n = low_bits b p.0 ∙ sym p.1 in
    let added : septet_added value w b ≡ Some (value + n * w) = ap (λ (z : ℕ). below_limit (value + z * w)) low ∙ below_is (value + n * w) small in
    last_step value w b rest (value + n * w) p.0 added
continued_again value w (b ∷ c ∷ a) rest n p small =
    let high : ℕ = p.2 in
    let n_is : n ≡ b % 128 + 128 * high = (let h = p.3 in let l = high_bits b p.0 p.1 in omega arith) in
    let same : value + b % 128 * w + high * next_weight w ≡ value + n * w = weighed_more value w n (b % 128) high n_is small in
    let added : septet_added value w b ≡ Some (value + b % 128 * w) = below_is (value + b % 128 * w) (omega arith) in
    let later : continued_from (value + b % 128 * w) (next_weight w) ((c ∷ a) ++ rest) ≡ Some (value + b % 128 * w + high * next_weight w, rest) =
    continued_again (value + b % 128 * w) (next_weight w) (c ∷ a) rest high p.4 (omega arith) in
    next_step value w b ((c ∷ a) ++ rest) (value + b % 128 * w) p.0 added ∙ later ∙ ap (λ (z : ℕ). Some (z, rest)) same

-- a power of two isn't 0
power : (bits : ℕ) → 0 < 2 ^ bits
power bits = pow_pos bits

some_over : (bits over n : ℕ) → n + 1 ≡ 2 ^ bits + over → n < 2 ^ 63 → over < 2 ^ 63
some_over bits over n s f = let q = power bits in omega arith

over_is : (bits over n : ℕ) → n + 1 ≡ 2 ^ bits + over → 2 ^ bits - 1 + over ≡ n
over_is bits over n s = let q = power bits in omega arith

prefixed_again : (lead bits : ℕ) (a rest : List ℕ) (n : ℕ) → IsPrefixed lead bits a n → prefixed_at lead (2 ^ bits) (a ++ rest) ≡ Some (n, rest)
prefixed_again lead bits a rest n (short p is) =
    let v : lead + n - lead ≡ n = omega arith in
    let t : nat_lt (n + 1) (2 ^ bits) ≡ true = lt-ltb (n + 1) (2 ^ bits) p in
    ap (λ (z : List ℕ). prefixed_at lead (2 ^ bits) (z ++ rest)) is ∙ rw (v, t) refl
prefixed_again lead bits a rest n (long more over is c s f) =
    let v : lead + (2 ^ bits - 1) - lead ≡ 2 ^ bits - 1 = omega arith in
    let t : nat_lt (2 ^ bits - 1 + 1) (2 ^ bits) ≡ false = le-ltb (2 ^ bits - 1 + 1) (2 ^ bits) (omega arith) in
    let o : 0 + over * 1 ≡ over = weight_one over in
    let w : continued_from 0 1 (more ++ rest) ≡ Some (over, rest) = continued_again 0 1 more rest over c (let q = some_over bits over n s f in omega arith) ∙ ap (λ (z : ℕ). Some (z, rest)) o in
    let x : 2 ^ bits - 1 + over ≡ n = over_is bits over n s in
    let y : below_limit n ≡ Some n = below_is n f in
    ap (λ (z : List ℕ). prefixed_at lead (2 ^ bits) (z ++ rest)) is ∙ rw (v, t, w, x) (rw y refl)

counted_again : (text rest : List ℕ) → counted (length text) (text ++ rest) ≡ Some (text, rest)
counted_again text rest =
    let t : nat_lt (length (text ++ rest)) (length text) ≡ false = le-ltb (length (text ++ rest)) (length text) (omega (arith, length-append text rest)) in
    rw (t, take_at text rest (length text) refl, drop_at text rest (length text) refl) refl

string_step : (b : ℕ) (bs : List ℕ) (n : ℕ × List ℕ) (v : List ℕ × List ℕ) → b < 128 → prefixed_at 0 128 (b ∷ bs) ≡ Some n → counted n.0 n.1 ≡ Some v → string_at (b ∷ bs) ≡ Ok v
string_step b bs n v low p c = let t : nat_lt b 128 ≡ true = lt-ltb b 128 low in rw (t, p) (rw c refl)

string_from : (start text rest : List ℕ) (n : ℕ) → n ≡ length text → IsPrefixed 0 7 start n → string_at (start ++ (text ++ rest)) ≡ Ok (text, rest)
string_from start text rest n e (short p is) =
    ap (λ (z : List ℕ). string_at (z ++ (text ++ rest))) is
    ∙ string_step (0 + n) (text ++ rest) (n, text ++ rest) (text, rest) (omega arith) (prefixed_again 0 7 ((0 + n) ∷ []) (text ++ rest) n (short p refl)) (ap (λ (z : ℕ). counted z (text ++ rest)) e ∙ counted_again text rest)
string_from start text rest n e (long more over is c s f) =
    ap (λ (z : List ℕ). string_at (z ++ (text ++ rest))) is
    ∙ string_step (0 + (2 ^ 7 - 1)) (more ++ (text ++ rest)) (n, text ++ rest) (text, rest) (omega arith) (prefixed_again 0 7 ((0 + (2 ^ 7 - 1)) ∷ more) (text ++ rest) n (long more over refl c s f)) (ap (λ (z : ℕ). counted z (text ++ rest)) e ∙ counted_again text rest)

string_again : (a rest text : List ℕ) → IsString a text → string_at (a ++ rest) ≡ Ok (text, rest)
string_again a rest text p =
    ap (λ (z : List ℕ). string_at (z ++ rest)) p.whole ∙ ap string_at (append_assoc p.start text rest) ∙ string_from p.start text rest (length text) refl p.count

-- a bit H of 1
string_compressed : (b : ℕ) (bs : List ℕ) → 128 ≤ b → string_at (b ∷ bs) ≡ Err Huffman
string_compressed b bs h = let t : nat_lt b 128 ≡ false = le-ltb b 128 h in rw t refl

indexed_again : (n : ℕ) (a rest : List ℕ) (f : Field) → (a ≡ []) × (slice_get static_table n ≡ Some f) → indexed_at n (a ++ rest) ≡ Ok (f, rest)
indexed_again n a rest f p = rw (p.1, p.0) refl

named_again : (n : ℕ) (a rest : List ℕ) (f : Field) → IsNamedField n a f → named_at n (a ++ rest) ≡ Ok (f, rest)
named_again n a rest f p =
    rw (p.found, string_again a rest f.value p.value) (ap (λ (g : Field). Ok (g, rest)) (field_is (record { name = p.row.name; value = f.value }) f (sym p.name) refl))

literal_again : (n : ℕ) (a rest : List ℕ) (f : Field) → IsLiteralField n a f → literal_at n (a ++ rest) ≡ Ok (f, rest)
literal_again n a rest f p =
    let whole : a ++ rest ≡ f.name ++ (p.value_bytes ++ rest) = ap (λ (z : List ℕ). z ++ rest) p.whole ∙ append_assoc f.name p.value_bytes rest in
    let c : counted n (f.name ++ (p.value_bytes ++ rest)) ≡ Some (f.name, p.value_bytes ++ rest) = ap (λ (z : ℕ). counted z (f.name ++ (p.value_bytes ++ rest))) p.name ∙ counted_again f.name (p.value_bytes ++ rest) in
    ap (literal_at n) whole ∙ rw (c, string_again p.value_bytes rest f.value p.value) refl

form_again : (form : Form) (start a rest : List ℕ) (n : ℕ) (f : Field) → IsPrefixed (lead_of form) (bits_of form) start n → FollowsInteger form n a f → form_line_at form (start ++ (a ++ rest)) ≡ Ok (f, rest)
form_again Indexed start a rest n f i p = let e = prefixed_again 192 6 start (a ++ rest) n i in rw e (indexed_again n a rest f p)
form_again Named start a rest n f i p = let e = prefixed_again 80 4 start (a ++ rest) n i in rw e (named_again n a rest f p)
form_again NamedNever start a rest n f i p = let e = prefixed_again 112 4 start (a ++ rest) n i in rw e (named_again n a rest f p)
form_again Literal start a rest n f i p = let e = prefixed_again 32 3 start (a ++ rest) n i in rw e (literal_again n a rest f p)
form_again LiteralNever start a rest n f i p = let e = prefixed_again 48 3 start (a ++ rest) n i in rw e (literal_again n a rest f p)

named_compressed : (n b : ℕ) (bs : List ℕ) → n < length static_table → 128 ≤ b → named_at n (b ∷ bs) ≡ Err Huffman
named_compressed n b bs l h =
    let row = slice_get-get_or static_table n (record { name = []; value = [] }) l in
    rw (row, string_compressed b bs h) refl

literal_compressed : (n b : ℕ) (name bs : List ℕ) → n ≡ length name → 128 ≤ b → literal_at n (name ++ b ∷ bs) ≡ Err Huffman
literal_compressed n b name bs e h =
    let c : counted n (name ++ b ∷ bs) ≡ Some (name, b ∷ bs) = ap (λ (z : ℕ). counted z (name ++ b ∷ bs)) e ∙ counted_again name (b ∷ bs) in
    rw (c, string_compressed b bs h) refl

-- a compressed value behind the start of a line
form_compressed : (form : Form) (start name bs : List ℕ) (n b : ℕ) → IsPrefixed (lead_of form) (bits_of form) start n → IsBeforeValue form n name → 128 ≤ b → form_line_at form (start ++ (name ++ b ∷ bs)) ≡ Err Huffman
form_compressed Indexed start name bs n b i p h = absurd p
form_compressed Named start name bs n b i p h = let none = p.0 in let e = prefixed_again 80 4 start (b ∷ bs) n i in rw (none, e) (named_compressed n b bs p.1 h)
form_compressed NamedNever start name bs n b i p h = let none = p.0 in let e = prefixed_again 112 4 start (b ∷ bs) n i in rw (none, e) (named_compressed n b bs p.1 h)
form_compressed Literal start name bs n b i p h = let e = prefixed_again 32 3 start (name ++ b ∷ bs) n i in rw e (literal_compressed n b name bs p h)
form_compressed LiteralNever start name bs n b i p h = let e = prefixed_again 48 3 start (name ++ b ∷ bs) n i in rw e (literal_compressed n b name bs p h)

-- the first byte of an integer
record First (lead bits : ℕ) (a : List ℕ) : Type 0 where
  byte : ℕ
  more : List ℕ
  is : a ≡ byte ∷ more
  low : lead ≤ byte
  high : byte < lead + 2 ^ bits

first_of_it : (lead bits : ℕ) (a : List ℕ) (n : ℕ) → IsPrefixed lead bits a n → First lead bits a
first_of_it lead bits a n (short p is) = record { byte = lead + n; more = []; is = is; low = omega arith; high = omega arith }
first_of_it lead bits a n (long more over is c s f) = record { byte = lead + (2 ^ bits - 1); more = more; is = is; low = omega arith; high = omega (arith, pow_pos bits) }

above : (b n : ℕ) → n ≤ b → nat_lt b n ≡ false
above b n h = le-ltb b n h

under : (b n : ℕ) → b < n → nat_lt b n ≡ true
under b n h = lt-ltb b n h

pub form_found : (form : Form) (b : ℕ) → lead_of form ≤ b → b < lead_of form + 2 ^ bits_of form → form_of b ≡ Ok form
form_found Literal b l h = rw (above b 32 l, under b 40 h) refl
form_found LiteralNever b l h = rw (above b 32 (omega arith), above b 40 (omega arith), above b 48 l, under b 56 h) refl
form_found Named b l h = rw (above b 32 (omega arith), above b 40 (omega arith), above b 48 (omega arith), above b 56 (omega arith), above b 64 (omega arith), above b 80 l, under b 96 h) refl
form_found NamedNever b l h = rw (above b 32 (omega arith), above b 40 (omega arith), above b 48 (omega arith), above b 56 (omega arith), above b 64 (omega arith), above b 80 (omega arith), above b 96 (omega arith), above b 112 l, under b 128 h) refl
form_found Indexed b l h = rw (above b 32 (omega arith), above b 40 (omega arith), above b 48 (omega arith), above b 56 (omega arith), above b 64 (omega arith), above b 80 (omega arith), above b 96 (omega arith), above b 112 (omega arith), above b 128 (omega arith), above b 192 l) refl

-- a name that is written out and compressed
pub huffman_byte : (b : ℕ) → IsHuffmanByte b → form_of b ≡ Err Huffman
huffman_byte b (inl h) = let l = h.0 in rw (above b 32 (omega arith), above b 40 l, under b 48 h.1) refl
huffman_byte b (inr h) = let l = h.0 in rw (above b 32 (omega arith), above b 40 (omega arith), above b 48 (omega arith), above b 56 l, under b 64 h.1) refl

pub dynamic_byte : (b : ℕ) → IsDynamicByte b → form_of b ≡ Err Dynamic
dynamic_byte b (inl h) =
    let l = h.0 in
    rw (above b 32 (omega arith), above b 40 (omega arith), above b 48 (omega arith), above b 56 (omega arith), above b 64 (omega arith), above b 80 (omega arith), above b 96 (omega arith), above b 112 (omega arith), above b 128 l, under b 192 h.1) refl
dynamic_byte b (inr (inl h)) =
    let l = h.0 in
    rw (above b 32 (omega arith), above b 40 (omega arith), above b 48 (omega arith), above b 56 (omega arith), above b 64 l, under b 80 h.1) refl
dynamic_byte b (inr (inr (inl h))) =
    let l = h.0 in
    rw (above b 32 (omega arith), above b 40 (omega arith), above b 48 (omega arith), above b 56 (omega arith), above b 64 (omega arith), above b 80 (omega arith), above b 96 l, under b 112 h.1) refl
dynamic_byte b (inr (inr (inr h))) = rw (under b 32 h) refl

-- the form of a first byte, and then what the form says
line_step : (form : Form) (start a : List ℕ) (n : ℕ) (x : Result (Field × List ℕ) DecoderError) → IsPrefixed (lead_of form) (bits_of form) start n → form_line_at form (start ++ a) ≡ x → line_at (start ++ a) ≡ x
line_step form start a n x i e =
    let first = first_of_it (lead_of form) (bits_of form) start n i in
    let cells : start ++ a ≡ first.byte ∷ (first.more ++ a) = ap (λ (z : List ℕ). z ++ a) first.is in
    let known = form_found form first.byte first.low first.high in
    ap line_at cells ∙ rw known (ap (form_line_at form) (sym cells) ∙ e)

pub line_again : (a rest : List ℕ) (f : Field) → IsLine a f → line_at (a ++ rest) ≡ Ok (f, rest)
line_again a rest f p =
    let whole : a ++ rest ≡ p.start ++ (p.rest ++ rest) = ap (λ (z : List ℕ). z ++ rest) p.whole ∙ append_assoc p.start p.rest rest in
    ap line_at whole ∙ line_step p.form p.start (p.rest ++ rest) p.number (Ok (f, rest)) p.integer (form_again p.form p.start p.rest rest p.number f p.integer p.follows)

pub huffman_again : (bytes : List ℕ) → HasHuffman bytes → line_at bytes ≡ Err Huffman
huffman_again [] h = absurd h
huffman_again (b ∷ bs) (inl h) = let e = huffman_byte b h in rw e refl
huffman_again (b ∷ bs) (inr h) = ap line_at h.whole ∙ line_step h.form h.start (h.name ++ h.first ∷ h.rest) h.number (Err Huffman) h.integer (form_compressed h.form h.start h.name h.rest h.number h.first h.integer h.before h.set)

pub dynamic_again : (bytes : List ℕ) → HasDynamic bytes → line_at bytes ≡ Err Dynamic
dynamic_again [] h = absurd h
dynamic_again (b ∷ bs) h = let e = dynamic_byte b h in rw e refl

-- a line isn't empty
pub line_some : (a : List ℕ) (f : Field) → IsLine a f → 0 < length a
line_some a f p =
    let first = first_of_it (lead_of p.form) (bits_of p.form) p.start p.number p.integer in
    let e = ap length (p.whole ∙ ap (λ (z : List ℕ). z ++ p.rest) first.is) in
    omega arith
