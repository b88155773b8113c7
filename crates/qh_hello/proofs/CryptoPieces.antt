-- What waits in front is taken: the same bytes came, and none waits behind them.
use Rattle.std.proofs.Common.{◌≡◌, ℕ, zero, suc, ◌+◌, ◌-◌, ◌<◌, ◌≤◌, nat_lt, nat_le, Bool, true, false, ◌&&◌, ◌||◌, List, [], ◌∷◌, ◌++◌, length, get_or, slice_get, Option, Some, None, if◌then◌else◌, refl, sym, ap, ◌∙◌, subst, arith, inl, inr, length-append}
use Rattle.std.specs.Prelude.{MatchOption}
use Rattle.std.proofs.lemmas.Bool.{false≢true, cases_lt, lt-ltb, le-ltb, le-leb, ltb-false, and_from, or_left}
use Rattle.std.proofs.lemmas.Bool.Decides.{eqb_tells}
use Rattle.std.proofs.lemmas.Option.{slice_get_past, slice_get-get_or}
use Rattle.qh_buffers.specs.Assembler.{PlainAssembler, byte_of, or_byte, is_over, read_to, to_give, was_given, IsGiven, IsFrontPiece, IsInserted}
use Rattle.qh_buffers.specs.Ranges.{PlainRange, is_in, has, front_of}
use Rattle.qh_buffers.specs.declared.assembler.Chunk.{Chunk}
use Rattle.qh_buffers.proofs.RangeLaws.{inside}
use Rattle.qh_hello.specs.Crypto.{PlainCrypto, IsCrypto, HasTaken, IsInFront, came_at}

-- ---- where the next byte stands

front_has : (r : PlainRange) (rs : List PlainRange) (k : ℕ) → k < front_of (r ∷ rs) → has (r ∷ rs) k ≡ true
front_has r rs k below = elim (eqb_tells r.start 0) [
  | inl first ↦ let under : k < r.end = rw first.0 at below in or_left (is_in r k) (has rs k) (inside r k (omega (arith, first.1)) under)
  | inr some ↦ let none : k < 0 = rw some.0 at below in absurd (omega (arith, none))
]

front_below : (rs : List PlainRange) (count : ℕ) → ((k : ℕ) → has rs k ≡ nat_lt k count) → front_of rs ≤ count
front_below [] count order = omega arith
front_below (r ∷ rs) count order = elim (cases_lt count (front_of (r ∷ rs))) [
  | inl more ↦ absurd (false≢true (sym (le-ltb count count (omega arith)) ∙ sym (order count) ∙ front_has r rs count more))
  | inr done ↦ done
]

-- the first offset that wasn't given stands behind the bytes in front
next_is : (v : PlainAssembler) (count : ℕ) → ((k : ℕ) → was_given v k ≡ nat_lt k count) → was_given v (read_to v) ≡ false → read_to v ≡ count
next_is v count order new =
    let low : count ≤ read_to v = ltb-false (read_to v) count (sym (order (read_to v)) ∙ new) in
    let high : read_to v ≤ count = front_below v.given count order in
    omega (arith, low, high)

at_count : (old new : PlainAssembler) (max count : ℕ) (c : Chunk) → IsGiven old new max c → IsFrontPiece old max c → ((k : ℕ) → was_given old k ≡ nat_lt k count) → c.offset ≡ count
at_count old new max count c given front order =
    let over : is_over c c.offset ≡ true = and_from _ _ (le-leb c.offset c.offset (omega arith)) (lt-ltb c.offset (c.offset + length c.bytes) (omega (arith, given.some))) in
    let there : was_given old (read_to old) ≡ false = subst (λ (k : ℕ). was_given old k ≡ false) front.offset_is (given.new_ones c.offset over) in
    front.offset_is ∙ next_is old count order there

-- ---- the bytes that came

get_left : (xs ys : List ℕ) (k : ℕ) → k < length xs → slice_get (xs ++ ys) k ≡ slice_get xs k
get_left [] ys k low = absurd (omega (arith, low))
get_left (x ∷ xs) ys zero low = refl
get_left (x ∷ xs) ys (suc k) low = get_left xs ys k (omega (arith, low))

get_right : (xs ys : List ℕ) (k : ℕ) → slice_get (xs ++ ys) (length xs + k) ≡ slice_get ys k
get_right [] ys k = ap (slice_get ys) (omega arith)
get_right (x ∷ xs) ys k = let next : length (x ∷ xs) + k ≡ suc (length xs + k) = omega arith in ap (slice_get (x ∷ xs ++ ys)) next ∙ get_right xs ys k

-- a byte in front is there, whatever waits
or_there : (bytes : List ℕ) (k : ℕ) (o p : Option ℕ) → k < length bytes → or_byte (slice_get bytes k) o ≡ or_byte (slice_get bytes k) p
or_there bytes k o p low = let is : slice_get bytes k ≡ Some (get_or bytes k 0) = slice_get-get_or bytes k 0 low in rw is refl

or_behind : (bytes : List ℕ) (k : ℕ) (o : Option ℕ) → length bytes ≤ k → or_byte (slice_get bytes k) o ≡ o
or_behind bytes k o high = let is : slice_get bytes k ≡ None = slice_get_past bytes k high in rw is refl

or_none : (o : Option ℕ) → or_byte o None ≡ o
or_none None = refl
or_none (Some b) = refl

not_over : (c : Chunk) (k : ℕ) → c.offset + length c.bytes ≤ k → is_over c k ≡ false
not_over c k high = grind (arith, high)

over : (c : Chunk) (k : ℕ) → c.offset ≤ k → k < c.offset + length c.bytes → is_over c k ≡ true
over c k low high = and_from _ _ (le-leb c.offset k low) (lt-ltb k (c.offset + length c.bytes) high)

byte_there : (c : Chunk) (n k : ℕ) → n ≡ c.offset + k → byte_of c n ≡ slice_get c.bytes k
byte_there c n k e = let no : nat_lt n c.offset ≡ false = le-ltb n c.offset (omega (arith, e)) in let at : n - c.offset ≡ k = omega (arith, e) in rw (no, at) refl

over_or_below : (offset n count k : ℕ) → offset ≡ count → ((nat_le offset k && nat_lt k (offset + n)) || nat_lt k count) ≡ nat_lt k (count + n)
over_or_below offset n count k e = grind (arith, e)

still_waits : (given : Bool) (o : Option ℕ) (byte : ℕ) → (if given then None else o) ≡ Some byte → o ≡ Some byte
still_waits true o byte e = cc
still_waits false o byte e = e

-- ---- a piece is taken

pub some_of : (P : Chunk → Type 0) (o : Option Chunk) (c : Chunk) → o ≡ Some c → MatchOption o (Unit {0}) P → P c
some_of P o c e m = subst (λ (z : Option Chunk). MatchOption z (Unit {0}) P) e m

pub front_taken : (old new : PlainAssembler) (max end : ℕ) (c : Chunk) (bytes : List ℕ) → IsGiven old new max c → IsFrontPiece old max c → max ≡ end - length bytes
    → IsCrypto (record { waiting = old; bytes = bytes; end = end }) → IsCrypto (record { waiting = new; bytes = bytes ++ c.bytes; end = end })
front_taken old new max end c bytes given front left was =
    let here = at_count old new max (length bytes) c given front was.given in
    record {
      given = λ k. given.given_are k ∙ ap (λ (b : Bool). is_over c k || b) (was.given k) ∙ over_or_below c.offset (length c.bytes) (length bytes) k here
          ∙ ap (λ (n : ℕ). nat_lt k n) (sym (length-append bytes c.bytes));
      below = λ k byte e. was.below k byte (still_waits (is_over c k) (to_give old k) byte (sym (given.bytes_are k) ∙ e));
      within = let total = length-append bytes c.bytes in let few = given.few in let some = given.some in omega (arith, total, few, left, some);
    }

pub kept_taken : (old new : PlainAssembler) (max end : ℕ) (c : Chunk) (bytes : List ℕ) → IsGiven old new max c → IsFrontPiece old max c
    → IsCrypto (record { waiting = old; bytes = bytes; end = end }) → (k : ℕ)
    → came_at (record { waiting = new; bytes = bytes ++ c.bytes; end = end }) k ≡ came_at (record { waiting = old; bytes = bytes; end = end }) k
kept_taken old new max end c bytes given front was k =
    let here = at_count old new max (length bytes) c given front was.given in
    elim (cases_lt k (length bytes)) [
      | inl low ↦
          ap (λ (o : Option ℕ). or_byte o (to_give new k)) (get_left bytes c.bytes k low) ∙ or_there bytes k (to_give new k) (to_give old k) low
      | inr high ↦
          elim (cases_lt k (length bytes + length c.bytes)) [
            | inl within ↦
                let at : k ≡ length bytes + (k - length bytes) = omega (arith, high) in
                let there : slice_get (bytes ++ c.bytes) k ≡ slice_get c.bytes (k - length bytes) = ap (slice_get (bytes ++ c.bytes)) at ∙ get_right bytes c.bytes (k - length bytes) in
                let is_there = over c k (omega (arith, here, high)) (omega (arith, here, within)) in
                let none : to_give new k ≡ None = given.bytes_are k ∙ (rw is_there refl) in
                ap (or_byte (slice_get (bytes ++ c.bytes) k)) none ∙ or_none (slice_get (bytes ++ c.bytes) k) ∙ there
                ∙ sym (byte_there c k (k - length bytes) (omega (arith, here, high))) ∙ sym (given.waited k is_there) ∙ sym (or_behind bytes k (to_give old k) high)
            | inr past ↦
                let total = length-append bytes c.bytes in
                let not_there = not_over c k (omega (arith, here, past)) in
                let same : to_give new k ≡ to_give old k = given.bytes_are k ∙ (rw not_there refl) in
                or_behind (bytes ++ c.bytes) k (to_give new k) (omega (arith, total, past)) ∙ same ∙ sym (or_behind bytes k (to_give old k) high)
          ]
    ]

none_behind : (v : PlainCrypto) (k : ℕ) (o : Option ℕ) → IsCrypto v → v.end ≤ k → to_give v.waiting k ≡ o → o ≡ None
none_behind v k None was high e = refl
none_behind v k (Some byte) was high e = let low = was.below k byte e in absurd (omega (arith, low, high))

none_given : (b : Bool) (o : Option ℕ) → o ≡ None → (if b then None else o) ≡ None
none_given true o e = refl
none_given false o e = e

pub next_taken : (old new : PlainAssembler) (max end : ℕ) (c : Chunk) (bytes : List ℕ) → IsGiven old new max c → IsFrontPiece old max c → max ≡ end - length bytes
    → IsCrypto (record { waiting = old; bytes = bytes; end = end }) → IsInFront (record { waiting = new; bytes = bytes ++ c.bytes; end = end })
next_taken old new max end c bytes given front left was =
    let here = at_count old new max (length bytes) c given front was.given in
    let total = length-append bytes c.bytes in
    let at : c.offset + length c.bytes ≡ length (bytes ++ c.bytes) = omega (arith, here, total) in
    let v : PlainCrypto = record { waiting = old; bytes = bytes; end = end } in
    let none : to_give old (c.offset + length c.bytes) ≡ None = elim front.longest [
      | inl all ↦ none_behind v (c.offset + length c.bytes) (to_give old (c.offset + length c.bytes)) was (omega (arith, here, left, all)) refl
      | inr is ↦ is
    ] in
    let there : to_give old (length (bytes ++ c.bytes)) ≡ None = subst (λ (k : ℕ). to_give old k ≡ None) at none in
    or_behind (bytes ++ c.bytes) (length (bytes ++ c.bytes)) (to_give new (length (bytes ++ c.bytes))) (omega arith)
    ∙ given.bytes_are (length (bytes ++ c.bytes)) ∙ none_given (is_over c (length (bytes ++ c.bytes))) (to_give old (length (bytes ++ c.bytes))) there

-- no byte is taken where the next one doesn't wait
pub next_lacks : (v : PlainCrypto) → IsCrypto v → (to_give v.waiting (read_to v.waiting) ≡ None) × (was_given v.waiting (read_to v.waiting) ≡ false) → IsInFront v
next_lacks v was lacks =
    let at : read_to v.waiting ≡ length v.bytes = next_is v.waiting (length v.bytes) was.given lacks.1 in
    or_behind v.bytes (length v.bytes) (to_give v.waiting (length v.bytes)) (omega arith) ∙ subst (λ (k : ℕ). to_give v.waiting k ≡ None) at lacks.0

-- ---- a frame's bytes come

given_lacks : (b : Bool) (o : Option ℕ) → b ≡ false → (if b then None else o) ≡ o
given_lacks true o e = absurd (false≢true (sym e))
given_lacks false o e = refl

or_first : (bytes : List ℕ) (k : ℕ) (o p : Option ℕ) → k < length bytes → or_byte (slice_get bytes k) o ≡ or_byte (or_byte (slice_get bytes k) o) p
or_first bytes k o p low = let is : slice_get bytes k ≡ Some (get_or bytes k 0) = slice_get-get_or bytes k 0 low in rw is refl

pub taken_inserted : (old : PlainCrypto) (new : PlainAssembler) (end : ℕ) (c : Chunk) → IsCrypto old → IsInserted old.waiting new c → HasTaken old (record { waiting = new; bytes = old.bytes; end = end }) c
taken_inserted old new end c was ins k = elim (cases_lt k (length old.bytes)) [
  | inl low ↦ or_there old.bytes k (to_give new k) (to_give old.waiting k) low ∙ or_first old.bytes k (to_give old.waiting k) (byte_of c k) low
  | inr high ↦
      let new_one : was_given old.waiting k ≡ false = was.given k ∙ le-ltb k (length old.bytes) high in
      or_behind old.bytes k (to_give new k) high ∙ ins.bytes_are k ∙ given_lacks (was_given old.waiting k) (or_byte (to_give old.waiting k) (byte_of c k)) new_one
      ∙ ap (λ (o : Option ℕ). or_byte o (byte_of c k)) (sym (or_behind old.bytes k (to_give old.waiting k) high))
]
