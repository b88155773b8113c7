-- Ids and words that count: their bytes, and the lists of the first so many.
use Rattle.std.proofs.Common.{◌≡◌, ℕ, zero, suc, ◌+◌, ◌-◌, ◌*◌, ◌/◌, ◌%◌, ◌<◌, ◌≤◌, ◌^◌, ◌==◌, min, nat_lt, Bool, true, false, List, [], ◌∷◌, ◌++◌, length, get_or, take, drop, if◌then◌else◌, refl, sym, ap, ◌∙◌, inl, inr, arith, length-append}
use Rattle.std.specs.Prelude.{All}
use Rattle.std.specs.Int.{w64, to_be_bytes}
use Rattle.std.proofs.lemmas.Bool.{cases_lt, le-ltb, lt-ltb, eq-eqb}
use Rattle.std.proofs.lemmas.List.{length-drop, take_all}
use Rattle.std.proofs.lemmas.List.Elements.{All-nil, All-push}
use Rattle.qh_generator.specs.Given.{and_id}
use Rattle.qh_stateless.specs.Words.{and_word}
use Rattle.endpoint_rows.specs.Counted.{counted_id, first_ids, first_words, is_taken}

pub id_size : (len mark n : ℕ) → len ≤ 8 → length (counted_id len mark n) ≡ len
unfolding counted_id
id_size len mark n short = omega (arith, short, length-drop {A = ℕ} (8 - len) (to_be_bytes w64 (2 ^ 56 * mark + n % 2 ^ 56)))

-- what is cut out of the eight bytes
pub id_made : (len mark n word : ℕ) (bytes : List ℕ) → bytes ≡ to_be_bytes w64 word → word ≡ 2 ^ 56 * mark + n % 2 ^ 56 → take (8 - (8 - len)) (drop (8 - len) bytes) ≡ counted_id len mark n
unfolding counted_id
id_made len mark n word bytes e is =
    let whole : bytes ≡ to_be_bytes w64 (2 ^ 56 * mark + n % 2 ^ 56) = e ∙ ap (λ (k : ℕ). to_be_bytes w64 k) is in
    let size : length bytes ≡ 8 = ap (λ (z : List ℕ). length z) whole in
    take_all {A = ℕ} (8 - (8 - len)) (drop (8 - len) bytes) (omega (arith, size, length-drop {A = ℕ} (8 - len) bytes)) ∙ ap (λ (z : List ℕ). drop (8 - len) z) whole

-- one of 8 bytes begins with the mark
id_mark : (len mark n : ℕ) → len ≡ 8 → mark < 2 ^ 8 → get_or (counted_id len mark n) 0 0 ≡ mark
unfolding counted_id
id_mark len mark n e fits =
    let low : n % 2 ^ 56 < 2 ^ 56 = omega arith in
    let top : (2 ^ 56 * mark + n % 2 ^ 56) / 256 ^ 7 % 256 ≡ mark = omega (arith, fits, low) in
    ap (λ (k : ℕ). get_or (drop (8 - k) (to_be_bytes w64 (2 ^ 56 * mark + n % 2 ^ 56))) 0 0) e ∙ top

pub id_taken : (is_strict : Bool) (len mark n : ℕ) → (is_strict ≡ true → len ≡ 8) → mark < 2 ^ 8 → is_taken is_strict mark (counted_id len mark n) ≡ true
id_taken false len mark n whole fits = refl
id_taken true len mark n whole fits = ap (λ (k : ℕ). k == mark) (id_mark len mark n (whole refl) fits) ∙ eq-eqb mark mark refl

pub first_taken : (is_strict : Bool) (len mark count : ℕ) → (is_strict ≡ true → len ≡ 8) → mark < 2 ^ 8 → All (λ id. is_taken is_strict mark id ≡ true) (first_ids len mark count)
unfolding first_ids
first_taken is_strict len mark zero whole fits = All-nil (λ (id : List ℕ). is_taken is_strict mark id ≡ true)
first_taken is_strict len mark (suc n) whole fits =
    All-push (λ (id : List ℕ). is_taken is_strict mark id ≡ true) (first_ids len mark n) (counted_id len mark n) (first_taken is_strict len mark n whole fits) (id_taken is_strict len mark n whole fits)

first_count : (len mark count : ℕ) → length (first_ids len mark count) ≡ count
unfolding first_ids
first_count len mark zero = refl
first_count len mark (suc n) = omega (arith, length-append (first_ids len mark n) (counted_id len mark n ∷ []), first_count len mark n)

word_count : (count : ℕ) → length (first_words count) ≡ count
unfolding first_words
word_count zero = refl
word_count (suc n) = omega (arith, length-append (first_words n) (n ∷ []), word_count n)

-- one id more is told, but where the count saturates
pub more_ids : (len mark given next : ℕ) (id : List ℕ) → given < 2 ^ 64 → next ≡ min (given + 1) (2 ^ 64 - 1) → id ≡ counted_id len mark given → first_ids len mark next ≡ and_id (first_ids len mark given) id
unfolding first_ids and_id
more_ids len mark given next id fits e is =
    let size = first_count len mark given in
    elim (cases_lt given (2 ^ 64 - 1)) [
      | inl room ↦
          let test : nat_lt (length (first_ids len mark given)) (2 ^ 64 - 1) ≡ true = lt-ltb (length (first_ids len mark given)) (2 ^ 64 - 1) (omega (arith, size, room)) in
          let step : next ≡ suc given = omega (arith, e, room) in
          ap (λ (k : ℕ). first_ids len mark k) step
          ∙ ap (λ (z : List ℕ). first_ids len mark given ++ z ∷ []) (sym is)
          ∙ ap (λ (b : Bool). if b then first_ids len mark given ++ id ∷ [] else first_ids len mark given) (sym test)
      | inr full ↦
          let test : nat_lt (length (first_ids len mark given)) (2 ^ 64 - 1) ≡ false = le-ltb (length (first_ids len mark given)) (2 ^ 64 - 1) (omega (arith, size, full)) in
          let still : next ≡ given = omega (arith, e, full, fits) in
          ap (λ (k : ℕ). first_ids len mark k) still ∙ ap (λ (b : Bool). if b then first_ids len mark given ++ id ∷ [] else first_ids len mark given) (sym test)
    ]

-- and one word more
pub more_words : (given next : ℕ) → given < 2 ^ 64 → next ≡ min (given + 1) (2 ^ 64 - 1) → first_words next ≡ and_word (first_words given) given
unfolding first_words and_word
more_words given next fits e =
    let size = word_count given in
    elim (cases_lt given (2 ^ 64 - 1)) [
      | inl room ↦
          let test : nat_lt (length (first_words given)) (2 ^ 64 - 1) ≡ true = lt-ltb (length (first_words given)) (2 ^ 64 - 1) (omega (arith, size, room)) in
          let step : next ≡ suc given = omega (arith, e, room) in
          ap (λ (k : ℕ). first_words k) step ∙ ap (λ (b : Bool). if b then first_words given ++ given ∷ [] else first_words given) (sym test)
      | inr full ↦
          let test : nat_lt (length (first_words given)) (2 ^ 64 - 1) ≡ false = le-ltb (length (first_words given)) (2 ^ 64 - 1) (omega (arith, size, full)) in
          let still : next ≡ given = omega (arith, e, full, fits) in
          ap (λ (k : ℕ). first_words k) still ∙ ap (λ (b : Bool). if b then first_words given ++ given ∷ [] else first_words given) (sym test)
    ]
