-- Ids that count: their bytes, and the list of the first so many.
use Rattle.std.proofs.Common.{◌≡◌, ℕ, zero, suc, ◌+◌, ◌-◌, ◌/◌, ◌%◌, ◌<◌, ◌≤◌, ◌^◌, min, nat_lt, Bool, true, false, List, [], ◌∷◌, ◌++◌, length, get_or, take, drop, replicate, if◌then◌else◌, refl, sym, ap, ◌∙◌, inl, inr, arith, length-append}
use Rattle.std.specs.Int.{w64, to_be_bytes, from_be_bytes}
use Rattle.std.proofs.lemmas.Bool.{cases_lt, le-ltb, lt-ltb}
use Rattle.std.proofs.lemmas.List.{length-replicate, take-replicate}
use Rattle.std.proofs.lemmas.Nat.{from_be_bytes-to_be_bytes_8}
use Rattle.qh_spec.proofs.Cuts.{halves}
use Rattle.qh_generator.specs.Counted.{counter_bytes, counted_id, first_ids}
use Rattle.qh_generator.specs.Given.{and_id}

counter_size : (n : ℕ) → length (counter_bytes n) ≡ 7
unfolding counter_bytes
counter_size n = refl

pub id_size : (len mark n : ℕ) → 8 ≤ len → length (counted_id len mark n) ≡ len
unfolding counted_id
id_size len mark n room = omega (arith, room, length-append (replicate (len - 8) 0) (counter_bytes n), length-replicate {A = ℕ} (len - 8) 0, counter_size n)

pub id_mark : (len mark n : ℕ) → get_or (counted_id len mark n) 0 0 ≡ mark
unfolding counted_id
id_mark len mark n = refl

pub marks_apart : (len mark m other_len other_mark n : ℕ) → counted_id len mark m ≡ counted_id other_len other_mark n → mark ≡ other_mark
unfolding counted_id
marks_apart len mark m other_len other_mark n e = ap (λ (z : List ℕ). get_or z 0 0) e

-- below 2^56 the first of eight bytes is 0
eight_bytes : (n : ℕ) → n < 2 ^ 56 → to_be_bytes w64 n ≡ 0 ∷ drop 1 (to_be_bytes w64 n)
eight_bytes n below = let top : n / 256 ^ 7 % 256 ≡ 0 = omega (arith, below) in λ i. top i ∷ drop 1 (to_be_bytes w64 n)

counters_apart : (m n : ℕ) → m < 2 ^ 56 → n < 2 ^ 56 → counter_bytes m ≡ counter_bytes n → m ≡ n
unfolding counter_bytes
counters_apart m n a b e =
    let low : m % 2 ^ 56 < 2 ^ 56 = omega arith in
    let low' : n % 2 ^ 56 < 2 ^ 56 = omega arith in
    let whole : to_be_bytes w64 (m % 2 ^ 56) ≡ to_be_bytes w64 (n % 2 ^ 56) = eight_bytes (m % 2 ^ 56) low ∙ ap (λ (z : List ℕ). 0 ∷ z) e ∙ sym (eight_bytes (n % 2 ^ 56) low') in
    let same : m % 2 ^ 56 ≡ n % 2 ^ 56 = sym (from_be_bytes-to_be_bytes_8 (m % 2 ^ 56) (omega (arith, low))) ∙ ap (from_be_bytes w64) whole ∙ from_be_bytes-to_be_bytes_8 (n % 2 ^ 56) (omega (arith, low')) in
    omega (arith, same, a, b)

pub ids_apart : (len mark m n : ℕ) → m < 2 ^ 56 → n < 2 ^ 56 → counted_id len mark m ≡ counted_id len mark n → m ≡ n
unfolding counted_id
ids_apart len mark m n a b e =
    counters_apart m n a b (halves (replicate (len - 8) 0) (counter_bytes m) (replicate (len - 8) 0) (counter_bytes n) refl (ap (λ (z : List ℕ). drop 1 z) e)).1

-- counters that agree modulo 2^56 have one id
pub ids_agree : (len mark m n : ℕ) → m % 2 ^ 56 ≡ n % 2 ^ 56 → counted_id len mark m ≡ counted_id len mark n
unfolding counted_id counter_bytes
ids_agree len mark m n e = ap (λ (k : ℕ). mark ∷ (replicate (len - 8) 0 ++ drop 1 (to_be_bytes w64 k))) e

pub ids_again : (len mark n : ℕ) → counted_id len mark (n + 2 ^ 56) ≡ counted_id len mark n
ids_again len mark n = ids_agree len mark (n + 2 ^ 56) n (omega arith)

pub first_count : (len mark count : ℕ) → length (first_ids len mark count) ≡ count
unfolding first_ids
first_count len mark zero = refl
first_count len mark (suc n) = omega (arith, length-append (first_ids len mark n) (counted_id len mark n ∷ []), first_count len mark n)

before : {X : Type 0} (xs ys : List X) (n : ℕ) (d : X) → n < length xs → get_or (xs ++ ys) n d ≡ get_or xs n d
before [] ys n d h = absurd (omega (arith, h))
before (x ∷ xs) ys zero d h = refl
before (x ∷ xs) ys (suc n) d h = before xs ys n d (omega (arith, h))

at_end : {X : Type 0} (xs : List X) (y d : X) → get_or (xs ++ y ∷ []) (length xs) d ≡ y
at_end [] y d = refl
at_end (x ∷ xs) y d = at_end xs y d

pub first_order : (len mark count n : ℕ) → n < count → get_or (first_ids len mark count) n [] ≡ counted_id len mark n
unfolding first_ids
first_order len mark zero n h = absurd (omega (arith, h))
first_order len mark (suc m) n h =
    elim (cases_lt n m) [
      | inl inside ↦ before (first_ids len mark m) (counted_id len mark m ∷ []) n [] (omega (arith, first_count len mark m, inside)) ∙ first_order len mark m n inside
      | inr past ↦
          let last : n ≡ m = omega (arith, h, past) in
          let place : n ≡ length (first_ids len mark m) = last ∙ sym (first_count len mark m) in
          ap (λ (k : ℕ). get_or (first_ids len mark m ++ counted_id len mark m ∷ []) k []) place
          ∙ at_end (first_ids len mark m) (counted_id len mark m) []
          ∙ ap (λ (k : ℕ). counted_id len mark k) (sym last)
    ]

-- what is written over an array of zeros
pub id_written : (len mark n : ℕ) (rest whole : List ℕ) → 8 ≤ len → len ≤ 20 → n < 2 ^ 56
    → whole ≡ take (len - 7) (mark ∷ replicate 19 0) ++ rest → rest ≡ drop 1 (to_be_bytes w64 n) → whole ≡ counted_id len mark n
unfolding counted_id counter_bytes
id_written len mark n rest whole room short below e r =
    let same : n % 2 ^ 56 ≡ n = omega (arith, below) in
    let front : take (suc (len - 8)) (mark ∷ replicate 19 0) ≡ mark ∷ replicate (len - 8) 0 = ap (λ (z : List ℕ). mark ∷ z) (take-replicate (len - 8) 19 0 (omega (arith, short))) in
    let size : len - 7 ≡ suc (len - 8) = omega (arith, room) in
    e ∙ ap (λ (z : List ℕ). take (len - 7) (mark ∷ replicate 19 0) ++ z) (r ∙ ap (λ (k : ℕ). drop 1 (to_be_bytes w64 k)) (sym same))
    ∙ ap (λ (k : ℕ). take k (mark ∷ replicate 19 0) ++ drop 1 (to_be_bytes w64 (n % 2 ^ 56))) size
    ∙ ap (λ (z : List ℕ). z ++ drop 1 (to_be_bytes w64 (n % 2 ^ 56))) front

-- one id more is told, but where the count saturates
pub more_ids : (len mark given counter next : ℕ) (id : List ℕ) → given < 2 ^ 64 → (given < 2 ^ 64 - 1 → counter ≡ given % 2 ^ 56) → next ≡ min (given + 1) (2 ^ 64 - 1)
    → id ≡ counted_id len mark counter → first_ids len mark next ≡ and_id (first_ids len mark given) id
unfolding first_ids and_id
more_ids len mark given counter next id fits counted e is =
    let size = first_count len mark given in
    elim (cases_lt given (2 ^ 64 - 1)) [
      | inl room ↦
          let test : nat_lt (length (first_ids len mark given)) (2 ^ 64 - 1) ≡ true = lt-ltb (length (first_ids len mark given)) (2 ^ 64 - 1) (omega (arith, size, room)) in
          let step : next ≡ suc given = omega (arith, e, room) in
          let modulo : counter % 2 ^ 56 ≡ given % 2 ^ 56 = let at : counter ≡ given % 2 ^ 56 = counted room in omega (arith, at) in
          let same : counted_id len mark given ≡ id = sym (is ∙ ids_agree len mark counter given modulo) in
          ap (λ (k : ℕ). first_ids len mark k) step
          ∙ ap (λ (z : List ℕ). first_ids len mark given ++ z ∷ []) same
          ∙ ap (λ (b : Bool). if b then first_ids len mark given ++ id ∷ [] else first_ids len mark given) (sym test)
      | inr full ↦
          let test : nat_lt (length (first_ids len mark given)) (2 ^ 64 - 1) ≡ false = le-ltb (length (first_ids len mark given)) (2 ^ 64 - 1) (omega (arith, size, full)) in
          let still : next ≡ given = omega (arith, e, full, fits) in
          ap (λ (k : ℕ). first_ids len mark k) still ∙ ap (λ (b : Bool). if b then first_ids len mark given ++ id ∷ [] else first_ids len mark given) (sym test)
    ]
