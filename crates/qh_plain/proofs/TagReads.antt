-- Steps of reading a tag.
use Rattle.std.proofs.Common.{◌≡◌, ℕ, ◌+◌, ◌-◌, ◌^◌, ◌<◌, ◌≤◌, min, List, [], ◌∷◌, ◌++◌, length, take, drop, get_or, refl, sym, ap, ◌∙◌, arith, append-nil, length-append, drop-cons, drop-drop, take_at, drop_at, inl, inr}
use Rattle.std.specs.Prelude.{replicate}
use Rattle.std.specs.Int.{w64, to_be_bytes, from_be_bytes}
use Rattle.std.proofs.lemmas.Bool.{cases_lt}
use Rattle.std.proofs.lemmas.List.{take_all, drop_all, length-take, length-take-le, length-drop, length-replicate, take-append-drop, get_or-take, get_or-drop, get_or_past}
use Rattle.std.proofs.lemmas.Nat.{from_be_bytes-to_be_bytes_8}
use Rattle.qh_spec.specs.declared.sides.Side.{Side}
use Rattle.qh_spec.specs.declared.sides.Space.{Space}
use Rattle.qh_spec.specs.StreamId.{side_bit}
use Rattle.qh_spec.specs.Tag.{space_byte, padded, IsTag}
use Rattle.qh_spec.proofs.Cuts.{halves}
use Rattle.qh_plain.specs.Packets.{IsLaidOut, HasKey}

padded_length : (n : ℕ) (bytes : List ℕ) → length (padded n bytes) ≡ n
padded_length n bytes = omega (arith, length-append (take n bytes) (replicate (n - length bytes) 0), length-take n bytes, length-replicate {A = ℕ} (n - length bytes) 0)

-- zeros behind a front make it padded
padded_of : (m k : ℕ) (xs : List ℕ) → length xs ≡ m → k ≤ m → drop k xs ≡ replicate (m - k) 0 → padded m (take k xs) ≡ xs
padded_of m k xs l h z =
    let len : length (take k xs) ≡ k = length-take-le k xs (omega arith) in
    ap (λ (w : List ℕ). w ++ replicate (m - length (take k xs)) 0) (take_all m (take k xs) (omega arith))
    ∙ ap (λ (j : ℕ). take k xs ++ replicate (m - j) 0) len ∙ ap (λ (w : List ℕ). take k xs ++ w) (sym z) ∙ take-append-drop k xs

padded_past : (m : ℕ) (key : List ℕ) → m ≤ length key → padded m key ≡ take m key
padded_past m key h =
    let none : m - length key ≡ 0 = omega arith in
    ap (λ (j : ℕ). take m key ++ replicate j 0) none ∙ append-nil (take m key)

zeros_of : (m : ℕ) (key : List ℕ) → length key ≤ m → drop (length key) (padded m key) ≡ replicate (m - length key) 0
zeros_of m key h =
    ap (λ (w : List ℕ). drop (length key) (w ++ replicate (m - length key) 0)) (take_all m key h) ∙ drop_at key (replicate (m - length key) 0) (length key) refl

-- the tests of the two places
pub key_from : (front back : List ℕ) (n a : ℕ) → length front ≡ 16 → length back ≡ 4 → n ≤ 20 → a ≡ min n 16
    → drop a front ≡ replicate (length front - a) 0 → drop (n - a) back ≡ replicate (length back - (n - a)) 0 → HasKey front n back
key_from front back n a lf lb short is zf zb =
    elim (cases_lt 16 n) [
      | inr low ↦
          let same : a ≡ n = omega arith in
          let none : n - a ≡ 0 = omega arith in
          let zf' : drop n front ≡ replicate (16 - n) 0 =
          ap (λ (j : ℕ). drop j front) (sym same) ∙ zf ∙ ap (λ (j : ℕ). replicate {A = ℕ} j 0) {x = length front - a} {y = 16 - n} (omega arith) in
          let zb' : back ≡ replicate 4 0 =
          ap (λ (j : ℕ). drop j back) (sym none) ∙ zb ∙ ap (λ (j : ℕ). replicate {A = ℕ} j 0) {x = length back - (n - a)} {y = 4} (omega arith) in
          let len : length (take n front) ≡ n = length-take-le n front (omega arith) in
          let past : drop 16 (take n front) ≡ [] = drop_all 16 (take n front) (omega arith) in
          record {
            key_id = take n front;
            short = short;
            its_length = len;
            in_front = sym (padded_of 16 n front lf low zf');
            in_back = zb' ∙ ap (padded 4) (sym past);
          }
      | inl high ↦
          let same : a ≡ 16 = omega arith in
          let b : ℕ = n - 16 in
          let more : n - a ≡ b = omega arith in
          let zb' : drop b back ≡ replicate (4 - b) 0 =
          ap (λ (j : ℕ). drop j back) (sym more) ∙ zb ∙ ap (λ (j : ℕ). replicate {A = ℕ} j 0) {x = length back - (n - a)} {y = 4 - b} (omega arith) in
          let len : length (take b back) ≡ b = length-take-le b back (omega arith) in
          let whole : length (front ++ take b back) ≡ n = omega (arith, length-append front (take b back)) in
          record {
            key_id = front ++ take b back;
            short = short;
            its_length = whole;
            in_front = sym (padded_past 16 (front ++ take b back) (omega arith) ∙ take_at front (take b back) 16 lf);
            in_back = sym (ap (padded 4) (drop_at front (take b back) 16 lf) ∙ padded_of 4 b back lb (omega arith) zb');
          }
    ]

pub key_back : (front back : List ℕ) (n a : ℕ) → length back ≡ 4 → a ≡ min n 16 → HasKey front n back → drop (n - a) back ≡ replicate (length back - (n - a)) 0
key_back front back n a lb is k =
    let len = k.its_length in
    let short = k.short in
    let rest : length (drop 16 k.key_id) ≡ length k.key_id - 16 = length-drop 16 k.key_id in
    let same : n - a ≡ length (drop 16 k.key_id) = omega arith in
    ap (λ (j : ℕ). drop j back) same ∙ ap (drop (length (drop 16 k.key_id))) k.in_back ∙ zeros_of 4 (drop 16 k.key_id) (omega arith)
    ∙ ap (λ (j : ℕ). replicate {A = ℕ} j 0) {x = 4 - length (drop 16 k.key_id)} {y = length back - (n - a)} (omega arith)

-- the places of 32 bytes
pub laid_out : (bytes : List ℕ) (n : ℕ) → length bytes ≡ 32 → get_or bytes 16 0 ≡ 165 → n < 2 ^ 64 → to_be_bytes w64 n ≡ take 8 (drop 18 bytes)
    → IsLaidOut bytes (take 16 bytes) (get_or bytes 17 0) n (get_or bytes 26 0) (take 4 (drop 27 bytes)) (get_or bytes 31 0)
laid_out bytes n l mark small number =
    let a : drop 16 bytes ≡ get_or bytes 16 0 ∷ drop 17 bytes = drop-cons bytes 16 0 (omega arith) in
    let b : drop 17 bytes ≡ get_or bytes 17 0 ∷ drop 18 bytes = drop-cons bytes 17 0 (omega arith) in
    let d : drop 18 bytes ≡ take 8 (drop 18 bytes) ++ drop 26 bytes = sym (take-append-drop 8 (drop 18 bytes)) ∙ ap (λ (z : List ℕ). take 8 (drop 18 bytes) ++ z) (drop-drop 8 18 bytes) in
    let e : drop 26 bytes ≡ get_or bytes 26 0 ∷ drop 27 bytes = drop-cons bytes 26 0 (omega arith) in
    let f : drop 27 bytes ≡ take 4 (drop 27 bytes) ++ drop 31 bytes = sym (take-append-drop 4 (drop 27 bytes)) ∙ ap (λ (z : List ℕ). take 4 (drop 27 bytes) ++ z) (drop-drop 4 27 bytes) in
    let g : drop 31 bytes ≡ get_or bytes 31 0 ∷ drop 32 bytes = drop-cons bytes 31 0 (omega arith) in
    let h : drop 32 bytes ≡ [] = drop_all 32 bytes (omega arith) in
    let last : drop 31 bytes ≡ get_or bytes 31 0 ∷ [] = g ∙ ap (λ (z : List ℕ). get_or bytes 31 0 ∷ z) h in
    let back : drop 27 bytes ≡ take 4 (drop 27 bytes) ++ get_or bytes 31 0 ∷ [] = f ∙ ap (λ (z : List ℕ). take 4 (drop 27 bytes) ++ z) last in
    let tail : drop 26 bytes ≡ get_or bytes 26 0 ∷ (take 4 (drop 27 bytes) ++ get_or bytes 31 0 ∷ []) = e ∙ ap (λ (z : List ℕ). get_or bytes 26 0 ∷ z) back in
    let mid : drop 18 bytes ≡ to_be_bytes w64 n ++ (get_or bytes 26 0 ∷ (take 4 (drop 27 bytes) ++ get_or bytes 31 0 ∷ [])) =
    d ∙ ap (λ (z : List ℕ). take 8 (drop 18 bytes) ++ z) tail ∙ ap (λ (z : List ℕ). z ++ (get_or bytes 26 0 ∷ (take 4 (drop 27 bytes) ++ get_or bytes 31 0 ∷ []))) (sym number) in
    record {
      front_length = length-take-le 16 bytes (omega arith);
      back_length = length-take-le 4 (drop 27 bytes) (omega (arith, length-drop 27 bytes));
      bound = small;
      is = sym (take-append-drop 16 bytes)
          ∙ ap (λ (z : List ℕ). take 16 bytes ++ z) (a ∙ ap (λ (z : ℕ). z ∷ drop 17 bytes) mark ∙ ap (λ (z : List ℕ). 165 ∷ z) (b ∙ ap (λ (z : List ℕ). get_or bytes 17 0 ∷ z) mid));
    }

-- what a tag tells of the places
pub record TagTells (s : Side) (x : Space) (n : ℕ) (front : List ℕ) (sender number key_length : ℕ) (back : List ℕ) (space : ℕ) : Type 0 where
  pub sender_is : side_bit s ≡ sender
  pub space_is : space_byte x ≡ space
  pub number_is : n ≡ number
  pub small : n < 2 ^ 62
  pub key : HasKey front key_length back

pub tag_tells : (bytes front back : List ℕ) (sender number key_length space : ℕ) (s : Side) (x : Space) (n : ℕ) → IsTag bytes s x n → IsLaidOut bytes front sender number key_length back space
    → TagTells s x n front sender number key_length back space
tag_tells bytes front back sender number key_length space s x n t l =
    let key : List ℕ = t.key_id in
    let bk : List ℕ = padded 4 (drop 16 key) in
    let cut = halves (padded 16 key) (165 ∷ side_bit s ∷ (to_be_bytes w64 n ++ (length key ∷ (bk ++ space_byte x ∷ [])))) front (165 ∷ sender ∷ (to_be_bytes w64 number ++ (key_length ∷ (back ++ space ∷ []))))
    (padded_length 16 key ∙ sym l.front_length) (sym t.is ∙ l.is) in
    let side : side_bit s ≡ sender = ap (λ (z : List ℕ). get_or z 1 0) cut.1 in
    let rest : to_be_bytes w64 n ++ (length key ∷ (bk ++ space_byte x ∷ [])) ≡ to_be_bytes w64 number ++ (key_length ∷ (back ++ space ∷ [])) = ap (λ (z : List ℕ). drop 2 z) cut.1 in
    let numbers = halves (to_be_bytes w64 n) (length key ∷ (bk ++ space_byte x ∷ [])) (to_be_bytes w64 number) (key_length ∷ (back ++ space ∷ [])) refl rest in
    let lens : length key ≡ key_length = ap (λ (z : List ℕ). get_or z 0 0) numbers.1 in
    let last : bk ++ space_byte x ∷ [] ≡ back ++ space ∷ [] = ap (λ (z : List ℕ). drop 1 z) numbers.1 in
    let ends = halves bk (space_byte x ∷ []) back (space ∷ []) (padded_length 4 (drop 16 key) ∙ sym l.back_length) last in
    let bound = t.bound in
    let wide = l.bound in
    record {
      sender_is = side;
      space_is = ap (λ (z : List ℕ). get_or z 0 0) ends.1;
      number_is = sym (from_be_bytes-to_be_bytes_8 n (omega arith)) ∙ ap (from_be_bytes w64) numbers.0 ∙ from_be_bytes-to_be_bytes_8 number wide;
      small = bound;
      key = record { key_id = key; short = let short = t.short in omega arith; its_length = lens; in_front = sym cut.0; in_back = sym ends.0 };
    }

-- a tag has its places
pub tag_laid_out : (bytes : List ℕ) (s : Side) (x : Space) (n : ℕ) (t : IsTag bytes s x n)
    → IsLaidOut bytes (padded 16 t.key_id) (side_bit s) n (length t.key_id) (padded 4 (drop 16 t.key_id)) (space_byte x)
tag_laid_out bytes s x n t =
    let bound = t.bound in
    record { front_length = padded_length 16 t.key_id; back_length = padded_length 4 (drop 16 t.key_id); bound = omega arith; is = t.is }

pub tag_from : (bytes front back : List ℕ) (sender number key_length space : ℕ) (s : Side) (x : Space) → IsLaidOut bytes front sender number key_length back space
    → side_bit s ≡ sender → space_byte x ≡ space → number < 2 ^ 62 → HasKey front key_length back → IsTag bytes s x number
tag_from bytes front back sender number key_length space s x l es ex small k =
    let short = k.short in
    let len = k.its_length in
    record {
      key_id = k.key_id;
      short = omega arith;
      bound = small;
      is = l.is ∙ ap (λ (z : List ℕ). z ++ (165 ∷ sender ∷ (to_be_bytes w64 number ++ (key_length ∷ (back ++ space ∷ []))))) k.in_front
          ∙ ap (λ (z : ℕ). padded 16 k.key_id ++ (165 ∷ z ∷ (to_be_bytes w64 number ++ (key_length ∷ (back ++ space ∷ []))))) (sym es)
          ∙ ap (λ (z : ℕ). padded 16 k.key_id ++ (165 ∷ side_bit s ∷ (to_be_bytes w64 number ++ (z ∷ (back ++ space ∷ []))))) (sym len)
          ∙ ap (λ (z : List ℕ). padded 16 k.key_id ++ (165 ∷ side_bit s ∷ (to_be_bytes w64 number ++ (length k.key_id ∷ (z ++ space ∷ []))))) k.in_back
          ∙ ap (λ (z : ℕ). padded 16 k.key_id ++ (165 ∷ side_bit s ∷ (to_be_bytes w64 number ++ (length k.key_id ∷ (padded 4 (drop 16 k.key_id) ++ z ∷ []))))) (sym ex);
    }

pub front_bytes : (k n : ℕ) (bytes : List ℕ) → ((i : ℕ) → get_or bytes i 0 < 256) → (i : ℕ) → get_or (take k (drop n bytes)) i 0 < 256
front_bytes k n bytes are i =
    elim (cases_lt i k) [
      | inl inside ↦
          let e = get_or-take k (drop n bytes) i 0 inside in
          let f = get_or-drop n bytes i 0 in
          omega (arith, are (n + i))
      | inr past ↦ let e = get_or_past (take k (drop n bytes)) i 0 (omega (arith, length-take k (drop n bytes))) in omega arith
    ]
