-- What is spelled as a number is read as it, and what is read is spelled so.
use Rattle.std.proofs.Common.{◌≡◌, ℕ, ◌+◌, ◌-◌, ◌^◌, ◌<◌, ◌≤◌, nat_lt, true, false, List, [], ◌∷◌, ◌++◌, length, get_or, take, drop, refl, sym, ap, ◌∙◌, arith, inl, inr, Some, None, slice_index, subst}
use Rattle.std.specs.Int.{w16, w32, w64, to_be_bytes, from_be_bytes}
use Rattle.std.proofs.lemmas.Bool.{cases_lt, lt-ltb, le-ltb}
use Rattle.std.proofs.lemmas.List.{get_or-take, length-take, length-take-le, get_or_past, take_more, take-append-drop}
use Rattle.std.proofs.lemmas.Nat.{be_bytes_2, be_bytes_4, be_bytes_8, from_be_bytes-to_be_bytes_2, from_be_bytes-to_be_bytes_4, from_be_bytes-to_be_bytes_8}
use Rattle.qh_spec.specs.Varint.{IsVarint, one, two, four, eight}
use Rattle.qh_base.specs.Varint.{varint_at, whole}

-- what is spelled so is read, whatever follows
pub spelled_read : (bytes rest : List ℕ) (n : ℕ) → IsVarint bytes n → varint_at (bytes ++ rest) ≡ Some (n, length bytes)
unfolding varint_at
spelled_read bytes rest n (one bound e) =
    let t : nat_lt n 64 ≡ true = lt-ltb n 64 bound in
    let u : nat_lt (length (n ∷ rest)) 1 ≡ false = le-ltb (length (n ∷ rest)) 1 (omega arith) in
    rw (e, u, t)
spelled_read bytes rest n (two bound e) =
    let m : ℕ = 2 ^ 14 + n in
    let first : ℕ = slice_index (to_be_bytes w16 m ++ rest) 0 in
    let u : nat_lt (length (to_be_bytes w16 m ++ rest)) 1 ≡ false = le-ltb (length (to_be_bytes w16 m ++ rest)) 1 (omega arith) in
    let a : nat_lt first 64 ≡ false = le-ltb first 64 (omega arith) in
    let b : nat_lt first 128 ≡ true = lt-ltb first 128 (omega arith) in
    let v : nat_lt (length (to_be_bytes w16 m ++ rest)) 2 ≡ false = le-ltb (length (to_be_bytes w16 m ++ rest)) 2 (omega arith) in
    let back : from_be_bytes w16 (to_be_bytes w16 m) - 2 ^ 14 ≡ n = omega (arith, from_be_bytes-to_be_bytes_2 m (omega arith)) in
    rw (e, u, a, b, v, back)
spelled_read bytes rest n (four bound e) =
    let m : ℕ = 2 ^ 31 + n in
    let first : ℕ = slice_index (to_be_bytes w32 m ++ rest) 0 in
    let u : nat_lt (length (to_be_bytes w32 m ++ rest)) 1 ≡ false = le-ltb (length (to_be_bytes w32 m ++ rest)) 1 (omega arith) in
    let a : nat_lt first 64 ≡ false = le-ltb first 64 (omega arith) in
    let b : nat_lt first 128 ≡ false = le-ltb first 128 (omega arith) in
    let d : nat_lt first 192 ≡ true = lt-ltb first 192 (omega arith) in
    let v : nat_lt (length (to_be_bytes w32 m ++ rest)) 4 ≡ false = le-ltb (length (to_be_bytes w32 m ++ rest)) 4 (omega arith) in
    let back : from_be_bytes w32 (to_be_bytes w32 m) - (2 ^ 31) ≡ n = omega (arith, from_be_bytes-to_be_bytes_4 m (omega arith)) in
    rw (e, u, a, b, d, v, back)
spelled_read bytes rest n (eight bound e) =
    let m : ℕ = 2 ^ 63 + 2 ^ 62 + n in
    let first : ℕ = slice_index (to_be_bytes w64 m ++ rest) 0 in
    let u : nat_lt (length (to_be_bytes w64 m ++ rest)) 1 ≡ false = le-ltb (length (to_be_bytes w64 m ++ rest)) 1 (omega arith) in
    let a : nat_lt first 64 ≡ false = le-ltb first 64 (omega arith) in
    let b : nat_lt first 128 ≡ false = le-ltb first 128 (omega arith) in
    let d : nat_lt first 192 ≡ false = le-ltb first 192 (omega arith) in
    let v : nat_lt (length (to_be_bytes w64 m ++ rest)) 8 ≡ false = le-ltb (length (to_be_bytes w64 m ++ rest)) 8 (omega arith) in
    let back : from_be_bytes w64 (to_be_bytes w64 m) - (2 ^ 63 + 2 ^ 62) ≡ n = omega (arith, from_be_bytes-to_be_bytes_8 m (omega arith)) in
    rw (e, u, a, b, d, v, back)

abbrev pub IsBytes : List ℕ → Type 0
IsBytes bytes = (i : ℕ) → get_or bytes i 0 < 256

front_bytes : (k : ℕ) (bytes : List ℕ) → k ≤ length bytes → IsBytes bytes → IsBytes (take k bytes)
front_bytes k bytes fits are i =
    elim (cases_lt i k) [
      | inl inside ↦ let e = get_or-take k bytes i 0 inside in omega (arith, are i)
      | inr past ↦ let e = get_or_past (take k bytes) i 0 (omega (arith, length-take k bytes)) in omega arith
    ]

-- what a read tells: the bytes that it took spell the number
pub record Reads (bytes : List ℕ) (found : ℕ × ℕ) : Type 0 where
  pub fits : found.1 ≤ length bytes
  pub spelled : IsVarint (take found.1 bytes) found.0

whole_some : (there len n : ℕ) (found : ℕ × ℕ) → whole there len n ≡ Some found → (len ≤ there) × ((n, len) ≡ found)
whole_some there len n found h =
    elim (cases_lt there len) [
      | inl short ↦ let t : nat_lt there len ≡ true = lt-ltb there len short in let e = rw t at h in cc
      | inr fits ↦ let t : nat_lt there len ≡ false = le-ltb there len fits in let e = rw t at h in (fits, cc)
    ]

read_two : (bytes : List ℕ) (found : ℕ × ℕ) → IsBytes bytes → 64 ≤ slice_index bytes 0 → slice_index bytes 0 < 128
    → whole (length bytes) 2 (from_be_bytes w16 (take 2 bytes) - (2 ^ 14)) ≡ Some found → Reads bytes found
read_two bytes found are low high h =
    let m : ℕ = from_be_bytes w16 (take 2 bytes) in
    let parts = whole_some (length bytes) 2 (m - (2 ^ 14)) found h in
    let fr : IsBytes (take 2 bytes) = front_bytes 2 bytes parts.0 are in
    let first : get_or (take 2 bytes) 0 0 ≡ get_or bytes 0 0 = get_or-take 2 bytes 0 0 (omega arith) in
    let front : to_be_bytes w16 m ≡ take 2 bytes = be_bytes_2 (take 2 bytes) m (length-take-le 2 bytes parts.0) fr refl in
    let back : m ≡ 2 ^ 14 + (m - (2 ^ 14)) = omega (arith, fr 0, fr 1) in
    let bound : m - (2 ^ 14) < 2 ^ 14 = omega (arith, fr 0, fr 1) in
    subst (Reads bytes) parts.1 (record { fits = parts.0; spelled = two bound (sym front ∙ ap (to_be_bytes w16) back) })

read_four : (bytes : List ℕ) (found : ℕ × ℕ) → IsBytes bytes → 128 ≤ slice_index bytes 0 → slice_index bytes 0 < 192
    → whole (length bytes) 4 (from_be_bytes w32 (take 4 bytes) - (2 ^ 31)) ≡ Some found → Reads bytes found
read_four bytes found are low high h =
    let m : ℕ = from_be_bytes w32 (take 4 bytes) in
    let parts = whole_some (length bytes) 4 (m - (2 ^ 31)) found h in
    let fr : IsBytes (take 4 bytes) = front_bytes 4 bytes parts.0 are in
    let first : get_or (take 4 bytes) 0 0 ≡ get_or bytes 0 0 = get_or-take 4 bytes 0 0 (omega arith) in
    let front : to_be_bytes w32 m ≡ take 4 bytes = be_bytes_4 (take 4 bytes) m (length-take-le 4 bytes parts.0) fr refl in
    let back : m ≡ 2 ^ 31 + (m - (2 ^ 31)) = omega (arith, fr 0, fr 1, fr 2, fr 3) in
    let bound : m - (2 ^ 31) < 2 ^ 30 = omega (arith, fr 0, fr 1, fr 2, fr 3) in
    subst (Reads bytes) parts.1 (record { fits = parts.0; spelled = four bound (sym front ∙ ap (to_be_bytes w32) back) })

read_eight : (bytes : List ℕ) (found : ℕ × ℕ) → IsBytes bytes → 192 ≤ slice_index bytes 0 → slice_index bytes 0 < 256
    → whole (length bytes) 8 (from_be_bytes w64 (take 8 bytes) - (2 ^ 63 + 2 ^ 62)) ≡ Some found → Reads bytes found
read_eight bytes found are low high h =
    let m : ℕ = from_be_bytes w64 (take 8 bytes) in
    let parts = whole_some (length bytes) 8 (m - (2 ^ 63 + 2 ^ 62)) found h in
    let fr : IsBytes (take 8 bytes) = front_bytes 8 bytes parts.0 are in
    let first : get_or (take 8 bytes) 0 0 ≡ get_or bytes 0 0 = get_or-take 8 bytes 0 0 (omega arith) in
    let front : to_be_bytes w64 m ≡ take 8 bytes = be_bytes_8 (take 8 bytes) m (length-take-le 8 bytes parts.0) fr refl in
    let back : m ≡ 2 ^ 63 + 2 ^ 62 + (m - (2 ^ 63 + 2 ^ 62)) = omega (arith, fr 0, fr 1, fr 2, fr 3, fr 4, fr 5, fr 6, fr 7) in
    let bound : m - (2 ^ 63 + 2 ^ 62) < 2 ^ 62 = omega (arith, fr 0, fr 1, fr 2, fr 3, fr 4, fr 5, fr 6, fr 7) in
    subst (Reads bytes) parts.1 (record { fits = parts.0; spelled = eight bound (sym front ∙ ap (to_be_bytes w64) back) })

pub read_spelled : (bytes : List ℕ) (found : ℕ × ℕ) → IsBytes bytes → varint_at bytes ≡ Some found → Reads bytes found
unfolding varint_at
read_spelled bytes found are h =
    elim (cases_lt (length bytes) 1) [
      | inl none ↦ let t : nat_lt (length bytes) 1 ≡ true = lt-ltb (length bytes) 1 none in let e = rw t at h in cc
      | inr some ↦
          let t : nat_lt (length bytes) 1 ≡ false = le-ltb (length bytes) 1 some in
          elim (cases_lt (slice_index bytes 0) 64) [
            | inl low ↦
                let u : nat_lt (slice_index bytes 0) 64 ≡ true = lt-ltb (slice_index bytes 0) 64 low in
                let e = rw (t, u) at h in
                let is : (slice_index bytes 0, 1) ≡ found = cc in
                let front : take 1 bytes ≡ slice_index bytes 0 ∷ [] = take_more bytes 0 0 some in
                subst (Reads bytes) is (record { fits = some; spelled = one low front })
            | inr above ↦
                let u : nat_lt (slice_index bytes 0) 64 ≡ false = le-ltb (slice_index bytes 0) 64 above in
                elim (cases_lt (slice_index bytes 0) 128) [
                  | inl low ↦
                      let v : nat_lt (slice_index bytes 0) 128 ≡ true = lt-ltb (slice_index bytes 0) 128 low in
                      read_two bytes found are above low (rw (t, u, v) at h)
                  | inr above' ↦
                      let v : nat_lt (slice_index bytes 0) 128 ≡ false = le-ltb (slice_index bytes 0) 128 above' in
                      elim (cases_lt (slice_index bytes 0) 192) [
                        | inl low ↦
                            let x : nat_lt (slice_index bytes 0) 192 ≡ true = lt-ltb (slice_index bytes 0) 192 low in
                            read_four bytes found are above' low (rw (t, u, v, x) at h)
                        | inr above'' ↦
                            let x : nat_lt (slice_index bytes 0) 192 ≡ false = le-ltb (slice_index bytes 0) 192 above'' in
                            read_eight bytes found are above'' (are 0) (rw (t, u, v, x) at h)
                      ]
                ]
          ]
    ]

-- where nothing is read, no front of the bytes is spelled so
pub none_spelled : (bytes : List ℕ) → varint_at bytes ≡ None → (n k : ℕ) → IsVarint (take k bytes) n → ⊥
none_spelled bytes h n k spelled =
    let e = spelled_read (take k bytes) (drop k bytes) n spelled in
    let whole_is : take k bytes ++ drop k bytes ≡ bytes = take-append-drop k bytes in
    let e' : varint_at bytes ≡ Some (n, length (take k bytes)) = rw whole_is at e in
    cc
