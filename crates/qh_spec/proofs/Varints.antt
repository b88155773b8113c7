-- No form of a number begins another: what is spelled as a number is read as it.
use Rattle.std.specs.Prelude.{if◌then◌else◌}
use Rattle.std.proofs.Common.{◌≡◌, ℕ, ◌+◌, ◌-◌, ◌^◌, ◌<◌, nat_lt, true, false, List, [], ◌∷◌, ◌++◌, length, take, refl, sym, ap, ◌∙◌, arith, inl, inr, Option, Some, None, slice_index}
use Rattle.std.specs.Int.{w16, w32, w64, to_be_bytes, from_be_bytes}
use Rattle.std.proofs.lemmas.Bool.{cases_lt, lt-ltb, le-ltb}
use Rattle.std.proofs.lemmas.List.{take_at}
use Rattle.std.proofs.lemmas.Nat.{from_be_bytes-to_be_bytes_2, from_be_bytes-to_be_bytes_4, from_be_bytes-to_be_bytes_8}
use Rattle.qh_spec.specs.Varint.{IsVarint, one, two, four, eight, varint}

-- a number of so many bytes, where they are there
abbrev whole : ℕ → ℕ → ℕ → Option (ℕ × ℕ)
whole there len n = if nat_lt there len then None else Some (n, len)

-- the number that stands in front of some bytes, and how many bytes it takes
unfoldable pub varint_at : List ℕ → Option (ℕ × ℕ)
varint_at bytes = if nat_lt (length bytes) 1 then None
    else if nat_lt (slice_index bytes 0) 64 then Some (slice_index bytes 0, 1)
    else if nat_lt (slice_index bytes 0) 128 then whole (length bytes) 2 (from_be_bytes w16 (take 2 bytes) - 2 ^ 14)
    else if nat_lt (slice_index bytes 0) 192 then whole (length bytes) 4 (from_be_bytes w32 (take 4 bytes) - 2 ^ 31)
    else whole (length bytes) 8 (from_be_bytes w64 (take 8 bytes) - (2 ^ 63 + 2 ^ 62))

-- what is spelled so is read, whatever follows
pub spelled_read : (bytes rest : List ℕ) (n : ℕ) → IsVarint bytes n → varint_at (bytes ++ rest) ≡ Some (n, length bytes)
unfolding varint_at
spelled_read bytes rest n (one bound e) =
    let t : nat_lt n 64 ≡ true = lt-ltb n 64 bound in
    let u : nat_lt (length (n ∷ rest)) 1 ≡ false = le-ltb (length (n ∷ rest)) 1 (omega arith) in
    rw (e, u, t)
spelled_read bytes rest n (two bound e) =
    let m : ℕ = 2 ^ 14 + n in
    let first : ℕ = slice_index (to_be_bytes w16 m ++ rest) 0 in
    let u : nat_lt (length (to_be_bytes w16 m ++ rest)) 1 ≡ false = le-ltb (length (to_be_bytes w16 m ++ rest)) 1 (omega arith) in
    let a : nat_lt first 64 ≡ false = le-ltb first 64 (omega arith) in
    let b : nat_lt first 128 ≡ true = lt-ltb first 128 (omega arith) in
    let v : nat_lt (length (to_be_bytes w16 m ++ rest)) 2 ≡ false = le-ltb (length (to_be_bytes w16 m ++ rest)) 2 (omega arith) in
    let back : from_be_bytes w16 (to_be_bytes w16 m) - 2 ^ 14 ≡ n = omega (arith, from_be_bytes-to_be_bytes_2 m (omega arith)) in
    rw (e, u, a, b, v, back)
spelled_read bytes rest n (four bound e) =
    let m : ℕ = 2 ^ 31 + n in
    let first : ℕ = slice_index (to_be_bytes w32 m ++ rest) 0 in
    let u : nat_lt (length (to_be_bytes w32 m ++ rest)) 1 ≡ false = le-ltb (length (to_be_bytes w32 m ++ rest)) 1 (omega arith) in
    let a : nat_lt first 64 ≡ false = le-ltb first 64 (omega arith) in
    let b : nat_lt first 128 ≡ false = le-ltb first 128 (omega arith) in
    let d : nat_lt first 192 ≡ true = lt-ltb first 192 (omega arith) in
    let v : nat_lt (length (to_be_bytes w32 m ++ rest)) 4 ≡ false = le-ltb (length (to_be_bytes w32 m ++ rest)) 4 (omega arith) in
    let back : from_be_bytes w32 (to_be_bytes w32 m) - (2 ^ 31) ≡ n = omega (arith, from_be_bytes-to_be_bytes_4 m (omega arith)) in
    rw (e, u, a, b, d, v, back)
spelled_read bytes rest n (eight bound e) =
    let m : ℕ = 2 ^ 63 + 2 ^ 62 + n in
    let first : ℕ = slice_index (to_be_bytes w64 m ++ rest) 0 in
    let u : nat_lt (length (to_be_bytes w64 m ++ rest)) 1 ≡ false = le-ltb (length (to_be_bytes w64 m ++ rest)) 1 (omega arith) in
    let a : nat_lt first 64 ≡ false = le-ltb first 64 (omega arith) in
    let b : nat_lt first 128 ≡ false = le-ltb first 128 (omega arith) in
    let d : nat_lt first 192 ≡ false = le-ltb first 192 (omega arith) in
    let v : nat_lt (length (to_be_bytes w64 m ++ rest)) 8 ≡ false = le-ltb (length (to_be_bytes w64 m ++ rest)) 8 (omega arith) in
    let back : from_be_bytes w64 (to_be_bytes w64 m) - (2 ^ 63 + 2 ^ 62) ≡ n = omega (arith, from_be_bytes-to_be_bytes_8 m (omega arith)) in
    rw (e, u, a, b, d, v, back)

-- the shortest form is a form
pub varint_spelled : (n : ℕ) → n < 2 ^ 62 → IsVarint (varint n) n
unfolding varint
varint_spelled n bound =
    elim (cases_lt n (2 ^ 6)) [
      | inl h ↦ let t : nat_lt n (2 ^ 6) ≡ true = lt-ltb n (2 ^ 6) h in rw t (one h refl)
      | inr g ↦ let t : nat_lt n (2 ^ 6) ≡ false = le-ltb n (2 ^ 6) g in
          elim (cases_lt n (2 ^ 14)) [
            | inl h ↦ let u : nat_lt n (2 ^ 14) ≡ true = lt-ltb n (2 ^ 14) h in rw (t, u) (two h refl)
            | inr g ↦ let u : nat_lt n (2 ^ 14) ≡ false = le-ltb n (2 ^ 14) g in
                elim (cases_lt n (2 ^ 30)) [
                  | inl h ↦ let v : nat_lt n (2 ^ 30) ≡ true = lt-ltb n (2 ^ 30) h in rw (t, u, v) (four h refl)
                  | inr g ↦ let v : nat_lt n (2 ^ 30) ≡ false = le-ltb n (2 ^ 30) g in rw (t, u, v) (eight bound refl)
                ]
          ]
    ]

-- no form begins another
pub one_form : (a b x y : List ℕ) (m n : ℕ) → IsVarint a m → IsVarint b n → a ++ x ≡ b ++ y → (a ≡ b) × (m ≡ n)
one_form a b x y m n p q e =
    let r = spelled_read a x m p in
    let s = spelled_read b y n q in
    let both : ◌≡◌ {A = Option (ℕ × ℕ)} (Some (m, length a)) (Some (n, length b)) = sym r ∙ ap varint_at e ∙ s in
    let pair : (m, length a) ≡ (n, length b) = cc in
    let len : length a ≡ length b = ap (λ (z : ℕ × ℕ). z.1) pair in
    (sym (take_at a x (length a) refl) ∙ ap (take (length a)) e ∙ take_at b y (length a) (sym len), ap (λ (z : ℕ × ℕ). z.0) pair)

none_here : (n : ℕ) → varint_at [] ≡ Some (n, 0) → ⊥
unfolding varint_at
none_here n e = cc

-- a form has a byte
pub no_empty_varint : (n : ℕ) → IsVarint [] n → ⊥
no_empty_varint n p =
    let s : varint_at [] ≡ Some (n, 0) = spelled_read [] [] n p in
    none_here n s
