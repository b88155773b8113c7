-- Numbers of 16 bytes, by their halves.
use native.Mathlib.Nat.{div-div-eq-div-mul}
use Rattle.std.proofs.Common.{◌≡◌, ℕ, ◌+◌, ◌*◌, ◌/◌, ◌%◌, ◌<◌, ◌≤◌, ◌^◌, List, [], ◌∷◌, ◌++◌, length, get_or, take, drop, drop_at, refl, sym, ap, ◌∙◌, arith, subst, inl, inr}
use Rattle.std.specs.Int.{w16, w64, w128, to_be_bytes, from_be_bytes}
use Rattle.std.proofs.lemmas.Bool.{cases_lt}
use Rattle.std.proofs.lemmas.List.{length-take, length-take-le, length-drop, get_or-take, get_or-drop, get_or_past, take-append-drop}
use Rattle.std.proofs.lemmas.Nat.{be_bytes_2, be_bytes_8, from_be_bytes-to_be_bytes_8}
use Rattle.std.proofs.NetLemmas.Arrays.{eight_items}
use Rattle.qh_spec.proofs.Cuts.{halves}

-- the bytes of a number are those of its halves
pub both_halves : (n : ℕ) → to_be_bytes w128 n ≡ to_be_bytes w64 (n / 2 ^ 64) ++ to_be_bytes w64 (n % 2 ^ 64)
both_halves n =
    let h7 : n / 256 ^ 15 % 256 ≡ n / 2 ^ 64 / 256 ^ 7 % 256 = ap (λ (m : ℕ). m % 256) (sym (div-div-eq-div-mul n (2 ^ 64) (256 ^ 7))) in
    let h6 : n / 256 ^ 14 % 256 ≡ n / 2 ^ 64 / 256 ^ 6 % 256 = ap (λ (m : ℕ). m % 256) (sym (div-div-eq-div-mul n (2 ^ 64) (256 ^ 6))) in
    let h5 : n / 256 ^ 13 % 256 ≡ n / 2 ^ 64 / 256 ^ 5 % 256 = ap (λ (m : ℕ). m % 256) (sym (div-div-eq-div-mul n (2 ^ 64) (256 ^ 5))) in
    let h4 : n / 256 ^ 12 % 256 ≡ n / 2 ^ 64 / 256 ^ 4 % 256 = ap (λ (m : ℕ). m % 256) (sym (div-div-eq-div-mul n (2 ^ 64) (256 ^ 4))) in
    let h3 : n / 256 ^ 11 % 256 ≡ n / 2 ^ 64 / 256 ^ 3 % 256 = ap (λ (m : ℕ). m % 256) (sym (div-div-eq-div-mul n (2 ^ 64) (256 ^ 3))) in
    let h2 : n / 256 ^ 10 % 256 ≡ n / 2 ^ 64 / 256 ^ 2 % 256 = ap (λ (m : ℕ). m % 256) (sym (div-div-eq-div-mul n (2 ^ 64) (256 ^ 2))) in
    let h1 : n / 256 ^ 9 % 256 ≡ n / 2 ^ 64 / 256 ^ 1 % 256 = ap (λ (m : ℕ). m % 256) (sym (div-div-eq-div-mul n (2 ^ 64) (256 ^ 1))) in
    let h0 : n / 256 ^ 8 % 256 ≡ n / 2 ^ 64 % 256 = refl in
    let l7 : n / 256 ^ 7 % 256 ≡ n % 2 ^ 64 / 256 ^ 7 % 256 = omega arith in
    let l6 : n / 256 ^ 6 % 256 ≡ n % 2 ^ 64 / 256 ^ 6 % 256 = omega arith in
    let l5 : n / 256 ^ 5 % 256 ≡ n % 2 ^ 64 / 256 ^ 5 % 256 = omega arith in
    let l4 : n / 256 ^ 4 % 256 ≡ n % 2 ^ 64 / 256 ^ 4 % 256 = omega arith in
    let l3 : n / 256 ^ 3 % 256 ≡ n % 2 ^ 64 / 256 ^ 3 % 256 = omega arith in
    let l2 : n / 256 ^ 2 % 256 ≡ n % 2 ^ 64 / 256 ^ 2 % 256 = omega arith in
    let l1 : n / 256 ^ 1 % 256 ≡ n % 2 ^ 64 / 256 ^ 1 % 256 = omega arith in
    let l0 : n % 256 ≡ n % 2 ^ 64 % 256 = omega arith in
    λ i. h7 i ∷ h6 i ∷ h5 i ∷ h4 i ∷ h3 i ∷ h2 i ∷ h1 i ∷ h0 i ∷ l7 i ∷ l6 i ∷ l5 i ∷ l4 i ∷ l3 i ∷ l2 i ∷ l1 i ∷ l0 i ∷ []

pub joined : (x y : List ℕ) → length x ≡ 8 → from_be_bytes w128 (x ++ y) ≡ from_be_bytes w64 x * 2 ^ 64 + from_be_bytes w64 y
joined x y l = subst (λ (z : List ℕ). from_be_bytes w128 (z ++ y) ≡ from_be_bytes w64 z * 2 ^ 64 + from_be_bytes w64 y) (sym (eight_items x l)) (omega arith)

pub wide_once : (m n : ℕ) → m < 2 ^ 128 → n < 2 ^ 128 → to_be_bytes w128 m ≡ to_be_bytes w128 n → m ≡ n
wide_once m n a b e =
    let both = halves (to_be_bytes w64 (m / 2 ^ 64)) (to_be_bytes w64 (m % 2 ^ 64)) (to_be_bytes w64 (n / 2 ^ 64)) (to_be_bytes w64 (n % 2 ^ 64)) refl (sym (both_halves m) ∙ e ∙ both_halves n) in
    let high = sym (from_be_bytes-to_be_bytes_8 (m / 2 ^ 64) (omega arith)) ∙ ap (from_be_bytes w64) both.0 ∙ from_be_bytes-to_be_bytes_8 (n / 2 ^ 64) (omega arith) in
    let low = sym (from_be_bytes-to_be_bytes_8 (m % 2 ^ 64) (omega arith)) ∙ ap (from_be_bytes w64) both.1 ∙ from_be_bytes-to_be_bytes_8 (n % 2 ^ 64) (omega arith) in
    omega (arith, high, low)

abbrev pub IsBytes : List ℕ → Type 0
IsBytes bytes = (i : ℕ) → get_or bytes i 0 < 256

pub front_bytes : (k : ℕ) (bytes : List ℕ) → IsBytes bytes → IsBytes (take k bytes)
front_bytes k bytes are i =
    elim (cases_lt i k) [
      | inl inside ↦ let e = get_or-take k bytes i 0 inside in omega (arith, are i)
      | inr past ↦ let e = get_or_past (take k bytes) i 0 (omega (arith, length-take k bytes)) in omega arith
    ]

pub back_bytes : (k : ℕ) (bytes : List ℕ) → IsBytes bytes → IsBytes (drop k bytes)
back_bytes k bytes are i = let e = get_or-drop k bytes i 0 in omega (arith, are (k + i))

-- the number of 16 bytes spells them
pub wide_bytes : (bytes : List ℕ) (n : ℕ) → length bytes ≡ 16 → IsBytes bytes → n ≡ from_be_bytes w128 bytes → to_be_bytes w128 n ≡ bytes
wide_bytes bytes n l are e =
    let x : List ℕ = take 8 bytes in
    let y : List ℕ = drop 8 bytes in
    let xs : length x ≡ 8 = length-take-le 8 bytes (omega arith) in
    let ys : length y ≡ 8 = omega (arith, length-drop 8 bytes) in
    let high = from_be_bytes w64 x in
    let low = from_be_bytes w64 y in
    let x_are = front_bytes 8 bytes are in
    let y_are = back_bytes 8 bytes are in
    let bound : low < 2 ^ 64 = omega (arith, y_are 0, y_are 1, y_are 2, y_are 3, y_are 4, y_are 5, y_are 6, y_are 7) in
    let is : n ≡ high * 2 ^ 64 + low = e ∙ ap (from_be_bytes w128) (sym (take-append-drop 8 bytes)) ∙ joined x y xs in
    let front : to_be_bytes w64 (n / 2 ^ 64) ≡ x = be_bytes_8 x (n / 2 ^ 64) xs x_are (omega (arith, is, bound)) in
    let back : to_be_bytes w64 (n % 2 ^ 64) ≡ y = be_bytes_8 y (n % 2 ^ 64) ys y_are (omega (arith, is, bound)) in
    both_halves n ∙ ap (λ (z : List ℕ). z ++ to_be_bytes w64 (n % 2 ^ 64)) front ∙ ap (λ (z : List ℕ). x ++ z) back ∙ take-append-drop 8 bytes

pub later_bytes : (a x : List ℕ) → IsBytes (a ++ x) → IsBytes x
later_bytes a x are = subst IsBytes (drop_at a x (length a) refl) (back_bytes (length a) (a ++ x) are)

-- a number in the first 2, 8 or 16 bytes, and what follows
pub front_2 : (bytes chunk rest : List ℕ) (n : ℕ) → IsBytes bytes → 2 ≤ length bytes → chunk ≡ take 2 bytes → rest ≡ drop 2 bytes → n ≡ from_be_bytes w16 chunk → bytes ≡ to_be_bytes w16 n ++ rest
front_2 bytes chunk rest n are fits e f is =
    let spelled = be_bytes_2 chunk n (ap length e ∙ length-take-le 2 bytes fits) (subst IsBytes (sym e) (front_bytes 2 bytes are)) is in
    sym (take-append-drop 2 bytes) ∙ ap (λ (z : List ℕ). z ++ drop 2 bytes) (sym e ∙ sym spelled) ∙ ap (λ (z : List ℕ). to_be_bytes w16 n ++ z) (sym f)

pub front_8 : (bytes chunk rest : List ℕ) (n : ℕ) → IsBytes bytes → 8 ≤ length bytes → chunk ≡ take 8 bytes → rest ≡ drop 8 bytes → n ≡ from_be_bytes w64 chunk → bytes ≡ to_be_bytes w64 n ++ rest
front_8 bytes chunk rest n are fits e f is =
    let spelled = be_bytes_8 chunk n (ap length e ∙ length-take-le 8 bytes fits) (subst IsBytes (sym e) (front_bytes 8 bytes are)) is in
    sym (take-append-drop 8 bytes) ∙ ap (λ (z : List ℕ). z ++ drop 8 bytes) (sym e ∙ sym spelled) ∙ ap (λ (z : List ℕ). to_be_bytes w64 n ++ z) (sym f)

pub front_16 : (bytes chunk rest : List ℕ) (n : ℕ) → IsBytes bytes → 16 ≤ length bytes → chunk ≡ take 16 bytes → rest ≡ drop 16 bytes → n ≡ from_be_bytes w128 chunk → bytes ≡ to_be_bytes w128 n ++ rest
front_16 bytes chunk rest n are fits e f is =
    let spelled = wide_bytes chunk n (ap length e ∙ length-take-le 16 bytes fits) (subst IsBytes (sym e) (front_bytes 16 bytes are)) is in
    sym (take-append-drop 16 bytes) ∙ ap (λ (z : List ℕ). z ++ drop 16 bytes) (sym e ∙ sym spelled) ∙ ap (λ (z : List ℕ). to_be_bytes w128 n ++ z) (sym f)
