-- Seven bits after seven bits.
use Rattle.std.proofs.Common.{◌≡◌, ℕ, zero, suc, ◌+◌, ◌*◌, ◌%◌, ◌^◌, ◌<◌, ◌≤◌, nat_lt, true, false, refl, sym, ap, ◌∙◌, arith, inl, inr, add_assoc}
use Rattle.std.proofs.Math.Nat.{mul_assoc, mul_comm, add-mul, suc-mul, zero-mul}
use Rattle.std.proofs.lemmas.Bool.{cases_lt, lt-ltb, le-ltb}
use Rattle.qh_qpack.specs.SectionAt.{next_weight}

-- the low bits of a byte
pub low_bits : (b : ℕ) → b < 128 → b % 128 ≡ b
low_bits b l = omega arith

-- those of a byte with another behind it
pub high_bits : (b : ℕ) → 128 ≤ b → b < 256 → b % 128 + 128 ≡ b
high_bits b l h = omega arith

higher : (high w : ℕ) → 128 * high * w ≡ high * (w * 128)
higher high w = mul_assoc 128 high w ∙ mul_comm 128 (high * w) ∙ mul_assoc high w 128

split : (n s high w : ℕ) → n ≡ s + 128 * high → n * w ≡ s * w + high * (w * 128)
split n s high w e = ap (λ (z : ℕ). z * w) e ∙ add-mul s (128 * high) w ∙ ap (λ (z : ℕ). s * w + z) (higher high w)

none_high : (high w x : ℕ) → 2 ^ 56 < w → high * (w * 128) ≤ x → x < 2 ^ 63 → high ≡ 0
none_high zero w x big le small = refl
none_high (suc h) w x big le small = let e = suc-mul h (w * 128) in absurd (omega arith)

-- one step of reading the number keeps what it comes to, where that is small enough
pub weighed_more : (value w n s high : ℕ) → n ≡ s + 128 * high → value + n * w < 2 ^ 63 → value + s * w + high * next_weight w ≡ value + n * w
weighed_more value w n s high e small =
    let parts = split n s high w e in
    elim (cases_lt (2 ^ 56) w) [
      | inl big ↦
          let t : nat_lt (2 ^ 56) w ≡ true = lt-ltb (2 ^ 56) w big in
          let none : high ≡ 0 = none_high high w (n * w) big (omega arith) (omega arith) in
          let n_is : n ≡ s = omega arith in
          rw (t, none, n_is) (omega (arith, zero-mul (2 ^ 63)))
      | inr low ↦
          let t : nat_lt (2 ^ 56) w ≡ false = le-ltb (2 ^ 56) w low in
          rw t (add_assoc value (s * w) (high * (w * 128)) ∙ ap (λ (z : ℕ). value + z) (sym parts))
    ]

-- and back: the number that was read, from what it comes to
pub weighed_back : (value w s high m : ℕ) → m ≡ value + s * w + high * next_weight w → m < 2 ^ 63 → m ≡ value + (s + 128 * high) * w
weighed_back value w s high m e small =
    let parts = split (s + 128 * high) s high w refl in
    elim (cases_lt (2 ^ 56) w) [
      | inl big ↦
          let t : nat_lt (2 ^ 56) w ≡ true = lt-ltb (2 ^ 56) w big in
          let d : m ≡ value + s * w + high * 2 ^ 63 = rw t at e in
          let none : high ≡ 0 = omega arith in
          let n_is : s + 128 * high ≡ s = omega arith in
          let f : m ≡ value + s * w + 0 * 2 ^ 63 = rw none at d in
          rw n_is (omega (arith, f))
      | inr low ↦
          let t : nat_lt (2 ^ 56) w ≡ false = le-ltb (2 ^ 56) w low in
          let d : m ≡ value + s * w + high * (w * 128) = rw t at e in
          d ∙ add_assoc value (s * w) (high * (w * 128)) ∙ ap (λ (z : ℕ). value + z) (sym parts)
    ]

-- a weight of one
pub weight_one : (n : ℕ) → 0 + n * 1 ≡ n
weight_one n = omega arith
