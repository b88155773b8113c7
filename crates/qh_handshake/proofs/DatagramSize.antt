-- How many bytes a datagram has.
use Rattle.std.proofs.Common.{◌≡◌, ℕ, ◌+◌, ◌-◌, ◌<◌, ◌≤◌, ◌^◌, List, [], ◌++◌, length, ap, ◌∙◌, inl, inr, arith}
use Rattle.std.specs.Prelude.{max}
use Rattle.std.proofs.lemmas.List.{length-append}
use Rattle.std.proofs.lemmas.Bool.{cases_lt, lt-ltb, le-ltb}
use Rattle.qh_packet.specs.Initial.{bare_size, initial_size}
use Rattle.qh_spec.specs.Varint.{varint}

-- a number below 2 ^ 14 takes two bytes at most
varint_small : (n : ℕ) → n < 2 ^ 14 → length (varint n) ≤ 2
unfolding varint
varint_small n small =
    elim (cases_lt n (2 ^ 6)) [
      | inl less ↦ rw (lt-ltb n (2 ^ 6) less) (omega arith)
      | inr more ↦ rw (le-ltb n (2 ^ 6) more, lt-ltb n (2 ^ 14) small) (omega arith)
    ]

-- what was appended has at least the size that is wanted, and fits in a datagram
pub datagram_size : (destination source token frames datagram before after : List ℕ) (least size : ℕ) → length datagram ≡ max least (initial_size destination source token frames)
    → length frames ≤ 1200 - (bare_size destination source token [] + 2) → 532 ≤ 1200 - (bare_size destination source token [] + 2) → least ≤ 1200 → after ≡ before ++ datagram
    → size ≡ length after - length before → (size ≡ length datagram) × (size ≤ 1200) × (least ≤ size)
datagram_size destination source token frames datagram before after least size length_is fits wide bound after_is size_is =
    let sum = ap length after_is ∙ length-append before datagram in
    let small = varint_small (36 + length frames) (omega (arith, fits)) in
    (omega (arith, sum, size_is), omega (arith, sum, length_is, small, fits, wide, bound, size_is), omega (arith, sum, length_is, size_is))
