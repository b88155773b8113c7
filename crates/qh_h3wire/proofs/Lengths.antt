-- Lengths of what is written.
use Rattle.std.proofs.Common.{ℕ, ◌^◌, ◌<◌, ◌≤◌, List, ◌++◌, length, ap, arith, length-append}
use Rattle.qh_spec.proofs.Varints.{varint_spelled}
use Rattle.qh_spec.specs.Varint.{IsVarint, one, two, four, eight, varint}

form_short : (bytes : List ℕ) (n : ℕ) → IsVarint bytes n → length bytes ≤ 8
form_short bytes n (one _ e) = let l = ap length e in omega arith
form_short bytes n (two _ e) = let l = ap length e in omega arith
form_short bytes n (four _ e) = let l = ap length e in omega arith
form_short bytes n (eight _ e) = let l = ap length e in omega arith

pub varint_short : (n : ℕ) → n < 2 ^ 62 → length (varint n) ≤ 8
varint_short n h = form_short (varint n) n (varint_spelled n h)

pub promise_short : (id : ℕ) (section : List ℕ) → id < 2 ^ 62 → length section < 2 ^ 61 → length (varint id ++ section) < 2 ^ 62
promise_short id section h small =
    let a = varint_short id h in
    let b = length-append (varint id) section in
    omega arith
