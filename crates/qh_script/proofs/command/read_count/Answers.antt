use Rattle.std.proofs.Common.{◌≡◌, sym, ◌∙◌, arith}
use Rattle.qh_script.proofs.Decimals.{same_number}
use Rattle.qh_script.proofs.command.read_count.Goals as goal

pub returns-else-number-gt0 : goal.returns-else-number-gt0
returns-else-number-gt0 c =
    λ n is low high.
    let k = c.in_ok-number.ensures in
    let e : n ≡ c.in_ok-number.number = same_number n c.in_ok-number.number is.1 k.0.1 (sym is.0 ∙ sym c.as_bytes.ensures.value ∙ k.0.0) in
    let z = c.if-number-gt0.false in
    omega (arith, e, low)
