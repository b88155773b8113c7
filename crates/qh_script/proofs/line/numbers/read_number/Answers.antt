use Rattle.std.proofs.Common.{◌≡◌, false, true, refl, length, arith, rules}
use Rattle.qh_script.proofs.Decimals.{no_number_empty, no_number_zero, no_number_byte, no_number_many, number_end, read_more}
use Rattle.qh_script.proofs.line.numbers.read_number.Goals as goal

pub returns-then-is_empty : goal.returns-then-is_empty
returns-then-is_empty c = no_number_empty c.args.text.now (search rules)

pub returns-then-has_leading_zero : goal.returns-then-has_leading_zero
returns-then-has_leading_zero c = let z = c.if-has_leading_zero.ensures.0 refl in no_number_zero c.args.text.now z.0 z.1

pub returns-then-not-is_ascii_digit : goal.returns-then-not-is_ascii_digit
returns-then-not-is_ascii_digit c = no_number_byte c.args.text.now c.loop-digit.digit-index c.loop-digit-test.true (λ r. search rules)

pub returns-in_err-checked_mul : goal.returns-in_err-checked_mul
returns-in_err-checked_mul c =
    rw (c.from_residual.ensures)
    (no_number_many c.args.text.now c.loop-digit.digit-index c.loop-digit.number c.loop-digit-test.true c.loop-digit.invariant (search rules) (search rules) (search rules))

pub returns-in_err-number : goal.returns-in_err-number
returns-in_err-number c =
    rw (c.from_residual-in_err-number.ensures)
    (no_number_many c.args.text.now c.loop-digit.digit-index c.loop-digit.number c.loop-digit-test.true c.loop-digit.invariant (search rules) (search rules) (search rules))

pub loop-digit-preserved : goal.loop-digit-preserved
loop-digit-preserved c =
    read_more c.args.text.now c.loop-digit.digit-index c.loop-digit.number _ c.loop-digit-test.true c.loop-digit.invariant (search rules) (search rules) (search rules)
    (search rules)

pub returns : goal.returns
returns c =
    let all : c.loop-digit.digit-index ≡ length c.args.text.now = omega arith in
    number_end c.args.text.now c.loop-digit.number (rw all at c.loop-digit.invariant) (search rules) (λ z. let t : false ≡ true = c.if-has_leading_zero.ensures.1 z in cc)
