use Rattle.std.proofs.Common.{rules}
use Rattle.qh_script.proofs.Refusals.{refused, no_named, no_named_empty, no_name, no_value}
use Rattle.qh_script.proofs.line.messages.read_named_value.Goals as goal

pub returns-in_err-name : goal.returns-in_err-name
returns-in_err-name c =
    rw (c.from_residual.ensures) (no_named c.args.text.now c.in_err-name.ensures)

pub returns-then-is_empty : goal.returns-then-is_empty
returns-then-is_empty c =
    no_named_empty c.args.text.now c.in_ok-name.name.now c.in_ok-name.value.now c.in_ok-name.ensures (search rules)

pub returns-then-not-is_field_name : goal.returns-then-not-is_field_name
returns-then-not-is_field_name c =
    no_name c.args.text.now c.in_ok-name.name.now c.in_ok-name.value.now c.in_ok-name.ensures
    (λ n. refused (c.is_field_name.ensures.1 n) c.if-not-is_field_name.true)

pub returns-then-not-is_field_value : goal.returns-then-not-is_field_value
returns-then-not-is_field_value c =
    no_value c.args.text.now c.in_ok-name.name.now c.in_ok-name.value.now c.in_ok-name.ensures
    (λ n. refused (c.is_field_value.ensures.1 n) c.if-not-is_field_value.true)
