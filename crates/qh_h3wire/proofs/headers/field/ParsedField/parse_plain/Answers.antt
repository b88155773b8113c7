use Rattle.qh_h3wire.proofs.Readable.{plain_fault}
use Rattle.qh_h3wire.proofs.Stable.{is_name}
use Rattle.qh_h3wire.proofs.headers.field.ParsedField.parse_plain.Goals as goal

pub returns-in-Err-OutOfMemory-clause-err : goal.returns-in-Err-OutOfMemory-clause-err
returns-in-Err-OutOfMemory-clause-err c =
    let name = is_name c.args.name.now (λ n. let both = c.in-Err-OutOfMemory.ensures.invalid.1 n in cc) in
    plain_fault c.value_fault.result (record { name = c.args.name.now; value = c.args.value.now }) name c.value_fault.ensures
