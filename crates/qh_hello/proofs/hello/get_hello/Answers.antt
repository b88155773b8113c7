use Rattle.std.proofs.Common.{arith}
use Rattle.qh_hello.proofs.Keeping.{name_fault, memory_lacks, repeated_fault, later_fault}
use Rattle.qh_hello.specs.Refusals.{ids_of, fault_of}
use Rattle.qh_hello.proofs.hello.get_hello.Goals as goal

pub returns-then-server_name-gt-MAX_NAME_LEN-clause-err : goal.returns-then-server_name-gt-MAX_NAME_LEN-clause-err
returns-then-server_name-gt-MAX_NAME_LEN-clause-err c =
    let s = c.in-Some.ensures.found in
    name_fault c.args.sender (ids_of c.args.used.now) c.args.bytes.now c.in-Some.server_name.now c.in-Some.values.now s.0 s.1 (omega (arith, c.if-server_name-gt-MAX_NAME_LEN.true))

pub returns-in-Ok-false-clause-err : goal.returns-in-Ok-false-clause-err
returns-in-Ok-false-clause-err c =
    let s = c.in-Some.ensures.found in
    repeated_fault c.args.sender (ids_of c.args.used.now) c.args.bytes.now c.in-Some.server_name.now c.in-Some.values.now s.0 s.1 (omega (arith, c.if-server_name-gt-MAX_NAME_LEN.false))
    (c.in-Ok-false.ensures.twice c.in-Ok-false.field-0-test s.0 s.1.parameters)

pub returns-in-Err-clause-err : goal.returns-in-Err-clause-err
returns-in-Err-clause-err c =
    let s = c.in-Some.ensures.found in
    memory_lacks c.args.sender (ids_of c.args.used.now) c.args.bytes.now c.in-Some.server_name.now c.in-Some.values.now s.0 s.1 (omega (arith, c.if-server_name-gt-MAX_NAME_LEN.false))
    (c.in-Err.ensures.memory s.0 s.1.parameters)

pub returns-in-Err-read_parameters-clause-err : goal.returns-in-Err-read_parameters-clause-err
returns-in-Err-read_parameters-clause-err c =
    let s = c.in-Some.ensures.found in
    later_fault c.args.sender (ids_of c.args.used.now) c.args.bytes.now c.in-Some.server_name.now c.in-Some.values.now s.0 (fault_of c.in-Err-read_parameters.fault) s.1 (omega (arith, c.if-server_name-gt-MAX_NAME_LEN.false))
    (c.in-Ok-true.ensures.yes c.in-Ok-true.field-0-test s.0 s.1.parameters) (c.in-Err-read_parameters.ensures.err s.0 s.1.parameters s.1.is.1)
