use Rattle.std.proofs.Common.{sym, arith}
use Rattle.qh_frame.proofs.FieldsRead.{number_takes}
use Rattle.qh_frame.proofs.FramesRead.{read_frame, no_type, no_frame_here, no_fields}
use Rattle.qh_frame.proofs.read.get_frame.Goals as goal

pub returns-in_default-clause-none : goal.returns-in_default-clause-none
returns-in_default-clause-none c = no_frame_here c.args.bytes.now (sym c.in_default.ensures.exact)

pub returns-in_default-clause-fault : goal.returns-in_default-clause-fault
returns-in_default-clause-fault c = no_type c.args.bytes.now (sym c.in_default.ensures.exact)

pub returns-clause-found : goal.returns-clause-found
returns-clause-found c =
    read_frame c.args.bytes.now c.in-Some.rest.now c.in-Some-fields_of.rest.now c.in-Some.kind _ (λ i. omega (arith, c.type_inv.bytes i))
    (sym c.in-Some.ensures.exact) (sym c.in-Some-fields_of.ensures.fields)

pub returns-clause-kind : goal.returns-clause-kind
returns-clause-kind c = (
  c.in-Some.kind,
  c.in-Some.rest.now,
  (number_takes c.args.bytes.now c.in-Some.kind c.in-Some.rest.now (λ i. omega (arith, c.type_inv.bytes i)) (sym c.in-Some.ensures.exact)).0,
  c.in-Some-fields_of.ensures.named,
)

pub returns-in_default-fields_of-clause-none : goal.returns-in_default-fields_of-clause-none
returns-in_default-fields_of-clause-none c =
    no_fields c.args.bytes.now c.in-Some.rest.now c.in-Some.kind
    (sym c.in-Some.ensures.exact) (sym c.in_default-fields_of.ensures.fields)

pub returns-in_default-fields_of-clause-fault : goal.returns-in_default-fields_of-clause-fault
returns-in_default-fields_of-clause-fault c =
    (c.in-Some.rest.now, (number_takes c.args.bytes.now c.in-Some.kind c.in-Some.rest.now (λ i. omega (arith, c.type_inv.bytes i)) (sym c.in-Some.ensures.exact)).0)
