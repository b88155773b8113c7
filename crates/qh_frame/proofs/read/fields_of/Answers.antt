use Rattle.std.proofs.Common.{sym, ◌∙◌, arith}
use Rattle.qh_frame.proofs.Named.{fields_named}
use Rattle.qh_frame.proofs.Shapes.{stream_fields, unknown_fields}
use Rattle.qh_frame.proofs.read.fields_of.Goals as goal

pub returns-in-0-to-7-clause-named : goal.returns-in-0-to-7-clause-named
returns-in-0-to-7-clause-named c = fields_named c.first_of.result c.args.kind c.args.bytes.now (λ e. omega arith) (λ e. omega arith) c.first_of.ensures

pub returns-in-8-to-15-clause-fields : goal.returns-in-8-to-15-clause-fields
returns-in-8-to-15-clause-fields c = c.stream.ensures ∙ sym (stream_fields c.args.kind c.args.bytes.now (omega arith))

pub returns-in-8-to-15-clause-named : goal.returns-in-8-to-15-clause-named
returns-in-8-to-15-clause-named c =
    fields_named c.stream.result c.args.kind c.args.bytes.now (λ e. omega arith) (λ e. omega arith) (c.stream.ensures ∙ sym (stream_fields c.args.kind c.args.bytes.now (omega arith)))

pub returns-in-16-to-23-clause-named : goal.returns-in-16-to-23-clause-named
returns-in-16-to-23-clause-named c = fields_named c.limit_of.result c.args.kind c.args.bytes.now (λ e. omega arith) (λ e. omega arith) c.limit_of.ensures

pub returns-in-24-to-30-clause-named : goal.returns-in-24-to-30-clause-named
returns-in-24-to-30-clause-named c = fields_named c.last_of.result c.args.kind c.args.bytes.now (λ e. omega arith) (λ e. omega arith) c.last_of.ensures

pub returns-in_default-clause-fields : goal.returns-in_default-clause-fields
returns-in_default-clause-fields c = sym (unknown_fields c.args.kind c.args.bytes.now (omega arith) (λ e. omega arith) (λ e. omega arith))
