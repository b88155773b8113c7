use Rattle.std.proofs.Common.{◌∷◌, take}
use Rattle.std.specs.Prelude.{flat_map}
use Rattle.qh_spec.specs.Section.{line_bytes}
use Rattle.qh_qpack.proofs.Writing.{err_grown}
use Rattle.qh_qpack.proofs.encoder.encode_section.Goals as goal

pub returns-in_err-encode_field-clause-err : goal.returns-in_err-encode_field-clause-err
returns-in_err-encode_field-clause-err c =
    err_grown c.from_residual-in_err-encode_field.result c.args.out.now.items c.loop-field.out.items c.encode_field.new.out.items
    (0 ∷ 0 ∷ flat_map line_bytes (take c.loop-field.field-index c.args.fields.now)) c.loop-field.invariant.written c.in_err-encode_field.ensures.err
