use Rattle.std.proofs.Common.{◌≡◌, [], take}
use Rattle.qh_spec.specs.Meaning.{values_of}
use Rattle.qh_plain.proofs.meanings.values.first_value.Given as goal

-- none so far
abbrev pub invariant-loop-field : goal.invariant-loop-field
invariant-loop-field l = values_of l.name (take l.field-index l.fields) ≡ []
