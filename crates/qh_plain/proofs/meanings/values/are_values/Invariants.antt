use Rattle.std.proofs.Common.{◌≡◌, ◌++◌, take}
use Rattle.qh_spec.specs.Meaning.{values_of}
use Rattle.qh_plain.specs.Values.{bytes_of}
use Rattle.qh_plain.proofs.meanings.values.are_values.Given as goal

-- the values so far, and those that are left
abbrev pub invariant-loop-field : goal.invariant-loop-field
invariant-loop-field l = bytes_of l.initial.values ≡ values_of l.name (take l.field-index l.fields) ++ bytes_of l.values
