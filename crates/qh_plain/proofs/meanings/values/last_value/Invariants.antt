use Rattle.std.proofs.Common.{◌≡◌, take, option_copied}
use Rattle.qh_spec.specs.Meaning.{pseudo}
use Rattle.qh_plain.proofs.meanings.values.last_value.Given as goal

-- the last so far
abbrev pub invariant-loop-field : goal.invariant-loop-field
invariant-loop-field l = option_copied l.last ≡ pseudo l.name (take l.field-index l.fields)
