use Rattle.std.proofs.Common.{◌≡◌, ◌∷◌, ◌++◌, take}
use Rattle.std.specs.Prelude.{flat_map}
use Rattle.qh_spec.specs.Section.{line_bytes}
use Rattle.qh_qpack.specs.SectionFault.{bounded_size}
use Rattle.qh_qpack.proofs.encoder.encode_section.Given as goal

-- the lines of the fields so far, and their size
abbrev pub invariant-loop-field : goal.invariant-loop-field
invariant-loop-field l = record {
  written : l.out.items ≡ l.fn.out.items ++ (0 ∷ 0 ∷ flat_map line_bytes (take l.field-index l.fields));
  sized : l.size ≡ bounded_size (take l.field-index l.fields);
}
