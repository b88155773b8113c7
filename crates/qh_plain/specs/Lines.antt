-- A field without where its bytes lie.
use Rattle.qh_spec.specs.Fields.{Field}
use Rattle.qh_plain.specs.declared.sections.line.Line.{Line}

abbrev pub line_field : Line → Field
line_field l = record { name = l.name.now; value = l.value.now }
