-- A field without where its bytes lie, and what it adds to the size of a section.
use Rattle.std.specs.Prelude.{ℕ, ◌+◌, ◌-◌, ◌^◌, min, length}
use Rattle.qh_spec.specs.Fields.{Field}
use Rattle.qh_qpack.specs.declared.line.Line.{Line}

abbrev pub line_field : Line → Field
line_field l = record { name = l.name.now; value = l.value.now }

-- the size of a section with one more field (RFC 9114, section 4.2.2), up to the greatest number of 64 bits
abbrev pub size_added : ℕ → Field → ℕ
size_added size f = min (2 ^ 64 - 1) (size + (length f.name + length f.value + 32))
