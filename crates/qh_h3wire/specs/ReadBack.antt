-- Heads that are written as a section, and read again.
use Rattle.std.specs.Prelude.{List, [], unwrap_or}
use Rattle.qh_spec.specs.Fields.{Field}
use Rattle.qh_spec.specs.Message.{PlainTarget, target_path_and_query}
use Rattle.qh_spec.specs.Section.{IsSection, section_bytes}
use Rattle.qh_h3wire.specs.Header.{written_fields, IsHeaderOf, IsSendable}
use Rattle.qh_h3wire.specs.PlainHeader.{PlainHeader}

-- the target with an empty path as `/` (RFC 9114, section 4.3.1)
abbrev pub slash_target : PlainTarget → PlainTarget
slash_target t = record t { path_and_query = unwrap_or (target_path_and_query t) [] }

-- the lines are decoded of the section of this head
pub record AreLinesOf (h : PlainHeader) (lines : List Field) : Type 0 where
  pub sendable : IsSendable h
  pub decoded : IsSection (section_bytes (written_fields h)) lines

-- the lines are decoded of the section of the first head, and give the other
pub record IsReadBack (h : PlainHeader) (lines : List Field) (k : PlainHeader) : Type 0 where
  pub are_lines : AreLinesOf h lines
  pub read : IsHeaderOf lines k
