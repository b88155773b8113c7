-- The room that fields leave in a section (own).
use Rattle.std.specs.Prelude.{ℕ, ◌+◌, ◌-◌, nat_lt, nat_le, ◌&&◌, length, fold, List, Option, Some, None, if◌then◌else◌}
use Rattle.qh_spec.specs.Fields.{Field}
use Rattle.qh_plain.specs.declared.requests.room.Room.{Room}

-- the size of one field (RFC 9114, section 4.2.2)
abbrev pub field_size : Field → ℕ
field_size f = length f.name + length f.value + 32

-- the room that a field leaves, where there is any
abbrev pub after_field : Option Room → Field → Option Room
after_field None f = None
after_field (Some r) f =
    if nat_lt 0 r.fields && nat_le (field_size f) r.bytes then Some (record { fields = r.fields - 1; bytes = r.bytes - field_size f }) else None

-- the room that fields leave
abbrev pub after_fields : Option Room → List Field → Option Room
after_fields room fields = fold after_field room fields
