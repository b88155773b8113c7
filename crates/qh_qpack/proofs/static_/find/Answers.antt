use Rattle.std.proofs.Common.{◌≡◌}
use Rattle.std.specs.Prelude.{position}
use Rattle.qh_spec.specs.Section.{same_field}
use Rattle.qh_spec.specs.StaticTable.{static_table}
use Rattle.qh_qpack.proofs.FirstPlaces.{field_place, inside}
use Rattle.qh_qpack.proofs.static_.find.Goals as goal

pub returns : goal.returns
returns c =
    let e : c.row_with.result ≡ position (same_field c.args.field.now) static_table =
    rw (c.row_with.ensures, c.rows_named.ensures, c.as_slice.ensures, c.as_slice-2.ensures, ← c.field.view_is) (field_place (record { name = c.field.inside.name; value = c.field.inside.value })) in
    record { least = e; bound = inside (same_field c.args.field.now) c.row_with.result e }
