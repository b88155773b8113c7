use Rattle.std.proofs.Common.{◌≡◌}
use Rattle.std.specs.Prelude.{position}
use Rattle.qh_spec.specs.Section.{same_name}
use Rattle.qh_spec.specs.StaticTable.{static_table}
use Rattle.qh_qpack.proofs.FirstPlaces.{name_place, inside}
use Rattle.qh_qpack.proofs.static_.find_name.Goals as goal

pub returns : goal.returns
returns c =
    let e : c.first_of.result ≡ position (same_name c.args.field.now) static_table =
    rw (c.first_of.ensures, c.rows_named.ensures, c.as_slice.ensures, ← c.field.view_is) (name_place (record { name = c.field.inside.name; value = c.field.inside.value })) in
    record { least = e; bound = inside (same_name c.args.field.now) c.first_of.result e }
