use Rattle.std.proofs.Common.{◌≡◌, List, slice_get, map, refl, ap, ◌∙◌}
use Rattle.qh_spec.specs.Fields.{Field}
use Rattle.qh_spec.specs.StaticTable.{static_table}
use Rattle.qh_plain.specs.declared.sections.table.TheConstants.{ROWS}
use Rattle.qh_plain.proofs.sections.table.row.Goals as goal

rows_are : map (λ r. record { name = r.0.now; value = r.1.now }) ROWS ≡ static_table
unfolding static_table
rows_are = refl

pub returns : goal.returns
returns c = c.get.ensures ∙ ap (λ (z : List Field). slice_get z c.args.index) rows_are
