use Rattle.std.proofs.Common.{◌≡◌, List, slice_get, map, refl, ap, ◌∙◌}
use Rattle.qh_spec.specs.Fields.{Field}
use Rattle.qh_spec.specs.StaticTable.{static_table}
use Rattle.qh_qpack.specs.declared.static_.TheConstants.{ROWS}
use Rattle.qh_qpack.proofs.static_.get.Goals as goal

rows_are : map (λ r. record { name = r.0.now; value = r.1.now }) ROWS ≡ static_table
unfolding static_table
rows_are = refl

pub returns : goal.returns
returns c = c.get_in.ensures ∙ ap (λ (z : List Field). slice_get z c.args.index) rows_are
