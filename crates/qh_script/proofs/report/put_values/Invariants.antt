use Rattle.std.proofs.Common.{◌≡◌, ◌++◌, map, flat_map}
use Rattle.qh_spec.specs.Report.{name_lines, value_line}
use Rattle.qh_script.specs.Report.{HasGrown}
use Rattle.qh_script.proofs.report.put_values.Given as goal

-- the lines of the values that are left end the lines of the name
abbrev pub invariant-loop-value : goal.invariant-loop-value
invariant-loop-value l = record {
  written : l.out.items ++ flat_map (value_line l.word l.name) (map (λ v. v.bytes) l.value-iterator) ≡ l.fn.out.items ++ name_lines l.word l.fields l.name;
  grown : HasGrown l.fn.out.items l.out.items;
}
