use Rattle.std.proofs.Common.{◌≡◌, ◌++◌, take, flat_map}
use Rattle.qh_spec.specs.Report.{name_lines}
use Rattle.qh_script.proofs.report.put_map.Given as goal

-- the lines of the names so far
abbrev pub invariant-loop-name : goal.invariant-loop-name
invariant-loop-name l =
    l.out.items ≡ l.fn.out.items ++ flat_map (λ name. name_lines l.word l.fields name.now) (take l.name-index l.name-items)
