use Rattle.std.proofs.Common.{◌≡◌, ◌++◌, take, flat_map}
use Rattle.qh_spec.specs.Report.{entry_block}
use Rattle.qh_script.proofs.report.put_entries.Given as goal

-- the blocks of the entries so far
abbrev pub invariant-loop-entry : goal.invariant-loop-entry
invariant-loop-entry l = l.out.items ≡ l.fn.out.items ++ flat_map entry_block (take l.entry-index l.entries)
