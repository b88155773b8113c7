use Rattle.std.proofs.Common.{◌≡◌, ◌++◌, ◌*◌, drop}
use Rattle.qh_script.specs.Report.{HasGrown, HaveMaps, HaveMapsFrom, exchange_blocks}
use Rattle.qh_script.proofs.report.put_report.Given as goal

-- the blocks of what is left end the blocks of all, and where what is left has maps, all have
abbrev pub invariant-loop-answer : goal.invariant-loop-answer
invariant-loop-answer l = record {
  stream : l.stream ≡ 4 * l.answer-index;
  written : l.out.items ++ exchange_blocks l.answer-index l.fn.entries (drop l.answer-index l.answers) ≡ l.fn.out.items ++ exchange_blocks 0 l.fn.entries l.answers;
  grown : HasGrown l.fn.out.items l.out.items;
  maps : HaveMapsFrom l.answer-index l.fn.entries (drop l.answer-index l.answers) → HaveMaps l.fn.entries l.answers;
}
