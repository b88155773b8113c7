use Rattle.std.proofs.Common.{◌+◌, ◌≤◌, length}
use Rattle.qh_spec.specs.Script.{Script}
use Rattle.qh_script.specs.Outline.{IsOutline}
use Rattle.qh_script.proofs.Judging.{SeenOutlined}
use Rattle.qh_script.proofs.script.outline.Outline.take_lines.Given as goal

abbrev pub invariant-loop-rest : goal.invariant-loop-rest
invariant-loop-rest l = record {
  room : l.count + length l.rest ≤ length l.fn.text;
  seen : (s : Script) → IsOutline l.fn.self s → SeenOutlined l.fn.text l.rest s l.self l.count;
}

abbrev pub decreases-loop-rest : goal.decreases-loop-rest
decreases-loop-rest l = length l.rest
