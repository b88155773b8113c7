use Rattle.std.proofs.Common.{◌≡◌}
use Rattle.qh_spec.specs.Script.{filling}
use Rattle.qh_script.proofs.script.last.filling.Given as goal

abbrev pub invariant-loop-i : goal.invariant-loop-i
invariant-loop-i l = l.bytes.items ≡ filling 0 l.i
