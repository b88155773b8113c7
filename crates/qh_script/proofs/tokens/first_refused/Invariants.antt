use Rattle.std.proofs.Common.{◌+◌, ◌≤◌, length}
use Rattle.qh_spec.specs.TokenScript.{TokenScript}
use Rattle.qh_script.specs.Tokens.{HasLimits}
use Rattle.qh_script.proofs.TokensBehind.{SeenBehind}
use Rattle.qh_script.proofs.tokens.first_refused.Given as goal

abbrev pub invariant-loop-rest : goal.invariant-loop-rest
invariant-loop-rest l = record {
  room : l.count + length l.rest ≤ length l.fn.text;
  seen : (s : TokenScript) → HasLimits s → SeenBehind l.fn.text l.rest s l.count;
}

abbrev pub decreases-loop-rest : goal.decreases-loop-rest
decreases-loop-rest l = length l.rest
