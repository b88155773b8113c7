use Rattle.qh_spec.specs.Script.{too_long}
use Rattle.qh_script.proofs.script.read_script.Goals as goal

pub returns-then-text-gt-MAX_SCRIPT-clause-refused :
    goal.returns-then-text-gt-MAX_SCRIPT-clause-refused
returns-then-text-gt-MAX_SCRIPT-clause-refused c = too_long c.if-text-gt-MAX_SCRIPT.true
