use Rattle.std.proofs.Common.{◌≡◌, ◌≢◌, codes, rules}
use Rattle.qh_spec.specs.ScriptLine.{all}
use Rattle.qh_script.proofs.Selects.{from_each}
use Rattle.qh_script.proofs.line.parts.read_select.Goals as goal

pub returns-then-eq : goal.returns-then-eq
returns-then-eq c = let e : c.args.text.now ≡ codes "all" = search rules in all e

pub returns-in-Some : goal.returns-in-Some
returns-in-Some c =
    let n : c.args.text.now ≢ codes "all" = search rules in
    from_each c.args.text.now c.in-Some.word.now c.in-Some.behind.now c.in-Some.ensures n c.read_each.result c.read_each.ensures
