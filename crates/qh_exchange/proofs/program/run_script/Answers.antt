use Rattle.std.proofs.Common.{◌∙◌, ap, sym, subst, arith}
use Rattle.std.specs.Prelude.{All}
use Rattle.qh_spec.specs.Echoed.{HasMaps}
use Rattle.qh_spec.specs.Schedule.{IsUpset}
use Rattle.qh_spec.specs.Script.{Script}
use Rattle.qh_spec.proofs.ScriptBounds.{short_step, upsets_are, few_rounds, requests_are}
use Rattle.qh_exchange.proofs.program.run_script.Goals as goal

pub scheduled-requires-clause-step : goal.scheduled-requires-clause-step
scheduled-requires-clause-step c =
    let e = ap (λ (s : Script). s.step) c.script.view_is in
    let b = short_step c.requires.script.0 c.args.script c.requires.script.1 in
    omega (arith, e, b)

pub scheduled-requires-clause-valid : goal.scheduled-requires-clause-valid
scheduled-requires-clause-valid c =
    let b = upsets_are c.requires.script.0 c.args.script c.requires.script.1 in
    subst (λ (s : Script). All IsUpset s.schedule) (sym c.script.view_is) b

pub run_requests-requires-clause-rounds : goal.run_requests-requires-clause-rounds
run_requests-requires-clause-rounds c =
    let b = few_rounds c.requires.script.0 c.args.script c.requires.script.1 in
    let e = c.rounds_for-rounds.ensures in
    omega (arith, e, b)

pub run_requests-requires-clause-maps : goal.run_requests-requires-clause-maps
run_requests-requires-clause-maps c =
    let b = requests_are c.requires.script.0 c.args.script c.requires.script.1 in
    let all : All HasMaps c.args.script.requests = λ k d l. (b k d l).1 in
    subst (All HasMaps) (ap (λ (s : Script). s.requests) (sym c.script.view_is) ∙ sym c.deref.ensures.value) all
