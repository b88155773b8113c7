use Rattle.std.proofs.Common.{sym, ◌∙◌, arith}
use Rattle.std.proofs.lemmas.Result.{err_from_is_err_and}
use Rattle.qh_h3wire.proofs.SettingsReading.{front_cut, front_taken, front_refused}
use Rattle.qh_h3wire.proofs.settings.Reading.take_front.Goals as goal

pub returns-in_default : goal.returns-in_default
returns-in_default c payload reading = front_cut payload c.args.rest.now c.args.self.now c.requires.some (sym c.read.ensures.exact ∙ c.in_default.is) reading

pub returns-in_err-take : goal.returns-in_err-take
returns-in_err-take c payload reading =
    let p = err_from_is_err_and c.from_residual.result c.from_residual.ensures.1 in
    rw (p.1, p.2)
    (front_refused payload c.args.rest.now c.args.self.now c.in-Some.entry _ (λ i. omega (arith, c.type_inv.rest i)) (sym c.read.ensures.exact ∙ c.in-Some.is) reading c.in_err-take.ensures)

pub returns : goal.returns
returns c payload reading =
    front_taken payload c.args.rest.now c.args.self.now c.take.new.self c.in-Some.entry (λ i. omega (arith, c.type_inv.rest i)) (sym c.read.ensures.exact ∙ c.in-Some.is) reading c.in_ok-take.ensures
