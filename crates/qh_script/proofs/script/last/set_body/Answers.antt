use Rattle.std.proofs.Common.{◌-◌, vec_len, Some, refl, sym, ap, arith}
use Rattle.qh_spec.specs.Script.{with_body}
use Rattle.qh_script.proofs.Changes.{changed}
use Rattle.qh_script.proofs.script.last.set_body.Goals as goal

pub returns-clause-taken : goal.returns-clause-taken
returns-clause-taken c =
    let old = c.args.requests.now in
    changed (with_body c.args.body.now) old.items c.in-Some.last.now c.set_body.new.self (vec_len old - 1)
    (omega (arith, c.in-Some.ensures.variant.0 refl)) c.in-Some.ensures.value (ap Some (sym c.in_ok-set_body.ensures.ok))
