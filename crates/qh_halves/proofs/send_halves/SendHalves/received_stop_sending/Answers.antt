use Rattle.std.proofs.Common.{sym, refl, arith}
use Rattle.qh_halves.specs.SendHalves.{IsStoppedWith}
use Rattle.qh_halves.proofs.HalvesStepped.{kept_stepped, same_again, is_step}
use Rattle.qh_halves.proofs.HalfSteps.{bounds_go, stop_is}
use Rattle.qh_halves.proofs.send_halves.SendHalves.received_stop_sending.Goals as goal

pub invariant_of-self-2 : goal.invariant_of-self-2
invariant_of-self-2 c =
    let undone = c.self.invariant.undone c.args.id c.in-Some.half.now (sym c.in-Some.ensures.value) in
    let stop = stop_is c.in-Some.half.now c.try_stop.new.self c.args.code c.try_stop.result c.try_stop.ensures.first (λ again. (c.try_stop.ensures.again again).0) in
    let goes = bounds_go c.in-Some.half.now c.try_stop.new.self _ _ undone stop in
    rw (c.get_mut.follows.holds c.try_stop.new.self).0
    (kept_stepped c.self.inside c.self.invariant c.args.id c.in-Some.half.now c.try_stop.new.self c.in-Some.ensures.value _ goes.0 goes.2 (omega (arith, goes.1)))

pub returns-clause-first : goal.returns-clause-first
returns-clause-first c first =
    let undone = c.self.invariant.undone c.args.id c.in-Some.half.now (sym c.in-Some.ensures.value) in
    let stop = c.try_stop.ensures.first first in
    let goes = bounds_go c.in-Some.half.now c.try_stop.new.self _ _ undone stop.1 in
    rw (sym c.self.view_is)
    (is_step c.self.inside c.self.invariant c.args.id c.in-Some.half.now c.try_stop.new.self c.in-Some.ensures.value (IsStoppedWith c.args.code) _ _ 0
    (c.get_mut.follows.holds c.try_stop.new.self).0 (omega arith) stop goes.0.undone)

pub returns-clause-again : goal.returns-clause-again
returns-clause-again c again =
    let stop = c.try_stop.ensures.again again in
    let same = same_again c.self.inside c.args.id c.in-Some.half.now c.try_stop.new.self _ c.in-Some.ensures.value stop.0 (c.get_mut.follows.holds c.try_stop.new.self).0 in
    rw (same, sym c.self.view_is, sym c.in-Some.ensures.value) (refl, stop.1)
