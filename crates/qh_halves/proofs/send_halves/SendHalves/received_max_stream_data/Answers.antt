use Rattle.std.proofs.Common.{inl, sym, arith}
use Rattle.qh_halves.specs.SendHalves.{HasLimit}
use Rattle.qh_halves.proofs.HalvesStepped.{kept_stepped, is_step}
use Rattle.qh_halves.proofs.HalfSteps.{bounds_go}
use Rattle.qh_halves.proofs.send_halves.SendHalves.received_max_stream_data.Goals as goal

pub invariant_of-self-2 : goal.invariant_of-self-2
invariant_of-self-2 c =
    let undone = c.self.invariant.undone c.args.id c.in-Some.half.now (sym c.in-Some.ensures.value) in
    let goes = bounds_go c.in-Some.half.now c.increase_max_data.new.self _ _ undone c.increase_max_data.ensures.value in
    rw (c.get_mut.follows.holds c.increase_max_data.new.self).0
    (kept_stepped c.self.inside c.self.invariant c.args.id c.in-Some.half.now c.increase_max_data.new.self c.in-Some.ensures.value _ goes.0 goes.2 (omega (arith, goes.1)))

pub returns-clause-value : goal.returns-clause-value
returns-clause-value c =
    let undone = c.self.invariant.undone c.args.id c.in-Some.half.now (sym c.in-Some.ensures.value) in
    let goes = bounds_go c.in-Some.half.now c.increase_max_data.new.self _ _ undone c.increase_max_data.ensures.value in
    rw (sym c.self.view_is)
    (inl (is_step c.self.inside c.self.invariant c.args.id c.in-Some.half.now c.increase_max_data.new.self c.in-Some.ensures.value (HasLimit c.args.max) _ _ 0
    (c.get_mut.follows.holds c.increase_max_data.new.self).0 (omega arith) c.increase_max_data.ensures.value goes.0.undone))
