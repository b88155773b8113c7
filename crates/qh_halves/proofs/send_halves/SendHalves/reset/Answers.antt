use Rattle.std.proofs.Common.{◌≡◌, refl, sym, ◌∙◌, arith, to_z, of_z, w32, rules}
use Rattle.std.proofs.lemmas.Result.{err_from_is_err_and}
use Rattle.qh_halves.specs.SendHalves.{IsResetWith}
use Rattle.qh_halves.proofs.HalvesStepped.{put_stepped, room_for, same_again, held_within, is_step}
use Rattle.qh_halves.proofs.HalfSteps.{reset_goes, reset_holds}
use Rattle.qh_halves.proofs.send_halves.SendHalves.reset.Goals as goal

pub invariant_of-self-in_err-reset : goal.invariant_of-self-in_err-reset
invariant_of-self-in_err-reset c =
    rw (same_again c.self.inside c.args.id c.in-Some.half.now c.reset.new.self _ c.in-Some.ensures.value c.in_err-reset.ensures.fault.1 (c.get_mut.follows.holds c.reset.new.self).0) c.self.invariant

pub returns-in_err-reset-clause-fault : goal.returns-in_err-reset-clause-fault
returns-in_err-reset-clause-fault c =
    let p = err_from_is_err_and c.from_residual.result c.from_residual.ensures.1 in
    let same = same_again c.self.inside c.args.id c.in-Some.half.now c.reset.new.self _ c.in-Some.ensures.value c.in_err-reset.ensures.fault.1 (c.get_mut.follows.holds c.reset.new.self).0 in
    rw (p.1, same, sym c.self.view_is, sym c.in-Some.ensures.value) (c.in_err-reset.ensures.fault.0, refl)

pub overflow_sub-self : goal.overflow_sub-self
overflow_sub-self c =
    let bytes = reset_holds c.in-Some.half.now c.reset.new.self c.args.code c.in_ok-reset.ensures.ok.0 c.in_ok-reset.ensures.ok.1 in
    let within = held_within c.self.inside.halves.entries c.args.id c.in-Some.half.now (sym c.in-Some.ensures.value) in
    omega (arith, bytes.1, within, c.self.invariant.counted, c.unacked.ensures)

pub insert-requires : goal.insert-requires
insert-requires c = room_for c.self.inside c.self.invariant c.args.id c.in-Some.half.now c.reset.new.self c.in-Some.ensures.value

pub invariant_of-self-2 : goal.invariant_of-self-2
invariant_of-self-2 c =
    let is : to_z w32 (of_z w32 c.rank-priority.result) ≡ c.rank-priority.result = search rules in
    let left = c.in_ok-reset.ensures.ok in
    let bytes = reset_holds c.in-Some.half.now c.reset.new.self c.args.code left.0 left.1 in
    let within = held_within c.self.inside.halves.entries c.args.id c.in-Some.half.now (sym c.in-Some.ensures.value) in
    rw (c.get_mut.follows.holds c.reset.new.self).0
    (put_stepped c.self.inside c.self.invariant c.args.id c.in-Some.half.now c.reset.new.self c.in-Some.ensures.value c.insert.new.self _ _ _
    c.insert.ensures.waits c.insert.ensures.room (is ∙ c.rank-priority.ensures)
    (reset_goes c.in-Some.half.now c.reset.new.self c.args.code left.1) (omega (arith, bytes.0, bytes.1, within, c.self.invariant.counted, c.unacked.ensures)) c.self.invariant.credit)

pub returns-clause-ok : goal.returns-clause-ok
returns-clause-ok c =
    let left = c.in_ok-reset.ensures.ok in
    rw (sym c.self.view_is)
    (is_step c.self.inside c.self.invariant c.args.id c.in-Some.half.now c.reset.new.self c.in-Some.ensures.value (IsResetWith c.args.code) _ _ 0
    (c.get_mut.follows.holds c.reset.new.self).0 (omega arith) left (reset_goes c.in-Some.half.now c.reset.new.self c.args.code left.1).undone)
