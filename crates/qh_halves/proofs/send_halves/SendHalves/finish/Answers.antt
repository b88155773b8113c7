use Rattle.std.proofs.Common.{◌≡◌, refl, sym, ◌∙◌, arith, to_z, of_z, w32, rules}
use Rattle.std.proofs.lemmas.Result.{err_from_is_err_and}
use Rattle.qh_halves.specs.SendHalves.{Finishes}
use Rattle.qh_halves.proofs.HalvesStepped.{put_stepped, room_for, same_again, is_step}
use Rattle.qh_halves.proofs.HalfSteps.{finish_goes, finish_holds}
use Rattle.qh_halves.proofs.send_halves.SendHalves.finish.Goals as goal

pub invariant_of-self-in_err-finish : goal.invariant_of-self-in_err-finish
invariant_of-self-in_err-finish c =
    rw (same_again c.self.inside c.args.id c.in-Some.half.now c.finish.new.self _ c.in-Some.ensures.value c.in_err-finish.ensures.fault.1 (c.get_mut.follows.holds c.finish.new.self).0) c.self.invariant

pub returns-in_err-finish-clause-fault : goal.returns-in_err-finish-clause-fault
returns-in_err-finish-clause-fault c =
    let p = err_from_is_err_and c.from_residual.result c.from_residual.ensures.1 in
    let same = same_again c.self.inside c.args.id c.in-Some.half.now c.finish.new.self _ c.in-Some.ensures.value c.in_err-finish.ensures.fault.1 (c.get_mut.follows.holds c.finish.new.self).0 in
    rw (p.1, p.2, same, sym c.self.view_is, sym c.in-Some.ensures.value) (c.in_err-finish.ensures.fault.0, refl)

pub insert-requires : goal.insert-requires
insert-requires c = room_for c.self.inside c.self.invariant c.args.id c.in-Some.half.now c.finish.new.self c.in-Some.ensures.value

pub invariant_of-self-2 : goal.invariant_of-self-2
invariant_of-self-2 c =
    let is : to_z w32 (of_z w32 c.rank-priority.result) ≡ c.rank-priority.result = search rules in
    let finished = c.in_ok-finish.ensures.ok in
    let same = finish_holds c.in-Some.half.now c.finish.new.self finished.0 finished.1 in
    rw (c.get_mut.follows.holds c.finish.new.self).0
    (put_stepped c.self.inside c.self.invariant c.args.id c.in-Some.half.now c.finish.new.self c.in-Some.ensures.value c.insert.new.self _ _ _
    c.insert.ensures.waits c.insert.ensures.room (is ∙ c.rank-priority.ensures)
    (finish_goes c.in-Some.half.now c.finish.new.self finished.1) (omega (arith, same)) c.self.invariant.credit)

pub returns-clause-ok : goal.returns-clause-ok
returns-clause-ok c =
    let finished = c.in_ok-finish.ensures.ok in
    rw (sym c.self.view_is)
    (is_step c.self.inside c.self.invariant c.args.id c.in-Some.half.now c.finish.new.self c.in-Some.ensures.value Finishes _ _ 0
    (c.get_mut.follows.holds c.finish.new.self).0 (omega arith) finished (finish_goes c.in-Some.half.now c.finish.new.self finished.1).undone)
