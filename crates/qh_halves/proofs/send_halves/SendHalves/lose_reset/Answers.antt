use Rattle.std.proofs.Common.{◌≡◌, inl, sym, ◌∙◌, arith, to_z, of_z, w32, rules}
use Rattle.qh_halves.specs.SendHalves.{IsResetLost}
use Rattle.qh_halves.proofs.HalvesStepped.{put_stepped, room_for, is_step}
use Rattle.qh_halves.proofs.HalfSteps.{lost_reset_goes, lost_reset_holds}
use Rattle.qh_halves.proofs.send_halves.SendHalves.lose_reset.Goals as goal

pub insert-requires : goal.insert-requires
insert-requires c = room_for c.self.inside c.self.invariant c.args.id c.in-Some.half.now c.lose_reset.new.self c.in-Some.ensures.value

pub invariant_of-self-2 : goal.invariant_of-self-2
invariant_of-self-2 c =
    let is : to_z w32 (of_z w32 c.rank-priority.result) ≡ c.rank-priority.result = search rules in
    let undone = c.self.invariant.undone c.args.id c.in-Some.half.now (sym c.in-Some.ensures.value) in
    let same = lost_reset_holds c.in-Some.half.now c.lose_reset.new.self c.lose_reset.ensures in
    rw (c.get_mut.follows.holds c.lose_reset.new.self).0
    (put_stepped c.self.inside c.self.invariant c.args.id c.in-Some.half.now c.lose_reset.new.self c.in-Some.ensures.value c.insert.new.self _ _ _
    c.insert.ensures.waits c.insert.ensures.room (is ∙ c.rank-priority.ensures)
    (lost_reset_goes c.in-Some.half.now c.lose_reset.new.self undone c.lose_reset.ensures) (omega (arith, same)) c.self.invariant.credit)

pub returns-clause-queued : goal.returns-clause-queued
returns-clause-queued c =
    let undone = c.self.invariant.undone c.args.id c.in-Some.half.now (sym c.in-Some.ensures.value) in
    rw (sym c.self.view_is)
    (inl (is_step c.self.inside c.self.invariant c.args.id c.in-Some.half.now c.lose_reset.new.self c.in-Some.ensures.value IsResetLost _ _ 0
    (c.get_mut.follows.holds c.lose_reset.new.self).0 (omega arith) c.lose_reset.ensures (lost_reset_goes c.in-Some.half.now c.lose_reset.new.self undone c.lose_reset.ensures).undone))
