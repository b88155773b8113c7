use Rattle.std.proofs.Common.{◌≡◌, ◌≤◌, length, take, refl, sym, ap, ◌∙◌, arith, to_z, of_z, w32, rules}
use Rattle.std.specs.List.{concat}
use Rattle.std.proofs.lemmas.Result.{err_from_is_err_and}
use Rattle.qh_halves.specs.SendHalves.{Takes, write_limit}
use Rattle.qh_halves.proofs.HalvesStepped.{put_stepped, room_for, same_again, is_step}
use Rattle.qh_halves.proofs.HalfSteps.{write_goes, write_holds}
use Rattle.qh_halves.proofs.send_halves.SendHalves.write_chunks.Goals as goal

pub invariant_of-self-in_err-written : goal.invariant_of-self-in_err-written
invariant_of-self-in_err-written c =
    rw (same_again c.self.inside c.args.id c.in-Some.half.now c.write_chunks.new.self _ c.in-Some.ensures.value c.in_err-written.ensures.err.0 (c.get_mut.follows.holds c.write_chunks.new.self).0) c.self.invariant

pub returns-in_err-written-clause-err : goal.returns-in_err-written-clause-err
returns-in_err-written-clause-err c =
    let p = err_from_is_err_and c.from_residual.result c.from_residual.ensures.1 in
    let same = same_again c.self.inside c.args.id c.in-Some.half.now c.write_chunks.new.self _ c.in-Some.ensures.value c.in_err-written.ensures.err.0 (c.get_mut.follows.holds c.write_chunks.new.self).0 in
    rw (p.1, same, sym c.self.view_is) (refl, c.in_err-written.ensures.err.1)

pub insert-requires : goal.insert-requires
insert-requires c = room_for c.self.inside c.self.invariant c.args.id c.in-Some.half.now c.write_chunks.new.self c.in-Some.ensures.value

pub invariant_of-self-2 : goal.invariant_of-self-2
invariant_of-self-2 c =
    let is : to_z w32 (of_z w32 c.rank-priority.result) ≡ c.rank-priority.result = search rules in
    let limit = rw (sym c.self.view_is) at c.write_limit-limit.ensures in
    let count = c.in_ok-written.ensures.bytes in
    let fits : c.in_ok-written.written.bytes ≤ length (concat c.args.chunks.now) = omega (arith, count) in
    let more = write_holds c.in-Some.half.now c.write_chunks.new.self (concat c.args.chunks.now) _ c.in_ok-written.written.bytes c.in_ok-written.ensures.open fits c.in_ok-written.ensures.taken in
    rw (c.get_mut.follows.holds c.write_chunks.new.self).0
    (put_stepped c.self.inside c.self.invariant c.args.id c.in-Some.half.now c.write_chunks.new.self c.in-Some.ensures.value c.insert.new.self _ _ _
    c.insert.ensures.waits c.insert.ensures.room (is ∙ c.rank-priority.ensures)
    (write_goes c.in-Some.half.now c.write_chunks.new.self _ _ c.in_ok-written.ensures.open c.in_ok-written.ensures.taken) (omega (arith, more)) (omega (arith, count, limit, c.self.invariant.credit)))

pub returns-clause-ok : goal.returns-clause-ok
returns-clause-ok c =
    let taken = c.in_ok-written.ensures.taken in
    rw (sym c.self.view_is)
    (is_step c.self.inside c.self.invariant c.args.id c.in-Some.half.now c.write_chunks.new.self c.in-Some.ensures.value (Takes (take c.in_ok-written.written.bytes (concat c.args.chunks.now))) _ _ c.in_ok-written.written.bytes
    (c.get_mut.follows.holds c.write_chunks.new.self).0 refl taken (write_goes c.in-Some.half.now c.write_chunks.new.self _ _ c.in_ok-written.ensures.open taken).undone)

pub returns-in_err-written-clause-fault : goal.returns-in_err-written-clause-fault
returns-in_err-written-clause-fault c =
    let p = err_from_is_err_and c.from_residual.result c.from_residual.ensures.1 in
    rw (p.1, p.2, sym c.self.view_is, sym c.in-Some.ensures.value) (rw (c.write_limit-limit.ensures ∙ ap write_limit (sym c.self.view_is)) at c.in_err-written.ensures.fault)
