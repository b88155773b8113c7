use Rattle.std.proofs.Common.{◌≡◌, ◌≤◌, length, take, refl, sym, ap, ◌∙◌, arith, to_z, of_z, w32, rules}
use Rattle.std.proofs.lemmas.Result.{err_from_is_err_and}
use Rattle.qh_halves.specs.SendHalves.{Takes, write_limit}
use Rattle.qh_halves.proofs.HalvesStepped.{put_stepped, room_for, same_again, spans_stay, is_step}
use Rattle.qh_halves.proofs.HalfSteps.{write_goes, write_holds, write_spans}
use Rattle.qh_halves.proofs.send_halves.SendHalves.write.Goals as goal

pub invariant_of-self-in_err-bytes : goal.invariant_of-self-in_err-bytes
invariant_of-self-in_err-bytes c =
    rw (same_again c.self.inside c.args.id c.in-Some.half.now c.write.new.self _ c.in-Some.ensures.value c.in_err-bytes.ensures.err (c.get_mut.follows.holds c.write.new.self).0) c.self.invariant

pub returns-in_err-bytes-clause-err : goal.returns-in_err-bytes-clause-err
returns-in_err-bytes-clause-err c =
    let p = err_from_is_err_and c.from_residual.result c.from_residual.ensures.1 in
    let same = same_again c.self.inside c.args.id c.in-Some.half.now c.write.new.self _ c.in-Some.ensures.value c.in_err-bytes.ensures.err (c.get_mut.follows.holds c.write.new.self).0 in
    rw (p.1, same, sym c.self.view_is) refl

pub insert-requires : goal.insert-requires
insert-requires c = room_for c.self.inside c.self.invariant c.args.id c.in-Some.half.now c.write.new.self c.in-Some.ensures.value

pub invariant_of-self-2 : goal.invariant_of-self-2
invariant_of-self-2 c =
    let is : to_z w32 (of_z w32 c.rank-priority.result) ≡ c.rank-priority.result = search rules in
    let limit = rw (sym c.self.view_is) at c.write_limit-limit.ensures in
    let count = c.in_ok-bytes.ensures.ok.0 in
    let fits : c.in_ok-bytes.bytes ≤ length (c.args.payload.now) = omega (arith, count) in
    let more = write_holds c.in-Some.half.now c.write.new.self (c.args.payload.now) _ c.in_ok-bytes.bytes c.in_ok-bytes.ensures.open fits c.in_ok-bytes.ensures.ok.1 in
    rw (c.get_mut.follows.holds c.write.new.self).0
    (put_stepped c.self.inside c.self.invariant c.args.id c.in-Some.half.now c.write.new.self c.in-Some.ensures.value c.insert.new.self _ _ _
    c.insert.ensures.waits c.insert.ensures.room (is ∙ c.rank-priority.ensures)
    (write_goes c.in-Some.half.now c.write.new.self _ _ c.in_ok-bytes.ensures.open c.in_ok-bytes.ensures.ok.1) (omega (arith, more)) (omega (arith, count, limit, c.self.invariant.credit)))

pub returns-clause-ok : goal.returns-clause-ok
returns-clause-ok c =
    rw (sym c.self.view_is)
    (is_step c.self.inside c.self.invariant c.args.id c.in-Some.half.now c.write.new.self c.in-Some.ensures.value (Takes (take c.in_ok-bytes.bytes c.args.payload.now)) _ _ c.in_ok-bytes.bytes
    (c.get_mut.follows.holds c.write.new.self).0 refl c.in_ok-bytes.ensures.ok.1 (write_goes c.in-Some.half.now c.write.new.self _ _ c.in_ok-bytes.ensures.open c.in_ok-bytes.ensures.ok.1).undone)

pub returns-clause-spans : goal.returns-clause-spans
returns-clause-spans c k frame span =
    rw (c.get_mut.follows.holds c.write.new.self).0
    (spans_stay c.self.inside c.self.invariant c.args.id c.in-Some.half.now c.write.new.self c.in-Some.ensures.value
    (write_spans c.in-Some.half.now c.write.new.self _ c.in_ok-bytes.ensures.ok.1) k frame (rw (sym c.self.view_is) at span))

pub returns-in_err-bytes-clause-fault : goal.returns-in_err-bytes-clause-fault
returns-in_err-bytes-clause-fault c =
    let p = err_from_is_err_and c.from_residual.result c.from_residual.ensures.1 in
    rw (p.1, p.2, sym c.self.view_is, sym c.in-Some.ensures.value) (rw (c.write_limit-limit.ensures ∙ ap write_limit (sym c.self.view_is)) at c.in_err-bytes.ensures.fault)
