use Rattle.std.proofs.Common.{◌≡◌, ℕ, ◌-◌, List, length, length-take, take, sym, arith, ap, ◌∙◌, append-nil}
use Rattle.qh_buffers.specs.SendState.{bytes_from}
use Rattle.qh_buffers.proofs.Segments.{segment_left, joined_step, held_step, step_len, copied_step}
use Rattle.qh_buffers.proofs.send_buffer.segments.put.Goals as goal

pub loop-at-init : goal.loop-at-init
loop-at-init c = record {
  joined = rw c.place_of-place.ensures c.requires.joined;
  copied = rw (c.in_ok-try_reserve.ensures.items, c.place_of-place.ensures);
  room = c.in_ok-try_reserve.ensures.ok;
}

pub index-segment-requires : goal.index-segment-requires
index-segment-requires c =
    let left = c.loop-at.invariant.joined in
    let some = segment_left c.args.segments.now.items c.loop-at.at left.0 c.loop-at.place left.1 (omega (arith, left.2)) in
    omega arith

pub between-requires-clause-from : goal.between-requires-clause-from
between-requires-clause-from c =
    let left = c.loop-at.invariant.joined in
    let some = segment_left c.args.segments.now.items c.loop-at.at left.0 c.loop-at.place left.1 (omega (arith, left.2)) in
    let step = joined_step c.args.segments.now.items c.loop-at.at left.0 c.loop-at.place c.index-segment.result.now some c.index-segment.ensures left.1 in
    (omega (arith, step.0), step.1)

pub unwrap-requires : goal.unwrap-requires
unwrap-requires c =
    c.extend_from_slice.ensures.succeeds (omega (arith, ap (λ (xs : List ℕ). length xs) c.between.ensures, length-take (c.args.end - c.loop-at.at) (bytes_from c.loop-at.at c.index-segment.result.now)))

pub overflow_add-place : goal.overflow_add-place
overflow_add-place c =
    let left = c.loop-at.invariant.joined in
    let some = segment_left c.args.segments.now.items c.loop-at.at left.0 c.loop-at.place left.1 (omega (arith, left.2)) in
    omega arith

pub loop-at-smaller : goal.loop-at-smaller
loop-at-smaller c =
    let left = c.loop-at.invariant.joined in
    let some = segment_left c.args.segments.now.items c.loop-at.at left.0 c.loop-at.place left.1 (omega (arith, left.2)) in
    let step = joined_step c.args.segments.now.items c.loop-at.at left.0 c.loop-at.place c.index-segment.result.now some c.index-segment.ensures left.1 in
    omega (arith, step.0)

pub loop-at-preserved : goal.loop-at-preserved
loop-at-preserved c =
    let left = c.loop-at.invariant.joined in
    let some = segment_left c.args.segments.now.items c.loop-at.at left.0 c.loop-at.place left.1 (omega (arith, left.2)) in
    let step = joined_step c.args.segments.now.items c.loop-at.at left.0 c.loop-at.place c.index-segment.result.now some c.index-segment.ensures left.1 in
    let part = take (c.args.end - c.loop-at.at) (bytes_from c.loop-at.at c.index-segment.result.now) in
    let items = rw (c.unwrap.ensures, c.between.ensures) at c.extend_from_slice.ensures.items in
    let len = rw (c.unwrap.ensures, c.between.ensures) at c.extend_from_slice.ensures.len in
    record {
      joined = (left.0, step.2, left.2);
      copied = copied_step c.loop-at.out.items _ _ part _ _ c.loop-at.invariant.copied
          (held_step c.args.segments.now.items c.loop-at.at c.args.end c.loop-at.place c.index-segment.result.now some c.index-segment.ensures step.1 (omega (arith, step.0))) items;
      room = omega (arith, len, step_len c.index-segment.result.now c.loop-at.at c.args.end (omega (arith, step.0)) step.1, c.loop-at.invariant.room, c.extend_from_slice.ensures.capacity);
    }

pub returns-clause-ok : goal.returns-clause-ok
returns-clause-ok c =
    let none : c.args.end - c.loop-at.at ≡ 0 = omega arith in
    let e = rw none at c.loop-at.invariant.copied in
    sym (append-nil c.loop-at.out.items) ∙ e
