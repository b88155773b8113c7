use Rattle.std.proofs.Common.{◌-◌, ◌∙◌, arith, refl}
use Rattle.qh_core.proofs.ControlMade.{all_put, fitting_fits, frame_size, holds_at, no_more, none_put, one_more, truncated}
use Rattle.qh_core.proofs.control.put_control.Goals as goal
use Rattle.qh_core.specs.Control.{MaySend}

pub loop-frame-init : goal.loop-frame-init
loop-frame-init c = (refl, none_put c.args.room c.args.frames.now c.args.out.now.items)

pub put-requires : goal.put-requires
put-requires c = (c.requires.0, c.requires.1, rw (← c.frame-item.is) at (holds_at (MaySend c.requires.0 c.requires.1) c.args.frames.now c.loop-frame.frame-index c.frame-item.result c.loop-frame-test.true c.requires.2))

pub loop-frame-preserved : goal.loop-frame-preserved
loop-frame-preserved c =
    let it = c.in_ok-put.ensures in
    let size = frame_size c.loop-frame.out.items c.put.new.out.items c.frame-item.result c.len-start.result c.len.result (omega (arith, c.len-start.ensures)) (omega (arith, c.len.ensures)) it.put in
    let index = c.loop-frame.invariant.0 in (
      omega (arith, index),
      one_more c.args.room c.loop-frame.count c.loop-frame.left c.loop-frame.frame-index c.args.frames.now c.args.out.now.items c.loop-frame.out.items c.loop-frame.invariant.1 c.frame-item.result
          c.loop-frame-test.true c.frame-item.is c.put.new.out.items (c.len.result - c.len-start.result) size c.if-left-size.false it.read_back it.put,
    )

pub returns-then-left-size-clause-count : goal.returns-then-left-size-clause-count
returns-then-left-size-clause-count c =
    let size = frame_size c.loop-frame.out.items c.put.new.out.items c.frame-item.result c.len-start.result c.len.result (omega (arith, c.len-start.ensures)) (omega (arith, c.len.ensures)) c.in_ok-put.ensures.put in
    let over = c.if-left-size.true in
    (no_more c.args.room c.loop-frame.count c.loop-frame.left c.loop-frame.frame-index c.args.frames.now c.args.out.now.items c.loop-frame.out.items c.loop-frame.invariant.1 c.frame-item.result
    c.loop-frame-test.true c.frame-item.is (omega (arith, size, over))).count_is

pub returns-then-left-size-clause-put : goal.returns-then-left-size-clause-put
returns-then-left-size-clause-put c =
    let size = frame_size c.loop-frame.out.items c.put.new.out.items c.frame-item.result c.len-start.result c.len.result (omega (arith, c.len-start.ensures)) (omega (arith, c.len.ensures)) c.in_ok-put.ensures.put in
    let over = c.if-left-size.true in
    truncated c.loop-frame.out.items c.put.new.out.items c.truncate.new.self.items c.frame-item.result c.len-start.result (omega (arith, c.len-start.ensures)) c.in_ok-put.ensures.put c.truncate.ensures.items
    ∙ (no_more c.args.room c.loop-frame.count c.loop-frame.left c.loop-frame.frame-index c.args.frames.now c.args.out.now.items c.loop-frame.out.items c.loop-frame.invariant.1 c.frame-item.result
    c.loop-frame-test.true c.frame-item.is (omega (arith, size, over))).put

pub returns-then-left-size-clause-read_back : goal.returns-then-left-size-clause-read_back
returns-then-left-size-clause-read_back c =
    let size = frame_size c.loop-frame.out.items c.put.new.out.items c.frame-item.result c.len-start.result c.len.result (omega (arith, c.len-start.ensures)) (omega (arith, c.len.ensures)) c.in_ok-put.ensures.put in
    let over = c.if-left-size.true in
    (no_more c.args.room c.loop-frame.count c.loop-frame.left c.loop-frame.frame-index c.args.frames.now c.args.out.now.items c.loop-frame.out.items c.loop-frame.invariant.1 c.frame-item.result
    c.loop-frame-test.true c.frame-item.is (omega (arith, size, over))).read_back

pub returns-then-left-size-clause-fits : goal.returns-then-left-size-clause-fits
returns-then-left-size-clause-fits c = fitting_fits c.args.room c.args.frames.now

pub returns-clause-count : goal.returns-clause-count
returns-clause-count c =
    (all_put c.args.room c.loop-frame.count c.loop-frame.left c.loop-frame.frame-index c.args.frames.now c.args.out.now.items c.loop-frame.out.items c.loop-frame.invariant.1 c.loop-frame-test.false).count_is

pub returns-clause-put : goal.returns-clause-put
returns-clause-put c =
    (all_put c.args.room c.loop-frame.count c.loop-frame.left c.loop-frame.frame-index c.args.frames.now c.args.out.now.items c.loop-frame.out.items c.loop-frame.invariant.1 c.loop-frame-test.false).put

pub returns-clause-read_back : goal.returns-clause-read_back
returns-clause-read_back c =
    (all_put c.args.room c.loop-frame.count c.loop-frame.left c.loop-frame.frame-index c.args.frames.now c.args.out.now.items c.loop-frame.out.items c.loop-frame.invariant.1 c.loop-frame-test.false).read_back

pub returns-clause-fits : goal.returns-clause-fits
returns-clause-fits c = fitting_fits c.args.room c.args.frames.now
