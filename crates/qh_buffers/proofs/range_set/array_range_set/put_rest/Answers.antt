use Rattle.std.proofs.Common.{lt-ltb, arith}
use Rattle.qh_buffers.proofs.RangeEdits.{insert_then_put}
use Rattle.qh_buffers.proofs.range_set.array_range_set.put_rest.Goals as goal

pub returns-clause-ok : goal.returns-clause-ok
returns-clause-ok c =
    let front = c.args.front in
    let back = c.args.back in
    rw (lt-ltb front.start front.end c.if-front.false, lt-ltb back.start back.end c.if-back-2.false, c.put_over-2.ensures, c.in_ok-insert.ensures.items)
    (insert_then_put c.args.ranges.now.items front back c.args.place.start c.args.place.end (omega arith) (omega arith))
