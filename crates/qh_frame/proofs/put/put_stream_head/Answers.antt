use Rattle.std.proofs.Common.{sym, ◌∙◌, arith}
use Rattle.qh_frame.proofs.FramesWritten.{map_ok}
use Rattle.qh_frame.proofs.StreamsWritten.{start_head_put, later_head_put, small}
use Rattle.qh_frame.proofs.put.put_stream_head.Goals as goal

pub returns-then-offset-eq0-clause-ok : goal.returns-then-offset-eq0-clause-ok
returns-then-offset-eq0-clause-ok c =
    let kind = c.stream_type-kind.ensures in
    map_ok c.put_numbers.result c.put_numbers.ensures.ok (start_head_put c.args.out.now.items c.put_numbers.new.out.items c.args.fin c.stream_type-kind.result c.args.id.0 c.args.offset c.args.payload_len
    kind (sym c.into_inner-offset.ensures.value ∙ c.if-offset-eq0.true) (small c.args.fin c.stream_type-kind.result 0 (omega arith) kind) c.requires.id c.requires.payload)

pub returns-else-offset-eq0-clause-ok : goal.returns-else-offset-eq0-clause-ok
returns-else-offset-eq0-clause-ok c =
    let kind = c.stream_type-kind-else-offset-eq0.ensures in
    let value = c.into_inner-offset.ensures.value in
    rw (sym value) (map_ok c.put_numbers-else-offset-eq0.result c.put_numbers-else-offset-eq0.ensures.ok (later_head_put c.args.out.now.items c.put_numbers-else-offset-eq0.new.out.items c.args.fin c.stream_type-kind-else-offset-eq0.result c.args.id.0 c.into_inner-offset.result c.args.payload_len
    kind c.if-offset-eq0.false (small c.args.fin c.stream_type-kind-else-offset-eq0.result 4 (omega arith) kind) c.requires.id c.into_inner-offset.ensures.bound c.requires.payload))
