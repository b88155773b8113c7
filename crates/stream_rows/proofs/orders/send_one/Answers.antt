use Rattle.qh_streams.proofs.StreamsSettledAll.{popped_is_out, all_out_at_first}
use Rattle.stream_rows.proofs.orders.send_one.Goals as goal

pub returns-clause-is_out : goal.returns-clause-is_out
returns-clause-is_out c = popped_is_out c.write_frames.new.self c.pop.result c.pop.new.self.items c.write_frames.new.sent.items c.pop.ensures.items (c.write_frames.ensures.out (all_out_at_first c.args.from.now c.new-sent.result.items c.new-sent.ensures.items))
