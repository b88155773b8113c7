use Rattle.qh_frame.proofs.StreamsWritten.{start_shape, later_shape}
use Rattle.qh_frame.proofs.put.put_stream.Goals as goal

pub put_one_counted-requires-clause-shape : goal.put_one_counted-requires-clause-shape
put_one_counted-requires-clause-shape c = start_shape c.args.stream.fin c.stream_type.result c.stream_type.ensures

pub put_two_counted-requires-clause-shape : goal.put_two_counted-requires-clause-shape
put_two_counted-requires-clause-shape c = later_shape c.args.stream.fin c.stream_type-else-into_inner-eq0.result c.stream_type-else-into_inner-eq0.ensures
