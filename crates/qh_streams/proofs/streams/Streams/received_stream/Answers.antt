use Rattle.qh_streams.proofs.StreamsReceived.{stream_received}
use Rattle.qh_streams.proofs.streams.Streams.received_stream.Goals as goal

pub returns-then-was_opened-clause-ok : goal.returns-then-was_opened-clause-ok
returns-then-was_opened-clause-ok c = stream_received c.take_piece.result _ _ c.args.id c.into_inner.result c.args.offset c.args.payload c.args.fin c.into_inner.ensures.value c.take_piece.ensures.ok

pub returns-else-was_opened-clause-ok : goal.returns-else-was_opened-clause-ok
returns-else-was_opened-clause-ok c = stream_received c.take_first_piece.result _ _ c.args.id c.into_inner.result c.args.offset c.args.payload c.args.fin c.into_inner.ensures.value c.take_first_piece.ensures.ok
