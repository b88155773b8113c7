use Rattle.qh_streams.proofs.StreamsReceived.{reset_received}
use Rattle.qh_streams.proofs.streams.Streams.received_reset_stream.Goals as goal

pub returns-then-was_opened-clause-ok : goal.returns-then-was_opened-clause-ok
returns-then-was_opened-clause-ok c = reset_received c.take_reset.result _ _ c.args.id c.args.code c.args.final_size c.take_reset.ensures.ok

pub returns-else-was_opened-clause-ok : goal.returns-else-was_opened-clause-ok
returns-else-was_opened-clause-ok c = reset_received c.take_first_reset.result _ _ c.args.id c.args.code c.args.final_size c.take_first_reset.ensures.ok
