use Rattle.qh_core.proofs.StreamsGo.{called, call_follows}
use Rattle.qh_core.proofs.WriterCalls.{write_chunks_call}
use Rattle.qh_core.specs.Follows.{write_chunks_acts}
use Rattle.qh_core.proofs.connection.Connection.write_chunks.Goals as goal

pub invariant_of-self : goal.invariant_of-self
invariant_of-self g c = called c.self.inside.inner c.write_chunks.new.self (write_chunks_acts c.args.id.0 c.args.chunks.now c.write_chunks.result) (write_chunks_call c.self.inside.inner.space.streams c.write_chunks.new.self c.args.id.0 c.args.chunks.now c.write_chunks.result c.write_chunks.ensures.count c.write_chunks.ensures.ok c.write_chunks.ensures.taken c.write_chunks.ensures.fault c.write_chunks.ensures.keeps_out) c.self.invariant

pub returns-clause-follows : goal.returns-clause-follows
returns-clause-follows g c = λ t f. call_follows c.self.inside.inner c.write_chunks.new.self (write_chunks_acts c.args.id.0 c.args.chunks.now c.write_chunks.result) t (write_chunks_call c.self.inside.inner.space.streams c.write_chunks.new.self c.args.id.0 c.args.chunks.now c.write_chunks.result c.write_chunks.ensures.count c.write_chunks.ensures.ok c.write_chunks.ensures.taken c.write_chunks.ensures.fault c.write_chunks.ensures.keeps_out) c.self.invariant (rw c.self.view_is f)
