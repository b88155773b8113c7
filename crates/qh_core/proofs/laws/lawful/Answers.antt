use Rattle.std.proofs.Common.{length}
use Rattle.qh_core.specs.Follows.{Follows}
use Rattle.qh_transcript.proofs.FaithfulRuns as runs
use Rattle.qh_core.proofs.laws.lawful.Goals as goal

pub returns-clause-faithful : goal.returns-clause-faithful
unfolding Follows
returns-clause-faithful g c = λ i t f. runs.lawful f.space.streams i.side (length i.local_id) (length i.remote_id) f.sent f.came t f.is_sent f.has_come f.stands.out f.stands.into

pub returns-clause-within : goal.returns-clause-within
unfolding Follows
returns-clause-within g c = λ i t before after datagram f. f.each_within before after datagram
