use Rattle.std.proofs.Common.{refl}
use Rattle.qh_streams.specs.Streams.IsOf.{max_data as of_data}
use Rattle.qh_streams.proofs.StreamsWritten.{limit_handed}
use Rattle.qh_streams.proofs.streams.Streams.next_max_data.Goals as goal

pub returns-clause-some : goal.returns-clause-some
returns-clause-some c = λ room. (rw (← c.self.view_is) (limit_handed _ c.self.inside.recv c.next_max_data.new.self c.in_ok-limit.limit refl c.in_ok-limit.ensures.some room), of_data _)
