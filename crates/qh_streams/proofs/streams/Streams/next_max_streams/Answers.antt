use Rattle.qh_streams.specs.Streams.IsOf.{max_streams as of_count}
use Rattle.qh_streams.proofs.streams.Streams.next_max_streams.Goals as goal

pub returns-clause-some : goal.returns-clause-some
returns-clause-some c = λ room. (c.in_ok-count.ensures.some room, of_count _ _)
