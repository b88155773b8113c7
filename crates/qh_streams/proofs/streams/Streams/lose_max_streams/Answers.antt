use Rattle.std.proofs.Common.{refl, ◌∙◌}
use Rattle.qh_streams.specs.Streams.IsLostFrame.{max_streams}
use Rattle.qh_streams.proofs.streams.Streams.lose_max_streams.Goals as goal

pub returns-clause-lost : goal.returns-clause-lost
returns-clause-lost c = max_streams c.args.dir c.args.count (c.set_announced.ensures.value ∙ rw (c.lost.ensures, c.into_inner.ensures.value, c.counts.ensures.value) refl)
