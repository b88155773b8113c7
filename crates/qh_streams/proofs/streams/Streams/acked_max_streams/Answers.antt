use Rattle.std.proofs.Common.{refl, ◌∙◌}
use Rattle.qh_streams.specs.Streams.IsAckedFrame.{max_streams}
use Rattle.qh_streams.proofs.streams.Streams.acked_max_streams.Goals as goal

pub returns-clause-acked : goal.returns-clause-acked
returns-clause-acked c = max_streams c.args.dir c.args.count (c.set_announced.ensures.value ∙ rw (c.acked.ensures, c.into_inner.ensures.value, c.counts.ensures.value) refl)
