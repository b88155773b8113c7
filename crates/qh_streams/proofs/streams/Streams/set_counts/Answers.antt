use Rattle.qh_streams.specs.Streams.{is_two_way}
use Rattle.qh_streams.proofs.StreamsKept.{both_kept, both_out}
use Rattle.qh_streams.proofs.streams.Streams.set_counts.Goals as goal

pub invariant_of-self : goal.invariant_of-self
invariant_of-self c =
    let no_fewer = rw (← c.self.view_is) at c.requires.no_fewer in
    rw (c.counts_with.ensures.bi, c.counts_with.ensures.uni, ← c.self.view_is) (both_kept (is_two_way c.args.dir) c.args.counts c.self.invariant no_fewer c.requires.are)

pub returns-clause-keeps_out : goal.returns-clause-keeps_out
returns-clause-keeps_out c =
    let no_fewer = rw (← c.self.view_is) at c.requires.no_fewer in
    rw (c.counts_with.ensures.bi, c.counts_with.ensures.uni, ← c.self.view_is) (both_out (is_two_way c.args.dir) c.args.counts c.self.invariant no_fewer)
