use Rattle.std.proofs.Common.{arith}
use Rattle.qh_parts.proofs.Samples.{NotAfter, Each-ranked}
use Rattle.qh_parts.proofs.min_max.Samples.update.Goals as goal

pub grow_old-requires-clause-first : goal.grow_old-requires-clause-first
grow_old-requires-clause-first c =
    rw c.rank.ensures (Each-ranked (NotAfter c.args.sample) c.args.self c.args.sample (omega arith) (record { first = c.requires.first; second = c.requires.second; third = c.requires.third })).first

pub grow_old-requires-clause-second : goal.grow_old-requires-clause-second
grow_old-requires-clause-second c =
    rw c.rank.ensures (Each-ranked (NotAfter c.args.sample) c.args.self c.args.sample (omega arith) (record { first = c.requires.first; second = c.requires.second; third = c.requires.third })).second
