use Rattle.std.proofs.Common.{ℕ, drop, sym, arith}
use Rattle.qh_buffers.proofs.StoredPieces.{first_is}
use Rattle.qh_buffers.proofs.RangeCounts.{front_has}
use Rattle.qh_buffers.proofs.PairedRanges.{front_value, front_none, first_lacks, zero_lacks}
use Rattle.qh_buffers.specs.Ranges.{paired}
use Rattle.qh_buffers.proofs.range_set.btree_range_set.RangeSet.front.Goals as goal

pub returns-then-start-eq0-clause-value : goal.returns-then-start-eq0-clause-value
returns-then-start-eq0-clause-value c =
    let es = c.self.inside.ranges.entries in
    let f : ℕ × ℕ = (c.in-Some.start.now, c.in-Some.end.now) in
    rw (← c.self.view_is) (sym (front_value es (drop 1 es) f (first_is es f c.in-Some.ensures.first) c.if-start-eq0.true))

pub returns-then-start-eq0-clause-full : goal.returns-then-start-eq0-clause-full
returns-then-start-eq0-clause-full c = λ k below.
    let es = c.self.inside.ranges.entries in
    let f : ℕ × ℕ = (c.in-Some.start.now, c.in-Some.end.now) in
    let value = front_value es (drop 1 es) f (first_is es f c.in-Some.ensures.first) c.if-start-eq0.true in
    rw (← c.self.view_is) (front_has (paired es) k (omega (arith, value)))

pub returns-then-start-eq0-clause-lacks : goal.returns-then-start-eq0-clause-lacks
returns-then-start-eq0-clause-lacks c =
    let es = c.self.inside.ranges.entries in
    let f : ℕ × ℕ = (c.in-Some.start.now, c.in-Some.end.now) in
    rw (← c.self.view_is) (first_lacks es (drop 1 es) f c.self.invariant (first_is es f c.in-Some.ensures.first))

pub returns-clause-value : goal.returns-clause-value
returns-clause-value c =
    let es = c.self.inside.ranges.entries in
    let f : ℕ × ℕ = (c.in-Some.start.now, c.in-Some.end.now) in
    rw (← c.self.view_is) (sym (front_none es (drop 1 es) f (first_is es f c.in-Some.ensures.first) c.if-start-eq0.false))

pub returns-clause-lacks : goal.returns-clause-lacks
returns-clause-lacks c =
    let es = c.self.inside.ranges.entries in
    let f : ℕ × ℕ = (c.in-Some.start.now, c.in-Some.end.now) in
    rw (← c.self.view_is) (zero_lacks es (drop 1 es) f c.self.invariant (first_is es f c.in-Some.ensures.first) c.if-start-eq0.false)
