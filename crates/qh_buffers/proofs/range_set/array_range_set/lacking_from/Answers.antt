use Rattle.std.proofs.Common.{◌≡◌, ◌∙◌, ℕ, ◌-◌, max, false, sym, ap, subst, arith}
use Rattle.qh_buffers.specs.Ranges.{PlainRange, plain, has, range_at}
use Rattle.qh_buffers.proofs.RangeSearch.{length-plain, plain_at}
use Rattle.qh_buffers.proofs.RangeGaps.{alone_lacks, end_lacks}
use Rattle.qh_buffers.proofs.range_set.array_range_set.lacking_from.Goals as goal

pub returns-then-near-clause-lacks : goal.returns-then-near-clause-lacks
returns-then-near-clause-lacks c =
    alone_lacks (plain c.args.ranges.now) c.args.number _ _ c.requires c.near-near.ensures c.if-near.true

pub returns-clause-lacks : goal.returns-clause-lacks
returns-clause-lacks c =
    let rs = c.args.ranges.now in
    let near = c.near-near.ensures in
    let j = c.near-near.result.end in
    let last = ap (λ (p : PlainRange). p.end) (plain_at rs (j - 1) _ (omega (arith, near.order, near.bound, length-plain rs))) in
    let same : max c.args.number (range_at (plain rs) (j - 1)).end ≡ c.max.result = ap (max c.args.number) last ∙ sym c.max.ensures in
    subst (λ (k : ℕ). has (plain rs) k ≡ false) same (end_lacks (plain rs) c.args.number _ j c.requires near (omega (arith, near.order)))
