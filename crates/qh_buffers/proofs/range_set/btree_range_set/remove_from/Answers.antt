use Rattle.std.proofs.Common.{ℕ, List, sym, subst}
use Rattle.qh_buffers.specs.Ranges.{PlainRange, paired, IsTakenOut}
use Rattle.qh_buffers.proofs.ClippedRanges.{left_apart, taken_out}
use Rattle.qh_buffers.proofs.range_set.btree_range_set.remove_from.Goals as goal

pub cut_before-requires : goal.cut_before-requires
cut_before-requires c =
    left_apart c.args.ranges.now.entries c.split_at.new.ranges.entries c.remove_between.new.ranges.entries c.args.range.start c.args.range.end c.requires.apart c.requires.some c.in_ok-split_at.ensures.ok c.remove_between.ensures

pub returns-clause-ok : goal.returns-clause-ok
returns-clause-ok c =
    let es = c.args.ranges.now.entries in
    let r : PlainRange = record { start = c.args.range.start; end = c.args.range.end } in
    subst (λ (l : List (ℕ × ℕ)). IsTakenOut (paired es) (paired l) r) (sym c.cut_before.ensures)
    (taken_out es c.split_at.new.ranges.entries c.remove_between.new.ranges.entries r.start r.end c.requires.apart c.requires.some c.in_ok-split_at.ensures.ok c.remove_between.ensures)
