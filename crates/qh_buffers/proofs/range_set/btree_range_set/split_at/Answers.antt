use Rattle.std.proofs.Common.{ℕ, List, sym, ap, subst, arith}
use Rattle.qh_buffers.specs.Ranges.{start_behind, paired, IsSplit}
use Rattle.qh_buffers.proofs.ClippedRanges.{behind_before, whole_split, split_in}
use Rattle.qh_buffers.proofs.range_set.btree_range_set.split_at.Goals as goal

pub returns-in_default-clause-ok : goal.returns-in_default-clause-ok
returns-in_default-clause-ok c =
    whole_split c.args.ranges.now.entries c.args.number c.requires (omega (arith, ap (λ (l : List (ℕ × ℕ)). start_behind 0 (paired l)) c.in_default.ensures.last))

pub returns-then-last-number-clause-ok : goal.returns-then-last-number-clause-ok
returns-then-last-number-clause-ok c =
    let es = c.args.ranges.now.entries in
    let last = c.in-Some.ensures.last in
    whole_split es c.args.number c.requires (behind_before es last.0 (c.in-Some.last.start, c.in-Some.last.end) c.args.number last.1 c.if-last-number.true)

pub returns-clause-ok : goal.returns-clause-ok
returns-clause-ok c =
    let es = c.args.ranges.now.entries in
    let last = c.in-Some.ensures.last in
    subst (λ (l : List (ℕ × ℕ)). IsSplit c.args.number es l) (sym c.in_ok-insert.ensures.entries)
    (split_in es last.0 (c.in-Some.last.start, c.in-Some.last.end) c.args.number c.requires last.1 (omega (arith, c.if-last-number.false)))
