use Rattle.std.proofs.Common.{ℕ, List, ap, ◌∙◌, arith}
use Rattle.qh_buffers.specs.Ranges.{start_behind, paired}
use Rattle.std.proofs.lemmas.Option.{none-some}
use Rattle.qh_buffers.proofs.ClippedRanges.{uncut, behind_before, cut_is, cut_found}
use Rattle.qh_buffers.proofs.range_set.btree_range_set.cut_before.Goals as goal

pub returns-in_default : goal.returns-in_default
returns-in_default c =
    uncut c.args.ranges.now.entries c.args.number c.in_default.ensures.ordered c.requires
    (omega (arith, ap (λ (l : List (ℕ × ℕ)). start_behind 0 (paired l)) c.in_default.ensures.last))

pub returns-then-last-number : goal.returns-then-last-number
returns-then-last-number c =
    let es = c.args.ranges.now.entries in
    let last = c.in-Some.ensures.last in
    uncut es c.args.number c.in-Some.ensures.ordered c.requires (behind_before es last.0 (c.in-Some.last.start, c.in-Some.last.end) c.args.number last.1 c.if-last-number.true)

pub returns-in-Some-get_mut : goal.returns-in-Some-get_mut
returns-in-Some-get_mut c =
    let es = c.args.ranges.now.entries in
    let last = c.in-Some.ensures.last in
    (c.get_mut.follows.holds c.args.number).0
    ∙ cut_is es last.0 (c.in-Some.last.start, c.in-Some.last.end) c.args.number c.in-Some.ensures.ordered last.1 c.requires (omega (arith, c.if-last-number.false))

pub returns-in_default-get_mut : goal.returns-in_default-get_mut
returns-in_default-get_mut c =
    let es = c.args.ranges.now.entries in
    let last = c.in-Some.ensures.last in
    let found = cut_found es last.0 (c.in-Some.last.start, c.in-Some.last.end) c.args.number c.in-Some.ensures.ordered last.1 in
    absurd (none-some _ (c.in_default-get_mut.ensures.value ∙ found))
