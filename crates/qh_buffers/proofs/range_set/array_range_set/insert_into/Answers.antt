use Rattle.std.proofs.Common.{ℕ, List, refl, ap, subst, arith}
use Rattle.std.specs.declared.ops.Range.{Range}
use Rattle.qh_buffers.specs.Ranges.{PlainRange, plain, AreNear}
use Rattle.qh_buffers.proofs.RangeEdits.{alone_in, joined_in}
use Rattle.qh_buffers.proofs.range_set.array_range_set.insert_into.Goals as goal

pub returns-then-near-clause-ok : goal.returns-then-near-clause-ok
returns-then-near-clause-ok c =
    let rs = c.args.ranges.now.items in
    let r : PlainRange = record { start = c.args.range.start; end = c.args.range.end } in
    let i = c.near-near.result.start in
    let j = c.near-near.result.end in
    let near : AreNear (plain rs) r.start r.end i j = subst (λ (l : List (Range ℕ)). AreNear (plain l) r.start r.end i j) c.deref.ensures.value c.near-near.ensures in
    rw (ap plain c.in_ok-insert.ensures.items) (alone_in rs r i j c.requires.some c.requires.apart c.args.range near c.if-near.true refl)

pub returns-clause-ok : goal.returns-clause-ok
returns-clause-ok c =
    let rs = c.args.ranges.now.items in
    let r : PlainRange = record { start = c.args.range.start; end = c.args.range.end } in
    let i = c.near-near.result.start in
    let j = c.near-near.result.end in
    let near : AreNear (plain rs) r.start r.end i j = subst (λ (l : List (Range ℕ)). AreNear (plain l) r.start r.end i j) c.deref.ensures.value c.near-near.ensures in
    rw (ap plain c.put_over.ensures) (joined_in rs r i j c.requires.some c.requires.apart _ c.index.result.now c.index-2.result.now near (omega (arith, near.order)) c.index.ensures c.index-2.ensures c.min-start.ensures c.max-end.ensures)
