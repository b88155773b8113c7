use Rattle.std.proofs.Common.{ℕ, ◌+◌, ◌-◌, List, refl, sym, ap, subst, arith}
use Rattle.std.specs.declared.ops.Range.{Range}
use Rattle.std.proofs.lemmas.Result.{IfOk-weaker}
use Rattle.qh_buffers.specs.Ranges.{PlainRange, plain, AreNear, IsTakenOut}
use Rattle.qh_buffers.proofs.RangeEdits.{far_out, rest_in}
use Rattle.qh_buffers.proofs.range_set.array_range_set.remove_from.Goals as goal

pub returns-then-near-clause-ok : goal.returns-then-near-clause-ok
returns-then-near-clause-ok c =
    let rs = c.args.ranges.now.items in
    let r : PlainRange = record { start = c.args.range.start; end = c.args.range.end } in
    let i = c.near-near.result.start in
    let j = c.near-near.result.end in
    let near : AreNear (plain rs) (r.start + 1) (r.end - 1) i j = subst (λ (l : List (Range ℕ)). AreNear (plain l) (r.start + 1) (r.end - 1) i j) c.deref.ensures.value c.near-near.ensures in
    far_out (plain rs) r i j c.requires.some c.requires.apart near c.if-near.true

pub returns-clause-ok : goal.returns-clause-ok
returns-clause-ok c =
    let rs = c.args.ranges.now.items in
    let r : PlainRange = record { start = c.args.range.start; end = c.args.range.end } in
    let i = c.near-near.result.start in
    let j = c.near-near.result.end in
    let near : AreNear (plain rs) (r.start + 1) (r.end - 1) i j = subst (λ (l : List (Range ℕ)). AreNear (plain l) (r.start + 1) (r.end - 1) i j) c.deref.ensures.value c.near-near.ensures in
    let out = rest_in rs r i j c.requires.some c.requires.apart c.index.result.now c.index-2.result.now near (omega (arith, near.order)) c.index.ensures c.index-2.ensures _ _ refl refl in
    IfOk-weaker c.put_rest.result _ _ (λ _ e. subst (λ (l : List PlainRange). IsTakenOut (plain rs) l r) (sym (ap plain e)) out) c.put_rest.ensures.ok
