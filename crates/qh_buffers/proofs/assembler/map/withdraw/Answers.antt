use Rattle.std.proofs.Common.{ℕ, get_or, nat_cmp, refl, arith}
use Rattle.std.specs.BTreeMap.{get}
use Rattle.std.specs.declared.ops.Range.{Range}
use Rattle.qh_buffers.proofs.StoredPieces.{withdrawn}
use Rattle.qh_buffers.proofs.assembler.map.withdraw.Goals as goal

pub loop-gap-preserved : goal.loop-gap-preserved
loop-gap-preserved c =
    let gaps = c.args.gaps.now in
    let i = c.loop-gap.gap-index in
    let d : Range ℕ = record { start = 0; end = 0 } in
    record {
      ordered = c.remove.ensures.ordered;
      pieces = λ k.
          withdrawn gaps i k (get_or gaps i d).end d (omega arith) refl (get nat_cmp c.remove.new.self k) (get nat_cmp c.loop-gap.chunks k) (get nat_cmp c.args.chunks.now k)
          (c.remove.ensures.updates.0 k) (c.loop-gap.invariant.pieces k);
    }
