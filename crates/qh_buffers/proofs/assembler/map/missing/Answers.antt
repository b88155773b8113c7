use Rattle.std.proofs.Common.{ℕ, List, sym, subst, arith}
use Rattle.qh_buffers.specs.declared.assembler.Chunk.{Chunk}
use Rattle.qh_buffers.specs.Ranges.{has, IsNextGap}
use Rattle.qh_buffers.specs.Assembler.{pieces, parts_of}
use Rattle.qh_buffers.proofs.ChunkParts.{AreMissingTo, missing_all, missing_more}
use Rattle.qh_buffers.proofs.StoredPieces.{gaps_more, parts_more}
use Rattle.qh_buffers.proofs.assembler.map.missing.Goals as goal

pub loop-at-preserved : goal.loop-at-preserved
loop-at-preserved c =
    let given = c.args.given.now in
    let cs = pieces c.args.chunks.now.entries in
    let new = c.args.new.now in
    let gaps = c.loop-at.gaps.items in
    let outer = c.next_gap.result in
    let inner = c.next_gap-gap.result in
    let so_far = c.loop-at.invariant.parts in
    let gap = subst (λ (to : ℕ). IsNextGap (has given) c.loop-at.at to outer.start outer.end) c.end-end.ensures c.next_gap.ensures in
    let found = c.next_gap-gap.ensures in
    rw c.in_ok-push_gap.ensures (record {
      gaps = gaps_more gaps new.offset c.loop-at.at inner c.loop-at.invariant.gaps so_far.low (omega (arith, gap.above, found.above)) found.order;
      parts = subst (λ (l : List Chunk). AreMissingTo given cs new inner.end l) (sym (parts_more new gaps inner))
          (missing_more given cs new c.requires.fits c.loop-at.at outer.start outer.end inner.start inner.end (parts_of new gaps) so_far gap found);
    })

pub returns-clause-parts : goal.returns-clause-parts
returns-clause-parts c =
    missing_all c.args.given.now (pieces c.args.chunks.now.entries) c.args.new.now c.requires.fits c.loop-at.at (parts_of c.args.new.now c.loop-at.gaps.items) c.loop-at.invariant.parts (omega (arith, c.end-end.ensures))
