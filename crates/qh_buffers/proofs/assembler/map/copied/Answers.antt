use Rattle.std.proofs.Common.{◌≡◌, ◌∙◌, ℕ, ◌-◌, ◌++◌, List, length, take, sym, ap, arith, length-append}
use Rattle.qh_buffers.specs.Assembler.{pieces, all_bytes}
use Rattle.qh_buffers.proofs.StoredPieces.{copy_goes}
use Rattle.qh_buffers.proofs.assembler.map.copied.Goals as goal

pub loop-piece-preserved : goal.loop-piece-preserved
loop-piece-preserved c =
    let old = c.loop-piece.bytes.items in
    let next = c.as_slice-piece.result.now in
    let rest = c.next.new.self in
    let all = take c.args.length (all_bytes (pieces c.args.chunks.now.entries)) in
    let size = length-append old next in
    let so_far : old ++ take (c.args.length - length old) (next ++ all_bytes (pieces rest)) ≡ all =
    ap (λ (l : List ℕ). old ++ take (c.args.length - length old) (l ++ all_bytes (pieces rest))) c.as_slice-piece.ensures
    ∙ sym (ap (λ (l : List (ℕ × List ℕ)). old ++ take (c.args.length - length old) (all_bytes (pieces l))) c.in-Some.ensures.steps)
    ∙ c.loop-piece.invariant.so_far in
    rw (c.in_ok-extend_from_slice-2.ensures.items) (record {
      few = omega (arith, size, c.loop-piece.invariant.few);
      so_far = rw size (copy_goes old all c.args.length next (all_bytes (pieces rest)) (omega (arith, c.if-left-piece.false, c.loop-piece.invariant.few)) so_far);
    })
