use Rattle.std.proofs.Common.{◌≡◌, ◌∙◌, ◌-◌, ◌++◌, ℕ, length, take, min, ap, get_or, arith}
use Rattle.std.proofs.lemmas.List.{get_or_read}
use Rattle.qh_half.proofs.SendChunks.{copied_more}
use Rattle.qh_half.proofs.send.chunks.copied.Goals as goal

pub loop-chunk-preserved : goal.loop-chunk-preserved
loop-chunk-preserved c =
    let cs = c.args.chunks.now in
    let i = c.loop-chunk.chunk-index in
    let old = c.loop-chunk.bytes.items in
    let next = c.as_slice-next.result.now in
    let read : next ≡ get_or cs i next = c.as_slice-next.ensures ∙ get_or_read cs i _ (omega arith) c.chunk-item.is next in
    let m : c.min-len.result ≡ min (length next) (c.args.count - length old) = omega arith in
    copied_more cs i c.args.count old next c.extend_from_slice.new.self.items _ (omega arith) read c.loop-chunk.invariant.0
    (c.in_ok-extend_from_slice.ensures.items ∙ ap (λ (n : ℕ). old ++ take n next) m) c.loop-chunk.invariant.1
