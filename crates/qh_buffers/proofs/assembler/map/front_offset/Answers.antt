use Rattle.std.proofs.Common.{ℕ, ◌-◌, List, drop, sym, ap, ◌∙◌, arith}
use Rattle.qh_buffers.specs.Assembler.{pieces, chunk_at}
use Rattle.qh_buffers.proofs.StoredPieces.{first_is, first_fits}
use Rattle.qh_buffers.proofs.assembler.map.front_offset.Goals as goal

pub overflow_sub-result : goal.overflow_sub-result
overflow_sub-result c =
    let es = c.args.chunks.now.entries in
    let e : ℕ × List ℕ = (c.in-Some.end.now, c.in-Some.bytes.now) in
    let fits = first_fits es (drop 1 es) 0 e c.requires (first_is es e c.in-Some.ensures.first) in
    omega (arith, c.len.ensures.value, fits)

pub returns-in-Some : goal.returns-in-Some
returns-in-Some c =
    let es = c.args.chunks.now.entries in
    let e : ℕ × List ℕ = (c.in-Some.end.now, c.in-Some.bytes.now) in
    ap (λ (n : ℕ). c.in-Some.end.now - n) c.len.ensures.value
    ∙ sym (ap (λ (l : List (ℕ × List ℕ)). (chunk_at (pieces l) 0).offset) (first_is es e c.in-Some.ensures.first))
