use Rattle.std.proofs.Common.{ℕ, List, drop, arith}
use Rattle.std.proofs.lemmas.Grind.{common_steps}
use Rattle.qh_buffers.proofs.StoredPieces.{first_is, front_of_all}
use Rattle.qh_buffers.proofs.assembler.map.front_bytes.Goals as goal

pub returns-then-length-len : goal.returns-then-length-len
returns-then-length-len c =
    let es = c.args.chunks.now.entries in
    let e : ℕ × List ℕ = (c.in-Some.field-0-0.now, c.in-Some.first.now) in
    let front = front_of_all es (drop 1 es) e c.args.length (first_is es e c.in-Some.ensures.first) (omega (arith, c.if-length-len.true, c.len.ensures.value)) in
    rw front (grind (arith, common_steps, c.in_ok-slice.ensures.ok))
