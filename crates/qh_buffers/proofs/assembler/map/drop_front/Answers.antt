use Rattle.std.proofs.Common.{ℕ, List, length, drop, sym, ap, ◌∙◌, arith}
use Rattle.qh_buffers.proofs.StoredPieces.{first_is, rest_stored, popped_is, dropped}
use Rattle.qh_buffers.proofs.assembler.map.drop_front.Goals as goal

pub cut_front-requires-clause-front : goal.cut_front-requires-clause-front
cut_front-requires-clause-front c =
    let es = c.loop-end.chunks.entries in
    (c.in-Some.first.now, drop 1 es, first_is es (c.in-Some.end.now, c.in-Some.first.now) c.in-Some.ensures.first, omega (arith, c.if-left-count.true, c.len-count.ensures.value))

pub loop-end-smaller : goal.loop-end-smaller
loop-end-smaller c =
    let es = c.loop-end.chunks.entries in
    let is = popped_is es c.pop_first.new.self.entries (c.in-Some.end.now, c.in-Some.first.now) c.pop_first.result c.in-Some.ensures.first c.pop_first.ensures.removal c.pop_first.ensures.variant.1 in
    omega (arith, ap (λ (l : List (ℕ × List ℕ)). length l) is)

pub loop-end-preserved : goal.loop-end-preserved
loop-end-preserved c =
    let es = c.loop-end.chunks.entries in
    let new = c.pop_first.new.self.entries in
    let e : ℕ × List ℕ = (c.in-Some.end.now, c.in-Some.first.now) in
    let is = popped_is es new e c.pop_first.result c.in-Some.ensures.first c.pop_first.ensures.removal c.pop_first.ensures.variant.1 in
    rw c.len-count.ensures.value (record {
      stored = rest_stored es new 0 e c.loop-end.invariant.stored is;
      left = sym (dropped es new e c.loop-end.left is (omega (arith, c.if-left-count.false, c.len-count.ensures.value))) ∙ c.loop-end.invariant.left;
    })
