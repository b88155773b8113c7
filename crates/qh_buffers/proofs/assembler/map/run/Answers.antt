use Rattle.std.proofs.Common.{◌≡◌, ℕ, ◌+◌, ◌-◌, ◌<◌, List, length, sym, ap, ◌∙◌, arith}
use Rattle.qh_buffers.specs.Assembler.{pieces, run_of}
use Rattle.qh_buffers.proofs.StoredPieces.{first_fits, rest_stored, run_stops, run_ends, run_goes}
use Rattle.qh_buffers.proofs.assembler.map.run.Goals as goal

pub loop-end-init : goal.loop-end-init
loop-end-init c =
    let is = c.into_iter-end-iterator.ensures.into_iter_gives.0 in
    rw is (record { few = omega arith; stored = c.requires; so_far = omega arith })

pub overflow_sub-end : goal.overflow_sub-end
overflow_sub-end c =
    let fits = first_fits c.loop-end.end-iterator c.next.new.self 0 (c.in-Some.end.now, c.in-Some.bytes.now) c.loop-end.invariant.stored c.in-Some.ensures.steps in
    omega (arith, c.len.ensures.value, fits)

pub returns-then-end-len : goal.returns-then-end-len
returns-then-end-len c =
    let l = c.loop-end in
    let e : ℕ × List ℕ = (c.in-Some.end.now, c.in-Some.bytes.now) in
    let other : e.0 - length e.1 ≡ l.at → ⊥ = λ same. c.if-end-len.true (ap (λ (n : ℕ). e.0 - n) c.len.ensures.value ∙ same) in
    let stops : run_of l.at l.left (pieces l.end-iterator) ≡ 0 = ap (λ (es : List (ℕ × List ℕ)). run_of l.at l.left (pieces es)) c.in-Some.ensures.steps ∙ run_stops l.at l.left e c.next.new.self other in
    omega (arith, l.invariant.so_far, stops)

pub returns-then-left-len : goal.returns-then-left-len
returns-then-left-len c =
    let l = c.loop-end in
    let e : ℕ × List ℕ = (c.in-Some.end.now, c.in-Some.bytes.now) in
    let same : e.0 - length e.1 ≡ l.at = sym (ap (λ (n : ℕ). e.0 - n) c.len.ensures.value) ∙ c.if-end-len.false in
    let ends : run_of l.at l.left (pieces l.end-iterator) ≡ l.left = ap (λ (es : List (ℕ × List ℕ)). run_of l.at l.left (pieces es)) c.in-Some.ensures.steps ∙ run_ends l.at l.left e c.next.new.self same (omega (arith, c.if-left-len.true, c.len-in-loop-end.ensures.value)) in
    omega (arith, l.invariant.so_far, l.invariant.few, ends)

pub loop-end-preserved : goal.loop-end-preserved
loop-end-preserved c =
    let l = c.loop-end in
    let e : ℕ × List ℕ = (c.in-Some.end.now, c.in-Some.bytes.now) in
    let same : e.0 - length e.1 ≡ l.at = sym (ap (λ (n : ℕ). e.0 - n) c.len.ensures.value) ∙ c.if-end-len.false in
    let fits = first_fits l.end-iterator c.next.new.self 0 e l.invariant.stored c.in-Some.ensures.steps in
    let less : length e.1 < l.left = omega (arith, c.if-left-len.false, c.len-in-loop-end.ensures.value) in
    let goes : run_of l.at l.left (pieces l.end-iterator) ≡ length e.1 + run_of e.0 (l.left - length e.1) (pieces c.next.new.self) =
    ap (λ (es : List (ℕ × List ℕ)). run_of l.at l.left (pieces es)) c.in-Some.ensures.steps ∙ run_goes l.at l.left e c.next.new.self fits same less in
    rw c.len-left.ensures.value (record {
      few = omega (arith, l.invariant.few);
      stored = rest_stored l.end-iterator c.next.new.self 0 e l.invariant.stored c.in-Some.ensures.steps;
      so_far = omega (arith, l.invariant.so_far, l.invariant.few, goes, c.if-left-len.false, c.len-in-loop-end.ensures.value);
    })

pub returns : goal.returns
returns c =
    let l = c.loop-end in
    let none : run_of l.at l.left (pieces l.end-iterator) ≡ 0 = ap (λ (es : List (ℕ × List ℕ)). run_of l.at l.left (pieces es)) c.in-None.ensures.steps.0 in
    omega (arith, l.invariant.so_far, none)
