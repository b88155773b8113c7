use Rattle.std.proofs.Common.{ℕ, is_some, Option, sym, ap, ◌∙◌, arith}
use Rattle.qh_buffers.proofs.StoredPieces.{none_found, one_found}
use Rattle.qh_buffers.proofs.assembler.map.next_gap.Goals as goal

pub returns-in_default : goal.returns-in_default
returns-in_default c =
    let es = c.args.chunks.now.entries in
    let within = c.args.within in
    record {
      above = omega arith;
      order = c.requires.order;
      below = omega arith;
      full = λ k low high. absurd (omega arith);
      free = λ k low high. ap (λ (o : Option ℕ). is_some o) (none_found es 0 within.start k c.requires.stored (sym (c.range.ensures.between tt) ∙ c.in_default.ensures.steps.0) low);
      goes = λ h. h;
    }

pub overflow_sub-offset : goal.overflow_sub-offset
overflow_sub-offset c =
    let es = c.args.chunks.now.entries in
    let found = one_found es c.next.new.self 0 c.args.within.start (c.in-Some.end.now, c.in-Some.bytes.now) c.requires.stored (sym (c.range.ensures.between tt) ∙ c.in-Some.ensures.steps) in
    omega (arith, c.len.ensures.value, found.fits)

pub returns-then-within-offset : goal.returns-then-within-offset
returns-then-within-offset c =
    let es = c.args.chunks.now.entries in
    let found = one_found es c.next.new.self 0 c.args.within.start (c.in-Some.end.now, c.in-Some.bytes.now) c.requires.stored (sym (c.range.ensures.between tt) ∙ c.in-Some.ensures.steps) in
    record {
      above = omega arith;
      order = omega (arith, c.min.ensures, c.if-within-offset.true, c.requires.order);
      below = omega (arith, c.min.ensures);
      full = λ k low high. absurd (omega arith);
      free = λ k low high. ap (λ (o : Option ℕ). is_some o) (found.free k low (omega (arith, c.min.ensures, c.len.ensures.value)));
      goes = λ h. omega (arith, c.min.ensures, c.if-within-offset.true);
    }

pub returns : goal.returns
returns c =
    let es = c.args.chunks.now.entries in
    let found = one_found es c.next.new.self 0 c.args.within.start (c.in-Some.end.now, c.in-Some.bytes.now) c.requires.stored (sym (c.range.ensures.between tt) ∙ c.in-Some.ensures.steps) in
    record {
      above = omega (arith, c.min-start.ensures, found.later, c.requires.order);
      order = omega arith;
      below = omega (arith, c.min-start.ensures);
      full = λ k low high. found.waits k (omega (arith, c.len.ensures.value, c.if-within-offset.false)) (omega (arith, c.min-start.ensures));
      free = λ k low high. absurd (omega arith);
      goes = λ h. omega (arith, c.min-start.ensures, found.later);
    }
