use Rattle.std.proofs.Common.{ℕ, List, min, sym, ap, ◌∙◌}
use Rattle.qh_buffers.specs.Assembler.{pieces, first_of}
use Rattle.qh_buffers.proofs.StoredPieces.{first_is}
use Rattle.qh_buffers.proofs.assembler.map.first_length.Goals as goal

pub returns-in-Some : goal.returns-in-Some
returns-in-Some c =
    let es = c.args.chunks.now.entries in
    let e : ℕ × List ℕ = (c.in-Some.field-0-0.now, c.in-Some.first.now) in
    let max = c.args.max_length in
    c.min.ensures ∙ ap (min max) c.len.ensures.value ∙ sym (ap (λ (l : List (ℕ × List ℕ)). first_of max (pieces l)) (first_is es e c.in-Some.ensures.first))
