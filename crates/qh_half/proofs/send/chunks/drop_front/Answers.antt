use Rattle.std.proofs.Common.{◌∙◌, ◌<◌, List, ℕ, length, get_or, ap, sym, arith}
use Rattle.std.proofs.lemmas.List.{get_or_read}
use Rattle.qh_half.proofs.SendChunks.{split_there}
use Rattle.qh_half.proofs.send.chunks.drop_front.Goals as goal

pub returns-then-left-len-clause-rest : goal.returns-then-left-len-clause-rest
returns-then-left-len-clause-rest c =
    let cs = c.loop-place.chunks in
    let i = c.loop-place.place in
    let first = c.index-chunks-place in
    let again = c.index-chunks-place-then-left-len in
    let within : i < length cs = omega arith in
    let same = sym first.is ∙ get_or_read cs i first.result within first.is again.result in
    let size = c.len-len.ensures.value ∙ ap (λ (l : List ℕ). length l) same in
    rw c.advance.ensures (split_there cs _ i c.loop-place.left (get_or cs i again.result) within (ap (get_or cs i) again.is) (omega (arith, size)) c.loop-place.invariant.rest)
