use Rattle.std.proofs.Common.{◌≡◌, true, false, sym, ◌∙◌, refl, arith}
use Rattle.std.proofs.lemmas.Bool.Decides.{nat_tests}
use Rattle.qh_buffers.specs.Assembler.{chunk_at, first_of, run_of}
use Rattle.qh_buffers.specs.Ranges.{front_of}
use Rattle.qh_buffers.proofs.AssemblerReads.{IsNext, finds_next, next_at, none_ordered}
use Rattle.qh_buffers.proofs.assembler.Assembler.has_next.Goals as goal

pub returns-clause-yes : goal.returns-clause-yes
returns-clause-yes c = λ yes.
    let given = c.self.inside.given in
    let cs = c.self.inside.chunks in
    let n = c.next_length.result in
    let run : c.args.ordered ≡ true → n ≡ run_of (front_of given) 1 cs = λ h. rw (← c.self.view_is) at (c.next_length.ensures.ordered h) in
    let first : c.args.ordered ≡ false → n ≡ first_of 1 cs = λ h. rw (← c.self.view_is) at (c.next_length.ensures.unordered h) in
    let next : IsNext given cs 1 c.args.ordered (chunk_at cs 0).offset n = next_at given cs c.self.inside.bytes_read 1 c.self.invariant c.args.ordered (chunk_at cs 0).offset n refl run first (grind (arith, nat_tests)) in
    rw (← c.self.view_is) (finds_next next)

pub returns-clause-none_ordered : goal.returns-clause-none_ordered
returns-clause-none_ordered c = λ no ordered.
    let given = c.self.inside.given in
    let cs = c.self.inside.chunks in
    let zero : c.next_length.result ≡ 0 = grind (arith, nat_tests) in
    let none = sym (c.next_length.ensures.ordered ordered) ∙ zero in
    (rw (← c.self.view_is) (none_ordered given cs c.self.inside.bytes_read 1 c.self.invariant (omega arith) (rw (← c.self.view_is) at none)), c.next_length.ensures.lacks ordered)
