use Rattle.std.proofs.Common.{◌∙◌, ◌≡◌, ℕ, ◌+◌, ◌||◌, List, true, false, take, sym, subst, arith}
use Rattle.qh_buffers.specs.declared.assembler.Chunk.{Chunk}
use Rattle.qh_buffers.specs.Ranges.{has, is_in, front_of, AreApart}
use Rattle.qh_buffers.specs.Assembler.{PlainAssembler, run_of, first_of, all_bytes, IsGiven}
use Rattle.qh_buffers.proofs.ChunkLaws.{none_below}
use Rattle.qh_buffers.proofs.AssemblerReads.{IsNext, counted, none_ordered, next_at, range_end, read_fits, kept_after, gives, front_piece, finds_next, at_err}
use Rattle.qh_buffers.proofs.assembler.Assembler.read.Goals as goal

pub returns-then-length-eq0-clause-none_ordered : goal.returns-then-length-eq0-clause-none_ordered
returns-then-length-eq0-clause-none_ordered c = λ _ ordered.
    let given = c.self.inside.given in
    let cs = c.self.inside.chunks in
    let none = sym (c.next_length-length.ensures.ordered ordered) ∙ c.if-length-eq0.true in
    (rw (← c.self.view_is) (none_ordered given cs c.self.inside.bytes_read c.args.max_length c.self.invariant c.requires (rw (← c.self.view_is) at none)), c.next_length-length.ensures.lacks ordered)

pub overflow_add-offset : goal.overflow_add-offset
overflow_add-offset c =
    let given = c.self.inside.given in
    let cs = c.self.inside.chunks in
    let read = c.self.inside.bytes_read in
    let max = c.args.max_length in
    let n = c.next_length-length.result in
    let at = c.front_offset-offset.result in
    let run : c.args.ordered ≡ true → n ≡ run_of (front_of given) max cs = λ h. rw (← c.self.view_is) at (c.next_length-length.ensures.ordered h) in
    let first : c.args.ordered ≡ false → n ≡ first_of max cs = λ h. rw (← c.self.view_is) at (c.next_length-length.ensures.unordered h) in
    let next : IsNext given cs max c.args.ordered at n = next_at given cs read max c.self.invariant c.args.ordered at n c.front_offset-offset.ensures run first (omega arith) in
    omega (arith, range_end given cs read max c.self.invariant c.args.ordered at n next)

pub overflow_add-self : goal.overflow_add-self
overflow_add-self c =
    let given = c.self.inside.given in
    let cs = c.self.inside.chunks in
    let read = c.self.inside.bytes_read in
    let max = c.args.max_length in
    let n = c.next_length-length.result in
    let at = c.front_offset-offset.result in
    let run : c.args.ordered ≡ true → n ≡ run_of (front_of given) max cs = λ h. rw (← c.self.view_is) at (c.next_length-length.ensures.ordered h) in
    let first : c.args.ordered ≡ false → n ≡ first_of max cs = λ h. rw (← c.self.view_is) at (c.next_length-length.ensures.unordered h) in
    let next : IsNext given cs max c.args.ordered at n = next_at given cs read max c.self.invariant c.args.ordered at n c.front_offset-offset.ensures run first (omega arith) in
    let apart : AreApart 0 c.insert.new.self = c.is_apart.ensures in
    let added : (k : ℕ) → has c.insert.new.self k ≡ (is_in (record { start = at; end = at + n }) k || has given k) = c.in_ok-insert.ensures.ok in
    omega (arith, read_fits given cs read max c.self.invariant c.args.ordered at n next c.insert.new.self apart added)

pub invariant_of-self-2 : goal.invariant_of-self-2
invariant_of-self-2 c =
    let given = c.self.inside.given in
    let cs = c.self.inside.chunks in
    let read = c.self.inside.bytes_read in
    let max = c.args.max_length in
    let n = c.next_length-length.result in
    let at = c.front_offset-offset.result in
    let run : c.args.ordered ≡ true → n ≡ run_of (front_of given) max cs = λ h. rw (← c.self.view_is) at (c.next_length-length.ensures.ordered h) in
    let first : c.args.ordered ≡ false → n ≡ first_of max cs = λ h. rw (← c.self.view_is) at (c.next_length-length.ensures.unordered h) in
    let next : IsNext given cs max c.args.ordered at n = next_at given cs read max c.self.invariant c.args.ordered at n c.front_offset-offset.ensures run first (omega arith) in
    let apart : AreApart 0 c.insert.new.self = c.is_apart.ensures in
    let added : (k : ℕ) → has c.insert.new.self k ≡ (is_in (record { start = at; end = at + n }) k || has given k) = c.in_ok-insert.ensures.ok in
    rw c.drop_front.ensures (kept_after given cs read max c.self.invariant c.args.ordered at n next c.insert.new.self apart added)

pub returns-clause-some : goal.returns-clause-some
returns-clause-some c =
    let given = c.self.inside.given in
    let cs = c.self.inside.chunks in
    let read = c.self.inside.bytes_read in
    let max = c.args.max_length in
    let n = c.next_length-length.result in
    let at = c.front_offset-offset.result in
    let run : c.args.ordered ≡ true → n ≡ run_of (front_of given) max cs = λ h. rw (← c.self.view_is) at (c.next_length-length.ensures.ordered h) in
    let first : c.args.ordered ≡ false → n ≡ first_of max cs = λ h. rw (← c.self.view_is) at (c.next_length-length.ensures.unordered h) in
    let next : IsNext given cs max c.args.ordered at n = next_at given cs read max c.self.invariant c.args.ordered at n c.front_offset-offset.ensures run first (omega arith) in
    let apart : AreApart 0 c.insert.new.self = c.is_apart.ensures in
    let added : (k : ℕ) → has c.insert.new.self k ≡ (is_in (record { start = at; end = at + n }) k || has given k) = c.in_ok-insert.ensures.ok in
    let old : PlainAssembler = record { given = given; chunks = cs } in
    let piece : Chunk = record { offset = at; bytes = take n (all_bytes cs) } in
    rw (← c.self.view_is, c.in_ok-bytes.ensures)
    (subst (λ (rest : List Chunk). IsGiven old (record { given = c.insert.new.self; chunks = rest }) max piece) (sym c.drop_front.ensures)
    (gives given cs read max c.self.invariant c.args.ordered at n next c.insert.new.self apart added))

pub returns-clause-counted : goal.returns-clause-counted
returns-clause-counted c =
    let given = c.self.inside.given in
    let cs = c.self.inside.chunks in
    let read = c.self.inside.bytes_read in
    let max = c.args.max_length in
    let n = c.next_length-length.result in
    let at = c.front_offset-offset.result in
    let run : c.args.ordered ≡ true → n ≡ run_of (front_of given) max cs = λ h. rw (← c.self.view_is) at (c.next_length-length.ensures.ordered h) in
    let first : c.args.ordered ≡ false → n ≡ first_of max cs = λ h. rw (← c.self.view_is) at (c.next_length-length.ensures.unordered h) in
    let next : IsNext given cs max c.args.ordered at n = next_at given cs read max c.self.invariant c.args.ordered at n c.front_offset-offset.ensures run first (omega arith) in
    let apart : AreApart 0 c.insert.new.self = c.is_apart.ensures in
    let added : (k : ℕ) → has c.insert.new.self k ≡ (is_in (record { start = at; end = at + n }) k || has given k) = c.in_ok-insert.ensures.ok in
    rw (← c.self.view_is, c.in_ok-bytes.ensures) (counted given cs read max c.self.invariant c.args.ordered at n next c.insert.new.self apart added)

pub returns-clause-front : goal.returns-clause-front
returns-clause-front c = λ ordered.
    let given = c.self.inside.given in
    let cs = c.self.inside.chunks in
    let read = c.self.inside.bytes_read in
    let max = c.args.max_length in
    let n = c.next_length-length.result in
    let at = c.front_offset-offset.result in
    let run : c.args.ordered ≡ true → n ≡ run_of (front_of given) max cs = λ h. rw (← c.self.view_is) at (c.next_length-length.ensures.ordered h) in
    let first : c.args.ordered ≡ false → n ≡ first_of max cs = λ h. rw (← c.self.view_is) at (c.next_length-length.ensures.unordered h) in
    let next : IsNext given cs max c.args.ordered at n = next_at given cs read max c.self.invariant c.args.ordered at n c.front_offset-offset.ensures run first (omega arith) in
    let apart : AreApart 0 c.insert.new.self = c.is_apart.ensures in
    let added : (k : ℕ) → has c.insert.new.self k ≡ (is_in (record { start = at; end = at + n }) k || has given k) = c.in_ok-insert.ensures.ok in
    rw (← c.self.view_is, c.in_ok-bytes.ensures) (front_piece given cs read max c.self.invariant c.args.ordered at n next c.insert.new.self apart added ordered)

pub returns-clause-least : goal.returns-clause-least
returns-clause-least c = λ _ k low.
    let given = c.self.inside.given in
    let cs = c.self.inside.chunks in
    let read = c.self.inside.bytes_read in
    let max = c.args.max_length in
    let n = c.next_length-length.result in
    let at = c.front_offset-offset.result in
    let run : c.args.ordered ≡ true → n ≡ run_of (front_of given) max cs = λ h. rw (← c.self.view_is) at (c.next_length-length.ensures.ordered h) in
    let first : c.args.ordered ≡ false → n ≡ first_of max cs = λ h. rw (← c.self.view_is) at (c.next_length-length.ensures.unordered h) in
    let next : IsNext given cs max c.args.ordered at n = next_at given cs read max c.self.invariant c.args.ordered at n c.front_offset-offset.ensures run first (omega arith) in
    rw (← c.self.view_is) (none_below cs at k next.front.in_order low)

pub returns-in_err-bytes-clause-lacks : goal.returns-in_err-bytes-clause-lacks
returns-in_err-bytes-clause-lacks c =
    let given = c.self.inside.given in
    let cs = c.self.inside.chunks in
    let read = c.self.inside.bytes_read in
    let max = c.args.max_length in
    let n = c.next_length-length.result in
    let at = c.front_offset-offset.result in
    let run : c.args.ordered ≡ true → n ≡ run_of (front_of given) max cs = λ h. rw (← c.self.view_is) at (c.next_length-length.ensures.ordered h) in
    let first : c.args.ordered ≡ false → n ≡ first_of max cs = λ h. rw (← c.self.view_is) at (c.next_length-length.ensures.unordered h) in
    let next : IsNext given cs max c.args.ordered at n = next_at given cs read max c.self.invariant c.args.ordered at n c.front_offset-offset.ensures run first (omega arith) in
    at_err c.from_residual.result _ (rw (← c.self.view_is) (finds_next next))

pub returns-in_err-insert-clause-lacks : goal.returns-in_err-insert-clause-lacks
returns-in_err-insert-clause-lacks c =
    let given = c.self.inside.given in
    let cs = c.self.inside.chunks in
    let read = c.self.inside.bytes_read in
    let max = c.args.max_length in
    let n = c.next_length-length.result in
    let at = c.front_offset-offset.result in
    let run : c.args.ordered ≡ true → n ≡ run_of (front_of given) max cs = λ h. rw (← c.self.view_is) at (c.next_length-length.ensures.ordered h) in
    let first : c.args.ordered ≡ false → n ≡ first_of max cs = λ h. rw (← c.self.view_is) at (c.next_length-length.ensures.unordered h) in
    let next : IsNext given cs max c.args.ordered at n = next_at given cs read max c.self.invariant c.args.ordered at n c.front_offset-offset.ensures run first (omega arith) in
    at_err c.from_residual-in_err-insert.result _ (rw (← c.self.view_is) (finds_next next))
