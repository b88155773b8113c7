use Rattle.std.proofs.Common.{Err, refl, sym, ap, ◌∙◌}
use Rattle.qh_half.specs.Recv.{PlainRecv}
use Rattle.qh_half.proofs.RecvReads.{nothing_read, wants_unmarked, waits_begun}
use Rattle.qh_half.proofs.recv.Recv.read.Goals as goal
use Rattle.qh_half.proofs.recv.Recv.read.Goals.{then-was_unordered, else-was_unordered}

pub returns-in-Err-Memory-clause-memory : goal.returns-in-Err-Memory-clause-memory
returns-in-Err-Memory-clause-memory c = λ _.
    let marked = λ (r : PlainRecv). record r { is_unordered = c.self.inside.is_unordered } in
    let lacks = nothing_read _ _ c.args.max_length (rw c.in-Err-Memory.field-0-is at c.in-Err-Memory.ensures.answer) in (
      c.set_unordered-in-Err-Memory.ensures ∙ ap marked lacks.0 ∙ ap marked c.set_unordered.ensures ∙ ap marked (sym c.self.view_is) ∙ c.self.view_is,
      wants_unmarked _ _ _ c.args.max_length c.set_unordered.ensures lacks.1,
    )

pub returns-in-Err-Memory-clause-lacks : goal.returns-in-Err-Memory-clause-lacks
returns-in-Err-Memory-clause-lacks c = λ _ waits.
    c.in-Err-Memory.ensures.lacks (ap Err c.in-Err-Memory.field-0-is) (waits_begun _ _ c.args.ordered c.if-was_unordered.set_unordered c.set_unordered.ensures (elim c.if-was_unordered.branch [
      | then-was_unordered w ↦ rw (← c.self.view_is, w.set_unordered-is, w.if-was_unordered.true) refl
      | else-was_unordered w ↦ rw (← c.self.view_is, w.set_unordered-is, w.if-was_unordered.false) refl
    ]) waits)
