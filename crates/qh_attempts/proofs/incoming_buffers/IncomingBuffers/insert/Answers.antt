use Rattle.std.proofs.Common.{refl, ap, sym, ◌∙◌, ◌+◌, Some}
use Rattle.qh_attempts.specs.Attempts.{PlainAttempt, PlainBuffers, HasInstead, bytes_kept, total_bytes}
use Rattle.qh_attempts.proofs.Slots.{attempts_come, total_come}
use Rattle.qh_attempts.proofs.incoming_buffers.IncomingBuffers.insert.Goals as goal

pub invariant_of-self-2 : goal.invariant_of-self-2
invariant_of-self-2 g c =
    let old : PlainBuffers g.row.C.Denot = record { slots = c.self.inside.attempts.slots; numbered = c.self.inside.numbered } in
    let new : PlainBuffers g.row.C.Denot = record { slots = c.insert.new.self.slots; numbered = c.self.inside.numbered + 1 } in
    let a : PlainAttempt g.row.C.Denot = c.new-attempt.result in
    let put : HasInstead old new c.in_ok-key.key (Some a) = record { there = c.in_ok-key.ensures.updates.changed; others = c.in_ok-key.ensures.updates.others } in
    let empty = ap bytes_kept c.new-attempt.ensures in (
      attempts_come old new c.in_ok-key.key c.self.invariant.0 a put (ap (λ (p : PlainAttempt g.row.C.Denot). p.number) c.new-attempt.ensures) refl empty,
      c.self.invariant.1 ∙ sym (total_come old new c.in_ok-key.key a put c.in_ok-key.ensures.was_vacant empty),
    )

pub returns-clause-bytes : goal.returns-clause-bytes
returns-clause-bytes g c =
    let old : PlainBuffers g.row.C.Denot = record { slots = c.self.inside.attempts.slots; numbered = c.self.inside.numbered } in
    let new : PlainBuffers g.row.C.Denot = record { slots = c.insert.new.self.slots; numbered = c.self.inside.numbered + 1 } in
    let a : PlainAttempt g.row.C.Denot = c.new-attempt.result in
    let put : HasInstead old new c.in_ok-key.key (Some a) = record { there = c.in_ok-key.ensures.updates.changed; others = c.in_ok-key.ensures.updates.others } in
    let empty = ap bytes_kept c.new-attempt.ensures in
    total_come old new c.in_ok-key.key a put c.in_ok-key.ensures.was_vacant empty ∙ ap total_bytes c.self.view_is
