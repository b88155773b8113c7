use Rattle.std.proofs.Common.{refl, ap, None, arith}
use Rattle.qh_attempts.specs.Attempts.{PlainBuffers, HasInstead, slot_bytes}
use Rattle.qh_attempts.proofs.Slots.{attempts_left, total_instead}
use Rattle.qh_attempts.proofs.incoming_buffers.IncomingBuffers.take.Goals as goal

pub invariant_of-self : goal.invariant_of-self
invariant_of-self g c =
    let old : PlainBuffers g.row.C.Denot = record { slots = c.self.inside.attempts.slots; numbered = c.self.inside.numbered } in
    let new : PlainBuffers g.row.C.Denot = record { slots = c.remove-taken.new.self.slots; numbered = c.self.inside.numbered } in
    let put : HasInstead old new c.args.attempt.key None = record { there = c.remove-taken.ensures.updates.changed; others = c.remove-taken.ensures.updates.others } in
    let total = c.self.invariant.1 in
    let sum = total_instead old new c.args.attempt.key None put in
    let was = ap slot_bytes c.remove-taken.ensures.value in
    let bytes = c.bytes.ensures in
    (attempts_left old new c.args.attempt.key c.self.invariant.0 put refl, omega (arith, sum, was, bytes, total))
