use Rattle.std.proofs.Common.{List, ℕ, refl, sym, subst, ◌∙◌}
use Rattle.qh_buffers.proofs.AssemblerReads.{at_err}
use Rattle.qh_handshake.proofs.Unsent.{number_lost}
use Rattle.qh_handshake.specs.Outgoing.{IsCloseUnsent}
use Rattle.qh_handshake.specs.declared.handshake.Handshake.{Handshake}
use Rattle.qh_handshake.proofs.handshake.Handshake.transmit_close.Goals as goal

pub returns-in_default-clause-none : goal.returns-in_default-clause-none
returns-in_default-clause-none g c = λ _. let none = c.in_default.ensures.none refl in (refl {A = List ℕ}, none.0, none.1)

pub returns-in_err-put_close-clause-unsent : goal.returns-in_err-put_close-clause-unsent
returns-in_err-put_close-clause-unsent g c =
    at_err c.from_residual.result _
    (number_lost c.args.self.now c.take_number.new.self c.take_number.result c.in-Some.number c.in-Some.is c.take_number.ensures.some (sym c.is_limited.ensures ∙ c.if-is_limited.false))

pub returns-in_err-size-clause-unsent : goal.returns-in_err-size-clause-unsent
returns-in_err-size-clause-unsent g c =
    at_err c.from_residual-in_err-size.result _
    (subst (λ (h : Handshake). IsCloseUnsent c.args.self.now h) (sym c.in_err-size.ensures.kept)
    (number_lost c.args.self.now c.take_number.new.self c.take_number.result c.in-Some.number c.in-Some.is c.take_number.ensures.some (sym c.is_limited.ensures ∙ c.if-is_limited.false)))
