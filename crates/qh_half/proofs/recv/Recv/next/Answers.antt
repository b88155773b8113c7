use Rattle.std.proofs.Common.{◌≡◌, true, false, refl, sym, ap, ◌∙◌, arith}
use Rattle.std.proofs.lemmas.Result.{err_from_is_err_and}
use Rattle.qh_half.specs.Recv.{PlainRecv, nothing, bytes, end, reset, blocked, memory, is_at_end}
use Rattle.qh_half.proofs.recv.Recv.next.Goals as goal

pub returns-then-max_length-eq0-clause-answer : goal.returns-then-max_length-eq0-clause-answer
returns-then-max_length-eq0-clause-answer c = nothing c.if-max_length-eq0.true refl c.no_bytes.result c.no_bytes.ensures

pub returns-in-Some-clause-answer : goal.returns-in-Some-clause-answer
returns-in-Some-clause-answer c = reset c.in-Some.code (omega arith) (sym c.reset_code.ensures ∙ c.in-Some.is) c.give_end.ensures

pub returns-in_err-piece-clause-answer : goal.returns-in_err-piece-clause-answer
returns-in_err-piece-clause-answer c =
    let p = err_from_is_err_and c.from_residual.result c.from_residual.ensures.1 in
    rw (p.1, p.2) (memory (record { asked = omega arith; not_reset = sym c.reset_code.ensures ∙ c.in_default.is; waits = c.in_err-piece.ensures.waits }) c.in_err-piece.ensures.err)

pub returns-in-Some-2-clause-answer : goal.returns-in-Some-2-clause-answer
returns-in-Some-2-clause-answer c = bytes c.in-Some-2.piece (omega arith) (rw c.in-Some-2.is at c.in_ok-piece.ensures.ok)

pub returns-then-not-is_at_end-clause-answer : goal.returns-then-not-is_at_end-clause-answer
returns-then-not-is_at_end-clause-answer c =
    let waits = rw c.in_default-2.is at c.in_ok-piece.ensures.ok in
    let at_end : is_at_end c.args.self.now ≡ false = ap is_at_end (sym waits.0) ∙ sym c.is_at_end.ensures ∙ c.if-not-is_at_end.true in
    blocked (omega arith) waits.1 at_end (sym c.reset_code.ensures ∙ c.in_default.is) waits.0

pub returns-clause-answer : goal.returns-clause-answer
returns-clause-answer c =
    let waits = rw c.in_default-2.is at c.in_ok-piece.ensures.ok in
    let at_end : is_at_end c.args.self.now ≡ true = ap is_at_end (sym waits.0) ∙ sym c.is_at_end.ensures ∙ c.if-not-is_at_end.false in
    let given : c.give_end-2.new.self ≡ record c.args.self.now { is_given = true } = c.give_end-2.ensures ∙ ap (λ (r : PlainRecv). record r { is_given = true }) waits.0 in
    end (omega arith) waits.1 at_end given

pub returns-in_err-piece-clause-lacks : goal.returns-in_err-piece-clause-lacks
returns-in_err-piece-clause-lacks c = λ _. c.in_err-piece.ensures.lacks
