use Rattle.std.proofs.Common.{◌≡◌, rules, ◌∙◌, ap, sym, subst}
use Rattle.qh_lock.specs.Places.{places}
use Rattle.qh_lock.specs.Seats.{first_seat}
use Rattle.lock_rows.specs.Calls.{HasBoth}
use Rattle.lock_rows.proofs.Runs.{has_both}
use Rattle.lock_rows.proofs.threads.add_in_two_rounds.Goals as goal

pub returns-clause-calls : goal.returns-clause-calls
returns-clause-calls g c =
    let s = c.in_ok-mutex.seat in
    let first : s ≡ first_seat c.in_ok-mutex.mutex c.new.result.calls.items = search rules in
    let none = ap (λ z. z.seen) first ∙ c.new.ensures in
    let none_own = ap (λ z. z.own) first ∙ ap (places 0) c.new.ensures in
    subst (λ log. HasBoth log c.args.end) (sym c.close.ensures.history) (has_both s c.in_ok-seat.seat c.in_ok-seat-2.seat c.args.middle c.args.end none none_own c.in_ok-seat.ensures.calls c.in_ok-seat-2.ensures.calls c.close.ensures.own)
