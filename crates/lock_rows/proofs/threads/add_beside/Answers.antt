use Rattle.std.proofs.Common.{rules, ap}
use Rattle.qh_lock.specs.Seats.{without_half, other_half}
use Rattle.lock_rows.specs.Calls.{Ran}
use Rattle.lock_rows.proofs.Runs.{both_ran}
use Rattle.lock_rows.proofs.threads.add_beside.Goals as goal

pub returns-clause-calls : goal.returns-clause-calls
returns-clause-calls g c =
    let one : Ran (without_half c.args.seat) c.in_ok-seat.seat 1 c.args.from c.args.to = search rules in
    let two : Ran (other_half c.args.seat) c.in_ok-other.other 2 c.args.from c.args.to = search rules in
    both_ran c.args.seat c.in_ok-seat.seat c.in_ok-other.other c.join.new.self c.args.from c.args.to one two c.join.ensures.seen.0 c.join.ensures.seen.1 (ap (λ s. s.own) c.join.ensures.both)
