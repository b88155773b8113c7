use Rattle.std.proofs.Common.{◌≡◌, arith, rules}
use Rattle.qh_halves.proofs.HalvesRanges.{in_within}
use Rattle.qh_halves.proofs.send_halves.SendHalves.insert_range.Goals as goal

pub returns-then-is_err-clause-err : goal.returns-then-is_err-clause-err
returns-then-is_err-clause-err c =
    let same : c.insert.new.self ≡ c.loop-i.self = search rules in
    c.withdraw_range.ensures.before c.args.self.now c.args.max_data c.are_sorted.ensures
    (λ k inside. c.requires.fresh k (in_within c.args.first c.args.count c.loop-i.i k (omega arith) inside)) (rw same c.loop-i.invariant.added)
