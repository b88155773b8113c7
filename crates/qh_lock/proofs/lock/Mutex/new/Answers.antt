use Rattle.std.proofs.Common.{◌≡◌, rules, sym, subst, [], ◌∷◌, Some, List, Option, length}
use Rattle.qh_lock.specs.Places.{AreBelow}
use Rattle.qh_lock.proofs.Orders.{below_first}
use Rattle.atomic_table.specs.Table.{opening}
use Rattle.qh_lock.specs.Turns.{InTurn, opened}
use Rattle.qh_lock.proofs.Steps.{begins}
use Rattle.qh_lock.proofs.lock.Mutex.new.Goals as goal

pub new-requires : goal.new-requires
new-requires g c =
    let items : c.push.new.self.items ≡ Some c.args.value ∷ [] = search rules in
    let start : c.of-start.result.value ≡ c.args.value = search rules in
    subst (λ (z : List (Option g.row.T.Denot) × g.row.T.Denot). InTurn g.T.Kept.history g.T.Kept.is_ready (opening (0 ∷ 0 ∷ []) z.0 (opened (g.T.Kept.history z.1)))) (λ i. (sym items i, sym start i)) (begins g.T.Kept.history g.T.Kept.is_ready c.args.value c.requires)

pub invariant_of-result-in-Ok : goal.invariant_of-result-in-Ok
invariant_of-result-in-Ok g c =
    (search rules, search rules, search rules, subst (λ m. AreBelow (length m.0.seen) m.0.own) (sym c.in-Ok.ensures.ok.4) (below_first (g.T.Kept.history c.of-start.result.value)))
