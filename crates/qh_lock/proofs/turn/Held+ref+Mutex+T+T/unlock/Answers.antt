use Rattle.std.proofs.Common.{rules, refl, ap, ◌∙◌, sym, subst, [], ◌∷◌, Some, length}
use Rattle.atomic_table.specs.Table.{rest}
use Rattle.qh_lock.specs.Places.{StartsWith, AreBelow}
use Rattle.qh_lock.specs.Turns.{left_with, carried_history}
use Rattle.qh_lock.proofs.Orders.{below_after}
use Rattle.qh_lock.proofs.Steps.{publishes, holding_of}
use Rattle.qh_lock.proofs.turn.Held+ref+Mutex+T+T.unlock.Goals as goal

pub store-requires : goal.store-requires
store-requires g c =
    let m = c.seat.inside.inner.me in
    let x = c.args.self.value in
    let ticket = ap (λ s. s.turn) c.seat.view_is ∙ c.requires.turn in
    let holding = holding_of m c.args.self.ticket c.seat.invariant.2 ticket in
    let is = c.exchange.ensures.3 ∙ ap (λ l. (m.0, (0, Some x) ∷ rest l)) holding.1 in
    let longer = subst (λ s. StartsWith (g.T.Kept.history x) s.seen) (sym c.seat.view_is) c.requires.longer.0 in
    (c.exchange.ensures.0 ∙ (ap (λ s. s.lock) c.seat.view_is ∙ (c.requires.of ∙ sym c.mutex.view_is)), search rules, publishes g.T.Kept.history g.T.Kept.is_ready _ _ c.exchange.new.seat.me m.0 x c.args.self.ticket _ is refl c.seat.invariant.1 ticket holding.0 longer c.requires.ready)

pub invariant_of-seat : goal.invariant_of-seat
invariant_of-seat g c =
    let m = c.seat.inside.inner.me in
    let h = g.T.Kept.history c.args.self.value in
    let longer = subst (λ s. StartsWith h s.seen) (sym c.seat.view_is) c.requires.longer.0 in
    let is = c.store.ensures.2 ∙ ap (λ z. (left_with z.0 (carried_history g.T.Kept.history g.T.Kept.is_ready z.1), [])) c.exchange.ensures.3 in
    (search rules, search rules, search rules, subst (λ z. AreBelow (length z.0.seen) z.0.own) (sym is) (below_after h m.0.seen m.0.own longer c.seat.invariant.3))
