use Rattle.std.proofs.Common.{◌<◌, rules, ap, ◌∙◌, subst, sym, Some, ◌∷◌, length}
use Rattle.atomic_table.specs.Table.{rest}
use Rattle.qh_lock.specs.Places.{AreBelow}
use Rattle.qh_lock.proofs.Orders.{below_seen}
use Rattle.qh_lock.proofs.Steps.{idle_of, looks, found_value, taken, no_value}
use Rattle.qh_lock.proofs.lock.Mutex.lock.Goals as goal

pub load-requires : goal.load-requires
load-requires g c =
    let idle = idle_of c.seat.inside.inner.me c.seat.invariant.2 (ap (λ s. s.turn) c.seat.view_is ∙ c.requires.idle) in
    let same = c.loop.invariant.1 ∙ c.draw-ticket.ensures.seat in (
      c.loop.invariant.0 ∙ (c.draw-ticket.ensures.of ∙ (ap (λ s. s.lock) c.seat.view_is ∙ (c.requires.of ∙ sym c.self.view_is))),
      search rules,
      looks g.T.Kept.history g.T.Kept.is_ready _ _ _ c.draw-ticket.result (subst (λ m. 0 < m.0.parts) (sym same) c.seat.invariant.1) (ap (λ m. m.0.ticket) same) (ap (λ m. m.0.turn) same ∙ idle.1),
    )

pub exchange-requires : goal.exchange-requires
exchange-requires g c =
    let same = c.loop.invariant.1 ∙ c.draw-ticket.ensures.seat in
    let f = found_value g.T.Kept.history g.T.Kept.is_ready c.seat.inside.inner.me.0 _ c.load.new.seat.me c.draw-ticket.result c.load.result same c.if-load-ticket.true c.load.ensures.2 in (
      c.load.ensures.0 ∙ (c.loop.invariant.0 ∙ (c.draw-ticket.ensures.of ∙ (ap (λ s. s.lock) c.seat.view_is ∙ (c.requires.of ∙ sym c.self.view_is)))),
      (Some f.0, f.2 ∙ ap (λ l. (0, Some f.0) ∷ rest l) (sym f.2)),
    )

pub unreachable-requires : goal.unreachable-requires
unreachable-requires g c =
    let same = c.loop.invariant.1 ∙ c.draw-ticket.ensures.seat in
    let t = taken g.T.Kept.history g.T.Kept.is_ready c.seat.inside.inner.me.0 _ c.load.new.seat.me c.exchange.new.seat.me c.draw-ticket.result c.load.result c.exchange.result same c.if-load-ticket.true c.load.ensures.2 c.exchange.ensures.2 c.exchange.ensures.3 in
    no_value g.T.Kept.history g.T.Kept.is_ready t.0 (sym t.1 ∙ c.in-None-exchange.is)

pub invariant_of-seat : goal.invariant_of-seat
invariant_of-seat g c =
    let same = c.loop.invariant.1 ∙ c.draw-ticket.ensures.seat in
    let v = c.seat.inside.inner.me.0 in
    let t = taken g.T.Kept.history g.T.Kept.is_ready v _ c.load.new.seat.me c.exchange.new.seat.me c.draw-ticket.result c.load.result c.exchange.result same c.if-load-ticket.true c.load.ensures.2 c.exchange.ensures.2 c.exchange.ensures.3 in
    (search rules, search rules, search rules, subst (λ m. AreBelow (length m.0.seen) m.0.own) (sym t.2) (below_seen (g.T.Kept.history t.0) v.seen v.own t.3 c.seat.invariant.3))
