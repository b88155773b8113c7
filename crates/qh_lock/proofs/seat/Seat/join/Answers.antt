use Rattle.std.proofs.Common.{rules, ap, ◌∙◌, sym, subst, length}
use Rattle.qh_lock.specs.Places.{AreBelow}
use Rattle.qh_lock.specs.Turns.{settled}
use Rattle.qh_lock.proofs.Orders.{below_joined}
use Rattle.qh_lock.proofs.Steps.{joins, settles, idle_of}
use Rattle.qh_lock.proofs.seat.Seat.join.Goals as goal

pub join_seat-requires : goal.join_seat-requires
join_seat-requires g c =
    let m = c.self.inside.inner.me in
    let n = c.other.inside.inner.me in
    let idle = idle_of m c.self.invariant.2 (ap (λ s. s.turn) c.self.view_is ∙ c.requires.idle.0) in
    let idle' = idle_of n c.other.invariant.2 (ap (λ s. s.turn) c.other.view_is ∙ c.requires.idle.1) in (
      ap (λ s. s.lock) c.self.view_is ∙ (c.requires.of.0 ∙ sym c.mutex.view_is),
      ap (λ s. s.lock) c.other.view_is ∙ (c.requires.of.1 ∙ sym c.mutex.view_is),
      idle'.2,
      search rules,
      joins g.T.Kept.history g.T.Kept.is_ready _ m _ n idle idle' c.self.invariant.1,
    )

pub load-requires : goal.load-requires
load-requires g c =
    let idle = idle_of c.self.inside.inner.me c.self.invariant.2 (ap (λ s. s.turn) c.self.view_is ∙ c.requires.idle.0) in (
      c.join_seat.ensures.0 ∙ (ap (λ s. s.lock) c.self.view_is ∙ (c.requires.of.0 ∙ sym c.mutex.view_is)),
      search rules,
      settles g.T.Kept.history g.T.Kept.is_ready _ _ _ (ap (λ m. m.0.turn) c.join_seat.ensures.2 ∙ idle.1),
    )

pub invariant_of-self : goal.invariant_of-self
invariant_of-self g c =
    let v = c.self.inside.inner.me.0 in
    let w = c.other.inside.inner.me.0 in
    let is = c.load.ensures.2.0 ∙ ap (λ m. (settled m.0, m.1)) c.join_seat.ensures.2 in
    (search rules, search rules, search rules, subst (λ m. AreBelow (length m.0.seen) m.0.own) (sym is) (below_joined v.seen w.seen v.own w.own c.self.invariant.3 c.other.invariant.3))
