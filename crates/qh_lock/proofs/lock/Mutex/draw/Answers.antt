use Rattle.std.proofs.Common.{rules, refl, ap, ◌∙◌, sym}
use Rattle.qh_lock.proofs.Steps.{draws}
use Rattle.qh_lock.proofs.lock.Mutex.draw.Goals as goal

pub compare_exchange-found-requires : goal.compare_exchange-found-requires
compare_exchange-found-requires g c =
    let same = c.loop.invariant.1 in
    let idle = c.requires.idle.0 in
    (c.loop.invariant.0 ∙ (c.requires.of ∙ sym c.self.view_is), search rules, draws g.T.Kept.history g.T.Kept.is_ready _ _ _ _ _ refl (search rules) (ap (λ m. m.0.ticket) same ∙ idle.0) (ap (λ m. m.0.turn) same ∙ idle.1))
