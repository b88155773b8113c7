use Rattle.std.proofs.Common.{◌<◌, rules, ap, ◌∙◌, sym, subst}
use Rattle.qh_lock.proofs.Steps.{splits}
use Rattle.qh_lock.proofs.seat.Seat.split.Goals as goal

pub split_seat-inner-requires : goal.split_seat-inner-requires
split_seat-inner-requires g c =
    let enough = subst (λ n. 1 < n) (sym (ap (λ s. s.parts) c.self.view_is)) c.requires.parts in
    (ap (λ s. s.lock) c.self.view_is ∙ (c.requires.of ∙ sym c.mutex.view_is), search rules, splits g.T.Kept.history g.T.Kept.is_ready _ c.self.inside.inner.me enough)
