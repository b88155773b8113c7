use Rattle.std.proofs.Common.{ap, ◌∙◌, sym, subst}
use Rattle.qh_lock.proofs.Steps.{ends, idle_of, same_value, no_value}
use Rattle.qh_lock.proofs.lock.Mutex.close.Goals as goal

pub unreachable-requires : goal.unreachable-requires
unreachable-requires g c =
    let m = c.seat.inside.inner.me in
    let idle = idle_of m c.seat.invariant.2 (ap (λ s. s.turn) c.seat.view_is ∙ c.requires.idle) in
    let all = ap (λ s. s.parts) c.seat.view_is ∙ c.requires.all in
    let e = ends g.T.Kept.history g.T.Kept.is_ready m _ _ _ c.take-slot.result idle all c.close_with-closed.ensures.values.2 c.take-slot.ensures.value in
    no_value g.T.Kept.history g.T.Kept.is_ready e.0 (sym e.1 ∙ c.in-None.is)

pub returns : goal.returns
returns g c =
    let m = c.seat.inside.inner.me in
    let idle = idle_of m c.seat.invariant.2 (ap (λ s. s.turn) c.seat.view_is ∙ c.requires.idle) in
    let all = ap (λ s. s.parts) c.seat.view_is ∙ c.requires.all in
    let e = ends g.T.Kept.history g.T.Kept.is_ready m _ _ _ c.take-slot.result idle all c.close_with-closed.ensures.values.2 c.take-slot.ensures.value in
    let same = same_value g.T.Kept.history g.T.Kept.is_ready e.0 c.in-Some.value (sym e.1 ∙ c.in-Some.is) in
    rw (← c.seat.view_is) record {
      history = ap g.T.Kept.history (sym same) ∙ e.2;
      own = e.4;
      ready = subst g.T.Kept.is_ready same e.3;
      legal = subst g.T.Kept.is_legal e.2 (g.met.T.Kept.keeps e.0);
    }
