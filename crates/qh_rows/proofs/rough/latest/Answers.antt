use Rattle.std.proofs.Common.{◌≤◌, ℕ, subst, sym, arith}
use Rattle.std.specs.Prelude.{All}
use Rattle.std.proofs.lemmas.List.{take_all}
use Rattle.qh_spec.specs.Link.{moments_of}
use Rattle.qh_spec.specs.declared.link.Event.{Event}
use Rattle.std.specs.Prelude.{List}
use Rattle.qh_rows.proofs.Moments.{later_still}
use Rattle.qh_rows.proofs.rough.latest.Goals as goal

pub loop-event-preserved : goal.loop-event-preserved
loop-event-preserved c =
    later_still c.args.events.now c.loop-event.event-index c.loop-event.latest c.later-latest.result c.event-item.result (omega arith) (sym c.event-item.is) c.loop-event.invariant c.later-latest.ensures.old c.later-latest.ensures.new

pub returns : goal.returns
returns c =
    subst (λ (z : List Event). All (λ (m : ℕ). m ≤ c.loop-event.latest) (moments_of z)) (take_all c.loop-event.event-index c.args.events.now (omega arith)) c.loop-event.invariant
