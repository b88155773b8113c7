use Rattle.std.proofs.Common.{[], Some, refl, ap, ◌∙◌}
use Rattle.std.specs.Prelude.{is_some}
use Rattle.qh_pair.specs.Pair.{PairState}
use Rattle.qh_pair.proofs.ClockSteps.{ticks_keep, ticks_go, ticks_lose, ticks_time, ended_error, ended_no_link}
use Rattle.qh_spec.specs.declared.sides.Side.TheVariants.{Client, Server}
use Rattle.qh_pair.proofs.EndsAt.{whole_at}
use Rattle.qh_pair.proofs.PairEnds.{step_ticks}
use Rattle.qh_pair.proofs.PairSounds.{ends_fairly}
use Rattle.qh_pair.proofs.PairSteps.{run_by_step}
use Rattle.qh_pair.proofs.pair.Pair.tick.Goals as goal

pub tick_at-client-requires-clause-whole : goal.tick_at-client-requires-clause-whole
tick_at-client-requires-clause-whole c = whole_at Client _ _ _ _ c.self.invariant.1.running.client.at.stands

pub tick_at-server-requires-clause-whole : goal.tick_at-server-requires-clause-whole
tick_at-server-requires-clause-whole c = whole_at Server _ _ _ _ c.self.invariant.1.running.server.at.stands

pub invariant_of-self : goal.invariant_of-self
invariant_of-self c = (
  c.self.invariant.0,
  run_by_step _ _ _ _ _ _ [] [] _ (ap (λ (z : PairState). z.is_over) c.self.view_is ∙ c.requires.over) c.self.invariant.1
      (step_ticks _ _ _ _ _ _ (Some []) [] (rw c.self.view_is c.requires.counted) (c.tick_at-client.ensures.ticked Client) (c.tick_at-server.ensures.ticked Server)
      c.tick_at-client.ensures.lost c.tick_at-server.ensures.lost (c.tick_at-client.ensures.sound Client) (c.tick_at-server.ensures.sound Server)
      (c.tick_at-client.ensures.heard Client) (c.tick_at-server.ensures.heard Server)),
)

pub returns-clause-step : goal.returns-clause-step
returns-clause-step c =
    rw (c.ended_by.ensures, ← c.self.view_is)
    (λ told served. step_ticks _ _ _ _ _ _ told served (rw c.self.view_is c.requires.counted) (c.tick_at-client.ensures.ticked Client) (c.tick_at-server.ensures.ticked Server)
    c.tick_at-client.ensures.lost c.tick_at-server.ensures.lost (c.tick_at-client.ensures.sound Client) (c.tick_at-server.ensures.sound Server)
    (c.tick_at-client.ensures.heard Client) (c.tick_at-server.ensures.heard Server))

pub returns-clause-open : goal.returns-clause-open
returns-clause-open c = c.tick_at-client.ensures.open ∙ (ap (λ (z : PairState). is_some z.client_end) c.self.view_is ∙ c.requires.open)

pub returns-clause-going : goal.returns-clause-going
returns-clause-going c = rw c.ended_by.ensures (ticks_go _ _ _ c.tick_at-client.ensures.lost c.tick_at-server.ensures.lost)

pub returns-clause-fair : goal.returns-clause-fair
returns-clause-fair c =
    rw (c.ended_by.ensures, ← c.self.view_is)
    (λ events entries honest s last. ends_fairly _ _ _ _ _ _ _ _ _ events s.run.client.acts s.run.server.acts last honest s.run.client.at s.run.server.at s.sound.client s.sound.server
    (c.tick_at-client.ensures.sound Client _ _ _ _ _ s.sound.ends) (c.tick_at-server.ensures.sound Server _ _ _ _ _ s.sound.ends))

pub returns-clause-ticking : goal.returns-clause-ticking
returns-clause-ticking c =
    rw (c.ended_by.ensures, ← c.self.view_is)
    (ticks_keep _ _ _ _ _ c.tick_at-client.ensures.clocked c.tick_at-server.ensures.clocked c.tick_at-client.ensures.lost c.tick_at-server.ensures.lost refl)

pub returns-clause-timed_out : goal.returns-clause-timed_out
returns-clause-timed_out c = rw (c.ended_by.ensures, ← c.self.view_is) (ticks_time _ _ _ _ _ c.tick_at-client.ensures.timed_out c.tick_at-server.ensures.timed_out refl)

pub returns-clause-lost : goal.returns-clause-lost
returns-clause-lost c = rw c.ended_by.ensures (ticks_lose _ _ _ c.tick_at-client.ensures.lost c.tick_at-server.ensures.lost)

pub returns-clause-cause : goal.returns-clause-cause
returns-clause-cause c = rw c.ended_by.ensures (ended_no_link _ _)

pub returns-clause-errors : goal.returns-clause-errors
returns-clause-errors c = rw c.ended_by.ensures (ended_error _ _)

pub returns-clause-there : goal.returns-clause-there
returns-clause-there c = c.tick_at-server.ensures.open ∙ ap (λ (z : PairState). is_some z.server_end) c.self.view_is
