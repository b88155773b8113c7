use Rattle.std.proofs.Common.{Option, Some, sym, subst, ◌∙◌}
use Rattle.std.specs.Prelude.{MatchOption}
use Rattle.qh_pair.specs.Clock.{IsEndClocked}
use Rattle.qh_pair.specs.Ends.{End, IsWholeAt}
use Rattle.qh_pair.specs.Sound.{AreSoundEnds, IsHeardAt}
use Rattle.qh_pair.specs.Steps.{EndTicked, IsLostFairly}
use Rattle.qh_pair.proofs.EndPolls.{polled_both}
use Rattle.qh_pair.proofs.EndTicks.{clocked_on, end_ticked, heard_ticked, passed_on, sound_ticked}
use Rattle.qh_pair.proofs.ends.tick_at.Goals as goal

pub run_timers-requires-clause-whole : goal.run_timers-requires-clause-whole
run_timers-requires-clause-whole c = subst IsWholeAt c.in-Some.is c.requires.whole

pub drop_events-requires : goal.drop_events-requires
drop_events-requires c = c.run_timers.ensures.made.whole

pub drop_endpoint_events-requires : goal.drop_endpoint_events-requires
drop_endpoint_events-requires c = c.drop_events.ensures.made.whole

pub returns-clause-ticked : goal.returns-clause-ticked
returns-clause-ticked c side =
    subst (λ (z : Option End). EndTicked c.args.now.0 side z (Some c.drop_endpoint_events.new.end)) (sym c.in-Some.is)
    (end_ticked c.args.now.0 side _ _ _ c.run_timers.ensures (polled_both c.same_connection.ensures.both _ _ _ c.drop_events.ensures c.drop_endpoint_events.ensures))

pub returns-clause-clocked : goal.returns-clause-clocked
returns-clause-clocked c idle moments clocked answers =
    clocked_on idle moments c.args.now.0 _ _ _ c.run_timers.ensures (polled_both c.same_connection.ensures.both _ _ _ c.drop_events.ensures c.drop_endpoint_events.ensures)
    (subst (λ (z : Option End). IsEndClocked idle moments z) c.in-Some.is clocked) (sym c.close_reason.ensures.reason ∙ answers)

pub returns-clause-timed_out : goal.returns-clause-timed_out
returns-clause-timed_out c idle moments front clocked last answers =
    passed_on idle moments front c.args.now.0 _ _ _ c.run_timers.ensures (polled_both c.same_connection.ensures.both _ _ _ c.drop_events.ensures c.drop_endpoint_events.ensures)
    (subst (λ (z : Option End). IsEndClocked idle moments z) c.in-Some.is clocked) last (sym c.close_reason.ensures.reason ∙ answers)

pub returns-clause-sound : goal.returns-clause-sound
returns-clause-sound c side ids config peer t u sound =
    subst (λ (z : Option End). MatchOption c.close_reason.result (AreSoundEnds side ids config (Some c.drop_endpoint_events.new.end) peer t u) (λ e. IsLostFairly c.args.now.0 e z)) (sym c.in-Some.is)
    (sound_ticked c.same_connection.ensures.both c.args.now.0 side ids config _ _ _ peer t u c.close_reason.result c.run_timers.ensures
    (polled_both c.same_connection.ensures.both _ _ _ c.drop_events.ensures c.drop_endpoint_events.ensures) c.close_reason.ensures.reason c.close_reason.ensures.open.0
    (subst (λ (z : Option End). AreSoundEnds side ids config z peer t u) c.in-Some.is sound))

pub returns-clause-heard : goal.returns-clause-heard
returns-clause-heard c side k config events answers heard =
    heard_ticked c.args.now.0 side k config events _ _ _ c.run_timers.ensures (polled_both c.same_connection.ensures.both _ _ _ c.drop_events.ensures c.drop_endpoint_events.ensures)
    (sym c.close_reason.ensures.reason ∙ answers) (subst (λ (z : Option End). IsHeardAt side k config z events) c.in-Some.is heard)
