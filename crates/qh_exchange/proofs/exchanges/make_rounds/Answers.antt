use Rattle.std.proofs.Common.{◌≡◌, ◌∙◌, refl, Bool, true, false, arith}
use Rattle.std.proofs.lemmas.Result.{err_from_is_err_and}
use Rattle.qh_pair.proofs.EndCounts.{counts_more as counts_after}
use Rattle.qh_pair.proofs.Faults.{fault_after, fault_again}
use Rattle.qh_pair.proofs.Turns.{never_failed, grew_none}
use Rattle.qh_exchange.proofs.RoundsFair.{rounds_fair}
use Rattle.qh_exchange.proofs.Rounds.{grew_within, none_made, one_more, rounds_lost, rounds_done, rounds_out}
use Rattle.qh_exchange.proofs.exchanges.make_rounds.Goals as goal

pub loop-round-init : goal.loop-round-init
loop-round-init g c = record { made = none_made _ _ _ _ _ c.requires.going c.requires.lacks c.requires.clocked; plan = refl; answered = grew_none _ _ }

pub loop-round-preserved : goal.loop-round-preserved
loop-round-preserved g c = record {
  made = one_more _ _ _ _ _ _ _ _ _ _ _ _ _ _ _ _ c.in_ok-turn.field-0 c.loop-round.invariant.made c.turn.ensures.goes_on c.in_ok-turn.ensures.clock c.in_ok-turn.ensures.going c.turn.ensures.requests
      c.turn.ensures.settings.0 c.turn.ensures.settings.1 c.turn.ensures.settings.2
      (λ e. let t : c.in_ok-turn.field-0 ≡ true = c.in_ok-turn.ensures.done.1 e in let f : c.in_ok-turn.field-0 ≡ false = c.if-branch.false in cc)
      c.in_ok-turn.ensures.turned c.in_ok-turn.ensures.round (c.in_ok-turn.ensures.cause.still refl);
  plan = c.turn.ensures.plan ∙ c.loop-round.invariant.plan;
  answered = grew_within g.V.Service.may_answer _ _ _ _ _ _ c.loop-round.invariant.answered c.loop-round.invariant.made.limits c.turn.ensures.answered refl;
}

pub returns-in_err-turn-clause-fair : goal.returns-in_err-turn-clause-fair
returns-in_err-turn-clause-fair g c =
    let p = err_from_is_err_and c.from_residual.result c.from_residual.ensures.1 in
    rw (p.1, p.2)
    (rounds_fair _ _ _ _ _ _ _ _ _ _ _ _ _ _ _ c.loop-round.invariant.made c.turn.ensures.goes_on c.in_err-turn.ensures.fair)

pub returns-in_err-turn-clause-made : goal.returns-in_err-turn-clause-made
returns-in_err-turn-clause-made g c =
    let p = err_from_is_err_and c.from_residual.result c.from_residual.ensures.1 in
    rw (p.1, p.2)
    (rounds_lost _ _ _ _ _ _ _ _ _ _ _ _ _ _ _ _ _ c.loop-round.invariant.made c.turn.ensures.goes_on c.turn.ensures.requests c.turn.ensures.settings.0 c.turn.ensures.settings.1 c.in_err-turn.ensures.clock c.in_err-turn.ensures.lost c.in_err-turn.ensures.errors)

pub returns-in_err-turn-clause-cause : goal.returns-in_err-turn-clause-cause
returns-in_err-turn-clause-cause g c =
    let p = err_from_is_err_and c.from_residual.result c.from_residual.ensures.1 in
    rw (p.1, p.2) (counts_after _ _ _ _ c.loop-round.invariant.made.still c.in_err-turn.ensures.cause)

pub returns-in_err-turn-clause-fault : goal.returns-in_err-turn-clause-fault
returns-in_err-turn-clause-fault g c =
    let p = err_from_is_err_and c.from_residual.result c.from_residual.ensures.1 in
    rw (p.1, p.2) (fault_again Bool (Unit {0}) c.in_err-turn.field-0.0 _ _ (fault_after _ _ _ _ c.loop-round.invariant.made.turns) c.in_err-turn.ensures.fault)

pub returns-in_err-turn-clause-answered : goal.returns-in_err-turn-clause-answered
returns-in_err-turn-clause-answered g c =
    grew_within g.V.Service.may_answer _ _ _ _ _ _ c.loop-round.invariant.answered c.loop-round.invariant.made.limits c.turn.ensures.answered refl

pub returns-then-branch-clause-made : goal.returns-then-branch-clause-made
returns-then-branch-clause-made g c =
    rounds_done _ _ _ _ _ _ _ _ _ _ _ _ _ _ _ _ _ c.loop-round.invariant.made c.turn.ensures.goes_on c.turn.ensures.requests c.turn.ensures.settings.0 c.turn.ensures.settings.1 (c.in_ok-turn.ensures.done.0 c.if-branch.true)

pub returns-then-branch-clause-cause : goal.returns-then-branch-clause-cause
returns-then-branch-clause-cause g c = counts_after _ _ _ false c.loop-round.invariant.made.still c.in_ok-turn.ensures.cause

pub returns-then-branch-clause-answered : goal.returns-then-branch-clause-answered
returns-then-branch-clause-answered g c =
    grew_within g.V.Service.may_answer _ _ _ _ _ _ c.loop-round.invariant.answered c.loop-round.invariant.made.limits c.turn.ensures.answered refl

pub returns-clause-made : goal.returns-clause-made
returns-clause-made g c = rounds_out _ _ _ _ _ _ _ _ _ _ _ _ (omega arith) c.is_within.ensures c.loop-round.invariant.made

pub returns-clause-cause : goal.returns-clause-cause
returns-clause-cause g c = never_failed _ _ false refl c.loop-round.invariant.made.still
