use Rattle.std.proofs.Common.{arith, Option, None, [], inr, subst}
use Rattle.qh_pair.specs.Ends.{End, IsWholeAt}
use Rattle.qh_pair.specs.Turn.{IsNotLost}
use Rattle.qh_pair.proofs.EndCounts.{sent_all, sent_none}
use Rattle.qh_pair.proofs.EndSteps.{end_refl}
use Rattle.qh_pair.proofs.FullTurns.{not_closed}
use Rattle.qh_pair.proofs.ends.transmit_at.Goals as goal

pub send_datagrams-requires-clause-open : goal.send_datagrams-requires-clause-open
send_datagrams-requires-clause-open g c = not_closed _ _ (subst (λ (z : Option End). IsNotLost z) c.in-Some.is c.requires.going) c.is_owed.ensures.closed

pub send_datagrams-requires-clause-whole : goal.send_datagrams-requires-clause-whole
send_datagrams-requires-clause-whole g c = subst IsWholeAt c.in-Some.is c.requires.whole

pub returns-in_default-clause-step : goal.returns-in_default-clause-step
returns-in_default-clause-step g c =
    rw c.in_default.is (λ ids config. end_refl c.args.now c.args.side ids config None _ _ (sent_all c.args.side 0 [] (omega arith) (sent_none c.args.side), inr tt, tt))

pub returns-clause-step : goal.returns-clause-step
returns-clause-step g c = rw c.in-Some.is c.send_datagrams.ensures.step
