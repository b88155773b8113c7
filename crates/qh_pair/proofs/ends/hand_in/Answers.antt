use Rattle.std.proofs.Common.{subst}
use Rattle.qh_pair.specs.Ends.{IsWholeAt}
use Rattle.qh_pair.proofs.EndMade.{known_made}
use Rattle.qh_pair.proofs.EndOpened.{did_given, if_done, undisturbed_given}
use Rattle.qh_pair.proofs.ends.hand_in.Goals as goal

pub hand_to-requires : goal.hand_to-requires
hand_to-requires c = subst IsWholeAt c.in-Some.is c.requires.whole

pub returns-clause-does : goal.returns-clause-does
returns-clause-does c =
    rw c.in-Some.is
    (λ t s. did_given _ c.args.now c.args.side _ _ _ c.hand_to.new.end c.args.datagram.now t c.hand_to.ensures.made (if_done c.hand_to.result _ c.hand_to.ensures.two) s)

pub returns-clause-known : goal.returns-clause-known
returns-clause-known c = rw c.in-Some.is (known_made _ c.hand_to.new.end _ c.hand_to.ensures.made)

pub returns-clause-undisturbed : goal.returns-clause-undisturbed
returns-clause-undisturbed c = rw c.in-Some.is (undisturbed_given c.hand_to.result c.args.now c.args.opening.now.config.idle _ c.hand_to.new.end c.hand_to.ensures.undisturbed c.hand_to.ensures.lost)
