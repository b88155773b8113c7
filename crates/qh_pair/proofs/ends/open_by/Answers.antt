use Rattle.qh_pair.specs.Steps.{IsNewEnd}
use Rattle.std.proofs.Common.{subst}
use Rattle.std.proofs.lemmas.Bool.{false≢true}
use Rattle.std.proofs.lemmas.Result.{err_from_is_err_and}
use Rattle.qh_spec.specs.declared.sides.Side.{Side}
use Rattle.qh_pair.proofs.EndOpened.{did_drop, did_fail, did_open, if_done, only_server, since_open, undisturbed_open}
use Rattle.qh_pair.proofs.ends.open_by.Goals as goal

pub returns-then-not-is_first-clause-does : goal.returns-then-not-is_first-clause-does
returns-then-not-is_first-clause-does c =
    rw (only_server c.args.side c.requires.client, c.requires.none) (λ t s. did_drop c.args.now _ _ c.args.datagram.now t (c.is_first.ensures.no c.if-not-is_first.true) s)

pub returns-in_err-end-clause-does : goal.returns-in_err-end-clause-does
returns-in_err-end-clause-does c =
    rw (only_server c.args.side c.requires.client, c.requires.none, (err_from_is_err_and c.from_residual.result c.from_residual.ensures.1).1) (λ t s. did_fail c.args.now _ _ c.args.datagram.now t s)

pub returns-clause-does : goal.returns-clause-does
returns-clause-does c =
    rw (only_server c.args.side c.requires.client, c.requires.none)
    (λ t s. did_open _ c.args.now _ _ c.in_ok-end.end c.hand_to-taken.new.end c.args.datagram.now t (subst (λ (z : Side). IsNewEnd z c.args.opening.now.ids c.args.opening.now.config c.args.now c.in_ok-end.end) (only_server c.args.side c.requires.client) c.in_ok-end.ensures) c.hand_to-taken.ensures.made (if_done c.hand_to-taken.result _ c.hand_to-taken.ensures.two)
    (λ w. since_open c.args.now _ _ _ _ (subst (λ (z : Side). IsNewEnd z c.args.opening.now.ids c.args.opening.now.config c.args.now c.in_ok-end.end) (only_server c.args.side c.requires.client) c.in_ok-end.ensures) (if_done c.hand_to-taken.result _ c.hand_to-taken.ensures.undisturbed w)) s)

pub returns-clause-undisturbed : goal.returns-clause-undisturbed
returns-clause-undisturbed c =
    rw c.requires.none
    (undisturbed_open c.hand_to-taken.result c.args.now _ _ _ _ (subst (λ (z : Side). IsNewEnd z c.args.opening.now.ids c.args.opening.now.config c.args.now c.in_ok-end.end) (only_server c.args.side c.requires.client) c.in_ok-end.ensures) c.hand_to-taken.ensures.undisturbed c.hand_to-taken.ensures.lost)

pub returns-then-not-is_first-clause-opens : goal.returns-then-not-is_first-clause-opens
returns-then-not-is_first-clause-opens c done first = absurd (c.is_first.ensures.no c.if-not-is_first.true first)

pub returns-in_err-end-clause-opens : goal.returns-in_err-end-clause-opens
returns-in_err-end-clause-opens c = rw ((err_from_is_err_and c.from_residual.result c.from_residual.ensures.1).1) (λ done first. absurd (false≢true done))
