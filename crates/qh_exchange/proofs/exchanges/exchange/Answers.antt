use Rattle.std.proofs.Common.{◌∙◌, refl, subst, sym, List}
use Rattle.std.proofs.lemmas.Result.{err_from_is_err_and}
use Rattle.qh_spec.specs.Headline.{AnsweredOnce}
use Rattle.qh_spec.specs.Message.{PlainMessage}
use Rattle.qh_spec.proofs.HeadlineLaws.{served_nothing}
use Rattle.qh_pair.proofs.Turns.{grew_same, never_failed}
use Rattle.qh_exchange.proofs.RoundsFair.{fair_by, list_fairly}
use Rattle.qh_exchange.proofs.AskedLists.{invalid_still, is_invalid, is_nothing, is_something, list_no_link, list_not_idle, list_not_lost, list_not_out, nothing_valid}
use Rattle.qh_spec.specs.Fault.{CountsFaults}
use Rattle.qh_pair.specs.Settings.{conn_config}
use Rattle.qh_pair.specs.Turn.{has_link_failed}
use Rattle.qh_exchange.proofs.ExchangeEnds.{answered_by, count_by, ends_by, fault_by, held_by, idle_by, invalid_by, lost_by, nothing_asked, out_by, served_once, tells, within_all, within_none, greeted_none, set_none, said_none, greeted_all, said_all, set_all, stays_pair, idle_all}
use Rattle.qh_pair.proofs.Faults.{no_fault}
use Rattle.qh_pair.proofs.TimedOut.{waited_for}
use Rattle.qh_exchange.proofs.exchanges.exchange.Goals as goal

-- ---- an empty list

pub returns-then-is_empty-clause-never_twice : goal.returns-then-is_empty-clause-never_twice
returns-then-is_empty-clause-never_twice g c = λ events te ue honest. served_nothing _ events c.args.requests.now _

pub returns-then-is_empty-clause-answered_once : goal.returns-then-is_empty-clause-answered_once
returns-then-is_empty-clause-answered_once g c =
    λ events te ue honest.
    subst (λ (z : List PlainMessage). AnsweredOnce c.args.config.now.local_id_len events c.args.requests.now (g.V.Service.served c.args.service.now) (g.V.Service.served c.args.service.now) z)
    (sym c.new.ensures.items)
    (nothing_asked _ events c.args.requests.now _ (is_nothing _ c.if-is_empty.ensures))

pub returns-then-is_empty-clause-within_announced : goal.returns-then-is_empty-clause-within_announced
returns-then-is_empty-clause-within_announced g c = λ before more te ue set. within_none _ _ before more te ue

pub returns-then-is_empty-clause-greeted_first : goal.returns-then-is_empty-clause-greeted_first
returns-then-is_empty-clause-greeted_first g c = λ before more te ue honest. greeted_none _ _ before more te ue

pub returns-then-is_empty-clause-greeted_as_set : goal.returns-then-is_empty-clause-greeted_as_set
returns-then-is_empty-clause-greeted_as_set g c = λ before more te ue honest. set_none _ _ _ before more te ue

pub returns-then-is_empty-clause-sent_as_set : goal.returns-then-is_empty-clause-sent_as_set
returns-then-is_empty-clause-sent_as_set g c = λ before more te ue. said_none _ _ _ before more te ue

pub returns-then-is_empty-clause-not_valid : goal.returns-then-is_empty-clause-not_valid
returns-then-is_empty-clause-not_valid g c = λ bad. absurd (bad (nothing_valid _ _ _ _ (is_nothing _ c.if-is_empty.ensures)))

-- ---- a list that isn't valid, or no memory for the pair

pub returns-in_err-pair-clause-never_twice : goal.returns-in_err-pair-clause-never_twice
returns-in_err-pair-clause-never_twice g c = λ events te ue honest. served_nothing _ events c.args.requests.now _

pub returns-in_err-pair-clause-within_announced : goal.returns-in_err-pair-clause-within_announced
returns-in_err-pair-clause-within_announced g c = λ before more te ue set. within_none _ _ before more te ue

pub returns-in_err-pair-clause-greeted_first : goal.returns-in_err-pair-clause-greeted_first
returns-in_err-pair-clause-greeted_first g c = λ before more te ue honest. greeted_none _ _ before more te ue

pub returns-in_err-pair-clause-greeted_as_set : goal.returns-in_err-pair-clause-greeted_as_set
returns-in_err-pair-clause-greeted_as_set g c = λ before more te ue honest. set_none _ _ _ before more te ue

pub returns-in_err-pair-clause-sent_as_set : goal.returns-in_err-pair-clause-sent_as_set
returns-in_err-pair-clause-sent_as_set g c = λ before more te ue. said_none _ _ _ before more te ue

pub returns-in_err-pair-clause-invalid : goal.returns-in_err-pair-clause-invalid
returns-in_err-pair-clause-invalid g c =
    let p = err_from_is_err_and c.from_residual.result c.from_residual.ensures.1 in
    rw (p.1, p.2) (invalid_still (Unit {0}) (held_by _ _ c.from_residual.result) _ _ _ _ c.in_err-pair.ensures.invalid)

pub returns-in_err-pair-clause-not_valid : goal.returns-in_err-pair-clause-not_valid
returns-in_err-pair-clause-not_valid g c =
    let p = err_from_is_err_and c.from_residual.result c.from_residual.ensures.1 in
    rw (p.1, p.2) (λ bad. (is_invalid (held_by _ _ c.valid_pair.result) (held_by _ _ c.from_residual.result) _ _ _ c.in_err-pair.ensures.errors c.in_err-pair.ensures.memory bad, refl, refl))

pub returns-in_err-pair-clause-empty : goal.returns-in_err-pair-clause-empty
returns-in_err-pair-clause-empty g c = λ none. absurd (is_something _ c.if-is_empty.ensures none)

pub returns-in_err-pair-clause-cause : goal.returns-in_err-pair-clause-cause
returns-in_err-pair-clause-cause g c =
    let p = err_from_is_err_and c.from_residual.result c.from_residual.ensures.1 in
    rw (p.1, p.2) (never_failed _ _ _ (list_no_link _ c.in_err-pair.ensures.errors) refl)

pub returns-in_err-pair-clause-fault : goal.returns-in_err-pair-clause-fault
returns-in_err-pair-clause-fault g c =
    let p = err_from_is_err_and c.from_residual.result c.from_residual.ensures.1 in
    rw (p.1, p.2) (no_fault (held_by _ _ c.from_residual.result) _ _ (list_no_link _ c.in_err-pair.ensures.errors))

pub returns-in_err-pair-clause-timed_out : goal.returns-in_err-pair-clause-timed_out
returns-in_err-pair-clause-timed_out g c =
    let p = err_from_is_err_and c.from_residual.result c.from_residual.ensures.1 in
    rw (p.1, p.2) (λ before more te ue set. list_not_idle (held_by _ _ c.from_residual.result) _ _ c.in_err-pair.ensures.errors)

pub returns-in_err-pair-clause-waited : goal.returns-in_err-pair-clause-waited
returns-in_err-pair-clause-waited g c =
    let p = err_from_is_err_and c.from_residual.result c.from_residual.ensures.1 in
    rw (p.1, p.2) (list_not_idle (held_by _ _ c.from_residual.result) _ _ c.in_err-pair.ensures.errors)

pub returns-in_err-pair-clause-fair : goal.returns-in_err-pair-clause-fair
returns-in_err-pair-clause-fair g c =
    let p = err_from_is_err_and c.from_residual.result c.from_residual.ensures.1 in
    rw (p.1, p.2) (λ events te ue honest. list_fairly (held_by _ _ c.from_residual.result) _ _ events _ c.in_err-pair.ensures.errors)

pub returns-in_err-pair-clause-lost : goal.returns-in_err-pair-clause-lost
returns-in_err-pair-clause-lost g c =
    let p = err_from_is_err_and c.from_residual.result c.from_residual.ensures.1 in
    rw (p.1, p.2) (list_not_lost (held_by _ _ c.from_residual.result) _ _ c.in_err-pair.ensures.errors)

pub returns-in_err-pair-clause-out_of_rounds : goal.returns-in_err-pair-clause-out_of_rounds
returns-in_err-pair-clause-out_of_rounds g c =
    let p = err_from_is_err_and c.from_residual.result c.from_residual.ensures.1 in
    rw (p.1, p.2) (list_not_out (held_by _ _ c.from_residual.result) _ _ c.in_err-pair.ensures.errors)

-- ---- the rounds were made, and ended so

pub returns-clause-told : goal.returns-clause-told
returns-clause-told g c = tells _ _ _ _ _ _ c.in_ok-pair.ensures.asked.running c.make_rounds-made.ensures.made.goes

pub returns-clause-never_twice : goal.returns-clause-never_twice
returns-clause-never_twice g c = served_once c.pairs.ensures.honest _ _ _ _ _ _ _ _ c.in_ok-pair.ensures.asked.running c.in_ok-pair.ensures.asked.asked c.in_ok-pair.ensures.asked.ids c.make_rounds-made.ensures.made.goes

pub returns-clause-within_announced : goal.returns-clause-within_announced
returns-clause-within_announced g c = within_all c.pairs.ensures.within _ (conn_config c.args.config.now) _ _ _ _ _ _ c.in_ok-pair.ensures.asked.running c.in_ok-pair.ensures.asked.ids c.in_ok-pair.ensures.asked.config_is c.make_rounds-made.ensures.made.goes

pub returns-clause-answers : goal.returns-clause-answers
returns-clause-answers g c = grew_same g.V.Service.may_answer _ _ _ _ c.in_ok-pair.ensures.asked.limits_are c.make_rounds-made.ensures.answered

pub returns-clause-not_valid : goal.returns-clause-not_valid
returns-clause-not_valid g c = λ bad. absurd (bad c.in_ok-pair.ensures.valid)

pub returns-clause-empty : goal.returns-clause-empty
returns-clause-empty g c = λ none. absurd (is_something _ c.if-is_empty.ensures none)

pub returns-clause-invalid : goal.returns-clause-invalid
returns-clause-invalid g c = invalid_by c.make_rounds-made.result c.end.result _ c.end.ensures.ends c.make_rounds-made.ensures.made.errors

pub returns-clause-cause : goal.returns-clause-cause
returns-clause-cause g c =
    ends_by c.make_rounds-made.result c.end.result (λ z. CountsFaults (g.L.Link.faults c.args.link.now) (g.L.Link.faults c.make_rounds-made.new.link) (has_link_failed z)) c.end.ensures.ends
    (λ e is. subst (λ z. CountsFaults (g.L.Link.faults c.args.link.now) (g.L.Link.faults c.make_rounds-made.new.link) (has_link_failed z)) is c.make_rounds-made.ensures.cause)
    (λ u is. subst (λ z. CountsFaults (g.L.Link.faults c.args.link.now) (g.L.Link.faults c.make_rounds-made.new.link) (has_link_failed z)) is c.make_rounds-made.ensures.cause)
    (λ x u is ok. subst (λ z. CountsFaults (g.L.Link.faults c.args.link.now) (g.L.Link.faults c.make_rounds-made.new.link) (has_link_failed z)) is c.make_rounds-made.ensures.cause)

pub returns-clause-fault : goal.returns-clause-fault
returns-clause-fault g c = fault_by c.make_rounds-made.result c.end.result _ c.end.ensures.ends c.make_rounds-made.ensures.fault

pub returns-clause-greeted_first : goal.returns-clause-greeted_first
returns-clause-greeted_first g c = greeted_all c.pairs.ensures.honest _ _ _ _ _ _ _ c.in_ok-pair.ensures.asked.running c.in_ok-pair.ensures.asked.ids c.make_rounds-made.ensures.made.goes

pub returns-clause-greeted_as_set : goal.returns-clause-greeted_as_set
returns-clause-greeted_as_set g c = set_all c.pairs.ensures.honest _ _ _ _ _ _ _ _ c.in_ok-pair.ensures.asked.running c.in_ok-pair.ensures.asked.ids c.in_ok-pair.ensures.asked.config_is c.make_rounds-made.ensures.made.goes

pub returns-clause-sent_as_set : goal.returns-clause-sent_as_set
returns-clause-sent_as_set g c = said_all c.pairs.ensures.said _ _ _ _ _ _ _ _ c.in_ok-pair.ensures.asked.running c.in_ok-pair.ensures.asked.ids c.in_ok-pair.ensures.asked.config_is c.make_rounds-made.ensures.made.goes

pub returns-clause-waited : goal.returns-clause-waited
returns-clause-waited g c =
    idle_by c.make_rounds-made.result c.end.result _ _ c.end.ensures.ends
    (waited_for _ _ _ _ (c.make_rounds-made.ensures.made.config_is ∙ c.in_ok-pair.ensures.asked.config_is)) c.make_rounds-made.ensures.made.timed_out

pub returns-clause-timed_out : goal.returns-clause-timed_out
returns-clause-timed_out g c =
    λ before more te ue set. idle_by c.make_rounds-made.result c.end.result _ _ c.end.ensures.ends
    (idle_all c.pairs.ensures.timed_out _ _ _ _ _ _ _ _ _ _ c.in_ok-pair.ensures.asked.running c.in_ok-pair.ensures.asked.ids c.in_ok-pair.ensures.asked.config_is c.make_rounds-made.ensures.made.goes before more te ue set)
    c.make_rounds-made.ensures.made.timed_out

pub returns-clause-fair : goal.returns-clause-fair
returns-clause-fair g c =
    fair_by c.make_rounds-made.result c.end.result _ _ _ _ _ _ c.end.ensures.ends c.in_ok-pair.ensures.asked.running c.in_ok-pair.ensures.asked.ids c.in_ok-pair.ensures.asked.config_is
    c.make_rounds-made.ensures.fair

pub returns-clause-lost : goal.returns-clause-lost
returns-clause-lost g c =
    lost_by c.make_rounds-made.result c.end.result _ _ _ _ _ _ _ _ _ c.end.ensures.ends c.in_ok-pair.ensures.asked.running
    (stays_pair c.in_ok-pair.ensures.asked c.make_rounds-made.ensures.made) c.make_rounds-made.ensures.made.goes c.make_rounds-made.ensures.made.lost

pub returns-clause-out_of_rounds : goal.returns-clause-out_of_rounds
returns-clause-out_of_rounds g c =
    out_by c.make_rounds-made.result c.end.result _ _ _ _ _ _ _ _ _ _ _ _ c.end.ensures.ends (is_something _ c.if-is_empty.ensures) c.in_ok-pair.ensures.asked.running
    (stays_pair c.in_ok-pair.ensures.asked c.make_rounds-made.ensures.made) c.make_rounds-made.ensures.made

-- ---- the answers

pub returns-clause-answered_once : goal.returns-clause-answered_once
returns-clause-answered_once g c =
    answered_by (λ v. v.items) c.make_rounds-made.result c.end.result c.pairs.ensures.honest _ _ _ _ _ _ _ _ c.end.ensures.ends c.in_ok-pair.ensures.asked.running c.in_ok-pair.ensures.asked.asked
    c.in_ok-pair.ensures.asked.ids c.make_rounds-made.ensures.made.goes c.make_rounds-made.ensures.made.requests c.make_rounds-made.ensures.made.all c.end.ensures.answers

pub returns-clause-count : goal.returns-clause-count
returns-clause-count g c =
    count_by (λ v. v.items) c.make_rounds-made.result c.end.result c.in_ok-pair.pair c.make_rounds-made.new.pair _ c.end.ensures.ends c.in_ok-pair.ensures.asked.asked c.make_rounds-made.ensures.made.requests
    c.make_rounds-made.ensures.made.all c.end.ensures.answers
