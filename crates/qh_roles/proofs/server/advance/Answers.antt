use Rattle.std.proofs.Common.{◌∙◌, ap, length, sym}
use Rattle.qh_roles.proofs.HandlerLists.{whole_back}
use Rattle.qh_roles.proofs.ServerAccepts.{advanced, advanced_kept}
use Rattle.qh_roles.proofs.ServerCares.{filter_where, all_going, forgotten}
use Rattle.qh_roles.specs.Server.{is_going}
use Rattle.std.specs.Prelude.{map}
use Rattle.qh_roles.proofs.server.advance.Goals as goal

pub returns-in_err-poll_all-clause-step : goal.returns-in_err-poll_all-clause-step
returns-in_err-poll_all-clause-step g c =
    let size = c.accept_all.new.handlers.ok.0 in
    let back = whole_back c.accept_all.new.handlers.len c.poll_all.new.handlers c.accept_all.new.handlers.items (c.poll_all.auto.handlers ∙ ap length c.deref_mut.ensures.value ∙ sym size) (sym size) in
    rw back (advanced (g.V.Service.may_answer c.args.limits.now) c.args.limits.now c.args.accepted.now c.accept_all.new.accepted c.args.handlers.now.items c.accept_all.new.handlers.items
    c.args.connection.now c.accept_all.new.connection (g.V.Service.served c.args.service.now) (c.is_owed.ensures.open c.requires.open) c.in_ok-accept_all.ensures.rest c.in_ok-accept_all.ensures.step
    c.poll_all.new.handlers c.poll_all.new.connection (g.V.Service.served c.poll_all.new.service) (rw c.deref_mut.ensures.value at c.in_err-poll_all.ensures.step))

pub returns-clause-step : goal.returns-clause-step
returns-clause-step g c =
    let size = c.accept_all.new.handlers.ok.0 in
    let back = whole_back c.accept_all.new.handlers.len c.poll_all.new.handlers c.accept_all.new.handlers.items (c.poll_all.auto.handlers ∙ ap length c.deref_mut.ensures.value ∙ sym size) (sym size) in
    rw (c.forget_done.ensures, back, filter_where is_going c.poll_all.new.handlers) (advanced_kept (g.V.Service.may_answer c.args.limits.now) c.args.limits.now c.args.accepted.now c.accept_all.new.accepted c.args.handlers.now.items c.poll_all.new.handlers
    c.args.connection.now c.poll_all.new.connection (g.V.Service.served c.args.service.now) (g.V.Service.served c.poll_all.new.service) (map is_going c.poll_all.new.handlers)
    (advanced (g.V.Service.may_answer c.args.limits.now) c.args.limits.now c.args.accepted.now c.accept_all.new.accepted c.args.handlers.now.items c.accept_all.new.handlers.items
    c.args.connection.now c.accept_all.new.connection (g.V.Service.served c.args.service.now) (c.is_owed.ensures.open c.requires.open) c.in_ok-accept_all.ensures.rest c.in_ok-accept_all.ensures.step
    c.poll_all.new.handlers c.poll_all.new.connection (g.V.Service.served c.poll_all.new.service) (rw c.deref_mut.ensures.value at c.in_ok-poll_all.ensures.step)))

pub returns-clause-all : goal.returns-clause-all
returns-clause-all g c = (c.in_ok-poll_all.ensures.step 0).stirred.counts.bi_accepted ∙ c.in_ok-accept_all.ensures.all ∙ sym c.in_ok-poll_all.ensures.polls.arrived

pub returns-clause-going : goal.returns-clause-going
returns-clause-going g c =
    let size = c.accept_all.new.handlers.ok.0 in
    let back = whole_back c.accept_all.new.handlers.len c.poll_all.new.handlers c.accept_all.new.handlers.items (c.poll_all.auto.handlers ∙ ap length c.deref_mut.ensures.value ∙ sym size) (sym size) in
    rw (c.forget_done.ensures, back) (all_going c.poll_all.new.handlers)

pub returns-clause-forgets_none : goal.returns-clause-forgets_none
returns-clause-forgets_none g c = λ going on.
    let size = c.accept_all.new.handlers.ok.0 in
    let back = whole_back c.accept_all.new.handlers.len c.poll_all.new.handlers c.accept_all.new.handlers.items (c.poll_all.auto.handlers ∙ ap length c.deref_mut.ensures.value ∙ sym size) (sym size) in
    rw (c.forget_done.ensures, back) (forgotten c.args.handlers.now.items c.accept_all.new.handlers.items c.poll_all.new.handlers
    c.args.connection.now.space.streams c.accept_all.new.connection.space.streams c.poll_all.new.connection.space.streams c.in_ok-accept_all.ensures.accepts
    (rw c.deref_mut.ensures.value at c.in_ok-poll_all.ensures.polls) (c.in_ok-poll_all.ensures.step 0).stirred.counts.bi_accepted going on)
