use Rattle.std.proofs.lemmas.Result.{err_from_is_err_and}
use Rattle.qh_handshake.proofs.InitialsCome.{all_initials, ended_initials, lost_initials, more_initials, no_initials, view_of}
use Rattle.qh_handshake.proofs.handshake.Handshake.take_packets.Goals as goal
use Rattle.qh_handshake.specs.Incoming.{form_of}

pub returns-in_err-take_initial-clause-err : goal.returns-in_err-take_initial-clause-err
returns-in_err-take_initial-clause-err g c =
    let p = err_from_is_err_and c.from_residual.result c.from_residual.ensures.1 in
    let form = c.in-Some.form in
    rw (p.1, p.2)
    (ended_initials (view_of g.S.Session.name g.S.Session.knows g.S.Session.key g.S.Session.sealed g.S.Session.accepts) c.args.now c.args.bytes.now c.loop-form.rest.now form.rest.now form.destination.now (form_of form)
    c.args.self.now c.loop-form.self c.take_initial.new.self c.args.session.now c.loop-form.session c.take_initial.new.session c.in_err-take_initial.field-0.0
    c.loop-form.invariant c.in-Some.ensures.found c.in_err-take_initial.ensures.err)

pub loop-form-init : goal.loop-form-init
loop-form-init g c = no_initials (view_of g.S.Session.name g.S.Session.knows g.S.Session.key g.S.Session.sealed g.S.Session.accepts) c.args.now c.args.bytes.now c.args.self.now c.args.session.now c.requires

pub loop-form-preserved : goal.loop-form-preserved
loop-form-preserved g c =
    let form = c.in-Some.form in
    more_initials (view_of g.S.Session.name g.S.Session.knows g.S.Session.key g.S.Session.sealed g.S.Session.accepts) c.args.now c.args.bytes.now c.loop-form.rest.now form.rest.now form.destination.now (form_of form)
    c.args.self.now c.loop-form.self c.take_initial.new.self c.args.session.now c.loop-form.session c.take_initial.new.session
    c.loop-form.invariant c.in-Some.ensures.found c.in_ok-take_initial.ensures.ok c.take_initial.ensures.whole

pub returns-clause-ok : goal.returns-clause-ok
returns-clause-ok g c =
    all_initials (view_of g.S.Session.name g.S.Session.knows g.S.Session.key g.S.Session.sealed g.S.Session.accepts) c.args.now c.args.bytes.now c.loop-form.rest.now c.args.self.now c.loop-form.self c.args.session.now c.loop-form.session
    c.loop-form.invariant c.in_default.ensures.none

pub returns-in_err-take_initial-clause-wanting : goal.returns-in_err-take_initial-clause-wanting
returns-in_err-take_initial-clause-wanting g c =
    let p = err_from_is_err_and c.from_residual.result c.from_residual.ensures.1 in
    let form = c.in-Some.form in
    rw (p.1, p.2)
    (λ wanting.
    lost_initials (view_of g.S.Session.name g.S.Session.knows g.S.Session.key g.S.Session.sealed g.S.Session.accepts) c.args.now c.args.bytes.now c.loop-form.rest.now form.rest.now form.destination.now (form_of form)
    c.args.self.now c.loop-form.self c.take_initial.new.self c.args.session.now c.loop-form.session c.take_initial.new.session c.loop-form.invariant c.in-Some.ensures.found
    c.in_err-take_initial.ensures.err.0 (c.in_err-take_initial.ensures.wanting wanting) (c.in_err-take_initial.ensures.left wanting))
