use Rattle.qh_handshake.proofs.CloseDatagrams.{sought_all, sought_more, sought_none, sought_one}
use Rattle.qh_handshake.proofs.handshake.Handshake.brings_close.Goals as goal
use Rattle.qh_handshake.specs.Incoming.{form_of}

pub loop-form-init : goal.loop-form-init
loop-form-init g c = sought_none (g.S.Session.accepts c.args.session.now) c.args.self.now c.args.datagram.now

pub loop-form-preserved : goal.loop-form-preserved
loop-form-preserved g c =
    let form = c.in-Some.form in
    sought_more (g.S.Session.accepts c.args.session.now) c.args.self.now c.args.datagram.now c.loop-form.rest.now form.destination.now form.rest.now (form_of form) c.loop-form.invariant c.in-Some.ensures.found
    (c.is_closing.ensures.no c.if-is_closing.false)

pub returns-then-is_closing-clause-yes : goal.returns-then-is_closing-clause-yes
returns-then-is_closing-clause-yes g c = λ _.
    let form = c.in-Some.form in
    sought_one (g.S.Session.accepts c.args.session.now) c.args.self.now c.args.datagram.now c.loop-form.rest.now form.destination.now form.rest.now (form_of form) c.loop-form.invariant c.in-Some.ensures.found
    (c.is_closing.ensures.yes c.if-is_closing.true)

pub returns-clause-no : goal.returns-clause-no
returns-clause-no g c = λ _. sought_all (g.S.Session.accepts c.args.session.now) c.args.self.now c.args.datagram.now c.loop-form.rest.now c.loop-form.invariant c.in_default.ensures.none
