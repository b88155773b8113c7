use Rattle.std.proofs.Common.{ℕ, List, None, refl, subst}
use Rattle.std.proofs.lemmas.Result.{err_from_is_err_and}
use Rattle.qh_handshake.proofs.InitialsCome.{hello_left, hello_unread, initial_ended, initial_err, initial_ok, initial_unread, not_opened, view_of}
use Rattle.qh_handshake.proofs.handshake.Handshake.take_initial.Goals as goal
use Rattle.qh_handshake.specs.Incoming.{form_of}
use Rattle.qh_handshake.specs.Lost.{IsLeft}

pub returns-in_default-clause-ok : goal.returns-in_default-clause-ok
returns-in_default-clause-ok g c = (
  None,
  not_opened (g.S.Session.accepts c.args.session.now) c.args.now (form_of c.args.form.now) c.args.self.now (c.in_default.ensures.none refl),
  refl,
)

pub returns-in_err-hear-clause-err : goal.returns-in_err-hear-clause-err
returns-in_err-hear-clause-err g c =
    let p = err_from_is_err_and c.from_residual.result c.from_residual.ensures.1 in
    rw (p.1, p.2) (
      refl,
      initial_ended (g.S.Session.accepts c.args.session.now) c.args.now (form_of c.args.form.now) c.args.self.now c.hear.new.self
          c.in-Some-new.source c.in-Some.packet.number c.in-Some.packet.frames.now c.in_err-hear.field-0.0 c.in-Some.ensures.some c.in-Some-new.ensures.found c.in_err-hear.ensures.err,
    )

pub returns-clause-ok : goal.returns-clause-ok
returns-clause-ok g c =
    initial_ok (view_of g.S.Session.name g.S.Session.knows g.S.Session.key g.S.Session.sealed g.S.Session.accepts) c.args.now (form_of c.args.form.now) c.args.self.now c.hear.new.self c.read_hello.new.self
    c.args.session.now c.read_hello.new.session c.in-Some-new.source c.in-Some.packet.number c.in-Some.packet.frames.now c.read_hello.result c.in-Some.ensures.some c.in-Some-new.ensures.found c.in_ok-hear.ensures.ok c.read_hello.ensures.ok

pub returns-clause-err : goal.returns-clause-err
returns-clause-err g c =
    initial_err (g.S.Session.accepts c.args.session.now) c.args.now (form_of c.args.form.now) c.args.self.now c.hear.new.self c.read_hello.new.self c.args.session.now c.read_hello.new.session
    c.in-Some-new.source c.in-Some.packet.number c.in-Some.packet.frames.now c.read_hello.result c.in-Some.ensures.some c.in-Some-new.ensures.found c.in_ok-hear.ensures.ok c.read_hello.ensures.err

pub returns-in_err-hear-clause-wanting : goal.returns-in_err-hear-clause-wanting
returns-in_err-hear-clause-wanting g c =
    let p = err_from_is_err_and c.from_residual.result c.from_residual.ensures.1 in
    rw (p.1, p.2)
    (λ wanting.
    initial_unread (g.S.Session.accepts c.args.session.now) c.args.now (form_of c.args.form.now) c.args.self.now c.in-Some.packet.number c.in-Some.packet.frames.now c.in-Some.ensures.some (c.in_err-hear.ensures.wanting wanting))

pub returns-clause-wanting : goal.returns-clause-wanting
returns-clause-wanting g c =
    hello_unread (g.S.Session.accepts c.args.session.now) c.args.now (form_of c.args.form.now) c.args.self.now c.hear.new.self c.in-Some-new.source c.in-Some.packet.number c.in-Some.packet.frames.now c.read_hello.result
    c.in-Some.ensures.some c.in-Some-new.ensures.found c.in_ok-hear.ensures.ok c.read_hello.ensures.wanting

pub returns-in_err-hear-clause-left : goal.returns-in_err-hear-clause-left
returns-in_err-hear-clause-left g c =
    let p = err_from_is_err_and c.from_residual.result c.from_residual.ensures.1 in
    rw (p.1, p.2) (λ _. subst (λ (id : List ℕ). IsLeft id c.args.self.now c.hear.new.self) c.in-Some-new.ensures.found (c.hear.ensures.left c.in-Some.ensures.some.0 c.in-Some.ensures.some.1))

pub returns-clause-left : goal.returns-clause-left
returns-clause-left g c =
    hello_left (form_of c.args.form.now) c.args.self.now c.hear.new.self c.read_hello.new.self c.in-Some-new.source c.in-Some.packet.number c.in-Some.packet.frames.now c.args.now
    (g.S.Session.accepts c.args.session.now) c.read_hello.result c.in-Some.ensures.some c.in-Some-new.ensures.found c.in_ok-hear.ensures.ok c.read_hello.ensures.kept
