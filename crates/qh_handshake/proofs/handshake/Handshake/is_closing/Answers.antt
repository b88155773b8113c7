use Rattle.std.proofs.Common.{ℕ, List, refl, subst}
use Rattle.qh_handshake.proofs.CloseFrames.{same_frames}
use Rattle.qh_handshake.proofs.handshake.Handshake.is_closing.Goals as goal
use Rattle.qh_handshake.specs.Closing.{HaveClose}
use Rattle.qh_spec.specs.Link.{other}

pub returns-in-Some-clause-yes : goal.returns-in-Some-clause-yes
returns-in-Some-clause-yes g c = λ e.
    let opened = c.in-Some.ensures.some in
    record { space = opened.0; space_is = opened.1; number = c.in-Some.packet.number; bytes = c.in-Some.packet.frames.now; opened = opened.2; has = c.have_close.ensures.yes e }

pub returns-in-Some-clause-no : goal.returns-in-Some-clause-no
returns-in-Some-clause-no g c = λ e closing.
    let opened = c.in-Some.ensures.some in
    let form = c.args.form.now in
    c.have_close.ensures.no e
    (subst (λ (z : List ℕ). HaveClose z)
    (same_frames (g.S.Session.accepts c.args.session.now) (other c.args.self.now.side) closing.opened.expected opened.2.expected form.first form.body.now closing.number c.in-Some.packet.number closing.bytes
    c.in-Some.packet.frames.now closing.opened.opened opened.2.opened)
    closing.has)

pub returns-in-None-clause-no : goal.returns-in-None-clause-no
returns-in-None-clause-no g c = λ _ closing. c.in-None.ensures.none refl closing.space closing.space_is closing.number closing.bytes closing.opened
