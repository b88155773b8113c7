use Rattle.std.proofs.Common.{Some, refl, sym, ap, subst, arith}
use Rattle.qh_core.specs.declared.inner.Inner.{Inner}
use Rattle.qh_roles.proofs.Going.{went_still}
use Rattle.qh_roles.proofs.ServerAccepts.{left_out, none_accepted, taken_in}
use Rattle.qh_roles.proofs.ServerCares.{accepts_one}
use Rattle.qh_roles.specs.Handling.{AcceptStep}
use Rattle.qh_spec.specs.declared.sides.Dir.TheVariants.{Bi}
use Rattle.qh_roles.proofs.server.accept_next.Goals as goal

pub returns-in_err-push-clause-step : goal.returns-in_err-push-clause-step
returns-in_err-push-clause-step g c = λ same.
    rw c.in_err-push.ensures.items (left_out c.args.accepted.now c.saturating_add.result c.args.handlers.now.items c.in-Some.stream.0 c.args.connection.now c.accept.new.self c.requires.sound c.requires.side same
    c.in-Some.ensures.some.2 c.in-Some.ensures.some.0 (omega arith) c.saturating_add.ensures
    (λ start before t w. went_still start before c.args.connection.now c.accept.new.self t w
    (c.made.ensures.accept Bi (Some c.in-Some.stream) c.args.connection.now c.accept.new.self c.in-Some.ensures.some.1 c.in-Some.ensures.some.2 (λ e. absurd (cc)) c.in-Some.ensures.follows)
    (c.behaves.ensures.accepted Bi c.args.connection.now c.accept.new.self t c.in-Some.ensures.some.2 (c.in-Some.ensures.follows t w.behaves.follows) w.behaves)))

pub returns-clause-step : goal.returns-clause-step
returns-clause-step g c = λ same.
    rw c.in_ok-push.ensures.items (taken_in c.args.accepted.now c.saturating_add.result c.args.handlers.now.items c.in-Some.stream.0 c.args.connection.now c.accept.new.self c.requires.sound c.requires.side same
    c.in-Some.ensures.some.2 c.in-Some.ensures.some.0 (omega arith) c.saturating_add.ensures
    (λ start before t w. went_still start before c.args.connection.now c.accept.new.self t w
    (c.made.ensures.accept Bi (Some c.in-Some.stream) c.args.connection.now c.accept.new.self c.in-Some.ensures.some.1 c.in-Some.ensures.some.2 (λ e. absurd (cc)) c.in-Some.ensures.follows)
    (c.behaves.ensures.accepted Bi c.args.connection.now c.accept.new.self t c.in-Some.ensures.some.2 (c.in-Some.ensures.follows t w.behaves.follows) w.behaves)) _ c.new.result refl refl c.new.ensures)

pub returns-clause-accepts : goal.returns-clause-accepts
returns-clause-accepts g c =
    rw c.in_ok-push.ensures.items (accepts_one c.args.handlers.now.items _ c.args.connection.now.space.streams c.accept.new.self.space.streams (ap (λ (z : Inner _). z.space.streams) c.in-Some.ensures.some.2)
    c.in-Some.ensures.some.0 refl (ap (λ i. i.stream) c.new.ensures))

pub returns-in_default-clause-step : goal.returns-in_default-clause-step
returns-in_default-clause-step g c = λ same.
    subst (λ (z : Inner _). AcceptStep c.args.accepted.now c.args.accepted.now c.args.handlers.now.items c.args.handlers.now.items c.args.connection.now z) (sym (c.in_default.ensures.none refl).1)
    (none_accepted c.args.accepted.now c.args.handlers.now.items c.args.connection.now same)
