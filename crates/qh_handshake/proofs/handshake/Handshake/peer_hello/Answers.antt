use Rattle.std.proofs.Common.{refl, sym, subst, ◌∙◌}
use Rattle.qh_handshake.proofs.HelloRead.{none_there, read_before, read_refused, read_wanting}
use Rattle.qh_handshake.proofs.handshake.Handshake.peer_hello.Goals as goal
use Rattle.qh_handshake.specs.Handshake.{ids_used}
use Rattle.qh_handshake.specs.Incoming.IsHelloRead.{cut, gone}
use Rattle.qh_hello.specs.Refusals.{IsRefused}
use Rattle.qh_spec.specs.HelloFaults.{IdsUsed}
use Rattle.qh_spec.specs.declared.sides.Side.{Side}

pub returns-then-is_some-clause-none : goal.returns-then-is_some-clause-none
returns-then-is_some-clause-none c = λ _. read_before c.args.self.now c.if-is_some.ensures

pub returns-in_default-clause-none : goal.returns-in_default-clause-none
returns-in_default-clause-none c = λ _. gone c.in_default.is refl

pub returns-in_default-front_hello-clause-none : goal.returns-in_default-front_hello-clause-none
returns-in_default-front_hello-clause-none c = λ _.
    cut c.in-Some.space c.in-Some.is (λ front rest e. c.in_default-front_hello.ensures.none front rest (c.bytes.ensures ∙ e)) refl

pub returns-in-Err-clause-err : goal.returns-in-Err-clause-err
returns-in-Err-clause-err c =
    let found = c.in-Some-front_hello.ensures.found in
    read_refused c.args.self.now c.in-Some.space c.in-Some-front_hello.front.now found.0 c.in-Err.error c.error_of.result c.in-Some.is (none_there c.args.self.now.peer c.if-is_some.ensures)
    (sym c.bytes.ensures ∙ found.1) found.2
    (subst (λ (side : Side). IsRefused side (ids_used c.args.self.now) c.in-Some-front_hello.front.now c.in-Err.error) c.other.ensures
    (subst (λ (used : IdsUsed). IsRefused c.other.result used c.in-Some-front_hello.front.now c.in-Err.error) c.ids_used.ensures c.in-Err.ensures.err))
    c.error_of.ensures.fault c.error_of.ensures.wanting

pub returns-in-Err-clause-wanting : goal.returns-in-Err-clause-wanting
returns-in-Err-clause-wanting c =
    let found = c.in-Some-front_hello.ensures.found in
    read_wanting c.args.self.now c.in-Some.space c.in-Some-front_hello.front.now found.0 c.in-Err.error c.error_of.result c.in-Some.is (none_there c.args.self.now.peer c.if-is_some.ensures)
    (sym c.bytes.ensures ∙ found.1) found.2
    (subst (λ (side : Side). IsRefused side (ids_used c.args.self.now) c.in-Some-front_hello.front.now c.in-Err.error) c.other.ensures
    (subst (λ (used : IdsUsed). IsRefused c.other.result used c.in-Some-front_hello.front.now c.in-Err.error) c.ids_used.ensures c.in-Err.ensures.err))
    c.error_of.ensures.fault
