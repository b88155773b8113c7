use Rattle.std.proofs.Common.{ℕ, List, ◌∷◌, refl, ap, ◌∙◌, subst}
use Rattle.qh_base.proofs.CountedBytes.{at_none}
use Rattle.qh_hello.proofs.Readings.{no_name, no_values, bytes_left, no_parameters, split_here}
use Rattle.qh_hello.proofs.Walks.{is_nil, is_some}
use Rattle.qh_hello.specs.Parts.{IsCounted}
use Rattle.qh_spec.specs.Hello.{IsHelloOf}
use Rattle.qh_hello.proofs.split.split_hello.Goals as goal

pub returns-in_err-server_name-clause-none : goal.returns-in_err-server_name-clause-none
returns-in_err-server_name-clause-none c =
    at_none c.from_residual-in_err-server_name.result
    (λ h i. no_name c.args.sender c.in_ok-first.first.now c.in_ok-first.rest.now c.in_err-server_name.ensures.none h (subst (λ (z : List ℕ). IsHelloOf c.args.sender z h) c.in_ok-first.ensures.cases.0 i))

pub returns-in_err-parameters-clause-none : goal.returns-in_err-parameters-clause-none
returns-in_err-parameters-clause-none c =
    at_none c.from_residual-in_err-parameters.result
    (λ h i. no_values c.args.sender c.in_ok-first.first.now c.in_ok-first.rest.now c.in_ok-server_name.server_name.now c.in_ok-server_name.rest.now c.in_ok-server_name.ensures.found c.in_err-parameters.ensures.none h
    (subst (λ (z : List ℕ). IsHelloOf c.args.sender z h) c.in_ok-first.ensures.cases.0 i))

pub returns-then-not-is_empty-clause-none : goal.returns-then-not-is_empty-clause-none
returns-then-not-is_empty-clause-none c h i =
    bytes_left c.args.sender c.in_ok-first.first.now c.in_ok-first.rest.now c.in_ok-server_name.server_name.now c.in_ok-server_name.rest.now c.in_ok-parameters.parameters.now c.in_ok-parameters.rest.now
    c.in_ok-server_name.ensures.found c.in_ok-parameters.ensures.found (is_some c.in_ok-parameters.rest.now c.if-not-is_empty.ensures) h
    (subst (λ (z : List ℕ). IsHelloOf c.args.sender z h) c.in_ok-first.ensures.cases.0 i)

pub returns-then-not-are_parameters-clause-none : goal.returns-then-not-are_parameters-clause-none
returns-then-not-are_parameters-clause-none c h i =
    no_parameters c.args.sender c.in_ok-first.first.now c.in_ok-first.rest.now c.in_ok-server_name.server_name.now c.in_ok-server_name.rest.now c.in_ok-parameters.parameters.now c.in_ok-parameters.rest.now
    c.in_ok-server_name.ensures.found c.in_ok-parameters.ensures.found (c.if-not-are_parameters.ensures.no_others refl) h
    (subst (λ (z : List ℕ). IsHelloOf c.args.sender z h) c.in_ok-first.ensures.cases.0 i)

pub returns-clause-found : goal.returns-clause-found
returns-clause-found c =
    let ps = c.if-not-are_parameters.ensures.yes refl in
    split_here c.args.sender c.args.bytes.now c.in_ok-first.rest.now c.in_ok-server_name.server_name.now c.in_ok-server_name.rest.now c.in_ok-parameters.parameters.now ps.0
    (c.in_ok-first.ensures.cases.0 ∙ ap (λ (z : ℕ). z ∷ c.in_ok-first.rest.now) (c.if-first-hello_byte.false ∙ c.hello_byte.ensures))
    c.in_ok-server_name.ensures.found
    (subst (λ (z : List ℕ). IsCounted c.in_ok-server_name.rest.now c.in_ok-parameters.parameters.now z) (is_nil c.in_ok-parameters.rest.now c.if-not-is_empty.ensures) c.in_ok-parameters.ensures.found)
    ps.1
