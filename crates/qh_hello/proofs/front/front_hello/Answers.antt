use Rattle.qh_hello.proofs.Fronts.{no_name_yet, no_parameters_yet, form_here}
use Rattle.qh_base.proofs.CountedBytes.{at_none}
use Rattle.qh_hello.proofs.front.front_hello.Goals as goal

pub returns-in_err-_name-clause-none : goal.returns-in_err-_name-clause-none
returns-in_err-_name-clause-none c =
    at_none c.from_residual-in_err-_name.result (no_name_yet c.args.bytes.now c.in_ok-_first._first.now c.in_ok-_first.behind.now c.in_ok-_first.ensures.cases.0 c.in_err-_name.ensures.none)

pub returns-in_err-_parameters-clause-none : goal.returns-in_err-_parameters-clause-none
returns-in_err-_parameters-clause-none c =
    at_none c.from_residual-in_err-_parameters.result
    (no_parameters_yet c.args.bytes.now c.in_ok-_first._first.now c.in_ok-_first.behind.now c.in_ok-_name._name.now c.in_ok-_name.counted.now c.in_ok-_first.ensures.cases.0
    c.in_ok-_name.ensures.found c.in_err-_parameters.ensures.none)

pub returns-clause-found : goal.returns-clause-found
returns-clause-found c =
    form_here c.args.bytes.now c.in_ok-_first._first.now c.in_ok-_first.behind.now c.in_ok-_name._name.now c.in_ok-_name.counted.now c.in_ok-_parameters._parameters.now c.in_ok-_parameters.rest.now
    c.in_ok-_first.ensures.cases.0 c.in_ok-_name.ensures.found c.in_ok-_parameters.ensures.found
