use Rattle.qh_plain.proofs.Faults.{none_yet, one_more, one_undecided, all_valid}
use Rattle.qh_plain.proofs.requests.fault_index.Goals as goal

pub loop-index-init : goal.loop-index-init
loop-index-init c = none_yet c.args.max_requests c.args.section c.args.request_body c.args.requests.now

pub loop-index-preserved : goal.loop-index-preserved
loop-index-preserved c =
    one_more c.args.max_requests c.args.section c.args.request_body c.args.requests.now c.loop-index.index c.index-requests-index.result
    c.loop-index.invariant c.loop-index-test.true c.if-index-max_requests.false c.index-requests-index.is (c.in_ok-is_valid_request.ensures.value.0 c.if-not-branch.false)

pub returns-clause-none : goal.returns-clause-none
returns-clause-none c = λ _. all_valid c.args.max_requests c.args.section c.args.request_body c.args.requests.now c.loop-index.index c.loop-index.invariant c.loop-index-test.false

pub returns-in_err-is_valid_request-clause-memory : goal.returns-in_err-is_valid_request-clause-memory
returns-in_err-is_valid_request-clause-memory c =
    one_undecided c.from_residual.result c.args.max_requests c.args.section c.args.request_body c.args.requests.now c.loop-index.index c.index-requests-index.result
    c.loop-index.invariant c.loop-index-test.true c.if-index-max_requests.false c.index-requests-index.is c.in_err-is_valid_request.ensures.memory
