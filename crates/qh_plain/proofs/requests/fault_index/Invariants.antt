use Rattle.qh_plain.proofs.Faults.{AreValidUpTo}
use Rattle.qh_plain.proofs.requests.fault_index.Given as goal

-- the requests so far may be asked
abbrev pub invariant-loop-index : goal.invariant-loop-index
invariant-loop-index l = AreValidUpTo l.max_requests l.section l.request_body l.requests l.index
