use Rattle.std.proofs.Common.{◌≡◌, nat_lt, map, take, filter}
use Rattle.qh_cids.proofs.cid_queue.retire_below.Given as goal

abbrev pub invariant-loop-cid : goal.invariant-loop-cid
invariant-loop-cid l = l.retired.items ≡ map (λ cid. cid.sequence) (filter (λ cid. nat_lt cid.sequence l.prior) (take l.cid-index l.cids))
