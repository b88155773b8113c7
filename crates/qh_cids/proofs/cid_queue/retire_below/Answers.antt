use Rattle.std.proofs.Common.{nat_lt, nat_le, filter, map, ap, ◌∙◌, length, take, take_all, arith, rules}
use Rattle.arrayvec.proofs.ArrayVecLemmas.{filter-from_retain}
use Rattle.std.proofs.lemmas.List.{length-take}
use Rattle.qh_cids.specs.declared.cid_queue.RemoteCid.{RemoteCid}
use Rattle.qh_cids.proofs.Queues.{length_both}
use Rattle.qh_cids.proofs.cid_queue.retire_below.Goals as goal

pub push-requires : goal.push-requires
push-requires c =
    (search rules, omega (arith, ap length c.loop-cid.invariant, length_both c.args.prior (take c.loop-cid.cid-index c.as_slice-cids.result.now), length-take c.loop-cid.cid-index c.as_slice-cids.result.now, c.as_slice-cids.ensures.fits))

pub returns-clause-kept : goal.returns-clause-kept
returns-clause-kept c = filter-from_retain _ _ _ (λ x b f' y called. search rules) _ _ c.retain.ensures.filtered

pub returns-clause-each : goal.returns-clause-each
returns-clause-each c =
    let kept = filter-from_retain _ (λ (cid : RemoteCid). nat_le c.args.prior cid.sequence) _ (λ x b f' y called. search rules) _ _ c.retain.ensures.filtered in
    let all = take_all c.loop-cid.cid-index c.as_slice-cids.result.now (omega arith) in
    let gone = ap (λ cids. length (map (λ (cid : RemoteCid). cid.sequence) (filter (λ cid. nat_lt cid.sequence c.args.prior) cids))) (all ∙ c.as_slice-cids.ensures.value) in
    omega (arith, ap length kept, ap length c.loop-cid.invariant, gone, length_both c.args.prior c.args.waiting.now.items)
