use Rattle.std.proofs.Common.{◌≡◌, nat_lt, length, unwrap_or, ap, ◌∙◌, rules, tests}
use Rattle.std.specs.List.{position_or_len}
use Rattle.std.proofs.lemmas.Iterator.{YieldsList-from_slice}
use Rattle.std.proofs.lemmas.Iterator.Search.{position_from_yields_List}
use Rattle.qh_cids.specs.declared.cid_queue.RemoteCid.{RemoteCid}
use Rattle.qh_cids.proofs.Queues.{insert_in_place, unwrapped_place}
use Rattle.qh_cids.proofs.cid_queue.place_of.Goals as goal

place : (c : goal.After-unwrap_or) → c.unwrap_or.result ≡ position_or_len (λ (other : RemoteCid). nat_lt c.args.sequence other.sequence) c.args.cids.now
place c =
    let found = position_from_yields_List (λ other. nat_lt c.args.sequence other.sequence) _ _ c.position-behind.result c.position-behind.ensures.ran (YieldsList-from_slice _ c.iter.ensures.rest) (λ x b q k. search (rules, tests)) in
    c.unwrap_or.ensures ∙ ap (λ r. unwrap_or r (length c.args.cids.now)) found ∙ (unwrapped_place (λ other. nat_lt c.args.sequence other.sequence) c.args.cids.now).1

pub returns-clause-within : goal.returns-clause-within
returns-clause-within c = rw (place c) (unwrapped_place (λ other. nat_lt c.args.sequence other.sequence) c.args.cids.now).0

pub returns-clause-place : goal.returns-clause-place
returns-clause-place c cid same = rw (place c, ← same) (insert_in_place cid c.args.cids.now)
