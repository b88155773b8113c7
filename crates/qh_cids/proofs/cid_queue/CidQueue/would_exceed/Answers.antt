use Rattle.std.proofs.Common.{◌≡◌, ◌+◌, ◌≤◌, Bool, true, false, cond, nat_lt, nat_le, length, filter, refl, ap, ◌∙◌, subst, arith}
use Rattle.std.specs.Int.{from_bool}
use Rattle.qh_cids.specs.CidQueue.{PlainCids, held, settled, added, raised}
use Rattle.qh_cids.specs.declared.cid_queue.RemoteCid.{RemoteCid}
use Rattle.qh_cids.proofs.Queues.{held_added, held_raised}
use Rattle.qh_cids.proofs.cid_queue.CidQueue.would_exceed.Goals as goal

from_bool-is : (b : Bool) → from_bool b ≡ cond b 1 0
from_bool-is true = refl
from_bool-is false = refl

from_bool-le : (b : Bool) → from_bool b ≤ 1
from_bool-le true = omega arith
from_bool-le false = omega arith

pub overflow_add-result : goal.overflow_add-result
overflow_add-result c =
    let q : PlainCids = record { active = c.self.inside.active; waiting = c.self.inside.waiting.items; retire_prior_to = c.self.inside.retire_prior_to } in
    let kept = c.count_from-kept.ensures ∙ ap (λ cids. length (filter (λ (cid : RemoteCid). nat_le c.args.prior cid.sequence) cids)) c.deref.ensures.0 in
    omega (arith, kept, held_raised c.args.prior q, c.self.invariant.within)

pub overflow_add-result-2 : goal.overflow_add-result-2
overflow_add-result-2 c =
    let q : PlainCids = record { active = c.self.inside.active; waiting = c.self.inside.waiting.items; retire_prior_to = c.self.inside.retire_prior_to } in
    let kept = c.count_from-kept.ensures ∙ ap (λ cids. length (filter (λ (cid : RemoteCid). nat_le c.args.prior cid.sequence) cids)) c.deref.ensures.0 in
    omega (arith, kept, held_raised c.args.prior q, c.self.invariant.within, c.from-stays.ensures, from_bool-le (nat_le c.args.prior c.self.inside.active.sequence))

pub returns : goal.returns
returns c cid retired =
    let q : PlainCids = record { active = c.self.inside.active; waiting = c.self.inside.waiting.items; retire_prior_to = c.self.inside.retire_prior_to } in
    let kept = c.count_from-kept.ensures ∙ ap (λ cids. length (filter (λ (cid : RemoteCid). nat_le c.args.prior cid.sequence) cids)) c.deref.ensures.0 in
    ap (nat_lt 8) (subst (λ (s : PlainCids). c.count_from-kept.result + 1 + c.from-stays.result ≡ held (settled (added cid (raised c.args.prior s)) retired).cids) c.self.view_is
    (omega (arith, kept, held_added cid c.args.prior q retired, c.from-stays.ensures, from_bool-is (nat_le c.args.prior c.self.inside.active.sequence))))
