use Rattle.std.proofs.Common.{◌≡◌, length, ap, subst, rules, ◌∙◌}
use Rattle.qh_cids.proofs.Lengths.{long_added, long_raised}
use Rattle.qh_cids.specs.CidQueue.{IsQueue, PlainCids}
use Rattle.qh_cids.proofs.cid_queue.CidQueue.insert.Goals as goal

pub returns-then-is_repeated-clause-as_long : goal.returns-then-is_repeated-clause-as_long
returns-then-is_repeated-clause-as_long c =
    ap (λ (q : PlainCids). length q.active.id) c.raise.ensures.after ∙ long_raised c.args.self.now _ _ (subst (λ (q : PlainCids). IsQueue q) c.self.view_is c.self.invariant)

pub returns-then-len-clause-as_long : goal.returns-then-len-clause-as_long
returns-then-len-clause-as_long c =
    ap (λ (q : PlainCids). length q.active.id) c.raise-then-len.ensures.after ∙ long_raised c.args.self.now _ _ (subst (λ (q : PlainCids). IsQueue q) c.self.view_is c.self.invariant)

pub returns-clause-as_long : goal.returns-clause-as_long
returns-clause-as_long c =
    let same : length c.args.cid.id ≡ length c.args.self.now.active.id = search rules in
    ap (λ (q : PlainCids). length q.active.id) c.add.ensures.after
    ∙ long_added c.args.self.now _ c.args.cid same (subst (λ (q : PlainCids). IsQueue q) c.self.view_is c.self.invariant)
