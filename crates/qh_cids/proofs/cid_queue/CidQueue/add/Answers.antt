use Rattle.std.proofs.Common.{◌≡◌, ◌≢◌, ◌<◌, ◌≤◌, ◌^◌, ◌==◌, ℕ, All, IsSome, IsTrue, List, length, insert, false, refl, ap, sym, ◌∙◌, subst, subst₂}
use Rattle.std.proofs.lemmas.Bool.{or_parts, eqb-false}
use Rattle.qh_cids.specs.CidQueue.{PlainCids, Handled, MayWait, IsQueue, has_sequence, held, limit, is_repeated, gone, raised, added, settled, with_cid}
use Rattle.qh_cids.proofs.Queues.{IsQueue-added, All-added, All-settled, All-fitting_settled, All-fitting_gone, All-gone_added, IsSome-settled}
use Rattle.qh_cids.proofs.cid_queue.CidQueue.add.Goals as goal

abbrev before : goal.After-settle → PlainCids
before c = record { active = c.self.inside.active; waiting = c.self.inside.waiting.items; retire_prior_to = c.self.inside.retire_prior_to }

abbrev outcome : goal.After-settle → Handled
outcome c = settled (added c.args.cid (raised c.args.prior (before c))) (gone c.args.prior (before c))

-- the id stands in its place
placed : (c : goal.After-settle) → c.insert.new.self.items ≡ with_cid c.args.cid (raised c.args.prior (before c)).waiting
placed c =
    let kept = c.retire_below-retired.ensures.kept in
    c.insert.ensures.items ∙ ap (λ cids. insert cids c.place_of-place.result c.args.cid) kept
    ∙ subst (λ cids. insert cids c.place_of-place.result c.args.cid ≡ with_cid c.args.cid cids) (c.deref.ensures.0 ∙ kept) (c.place_of-place.ensures.place c.args.cid refl)

-- what `settle` was called on
handed : {X : Type 0} (c : goal.After-settle) (read : Handled → X)
    → read (settled (record { active = c.self.inside.active; waiting = c.insert.new.self.items; retire_prior_to = c.args.prior }) c.retire_below-retired.result.items) ≡ read (outcome c)
handed c read =
    ap (λ waiting. read (settled (record { active = c.self.inside.active; waiting = waiting; retire_prior_to = c.args.prior }) c.retire_below-retired.result.items)) (placed c)
    ∙ ap (λ retired. read (settled (added c.args.cid (raised c.args.prior (before c))) retired)) c.retire_below-retired.ensures.retired

cids : (c : goal.After-settle) → record { active = c.settle.new.active; waiting = c.settle.new.waiting.items; retire_prior_to = c.args.prior } ≡ (outcome c).cids
cids c = c.settle.ensures.after ∙ handed c (λ h. h.cids)

retired : (c : goal.After-settle) → c.settle.result.retired.items ≡ (outcome c).retired
retired c = c.settle.ensures.retired ∙ handed c (λ h. h.retired)

-- what was asked for, of the value before
new : (c : goal.After-settle) → (c.args.cid.sequence == c.self.inside.active.sequence ≡ false) × (has_sequence c.args.cid.sequence (before c).waiting ≡ false)
new c = or_parts _ _ (subst (λ (q : PlainCids). is_repeated c.args.cid.sequence q ≡ false) (sym c.self.view_is) c.requires.other)

may : (c : goal.After-settle) → MayWait (raised c.args.prior (before c)) c.args.cid
may c = record {
  kept = c.requires.kept;
  other = eqb-false _ _ (new c).0;
  as_long = subst (λ (q : PlainCids). length c.args.cid.id ≡ length q.active.id) (sym c.self.view_is) c.requires.as_long;
  has_token = c.requires.token;
}

pub invariant_of-self : goal.invariant_of-self
invariant_of-self c =
    let room = subst (λ (q : PlainCids). held (settled (added c.args.cid (raised c.args.prior q)) (gone c.args.prior (before c))).cids ≤ limit) (sym c.self.view_is) (c.requires.room (gone c.args.prior (before c))) in
    subst IsQueue (sym (cids c)) (IsQueue-added c.args.cid c.args.prior (before c) (gone c.args.prior (before c)) c.self.invariant (may c) c.requires.fits (new c).1 room)

pub returns-clause-retired : goal.returns-clause-retired
returns-clause-retired c = retired c ∙ ap (λ (q : PlainCids). (settled (added c.args.cid (raised c.args.prior q)) (gone c.args.prior q)).retired) c.self.view_is

pub returns-clause-spares : goal.returns-clause-spares
returns-clause-spares c =
    subst₂ (λ (q : PlainCids) (ns : List ℕ). All (λ n. n ≢ q.active.sequence) ns) (sym (cids c)) (sym (retired c))
    (All-settled (added c.args.cid (raised c.args.prior (before c))) (gone c.args.prior (before c)) (All-added c.args.cid c.args.prior (before c) c.self.invariant.each (may c))
    (All-gone_added c.args.cid c.args.prior (before c) c.self.invariant.each c.requires.kept))

pub returns-clause-has_token : goal.returns-clause-has_token
returns-clause-has_token c is_new =
    subst (λ (q : PlainCids). IsSome q.active.reset_token) (sym (cids c))
    (IsSome-settled (added c.args.cid (raised c.args.prior (before c))) (gone c.args.prior (before c)) (All-added c.args.cid c.args.prior (before c) c.self.invariant.each (may c))
    (subst IsTrue (c.settle.ensures.has_new_active ∙ handed c (λ h. h.has_new_active)) is_new))

pub returns-clause-fitting : goal.returns-clause-fitting
returns-clause-fitting c =
    subst (λ (ns : List ℕ). All (λ n. n < 2 ^ 62) ns) (sym (retired c))
    (All-fitting_settled (added c.args.cid (raised c.args.prior (before c))) (gone c.args.prior (before c)) c.self.invariant.fitting.0 (All-fitting_gone c.args.prior (before c) c.self.invariant.fitting))
