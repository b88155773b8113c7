use Rattle.std.proofs.Common.{◌≡◌, ◌≢◌, ◌<◌, ◌^◌, ◌++◌, ℕ, All, IsSome, IsTrue, IfSome, List, [], Option, None, Some, option_to_list, false, append-nil, ap, ap₂, sym, ◌∙◌, subst, subst₂}
use Rattle.arrayvec.specs.ArrayVec.{ArrayVec}
use Rattle.std.proofs.lemmas.List.Elements.{All-append, All-cons, All-nil}
use Rattle.qh_cids.specs.CidQueue.{PlainCids, Handled, IsQueue, is_repeated, gone, raised, settled}
use Rattle.qh_cids.proofs.Queues.{IsOther, IsOther-new, IsQueue-raised, All-raised, All-settled, All-gone, All-fitting_settled, All-fitting_gone, IsSome-settled}
use Rattle.qh_cids.proofs.cid_queue.CidQueue.raise.Goals.{in-Some, in_default}
use Rattle.qh_cids.proofs.cid_queue.CidQueue.raise.Goals as goal

abbrev before : goal.After-settle → PlainCids
before c = record { active = c.self.inside.active; waiting = c.self.inside.waiting.items; retire_prior_to = c.self.inside.retire_prior_to }

abbrev to_retire : goal.After-settle → List ℕ
to_retire c = gone c.args.prior (before c) ++ option_to_list c.args.also

abbrev outcome : goal.After-settle → Handled
outcome c = settled (raised c.args.prior (before c)) (to_retire c)

collected : (c : goal.After-settle) → c.match-also.retired.items ≡ to_retire c
collected c = elim c.match-also.branch [
  | in-Some w ↦ ap (λ (retired : ArrayVec ℕ). retired.items) w.retired-is ∙ w.push.ensures.items
      ∙ ap₂ (λ (gone also : List ℕ). gone ++ also) c.retire_below-retired.ensures.retired (ap option_to_list (sym w.in-Some.is))
  | in_default w ↦ ap (λ (retired : ArrayVec ℕ). retired.items) w.retired-is ∙ sym (append-nil _)
      ∙ ap₂ (λ (gone also : List ℕ). gone ++ also) c.retire_below-retired.ensures.retired (ap option_to_list (sym w.in_default.is))
]

-- what `settle` was called on
handed : {X : Type 0} (c : goal.After-settle) (read : Handled → X)
    → read (settled (record { active = c.self.inside.active; waiting = c.retire_below-retired.new.waiting.items; retire_prior_to = c.args.prior }) c.match-also.retired.items) ≡ read (outcome c)
handed c read =
    ap (λ waiting. read (settled (record { active = c.self.inside.active; waiting = waiting; retire_prior_to = c.args.prior }) c.match-also.retired.items)) c.retire_below-retired.ensures.kept
    ∙ ap (λ retired. read (settled (raised c.args.prior (before c)) retired)) (collected c)

cids : (c : goal.After-settle) → record { active = c.settle.new.active; waiting = c.settle.new.waiting.items; retire_prior_to = c.args.prior } ≡ (outcome c).cids
cids c = c.settle.ensures.after ∙ handed c (λ h. h.cids)

retired : (c : goal.After-settle) → c.settle.result.retired.items ≡ (outcome c).retired
retired c = c.settle.ensures.retired ∙ handed c (λ h. h.retired)

All-also : (n : ℕ) (q : PlainCids) (also : Option ℕ) → IfSome also (λ m. is_repeated m q ≡ false) → All (IsOther (raised n q)) (option_to_list also)
All-also n q None new = All-nil (IsOther (raised n q))
All-also n q (Some m) new = All-cons (IsOther (raised n q)) m [] (IsOther-new m n q new) (All-nil (IsOther (raised n q)))

pub invariant_of-self : goal.invariant_of-self
invariant_of-self c = subst IsQueue (sym (cids c)) (IsQueue-raised c.args.prior (before c) (to_retire c) c.self.invariant)

pub returns-clause-after : goal.returns-clause-after
returns-clause-after c = cids c ∙ ap (λ (q : PlainCids). (settled (raised c.args.prior q) (gone c.args.prior q ++ option_to_list c.args.also)).cids) c.self.view_is

pub returns-clause-retired : goal.returns-clause-retired
returns-clause-retired c = retired c ∙ ap (λ (q : PlainCids). (settled (raised c.args.prior q) (gone c.args.prior q ++ option_to_list c.args.also)).retired) c.self.view_is

pub returns-clause-spares : goal.returns-clause-spares
returns-clause-spares c =
    let new = subst (λ (q : PlainCids). IfSome c.args.also (λ m. is_repeated m q ≡ false)) (sym c.self.view_is) c.requires.new in
    subst₂ (λ (q : PlainCids) (ns : List ℕ). All (λ n. n ≢ q.active.sequence) ns) (sym (cids c)) (sym (retired c))
    (All-settled (raised c.args.prior (before c)) (to_retire c) (All-raised c.args.prior (before c) c.self.invariant.each)
    (All-append (IsOther (raised c.args.prior (before c))) _ _ (All-gone c.args.prior (before c) c.self.invariant.each) (All-also c.args.prior (before c) c.args.also new)))

pub returns-clause-has_token : goal.returns-clause-has_token
returns-clause-has_token c is_new =
    subst (λ (q : PlainCids). IsSome q.active.reset_token) (sym (cids c))
    (IsSome-settled (raised c.args.prior (before c)) (to_retire c) (All-raised c.args.prior (before c) c.self.invariant.each)
    (subst IsTrue (c.settle.ensures.has_new_active ∙ handed c (λ h. h.has_new_active)) is_new))

All-also_fits : (also : Option ℕ) → IfSome also (λ m. m < 2 ^ 62) → All (λ m. m < 2 ^ 62) (option_to_list also)
All-also_fits None fits = All-nil (λ m. m < 2 ^ 62)
All-also_fits (Some m) fits = All-cons (λ m. m < 2 ^ 62) m [] fits (All-nil (λ m. m < 2 ^ 62))

pub returns-clause-fitting : goal.returns-clause-fitting
returns-clause-fitting c =
    subst (λ (ns : List ℕ). All (λ n. n < 2 ^ 62) ns) (sym (retired c))
    (All-fitting_settled (raised c.args.prior (before c)) (to_retire c) c.self.invariant.fitting.0
    (All-append (λ n. n < 2 ^ 62) _ _ (All-fitting_gone c.args.prior (before c) c.self.invariant.fitting) (All-also_fits c.args.also c.requires.fits)))
