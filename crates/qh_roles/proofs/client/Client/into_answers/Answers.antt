use Rattle.std.proofs.Common.{◌≡◌, ◌∷◌, [], ◌++◌, List, Option, length, Some, sym, ap, subst, ◌∙◌, append_assoc, append-nil, arith}
use Rattle.std.specs.Prelude.{map}
use Rattle.std.specs.Vec.Iter.{into_iter_items}
use Rattle.qh_roles.proofs.ClientLists.{all_present, present_more, nothing_left, none_present}
use Rattle.qh_roles.specs.Client.{PlainClient, held}
use Rattle.qh_spec.specs.Message.{PlainMessage}
use Rattle.qh_roles.proofs.client.Client.into_answers.Goals as goal

pub loop-answer-preserved-in-Continue-branch-2 : goal.loop-answer-preserved-in-Continue-branch-2
loop-answer-preserved-in-Continue-branch-2 c =
    let at = c.loop-answer in
    let x = c.in-Some.answer in
    let steps : into_iter_items at.answer-iterator ≡ x ∷ into_iter_items c.next.new.self = c.in-Some.ensures.steps.0 in (
      append_assoc at.yielded (x ∷ []) _ ∙ rw (← steps) at.invariant.0,
      rw c.in-Some-answer.is
          (c.in_ok-push.ensures.items ∙ ap (λ (z : List PlainMessage). z ++ c.in-Some-answer.answer ∷ []) at.invariant.1 ∙ sym (present_more at.yielded (Some c.in-Some-answer.answer))),
      let was = at.invariant.2 in
          let gone = c.in-Some.ensures.steps.1 in
          let short = ap length steps in
          omega arith,
    )

pub loop-answer-preserved : goal.loop-answer-preserved
loop-answer-preserved c =
    let at = c.loop-answer in
    let x = c.in-Some.answer in
    let steps : into_iter_items at.answer-iterator ≡ x ∷ into_iter_items c.next.new.self = c.in-Some.ensures.steps.0 in (
      append_assoc at.yielded (x ∷ []) _ ∙ rw (← steps) at.invariant.0,
      at.invariant.1 ∙ sym (none_present at.yielded x c.in_default.not-Some),
      let was = at.invariant.2 in
          let gone = c.in-Some.ensures.steps.1 in
          let short = ap length steps in
          omega arith,
    )

pub returns : goal.returns
returns c = λ all.
    let at = c.loop-answer in
    let none = c.in-None.ensures.steps in
    let empty : into_iter_items at.answer-iterator ≡ [] = nothing_left _ (sym at.invariant.2 ∙ none.0) in
    let whole : at.yielded ≡ c.self.inside.answers.items = sym (append-nil at.yielded) ∙ rw empty at at.invariant.0 ∙ c.into_iter-answer-iterator.ensures.into_iter_gives.0 in
    let answers : c.self.inside.answers.items ≡ c.args.self.answers = ap (λ (p : PlainClient). p.answers) c.self.view_is in
    let is = whole ∙ answers in
    ap (map Some) at.invariant.1 ∙ all_present at.yielded (subst (λ (z : List (Option PlainMessage)). held z ≡ length z) (sym is) all) ∙ is
