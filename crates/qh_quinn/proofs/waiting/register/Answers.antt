use Rattle.std.proofs.Common.{◌≡◌, ◌∙◌, ap, sym, subst, List, ℕ, true, length, take, drop, ◌++◌}
use Rattle.qh_book.specs.Interests.{is_same}
use Rattle.qh_book.specs.declared.interest.Interest.{Interest}
use Rattle.std.specs.List.{list_any}
use Rattle.std.specs.Prelude.{IsSomeAnd, slice_get}
use Rattle.qh_quinn.proofs.Heard.{heard_at, last_is}
use Rattle.qh_quinn.proofs.WaitingLists.{found_among, found_call, keeps_at, keeps_before, length_in, or_there, written_back}
use Rattle.qh_quinn.specs.Waiting.{IsHeard, KeepsOthers, interests_in, is_among}
use Rattle.qh_quinn.specs.declared.waiting.Waiting.{Waiting}
use Rattle.qh_quinn.proofs.waiting.register.Goals as goal

pub returns-in-Some-clause-interests : goal.returns-in-Some-clause-interests
returns-in-Some-clause-interests c = λ i.
    let old = c.args.waiting.now.items in
    let same : interests_in c.arm.new.waiting ≡ interests_in old = c.arm.ensures.same ∙ ap interests_in c.as_mut_slice.ensures.value in
    let long : length c.arm.new.waiting ≡ length old = sym (length_in c.arm.new.waiting) ∙ ap length same ∙ length_in old in
    let whole : take c.args.waiting.now.len (c.arm.new.waiting ++ drop (length c.arm.new.waiting) old) ≡ c.arm.new.waiting =
    subst (λ (n : ℕ). take n (c.arm.new.waiting ++ drop (length c.arm.new.waiting) old) ≡ c.arm.new.waiting) (sym (sym c.as_mut_slice.ensures.len ∙ ap length c.as_mut_slice.ensures.value)) (written_back c.arm.new.waiting old long) in
    ap (λ (ws : List Waiting). is_among i ws) whole ∙ ap (λ (is : List Interest). list_any (λ (j : Interest). is_same j i) is) same
    ∙ or_there (is_among i old) (is_same c.args.interest i) (λ it. found_among c.interests_are_a_set.ensures.equal old c.in-Some.at c.args.interest i (found_call (slice_get old c.in-Some.at) c.args.interest c.task-task.result (rw c.as_slice.ensures.value at c.in-Some.ensures)) it)

pub returns-in-Some-clause-heard : goal.returns-in-Some-clause-heard
returns-in-Some-clause-heard c =
    let old = c.args.waiting.now.items in
    let same : interests_in c.arm.new.waiting ≡ interests_in old = c.arm.ensures.same ∙ ap interests_in c.as_mut_slice.ensures.value in
    let long : length c.arm.new.waiting ≡ length old = sym (length_in c.arm.new.waiting) ∙ ap length same ∙ length_in old in
    let whole : take c.args.waiting.now.len (c.arm.new.waiting ++ drop (length c.arm.new.waiting) old) ≡ c.arm.new.waiting =
    subst (λ (n : ℕ). take n (c.arm.new.waiting ++ drop (length c.arm.new.waiting) old) ≡ c.arm.new.waiting) (sym (sym c.as_mut_slice.ensures.len ∙ ap length c.as_mut_slice.ensures.value)) (written_back c.arm.new.waiting old long) in
    subst (λ (ws : List Waiting). IsHeard c.args.interest c.args.cx.now c.arm.new.cx ws) (sym whole)
    (heard_at old c.arm.new.waiting c.in-Some.at c.args.interest c.args.cx.now c.arm.new.cx same (found_call (slice_get old c.in-Some.at) c.args.interest c.task-task.result (rw c.as_slice.ensures.value at c.in-Some.ensures)) c.arm.ensures.heard)

pub returns-in-Some-clause-others : goal.returns-in-Some-clause-others
returns-in-Some-clause-others c =
    let old = c.args.waiting.now.items in
    let same : interests_in c.arm.new.waiting ≡ interests_in old = c.arm.ensures.same ∙ ap interests_in c.as_mut_slice.ensures.value in
    let long : length c.arm.new.waiting ≡ length old = sym (length_in c.arm.new.waiting) ∙ ap length same ∙ length_in old in
    let whole : take c.args.waiting.now.len (c.arm.new.waiting ++ drop (length c.arm.new.waiting) old) ≡ c.arm.new.waiting =
    subst (λ (n : ℕ). take n (c.arm.new.waiting ++ drop (length c.arm.new.waiting) old) ≡ c.arm.new.waiting) (sym (sym c.as_mut_slice.ensures.len ∙ ap length c.as_mut_slice.ensures.value)) (written_back c.arm.new.waiting old long) in
    let task : c.task-task.result ≡ c.args.cx.now.turn.task = c.task-task.ensures in
    subst (λ (ws : List Waiting). KeepsOthers c.args.interest c.args.cx.now.turn.task old ws) (sym whole)
    (subst (λ (n : ℕ). KeepsOthers c.args.interest n old c.arm.new.waiting) task
    (keeps_at old c.arm.new.waiting c.in-Some.at c.args.interest c.task-task.result (rw c.as_slice.ensures.value at c.in-Some.ensures)
    (λ k isnt. c.arm.ensures.others k isnt ∙ ap (λ (ws : List Waiting). slice_get ws k) c.as_mut_slice.ensures.value)))

pub returns-clause-heard : goal.returns-clause-heard
returns-clause-heard c =
    let old = c.args.waiting.now.items in
    let mid = c.push_reserved.new.self in
    let last = c.len-at.result in
    let armed = c.arm-2.new.waiting in
    let same : interests_in armed ≡ interests_in mid.items = c.arm-2.ensures.same ∙ ap interests_in c.as_mut_slice-2.ensures.value in
    let long : length armed ≡ length mid.items = sym (length_in armed) ∙ ap length same ∙ length_in mid.items in
    let whole : take mid.len (armed ++ drop (length armed) mid.items) ≡ armed =
    subst (λ (n : ℕ). take n (armed ++ drop (length armed) mid.items) ≡ armed) (sym (sym c.as_mut_slice-2.ensures.len ∙ ap length c.as_mut_slice-2.ensures.value)) (written_back armed mid.items long) in
    let at_is : last ≡ length old = c.len-at.ensures ∙ sym c.as_slice.ensures.len ∙ ap length c.as_slice.ensures.value in
    let found : IsSomeAnd (slice_get mid.items last) (λ (w : Waiting). is_same w.interest c.args.interest ≡ true) =
    subst (λ (n : ℕ). IsSomeAnd (slice_get mid.items n) (λ (w : Waiting). is_same w.interest c.args.interest ≡ true)) (sym at_is)
    (subst (λ (l : List Waiting). IsSomeAnd (slice_get l (length old)) (λ (w : Waiting). is_same w.interest c.args.interest ≡ true)) (sym c.push_reserved.ensures.items)
    (last_is old _ c.args.interest (c.interests_are_a_set.ensures.itself c.args.interest))) in
    subst (λ (ws : List Waiting). IsHeard c.args.interest c.args.cx.now c.arm-2.new.cx ws) (sym whole)
    (heard_at mid.items armed last c.args.interest c.args.cx.now c.arm-2.new.cx same found c.arm-2.ensures.heard)

pub returns-clause-others : goal.returns-clause-others
returns-clause-others c =
    let old = c.args.waiting.now.items in
    let mid = c.push_reserved.new.self in
    let armed = c.arm-2.new.waiting in
    let same : interests_in armed ≡ interests_in mid.items = c.arm-2.ensures.same ∙ ap interests_in c.as_mut_slice-2.ensures.value in
    let long : length armed ≡ length mid.items = sym (length_in armed) ∙ ap length same ∙ length_in mid.items in
    let whole : take mid.len (armed ++ drop (length armed) mid.items) ≡ armed =
    subst (λ (n : ℕ). take n (armed ++ drop (length armed) mid.items) ≡ armed) (sym (sym c.as_mut_slice-2.ensures.len ∙ ap length c.as_mut_slice-2.ensures.value)) (written_back armed mid.items long) in
    let at_is : c.len-at.result ≡ length old = c.len-at.ensures ∙ sym c.as_slice.ensures.len ∙ ap length c.as_slice.ensures.value in
    subst (λ (ws : List Waiting). KeepsOthers c.args.interest c.args.cx.now.turn.task old ws) (sym whole)
    (keeps_before old mid.items armed _ c.len-at.result c.args.interest c.args.cx.now.turn.task c.push_reserved.ensures.items at_is
    (λ k isnt. c.arm-2.ensures.others k isnt ∙ ap (λ (ws : List Waiting). slice_get ws k) c.as_mut_slice-2.ensures.value))
