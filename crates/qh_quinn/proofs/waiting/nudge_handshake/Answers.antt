use Rattle.std.proofs.Common.{◌≡◌, ◌∙◌, ap, sym, subst, true, ℕ, length, take, drop, ◌++◌}
use Rattle.qh_quinn.proofs.WaitingLists.{nudged_long, written_back}
use Rattle.qh_quinn.specs.Waiting.{nudged_if}
use Rattle.qh_quinn.proofs.waiting.nudge_handshake.Goals as goal

pub returns : goal.returns
returns c =
    let old = c.args.waiting.now.items in
    let new = c.nudge_all.new.waiting in
    let same : new ≡ nudged_if true old = c.nudge_all.ensures ∙ ap (nudged_if true) c.as_mut_slice.ensures.value in
    let long : length new ≡ length old = ap length same ∙ nudged_long old in
    let whole : take c.args.waiting.now.len (new ++ drop (length new) old) ≡ new =
    subst (λ (n : ℕ). take n (new ++ drop (length new) old) ≡ new) (sym (sym c.as_mut_slice.ensures.len ∙ ap length c.as_mut_slice.ensures.value)) (written_back new old long) in
    whole ∙ same
