use Rattle.std.proofs.Common.{ℕ, ◌+◌, ◌%◌, List, [], ◌∷◌, ◌++◌, sym, ap, ◌∙◌}
use Rattle.qh_script.proofs.Changes.{filling_more}
use Rattle.qh_script.proofs.script.last.filling.Goals as goal

pub loop-i-preserved : goal.loop-i-preserved
loop-i-preserved c =
    c.in_ok-push.ensures.items ∙ ap (λ (z : List ℕ). z ++ (97 + c.loop-i.i % 26) ∷ []) c.loop-i.invariant ∙ sym (filling_more c.loop-i.i)
