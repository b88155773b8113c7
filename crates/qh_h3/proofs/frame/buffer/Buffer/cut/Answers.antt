use Rattle.std.proofs.Common.{rules, sym, ap, ◌∙◌, ◌++◌, append_assoc, ◌≡◌, take, drop}
use Rattle.std.proofs.lemmas.List.{take-append-drop}
use Rattle.qh_h3.proofs.frame.buffer.Buffer.cut.Goals as goal

pub returns-in-Ok-clause-gives : goal.returns-in-Ok-clause-gives
returns-in-Ok-clause-gives c =
    let s = c.args.self.now in
    let n = c.min-count.result in
    let f : c.in-Ok.piece ≡ take n s.front = c.in-Ok.ensures.front in
    let r : c.split_to.new.self ≡ drop n s.front = c.in-Ok.ensures.rest in
    ap (λ z. z ++ s.more) (sym (take-append-drop n s.front) ∙ (λ i. sym f i ++ sym r i)) ∙ append_assoc c.in-Ok.piece c.split_to.new.self s.more
