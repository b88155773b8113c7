use Rattle.std.proofs.Common.{◌≡◌, ◌+◌, sym, ap, ◌∙◌, rules, [], ◌∷◌, ◌++◌}
use Rattle.lock_rows.specs.Replays.{sum_of, is_legal, added}
use Rattle.lock_rows.proofs.Legal.{sum_of-push, is_legal-push}
use Rattle.lock_rows.proofs.tally.Tally.add.Goals as goal

pub invariant_of-self-2 : goal.invariant_of-self-2
invariant_of-self-2 c =
    let s = c.args.self.now in
    let e = added c.args.thread c.args.number s.sum in
    let items : c.push.new.self.items ≡ s.calls.items ++ e ∷ [] = search rules in
    record {
      replays = (let sum_is : c.in-Some.sum ≡ s.sum + c.args.number = search rules in sum_is ∙ (ap (λ n. n + c.args.number) s.replays ∙ (sym (sum_of-push 0 s.calls.items e) ∙ ap (sum_of 0) (sym items))));
      legal = ap (is_legal 0) items ∙ is_legal-push 0 s.calls.items e s.legal s.replays;
    }
