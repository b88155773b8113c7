use Rattle.std.proofs.Common.{◌≡◌, ℕ, ◌+◌, true, Ok, rules, ap, ◌∙◌}
use Rattle.qh_roles.proofs.ClientGoes.{goes_after}
use Rattle.qh_roles.proofs.client.Client.open_all.Goals as goal

pub returns-in_err-open-clause-goes : goal.returns-in_err-open-clause-goes
returns-in_err-open-clause-goes g c =
    goes_after c.args.self.now c.loop-request.self c.open.new.self c.args.connection.now c.loop-request.connection c.open.new.connection c.loop-request.invariant.goes c.open.ensures.goes

pub returns-then-not-branch-clause-goes : goal.returns-then-not-branch-clause-goes
returns-then-not-branch-clause-goes g c =
    goes_after c.args.self.now c.loop-request.self c.open.new.self c.args.connection.now c.loop-request.connection c.open.new.connection c.loop-request.invariant.goes c.open.ensures.goes

pub loop-request-preserved : goal.loop-request-preserved
loop-request-preserved g c =
    let opened : c.in_ok-open.field-0 ≡ true = search rules in
    record {
      goes = goes_after c.args.self.now c.loop-request.self c.open.new.self c.args.connection.now c.loop-request.connection c.open.new.connection c.loop-request.invariant.goes c.open.ensures.goes;
      next = c.open.ensures.more (c.in_ok-open.was ∙ ap Ok opened) ∙ ap (λ (n : ℕ). n + 1) c.loop-request.invariant.next;
    }
