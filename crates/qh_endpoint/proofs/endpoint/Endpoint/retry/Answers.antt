use Rattle.std.proofs.Common.{Option, ap, sym, subst, ◌∙◌}
use Rattle.std.specs.Prelude.{option_map}
use Rattle.qh_attempts.specs.Attempts.{IsPending, PlainAttempt, PlainBuffers, attempt_at}
use Rattle.qh_endpoint.specs.declared.incoming.Waiting.{Waiting}
use Rattle.qh_endpoint.proofs.endpoint.Endpoint.retry.Goals as goal

pub take-requires : goal.take-requires
take-requires g c = subst (λ (z : PlainBuffers Waiting). IsPending z c.args.incoming.key) (sym c.in-Ok.ensures.waits) c.requires.pending

pub returns-in-Ok-clause-retried : goal.returns-in-Ok-clause-retried
returns-in-Ok-clause-retried g c =
    let t = c.take.ensures in
    let there = ap (λ (z : PlainBuffers Waiting). attempt_at z c.args.incoming.key.key) (sym c.in-Ok.ensures.waits) ∙ t.1.was in
    let put = c.in-Ok.ensures.put t.0.config (ap (λ (o : Option (PlainAttempt Waiting)). option_map (λ a. a.config) o) there) in
    (t.0, c.write_retry.new.self, put.0, t.1, put.1)
