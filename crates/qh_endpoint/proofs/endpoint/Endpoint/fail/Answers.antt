use Rattle.std.proofs.Common.{Some, refl, ap, ◌∙◌}
use Rattle.qh_endpoint.specs.Accepting.{closed, silent, unclosed}
use Rattle.qh_endpoint.proofs.endpoint.Endpoint.fail.Goals as goal

pub returns-in_default : goal.returns-in_default
returns-in_default g c = record {
  lost = λ first is. rw c.silent.ensures (silent c.args.cause is c.in_default.not-TransportError refl c.requires);
  source = record { same_len = refl; kept = λ id valid. valid };
}

pub returns-in-Ok-clause-lost : goal.returns-in-Ok-clause-lost
returns-in-Ok-clause-lost g c = λ first is. rw c.in-Ok.ensures.transmit (closed c.in-TransportError.error (is ∙ ap (λ e. Some e) c.in-TransportError.is) c.in-Ok.ensures.closed)

pub returns-in-Err-clause-lost : goal.returns-in-Err-clause-lost
returns-in-Err-clause-lost g c = λ first is. rw c.silent-in-Err.ensures (unclosed c.in-TransportError.error (is ∙ ap (λ e. Some e) c.in-TransportError.is) c.in-Err.ensures.err)
