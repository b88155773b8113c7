-- Where routes to attempts lead.
use Rattle.std.specs.Prelude.{◌≡◌, ℕ, Some}
use Rattle.qh_attempts.specs.Attempts.{PlainAttempt, attempt_at}
use Rattle.qh_endpoint.specs.Endpoint.{PlainEndpoint}
use Rattle.qh_endpoint.specs.declared.incoming.Waiting.{Waiting}
use Rattle.qh_routes.specs.Routes.{RouteKey, initial}
use Rattle.qh_routes.specs.declared.connection_index.RouteDatagramTo.TheVariants as target
use Rattle.qh_spec.specs.Lists.{In}

-- each leads to one that waits, and is that of the id to which its client's first packet went
abbrev pub AreLed : {K G R T : Type 0} → PlainEndpoint K G R T → Type 0
AreLed e = (key : RouteKey) (k : ℕ) → In (key, target.Incoming k) e.connections.routes → (a : PlainAttempt Waiting) × (attempt_at e.incoming k ≡ Some a) × (key ≡ initial a.config.first.destination)
