-- How an attempt leaves those that wait: it is accepted, refused, answered by a Retry packet, or ignored.
use Rattle.std.specs.Prelude.{◌≡◌, ◌+◌, Some, None}
use Rattle.qh_attempts.specs.Attempts.{HasInstead, IsLater, PlainAttempt, attempt_at, attempt_count, bytes_kept, total_bytes}
use Rattle.qh_attempts.specs.declared.incoming_buffers.AttemptKey.{AttemptKey}
use Rattle.qh_endpoint.specs.Endpoint.{PlainEndpoint}
use Rattle.qh_endpoint.specs.declared.incoming.Waiting.{Waiting}
use Rattle.qh_routes.specs.Routes.{IsRemovedOf, initial}
use Rattle.qh_routes.specs.declared.connection_index.RouteDatagramTo.TheVariants as target

-- This attempt waited, with this and these datagrams kept, and waits no more; its client's first packets lead no more to it, and all else is as it
-- was, also where they led to something else.
pub record HasLeft {K G R T : Type 0} (name : AttemptKey) (attempt : PlainAttempt Waiting) (old new : PlainEndpoint K G R T) : Type 0 where
  pub was : attempt_at old.incoming name.key ≡ Some attempt
  pub number_is : attempt.number ≡ name.number
  pub gone : HasInstead old.incoming new.incoming name.key None
  pub numbered : new.incoming.numbered ≡ old.incoming.numbered
  pub later : IsLater old.incoming new.incoming
  pub count : attempt_count new.incoming + 1 ≡ attempt_count old.incoming
  pub bytes : total_bytes new.incoming + bytes_kept attempt ≡ total_bytes old.incoming
  pub routes : IsRemovedOf (initial attempt.config.first.destination) (target.Incoming name.key) old.connections.routes new.connections.routes
  pub rest : new ≡ record old { incoming = new.incoming; connections = record old.connections { routes = new.connections.routes } }
