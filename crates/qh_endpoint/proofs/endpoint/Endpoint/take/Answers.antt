use Rattle.std.proofs.Common.{◌≡◌, Option, ap, sym, subst}
use Rattle.std.specs.Prelude.{option_map}
use Rattle.qh_attempts.specs.Attempts.{PlainAttempt}
use Rattle.qh_endpoint.specs.declared.incoming.FirstPacket.{FirstPacket}
use Rattle.qh_endpoint.specs.declared.incoming.Waiting.{Waiting}
use Rattle.qh_routes.specs.Routes.{IsRemovedOf, initial}
use Rattle.qh_routes.specs.declared.connection_index.RouteDatagramTo.TheVariants as target
use Rattle.qh_attempts.specs.Attempts.{IsPending}
use Rattle.qh_endpoint.specs.Endpoint.{PlainEndpoint}
use Rattle.qh_endpoint.proofs.Kept.{only_routes, waits_as}
use Rattle.qh_endpoint.proofs.endpoint.Endpoint.take.Goals as goal

pub returns : goal.returns
returns g c =
    let e = c.self.inside in
    let old : PlainEndpoint g.row.K.Denot g.row.K-G.Denot g.row.K-R.Denot g.row.K-T.Denot =
    record { config = e.config; server = e.server; kit = e.kit; words = e.words; token_log = e.token_log; connections = e.connections; incoming = e.incoming; last_reset = e.last_reset } in
    let pending = subst (λ (z : PlainEndpoint g.row.K.Denot g.row.K-G.Denot g.row.K-R.Denot g.row.K-T.Denot). IsPending z.incoming c.args.incoming.now.key) (sym c.self.view_is) c.requires in
    let first : c.waiting_at-first.result.1 ≡ c.take-attempt.result.config.first =
    ((rw (sym c.self.view_is) at c.waiting_at-first.ensures) c.take-attempt.result.config (ap (λ (o : Option (PlainAttempt Waiting)). option_map (λ a. a.config) o) c.take-attempt.ensures.taken)).1 in
    rw (sym c.self.view_is) (
      c.take-attempt.result,
      record {
        was = c.take-attempt.ensures.taken;
        number_is = waits_as old.incoming c.args.incoming.now.key c.take-attempt.result c.take-attempt.ensures.taken pending;
        gone = c.take-attempt.ensures.rest;
        numbered = c.take-attempt.ensures.numbered;
        later = c.take-attempt.ensures.later;
        count = c.take-attempt.ensures.len;
        bytes = c.take-attempt.ensures.bytes;
        routes = subst (λ (z : FirstPacket). IsRemovedOf (initial z.destination) (target.Incoming c.args.incoming.now.key.key) old.connections.routes c.remove_initial_incoming.new.self.routes) first c.remove_initial_incoming.ensures.removed;
        rest = only_routes old c.take-attempt.new.self c.remove_initial_incoming.new.self c.remove_initial_incoming.ensures.rest;
      },
      c.into_parts.ensures.config,
      c.into_parts.ensures.datagrams,
    )
