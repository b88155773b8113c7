use Rattle.std.proofs.Common.{refl, sym, ap}
use Rattle.qh_endpoint.specs.Endpoint.{PlainEndpoint}
use Rattle.qh_endpoint.proofs.Kept.{only_routes, when_ok}
use Rattle.qh_endpoint.proofs.endpoint.Endpoint.let_wait.Goals as goal

pub returns-clause-waiting : goal.returns-clause-waiting
returns-clause-waiting g c = rw (sym c.self.view_is) (
    let e = c.self.inside in
    let old : PlainEndpoint g.row.K.Denot g.row.K-G.Denot g.row.K-R.Denot g.row.K-T.Denot =
    record { config = e.config; server = e.server; kit = e.kit; words = e.words; token_log = e.token_log; connections = e.connections; incoming = e.incoming; last_reset = e.last_reset } in
    let is = c.in_ok-insert.ensures in
    let there = c.unwrap-key.ensures in
    let ok = c.if-is_err.ensures.value in
    record {
      addresses_are = refl;
      token_is = refl;
      number = rw there at is.number;
      numbered = rw there at is.numbered;
      named = rw there at is.named;
      free = rw there at is.was_free;
      waits = rw there at is.waits;
      count = rw there at is.len;
      bytes = rw there at is.bytes;
      led = when_ok _ _ ok c.insert_initial_incoming-led.ensures.added;
      unled = λ none. ap (λ n. n.routes) ((c.insert_initial_incoming-led.ensures.empty none).1);
      rest = only_routes old c.insert.new.self c.insert_initial_incoming-led.new.self c.insert_initial_incoming-led.ensures.rest;
    })
