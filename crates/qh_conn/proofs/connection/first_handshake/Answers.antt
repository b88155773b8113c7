use Rattle.std.proofs.Common.{◌≡◌, ◌≤◌, ℕ, List, [], length, sym, subst}
use Rattle.qh_conn.proofs.FirstHandshake.{client_fresh, server_fresh}
use Rattle.qh_conn.specs.Parameters.{IsFirstHandshake}
use Rattle.qh_handshake.specs.InitialSpace.{IsUnused}
use Rattle.qh_handshake.specs.declared.initial_space.HelloState.TheVariants.{Waits}
use Rattle.qh_hello.specs.Greetings.{greeting}
use Rattle.qh_hello.specs.declared.transport_parameters.TransportParameters.{TransportParameters}
use Rattle.qh_spec.specs.Hello.{IsSayable, hello_bytes, hello_of}
use Rattle.qh_spec.specs.declared.sides.Side.{Side}
use Rattle.qh_spec.specs.declared.sides.Side.TheVariants.{Client, Server}
use Rattle.std.specs.Prelude.{IsSomeAnd}
use Rattle.qh_conn.proofs.connection.first_handshake.Goals as goal

pub returns-in_ok-handshake-in-Client-clause-fresh : goal.returns-in_ok-handshake-in-Client-clause-fresh
returns-in_ok-handshake-in-Client-clause-fresh g c =
    let it = c.in_ok-handshake-in-Client in
    let h = it.handshake in
    let parts = it.ensures.parts in
    let e : h.parameters ≡ c.parameters-parameters.result = parts.0 in
    let name = g.S.Session.name c.args.session.now in
    let sayable : IsSayable (greeting Client name c.parameters-parameters.result) = c.parameters-parameters.ensures.client c.in-Client.is name (subst (λ (z : List ℕ). length z ≤ 255) c.server_name.ensures.value c.server_name.ensures.short) in
    let whole : IsSayable (greeting Client name h.parameters) = subst (λ (z : TransportParameters). IsSayable (greeting Client name z)) (sym e) sayable in (
      hello_bytes (hello_of (greeting Client name h.parameters)),
      client_fresh h name c.args.config.now.initial_rtt.0 c.args.now it.ensures.ids.0 whole (subst (λ (z : TransportParameters). IsSomeAnd h.space (IsUnused (hello_bytes (hello_of (greeting Client name z))) Waits c.args.config.now.initial_rtt.0 c.args.now)) (sym e) it.ensures.space) parts.2 parts.5 parts.6,
    )

pub returns-in-Server-clause-fresh : goal.returns-in-Server-clause-fresh
returns-in-Server-clause-fresh g c =
    let h = c.server.result in
    let parts = c.server.ensures.parts in
    (hello_bytes (hello_of (greeting Server [] h.parameters)), server_fresh h _ _ c.server.ensures.ids.0 (c.server.ensures.handshake.server c.server.ensures.ids.0).2 c.server.ensures.space parts.2 parts.5 parts.6)

pub returns-in_ok-handshake-in-Client-clause-begins : goal.returns-in_ok-handshake-in-Client-clause-begins
returns-in_ok-handshake-in-Client-clause-begins g c =
    let it = c.in_ok-handshake-in-Client in
    let h = it.handshake in
    let parts = it.ensures.parts in
    let name = g.S.Session.name c.args.session.now in
    subst (λ (z : Side). IsFirstHandshake c.args.config.now name c.args.key_id c.args.remote_id c.args.now h z) (sym c.in-Client.is)
    (IsFirstHandshake.client it.ensures.ids.2 parts.3 parts.4 it.ensures.stats
    (subst (λ (z : TransportParameters). IsSomeAnd h.space (IsUnused (hello_bytes (hello_of (greeting Client name z))) Waits c.args.config.now.initial_rtt.0 c.args.now)) (sym parts.0) it.ensures.space))

pub returns-in-Server-clause-begins : goal.returns-in-Server-clause-begins
returns-in-Server-clause-begins g c =
    let parts = c.server.ensures.parts in
    subst (λ (z : Side). IsFirstHandshake c.args.config.now (g.S.Session.name c.args.session.now) c.args.key_id c.args.remote_id c.args.now c.server.result z) (sym c.in-Server.is)
    (IsFirstHandshake.server c.server.ensures.ids.2 parts.3 parts.4 c.server.ensures.stats c.server.ensures.space)
