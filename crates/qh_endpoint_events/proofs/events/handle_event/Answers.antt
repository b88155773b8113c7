use Rattle.std.proofs.Common.{◌≡◌, ◌⊎◌, true, is_some, List, ℕ, Option, Some, None, refl, sym, ◌∙◌, subst, inl, inr}
use Rattle.std.specs.declared.net.socket_addr.SocketAddr.{SocketAddr}
use Rattle.qh_base.specs.declared.shared.ResetToken.{ResetToken as Token}
use Rattle.qh_connections.specs.Connections.{IsConnectionRemoved, PlainConnections, meta_at}
use Rattle.qh_control.specs.declared.event.EndpointEvent.{EndpointEvent}
use Rattle.qh_control.specs.declared.event.EndpointEvent.TheVariants.{Drained, ResetToken}
use Rattle.qh_endpoint_events.specs.Events.{IsDone, IsWanting}
use Rattle.qh_routes.specs.ConnectionMeta.{PlainMeta}
use Rattle.qh_routes.specs.declared.connection_handle.ConnectionHandle.{ConnectionHandle}
use Rattle.qh_endpoint_events.proofs.Issuing.{present}
use Rattle.qh_endpoint_events.proofs.events.handle_event.Goals as goal

live : (o : Option PlainMeta) (event : EndpointEvent) (remote : SocketAddr) (token : Token) → event ≡ ResetToken remote token → (is_some o ≡ true) ⊎ (event ≡ Drained) → is_some o ≡ true
live o event remote token is (inl some) = some
live o event remote token is (inr drained) = let no : ResetToken remote token ≡ Drained = sym is ∙ drained in cc

pub returns-in-Ok-clause-done : goal.returns-in-Ok-clause-done
returns-in-Ok-clause-done g c =
    let r = c.in-ResetToken in
    let e = c.in-Ok.ensures in
    let old = c.args.connections.now in
    let p = present (meta_at old c.args.handle) (live (meta_at old c.args.handle) c.args.event r.remote r.token r.is c.requires) in
    subst (λ (event : EndpointEvent). IsDone g.G.ConnectionIdGenerator.given g.G.ConnectionIdGenerator.cid_len g.G.ConnectionIdGenerator.validates c.args.handle old c.set_reset_token.new.self event None) (sym r.is) (IsDone.token r.remote r.token p.0 p.1 (e.routes p.0 p.1) (e.meta p.0 p.1) e.ids)

forgotten : {G : Type 0} (given : G → List (List ℕ)) (cid_len : G → ℕ) (validates : G → List ℕ → Type 0) (handle : ConnectionHandle) (old new : PlainConnections G) (o : Option PlainMeta) → meta_at old handle ≡ o
    → ((m : PlainMeta) → meta_at old handle ≡ Some m → IsConnectionRemoved old new handle m) → (meta_at old handle ≡ None → new ≡ old) → new.ids ≡ old.ids → IsDone given cid_len validates handle old new Drained None
forgotten given cid_len validates handle old new None is removed absent ids = IsDone.unknown is (absent is)
forgotten given cid_len validates handle old new (Some m) is removed absent ids = IsDone.drained m is (removed m is) ids

pub returns-in-Drained-clause-done : goal.returns-in-Drained-clause-done
returns-in-Drained-clause-done g c =
    let old = c.args.connections.now in
    let e = c.remove.ensures in
    subst (λ (event : EndpointEvent). IsDone g.G.ConnectionIdGenerator.given g.G.ConnectionIdGenerator.cid_len g.G.ConnectionIdGenerator.validates c.args.handle old c.remove.new.self event None) (sym c.in-Drained.is)
    (forgotten g.G.ConnectionIdGenerator.given g.G.ConnectionIdGenerator.cid_len g.G.ConnectionIdGenerator.validates c.args.handle old c.remove.new.self (meta_at old c.args.handle) refl e.removed e.absent e.ids)

pub returns-in-Err-clause-wanting : goal.returns-in-Err-clause-wanting
returns-in-Err-clause-wanting g c = λ e.
    let r = c.in-ResetToken in
    let old = c.args.connections.now in
    subst (λ (event : EndpointEvent). IsWanting g.G.ConnectionIdGenerator.given g.G.ConnectionIdGenerator.cid_len g.G.ConnectionIdGenerator.validates c.args.handle old c.set_reset_token.new.self event) (sym r.is)
    (IsWanting.token r.remote r.token c.in-Err.ensures.fresh c.in-Err.ensures.err)
