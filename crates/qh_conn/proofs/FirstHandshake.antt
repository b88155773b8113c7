-- A handshake before its first datagram.
use Rattle.std.proofs.Common.{◌≡◌, inl, inr, ℕ, Bool, true, false, List, [], length, Option, Some, None, is_some, refl, sym, ap, subst, ◌∙◌}
use Rattle.std.specs.Prelude.{IsSomeAnd, not, ◌&&◌}
use Rattle.qh_base.specs.declared.time.Moment.{Moment}
use Rattle.qh_conn.specs.Parameters.{IsSaid, with_key}
use Rattle.qh_conn.specs.declared.config.ConnConfig.{ConnConfig}
use Rattle.qh_converse.proofs.AccordKept.{shake_accorded}
use Rattle.qh_converse.proofs.OrderSteps.{same_orders}
use Rattle.qh_converse.specs.Converses.{Converses, progress_of}
use Rattle.qh_converse.specs.Parts.IsShakeOf.{none as no_shake}
use Rattle.qh_converse.specs.Settled.{milliseconds}
use Rattle.qh_core.specs.Inner.{is_client}
use Rattle.qh_core.specs.Made.{AcceptsTags, MakesTagsOf}
use Rattle.qh_core.specs.declared.inner.Inner.{Inner}
use Rattle.qh_handshake.proofs.FollowsOn.{fresh_follows}
use Rattle.qh_handshake.proofs.SendsOn.{fresh_sends}
use Rattle.qh_handshake.specs.Follows.{IsFresh, IsItsHello}
use Rattle.qh_handshake.specs.InitialSpace.{IsUnused}
use Rattle.qh_handshake.specs.declared.handshake.Handshake.{Handshake}
use Rattle.qh_handshake.specs.declared.initial_space.HelloState.{HelloState}
use Rattle.qh_handshake.specs.declared.initial_space.HelloState.TheVariants.{Held, Waits}
use Rattle.qh_handshake.specs.declared.initial_space.InitialSpace.{InitialSpace}
use Rattle.qh_hello.specs.Greetings.{greeting}
use Rattle.qh_hello.specs.declared.transport_parameters.TransportParameters.{TransportParameters}
use Rattle.qh_spec.specs.Hello.{IsSayable, hello_bytes, hello_of}
use Rattle.qh_spec.specs.declared.sides.Side.{Side}
use Rattle.qh_spec.specs.declared.sides.Side.TheVariants.{Client, Server}

-- what is said of a space that is there
there_is : (o : Option InitialSpace) (P : InitialSpace → Type 0) → IsSomeAnd o P → (s : InitialSpace) × (o ≡ Some s) × P s
there_is None P p = absurd p
there_is (Some s) P p = (s, refl, p)

unused_as : (hello : List ℕ) (state : HelloState) (rtt : ℕ) (now : Moment) (s : InitialSpace) → IsUnused hello state rtt now s → IsUnused s.hello state rtt now s
unused_as hello state rtt now s u = subst (λ (z : List ℕ). IsUnused z state rtt now s) (sym u.hello_is) u

pub client_fresh : (h : Handshake) (name : List ℕ) (rtt : ℕ) (now : Moment) → h.side ≡ Client → IsSayable (greeting Client name h.parameters)
    → IsSomeAnd h.space (IsUnused (hello_bytes (hello_of (greeting Client name h.parameters))) Waits rtt now) → h.peer ≡ None → h.bytes_received ≡ 0 → h.bytes_sent ≡ 0
    → IsFresh (hello_bytes (hello_of (greeting Client name h.parameters))) h
client_fresh h name rtt now side sayable space peer received sent =
    let it = there_is h.space (IsUnused (hello_bytes (hello_of (greeting Client name h.parameters))) Waits rtt now) space in
    let own : IsItsHello (hello_bytes (hello_of (greeting Client name h.parameters))) Client h.parameters = record { name = name; unnamed = λ e. cc; sayable = sayable; is = refl } in
    record {
      own = subst (λ (z : Side). IsItsHello (hello_bytes (hello_of (greeting Client name h.parameters))) z h.parameters) (sym side) own;
      space = it.0;
      space_is = it.1;
      kept = inr it.2.hello_is;
      state = Waits;
      initial_rtt = rtt;
      now = now;
      unused = unused_as _ Waits rtt now it.0 it.2;
      ungreeted = peer;
      received = received;
      sent = sent;
    }

pub server_fresh : (h : Handshake) (rtt : ℕ) (now : Moment) → h.side ≡ Server → IsSayable (greeting Server [] h.parameters)
    → IsSomeAnd h.space (IsUnused [] Held rtt now) → h.peer ≡ None → h.bytes_received ≡ 0 → h.bytes_sent ≡ 0
    → IsFresh (hello_bytes (hello_of (greeting Server [] h.parameters))) h
server_fresh h rtt now side sayable space peer received sent =
    let it = there_is h.space (IsUnused [] Held rtt now) space in
    let own : IsItsHello (hello_bytes (hello_of (greeting Server [] h.parameters))) Server h.parameters = record { name = []; unnamed = λ e. refl; sayable = sayable; is = refl } in
    record {
      own = subst (λ (z : Side). IsItsHello (hello_bytes (hello_of (greeting Server [] h.parameters))) z h.parameters) (sym side) own;
      space = it.0;
      space_is = it.1;
      kept = inl side;
      state = Held;
      initial_rtt = rtt;
      now = now;
      unused = unused_as _ Held rtt now it.0 it.2;
      ungreeted = peer;
      received = received;
      sent = sent;
    }

-- a handshake that is made another before its first datagram, and says the same idle time
pub refreshed : {S : Type 0} (accepts : AcceptsTags S) (sealed : MakesTagsOf S) (hello own : List ℕ) (h new : Handshake) (c : Inner S) (k : Bool) → IsFresh own new → new.side ≡ h.side → new.local_id ≡ h.local_id → new.peer ≡ h.peer
    → new.parameters.max_idle_timeout ≡ h.parameters.max_idle_timeout → Converses accepts sealed hello h c k [] → Converses accepts sealed own new c k []
refreshed accepts sealed hello own h new c k fresh side id peer idle p =
    let none : h.peer ≡ None = sym peer ∙ fresh.ungreeted in
    record {
      shake = [];
      is_shake = no_shake;
      follows = fresh_follows own new fresh;
      sends = fresh_sends own new fresh;
      part = p.part;
      is_part = p.is_part;
      begun = record {
        side_is = p.begun.side_is ∙ sym side;
        id_is = p.begun.id_is ∙ sym id;
        behaves = p.begun.behaves;
        accords = shake_accorded accepts sealed h new c p.part (λ greeted. ap is_some peer ∙ greeted) p.begun.accords;
        short = p.begun.short;
        not_yet = λ _. p.begun.not_yet none;
        settled = λ q e up. let z : None ≡ Some q = sym fresh.ungreeted ∙ e in cc;
        unsettled = λ _. p.begun.unsettled none ∙ sym idle;
        runs = p.begun.runs;
      };
      orders = λ n _.
          same_orders (length c.local_id) n (progress_of h k) (progress_of new k) [] side (ap is_some peer) (ap (λ (s : Side). k && not (is_client s)) side)
          (p.orders n (λ e. let z : true ≡ false = sym e ∙ ap is_some none in cc));
    }

with_key_idle : (side : Side) (key_id : List ℕ) (p : TransportParameters) → (with_key side key_id p).max_idle_timeout ≡ p.max_idle_timeout
with_key_idle Client key_id p = refl
with_key_idle Server key_id p = refl

-- an end says the idle time of its config
pub said_idle : (c : ConnConfig) (side : Side) (id key_id : List ℕ) (p : TransportParameters) → IsSaid c side id key_id p → p.max_idle_timeout ≡ milliseconds c.idle
said_idle c side id key_id p s = ap (λ (z : TransportParameters). z.max_idle_timeout) s.is ∙ with_key_idle side key_id _
