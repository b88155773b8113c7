-- An end that opens now did nothing yet.
use Rattle.std.proofs.Common.{◌≡◌, ◌≤◌, ◌^◌, ℕ, List, [], true, Option, Some, None, Result, Ok, Err, IfOk, refl, sym, ◌∙◌, ap, subst, length}
use Rattle.std.specs.Prelude.{min}
use Rattle.std.specs.Option.{option_map}
use Rattle.std.proofs.lemmas.Bool.{false≢true}
use Rattle.qh_base.specs.declared.memory.Memory.{Memory}
use Rattle.qh_base.specs.declared.path.FourTuple.{FourTuple}
use Rattle.qh_base.specs.declared.time.Moment.{Moment}
use Rattle.qh_conn.specs.Parameters.{IsFirstCore, IsFirstHandshake, IsSaid, first_control}
use Rattle.qh_conn.specs.Parameters.{IsFirstHandshake as first}
use Rattle.qh_conn.specs.Whole.{IsWhole, Stands as ConnStands}
use Rattle.qh_conn.specs.declared.config.ConnConfig.{ConnConfig}
use Rattle.qh_converse.specs.Settled.{milliseconds}
use Rattle.qh_core.specs.Inner.{is_open}
use Rattle.qh_core.specs.Made.{AcceptsTags, MakesTagsOf}
use Rattle.qh_core.specs.declared.inner.Inner.{Inner}
use Rattle.qh_handshake.specs.Follows.{IsFresh}
use Rattle.qh_handshake.specs.declared.handshake.Handshake.{Handshake}
use Rattle.qh_hello.specs.Greetings.{limits_of}
use Rattle.qh_hello.specs.declared.transport_parameters.TransportParameters.{TransportParameters}
use Rattle.qh_packet.specs.Session.{PlainKeys, plain_accepts, plain_sealed}
use Rattle.qh_peers.specs.Ends.{IsHonestEnd, SaysItsOwn}
use Rattle.qh_peers.specs.Greets.{CanBeGreeted}
use Rattle.qh_spec.specs.Lawful.{Lawful}
use Rattle.qh_spec.specs.declared.sides.Side.{Side}
use Rattle.qh_spec.specs.declared.sides.Side.TheVariants.{Client, Server}
use Rattle.qh_pair.specs.Ends.{End, HasKept, first_destination, own_id}
use Rattle.qh_pair.specs.Hellos.{first_limits}
use Rattle.qh_pair.specs.Steps.{IsNewEnd}
use Rattle.qh_pair.specs.Timed.{IsTimedBy}
use Rattle.qh_pair.specs.declared.ends.Ids.{Ids}
use Rattle.qh_pair.proofs.KeptLaws.{not_nothing}
use Rattle.qh_pair.proofs.KeptOpen.{LawfulOpen}

-- what `can_greet` says of an end before its first datagram
abbrev pub FreshCan : Type 0
FreshCan = (hello : List ℕ) (own peer : Handshake) → IsFresh hello own → (own.knows_peer ≡ true → own.remote_id ≡ peer.local_id) → CanBeGreeted own peer

pub key_of_ok : (s r : PlainKeys) → ◌≡◌ {A = Result PlainKeys Memory} (Ok s) (Ok r) → s.key_id ≡ r.key_id
key_of_ok s r e = let same : s ≡ r = cc in ap (λ (z : PlainKeys). z.key_id) same

-- what `honest_ends` and `says_its_own` say of an end before its first datagram
abbrev pub FreshHonest : Type 0
FreshHonest = (accepts : AcceptsTags PlainKeys) (sealed : MakesTagsOf PlainKeys) (config : ConnConfig) (side : Side) (session : PlainKeys) (hello local_id remote_id : List ℕ) (addresses : FourTuple) (now : Moment) (c : End)
    → IsWhole c → ConnStands accepts sealed hello c [] → IsFirstCore config side session local_id remote_id addresses now c.core → SaysItsOwn c
    → c.control ≡ first_control config local_id remote_id addresses.remote c.control.queue.room → IsHonestEnd accepts sealed hello c []

abbrev pub SaysOwn : Type 0
SaysOwn = (config : ConnConfig) (side : Side) (key_id : List ℕ) (c : End) → IsSaid config side c.handshake.local_id key_id c.handshake.parameters → c.config ≡ config → c.core.config.limits ≡ config.limits
    → c.core.config.datagram_receive ≡ config.datagram_receive → (config.limits.max_bidi ≤ 2 ^ 60) × (config.limits.max_uni ≤ 2 ^ 60) → SaysItsOwn c

pub said_idle : (config : ConnConfig) (side : Side) (id key : List ℕ) (p : TransportParameters) → IsSaid config side id key p → p.max_idle_timeout ≡ milliseconds config.idle
said_idle config Client id key p s = ap (λ (z : TransportParameters). z.max_idle_timeout) s.is
said_idle config Server id key p s = ap (λ (z : TransportParameters). z.max_idle_timeout) s.is

pub said_limits : (config : ConnConfig) (side : Side) (id key : List ℕ) (p : TransportParameters) → IsSaid config side id key p → limits_of p ≡ first_limits config
said_limits config Client id key p s = ap limits_of s.is
said_limits config Server id key p s = ap limits_of s.is

pub said_ids : (config : ConnConfig) (side : Side) (id key : List ℕ) (p : TransportParameters) → IsSaid config side id key p → p.active_connection_id_limit ≡ 8
said_ids config Client id key p s = ap (λ (z : TransportParameters). z.active_connection_id_limit) s.is
said_ids config Server id key p s = ap (λ (z : TransportParameters). z.active_connection_id_limit) s.is

pub said_datagram : (config : ConnConfig) (side : Side) (id key : List ℕ) (p : TransportParameters) → IsSaid config side id key p
    → p.max_datagram_frame_size ≡ option_map (λ (most : ℕ). min most 1200) config.datagram_receive
said_datagram config Client id key p s = ap (λ (z : TransportParameters). z.max_datagram_frame_size) s.is
said_datagram config Server id key p s = ap (λ (z : TransportParameters). z.max_datagram_frame_size) s.is

pub said_source : (config : ConnConfig) (side : Side) (id key : List ℕ) (p : TransportParameters) → IsSaid config side id key p → p.initial_source_connection_id ≡ id
said_source config Client id key p s = ap (λ (z : TransportParameters). z.initial_source_connection_id) s.is
said_source config Server id key p s = ap (λ (z : TransportParameters). z.initial_source_connection_id) s.is

none_some : (p : TransportParameters) → ◌≡◌ {A = Option TransportParameters} None (Some p) → ⊥
none_some p e = cc

timed_first : (config : ConnConfig) (side : Side) (id key : List ℕ) (c : End) → IsSaid config side id key c.handshake.parameters → c.handshake.peer ≡ None → c.core.idle.timeout ≡ config.idle → IsTimedBy config.idle c
timed_first config side id key c s unknown idle = record {
  said = said_idle config side id key c.handshake.parameters s;
  ungreeted = λ up none2. idle;
  greeted = λ p up is. absurd (none_some p (sym unknown ∙ is));
}

kept_first : LawfulOpen → (side : Side) (k : ℕ) (hello : List ℕ) (c : End) → c.core.side ≡ side → length c.core.local_id ≡ k → is_open c.core.state ≡ true → ConnStands plain_accepts plain_sealed hello c [] → HasKept side k c []
kept_first lawful side k hello c side_is long up stands = record {
  lawful = λ n fits. subst (λ (z : ℕ). Lawful side z n []) long (subst (λ (z : Side). Lawful z (length c.core.local_id) n []) side_is
      (lawful plain_accepts plain_sealed hello c.handshake c.core c.is_connected [] up stands n fits));
  within = λ n fits before after d e id end takes. absurd (not_nothing before after d e);
}

own_long : (side : Side) (ids : Ids) → length ids.server ≡ length ids.client → length (own_id side ids) ≡ length ids.client
own_long Client ids e = refl
own_long Server ids e = e

-- the id to which an end's first packets go, of those that it is made with
abbrev first_id : (side : Side) → (key remote : List ℕ) → List ℕ
first_id Client key remote = key
first_id Server key remote = remote

first_goes : (side : Side) (ids : Ids) (remote : List ℕ) → remote ≡ first_destination side ids → first_id side ids.key remote ≡ first_destination side ids
first_goes Client ids remote e = refl
first_goes Server ids remote e = e

-- what the parts of a new end are
pub record IsNewWith (side : Side) (config : ConnConfig) (session : PlainKeys) (key local remote : List ℕ) (addresses : FourTuple) (now : Moment) (c : End) : Type 0 where
  pub whole : IsWhole c
  pub hello : List ℕ
  pub stands : ConnStands plain_accepts plain_sealed hello c []
  pub side_is : c.handshake.side ≡ side
  pub local_is : c.handshake.local_id ≡ local
  pub original_is : c.handshake.original_id ≡ key
  pub unretried : c.handshake.retry_id ≡ None
  pub unknown : c.handshake.peer ≡ None
  pub goes_to : c.handshake.remote_id ≡ first_id side key remote
  pub said : IsSaid config side local key c.handshake.parameters
  pub core : IsFirstCore config side session local remote addresses now c.core
  pub config_is : c.config ≡ config
  pub control : c.control ≡ first_control config local remote addresses.remote c.control.queue.room
  pub can : (peer : Handshake) → (side ≡ Server → peer.local_id ≡ remote) → CanBeGreeted c.handshake peer

pub new_end_of : FreshHonest → SaysOwn → LawfulOpen → (side : Side) (ids : Ids) (config : ConnConfig) (now : Moment) (session : PlainKeys) (local remote : List ℕ) (addresses : FourTuple) (c : End)
    → IsNewWith side config session ids.key local remote addresses now c → local ≡ own_id side ids → remote ≡ first_destination side ids → length ids.server ≡ length ids.client → session.key_id ≡ ids.key → IsNewEnd side ids config now c
new_end_of fresh says lawful side ids config now session local remote addresses c w own there lengths key =
    let core = w.core.is in
    let said : IsSaid config side (own_id side ids) ids.key c.handshake.parameters = subst (λ (z : List ℕ). IsSaid config side z ids.key c.handshake.parameters) own w.said in
    let side_is : c.core.side ≡ side = ap (λ (z : Inner PlainKeys). z.side) core in
    let local_is : c.core.local_id ≡ own_id side ids = ap (λ (z : Inner PlainKeys). z.local_id) core ∙ own in
    let up : is_open c.core.state ≡ true = ap (λ (z : Inner PlainKeys). is_open z.state) core in
    record {
      of = record {
        as_long = own_long side ids lengths;
        config_is = w.config_is;
        side_is = side_is;
        local_is = local_is;
        original_is = w.original_is;
        said = said;
        whole = w.whole;
      };
      hello = w.hello;
      stands = w.stands;
      kept = kept_first lawful side (length ids.client) w.hello c side_is (ap length local_is ∙ own_long side ids lengths) up w.stands;
      honest = λ fits. fresh plain_accepts plain_sealed config side session w.hello local remote addresses now c w.whole w.stands w.core
          (says config side ids.key c (subst (λ (z : List ℕ). IsSaid config side z ids.key c.handshake.parameters) (sym w.local_is) w.said) w.config_is (ap (λ (z : Inner PlainKeys). z.config.limits) core)
          (ap (λ (z : Inner PlainKeys). z.config.datagram_receive) core) fits) w.control;
      key_is = ap (λ (z : Inner PlainKeys). z.session.key_id) core ∙ key;
      unretried = w.unretried;
      unknown = w.unknown;
      there = w.goes_to ∙ first_goes side ids remote there;
      opened = (w.core.space.counts true).0;
      accepted = (w.core.space.counts true).1;
      since = ap (λ (z : Inner PlainKeys). z.idle.since) core;
      timed = timed_first config side (own_id side ids) ids.key c said w.unknown (ap (λ (z : Inner PlainKeys). z.idle.timeout) core);
      not_lost = ap (λ (z : Inner PlainKeys). z.error) core;
      up = up;
      can = λ peer named. w.can peer (λ is. named is ∙ sym (there ∙ ap (λ (z : Side). first_destination z ids) is));
    }

goes_first : (config : ConnConfig) (name key remote : List ℕ) (now : Moment) (h : Handshake) (side : Side) → IsFirstHandshake config name key remote now h side → h.remote_id ≡ first_id side key remote
goes_first config name key remote now h _ (first.client goes knows valid stats space) = goes
goes_first config name key remote now h _ (first.server goes knows valid stats space) = goes

can_first : FreshCan → (config : ConnConfig) (name key remote hello : List ℕ) (now : Moment) (h : Handshake) (side : Side) → IsFresh hello h → IsFirstHandshake config name key remote now h side
    → (peer : Handshake) → (side ≡ Server → peer.local_id ≡ remote) → CanBeGreeted h peer
can_first can config name key remote hello now h _ fresh (first.client goes knows valid stats space) peer named = can hello h peer fresh (λ known. absurd (false≢true (sym knows ∙ known)))
can_first can config name key remote hello now h _ fresh (first.server goes knows valid stats space) peer named = can hello h peer fresh (λ known. goes ∙ sym (named refl))

-- what the contract of `new` says of the handshake that the end begins with
abbrev pub BeginsWith : (side : Side) → (key local : List ℕ) → End → Type 0
BeginsWith side key local c = (c.handshake.side ≡ side) × (c.handshake.local_id ≡ local) × (c.handshake.original_id ≡ key) × (c.handshake.retry_id ≡ None) × (c.handshake.token ≡ []) × (c.handshake.peer ≡ None)

abbrev pub StandsFirst : End → Type 0
StandsFirst c = (hello : List ℕ) × IsFresh hello c.handshake × ((accepts : AcceptsTags PlainKeys) (sealed : MakesTagsOf PlainKeys) → ConnStands accepts sealed hello c [])

pub new_end : FreshHonest → FreshCan → SaysOwn → LawfulOpen → (side : Side) (ids : Ids) (config : ConnConfig) (now : Moment) (session : PlainKeys) (name local remote : List ℕ) (addresses : FourTuple) (r : Result End Memory)
    → IfOk r (λ c. IsWhole c) → IfOk r StandsFirst → IfOk r (BeginsWith side ids.key local) → IfOk r (λ c. IsFirstHandshake config name ids.key remote now c.handshake side)
    → IfOk r (λ c. IsSaid config side local ids.key c.handshake.parameters) → IfOk r (λ c. IsFirstCore config side session local remote addresses now c.core) → IfOk r (λ c. c.config ≡ config)
    → IfOk r (λ c. c.control ≡ first_control config local remote addresses.remote c.control.queue.room)
    → local ≡ own_id side ids → remote ≡ first_destination side ids → length ids.server ≡ length ids.client → session.key_id ≡ ids.key → IfOk r (IsNewEnd side ids config now)
new_end fresh able says lawful side ids config now session name local remote addresses (Err e) whole stands handshake begins said core parts control own there lengths key = tt
new_end fresh able says lawful side ids config now session name local remote addresses (Ok c) whole stands handshake begins said core parts control own there lengths key =
    new_end_of fresh says lawful side ids config now session local remote addresses c
    (record {
      whole = whole;
      hello = stands.0;
      stands = stands.2 plain_accepts plain_sealed;
      side_is = handshake.0;
      local_is = handshake.1;
      original_is = handshake.2;
      unretried = handshake.3;
      unknown = handshake.5;
      goes_to = goes_first config name ids.key remote now c.handshake side begins;
      said = said;
      core = core;
      config_is = parts;
      control = control;
      can = can_first able config name ids.key remote stands.0 now c.handshake side stands.1 begins;
    }) own there lengths key
