-- How a connection begins, or is refused.
use Prim.Native.Nat.compare
use lib.Dec.{compare_is_eq}
use Rattle.std.proofs.Common.{◌≡◌, ◌↔◌, ◌==◌, ℕ, Bool, true, false, not, IsTrue, List, [], ◌∷◌, length, None, inl, refl, sym, ap, ◌∙◌, subst}
use Rattle.std.specs.Prelude.{Contains}
use Rattle.std.specs.declared.net.socket_addr.SocketAddr.{SocketAddr}
use Rattle.qh_base.specs.declared.path.FourTuple.{FourTuple}
use Rattle.qh_base.specs.declared.time.Moment.{Moment}
use Rattle.qh_conn.specs.declared.config.ConnConfig.{ConnConfig}
use Rattle.qh_conn.specs.declared.connection.Connection.{Connection}
use Rattle.qh_connections.specs.Connections.{AreExhausted, IsConnectionAdded, IsKept, PlainConnections}
use Rattle.qh_connections.specs.Ids.{IsFreshId, IsSameSource}
use Rattle.qh_endpoint.specs.Connecting.{IsConnectRefused, IsConnected, IsFirstConnection, IsNoName, IsNowhere, MayDraw, conn_of, wanting}
use Rattle.qh_endpoint.specs.Endpoint.{PlainEndpoint, numbers}
use Rattle.qh_kit.specs.declared.config.ClientConfig.{ClientConfig}
use Rattle.qh_kit.specs.declared.config.EndpointConfig.{EndpointConfig}
use Rattle.qh_kit.specs.declared.error.ConnectError.TheVariants.{Memory}
use Rattle.qh_packet.specs.Version.{number_of}
use Rattle.qh_packet.specs.declared.version.Version.{Version}
use Rattle.qh_routes.specs.Routes.{issued_count}
use Rattle.qh_routes.specs.declared.connection_handle.ConnectionHandle.{ConnectionHandle}
use Rattle.qh_spec.specs.declared.sides.Side.{Side}
use Rattle.qh_spec.specs.declared.sides.Side.TheVariants.{Client}

-- only the ids that were given differ
pub only_ids : {K G R T : Type 0} (old : PlainEndpoint K G R T) (mid : PlainConnections G) → mid ≡ record old.connections { ids = mid.ids }
    → record old { connections = mid } ≡ record old { connections = record old.connections { ids = mid.ids } }
only_ids {G = G} old mid e = ap (λ (n : PlainConnections G). record old { connections = n }) e

-- and the kit
pub only_kit_ids : {K G R T : Type 0} (old : PlainEndpoint K G R T) (kit : K) (mid : PlainConnections G) → mid ≡ record old.connections { ids = mid.ids }
    → record old { kit = kit; connections = mid } ≡ record old { kit = kit; connections = record old.connections { ids = mid.ids } }
only_kit_ids {G = G} old kit mid e = ap (λ (n : PlainConnections G). record old { kit = kit; connections = n }) e

-- the ids that were drawn come from one source
pub same_source : {G : Type 0} (cid_len : G → ℕ) (validates : G → List ℕ → Type 0) (old mid new : G) → IsSameSource cid_len validates old mid → new ≡ mid → IsSameSource cid_len validates old new
same_source cid_len validates old mid new same e = subst (IsSameSource cid_len validates old) (sym e) same

pub source_through : {G : Type 0} (cid_len : G → ℕ) (validates : G → List ℕ → Type 0) (old mid after new : G) → IsSameSource cid_len validates old mid → after ≡ mid → IsSameSource cid_len validates after new → IsSameSource cid_len validates old new
source_through {G = G} cid_len validates old mid after new first e later =
    let second = subst (λ (z : G). IsSameSource cid_len validates z new) e later in
    record { same_len = second.same_len ∙ first.same_len; kept = λ id valid. second.kept id (first.kept id valid) }

-- what a test that answered no decides isn't so
pub never : {P : Type 0} → (IsTrue false ↔ P) → P → ⊥
never e p = let is = e.1 p in cc

-- whether the endpoint has the version
pub is_listed : (versions : List ℕ) (number : ℕ) (config : EndpointConfig) (version : Version) (b : Bool) → versions ≡ numbers config → number ≡ number_of version → (IsTrue b ↔ Contains versions number)
    → IsTrue b ↔ Contains (numbers config) (number_of version)
is_listed versions number config version b are is e = subst (λ (z : List ℕ). IsTrue b ↔ Contains z (number_of version)) are (subst (λ (z : ℕ). IsTrue b ↔ Contains versions z) is e)

-- none of the three tests holds
pub may_draw : {K G R T S : Type 0} (id_length : ℕ) (given : G → List (List ℕ)) (validates : G → List ℕ → Type 0) (key name : S → List ℕ) (knows : S → Bool) (now : Moment) (config : ClientConfig) (remote : SocketAddr) (server_name : List ℕ) (old : PlainEndpoint K G R T)
    (versions : List ℕ) (number : ℕ) → versions ≡ numbers old.config → number ≡ number_of config.version → (IsTrue false ↔ AreExhausted id_length (issued_count old.connections.routes)) → (IsTrue false ↔ IsNowhere remote) → (IsTrue true ↔ Contains versions number)
    → MayDraw {S = S} id_length given validates key name knows now config remote server_name old
may_draw id_length given validates key name knows now config remote server_name old versions number are is left somewhere listed =
    record { some_left = never left; somewhere = never somewhere; spoken = (is_listed versions number old.config config.version true are is listed).0 refl }

-- a name that names a server isn't empty
is_named : (server_name : List ℕ) → (IsNoName server_name → ⊥) → not (length server_name == 0) ≡ true
is_named [] named = absurd (named (inl refl))
is_named (b ∷ rest) named = ap (λ o. not (compare_is_eq o)) (compare.suc-zero (length rest))

module _ {K G R T S : Type 0} (id_length : ℕ) (given : G → List (List ℕ)) (validates : G → List ℕ → Type 0) (key name : S → List ℕ) (knows : S → Bool) (now : Moment) (config : ClientConfig) (remote : SocketAddr) (server_name : List ℕ)
    (old new : PlainEndpoint K G R T) (mid : PlainConnections G) (may : MayDraw {S = S} id_length given validates key name knows now config remote server_name old)
    (drawn : mid ≡ record old.connections { ids = mid.ids }) (named : IsNoName server_name → ⊥) (rest : new ≡ record old { kit = new.kit; connections = new.connections }) where
  pub wanting_of : (id : List ℕ) → IsFreshId old.connections.routes (given old.connections.ids) (given mid.ids) id → new.connections.ids ≡ mid.ids → IsKept mid new.connections → IsConnectRefused {S = S} id_length given validates key name knows now config remote server_name old new Memory
  wanting_of id fresh same kept = wanting id may (subst (λ (z : G). IsFreshId old.connections.routes (given old.connections.ids) (given z) id) (sym same) fresh) named (let k = subst (λ (z : PlainConnections G). IsKept z new.connections) drawn kept in record { routes = k.routes; metas = k.metas }) rest

  pub connected_of : (handle : ConnectionHandle) (connection : Connection S) (id : List ℕ) → IsFreshId old.connections.routes (given old.connections.ids) (given mid.ids) id → length id ≡ id_length → validates mid.ids id → new.connections.ids ≡ mid.ids
      → (session : S) × (key session ≡ config.initial_dst_cid) × (name session ≡ server_name) × (knows session ≡ not (length server_name == 0))
      × IsFirstConnection name (conn_of config) Client session config.initial_dst_cid id config.initial_dst_cid (record { remote = remote; local_ip = None }) now connection
      → IsConnectionAdded mid new.connections handle Client config.initial_dst_cid id (record { remote = remote; local_ip = None })
      → IsConnected {S = S} id_length given validates key name knows now config remote server_name old new handle connection
  connected_of handle connection id fresh size own same first added =
      record {
        may = may;
        named = named;
        local_id = id;
        fresh = subst (λ (z : G). IsFreshId old.connections.routes (given old.connections.ids) (given z) id) (sym same) fresh;
        size = size;
        own = subst (λ (z : G). validates z id) (sym same) own;
        session = first.0;
        key_is = first.1;
        name_is = first.2;
        knows_is = first.3 ∙ is_named server_name named;
        added = subst (λ (z : PlainConnections G). IsConnectionAdded z new.connections handle Client config.initial_dst_cid id (record { remote = remote; local_ip = None }))
            (drawn ∙ ap (λ (z : G). record old.connections { ids = z }) (sym same)) added;
        first = first.4;
        rest = rest;
      }

-- the settings are those that the contract names
pub first_of : {S : Type 0} (name : S → List ℕ) (config other : ConnConfig) (side : Side) (session : S) (key_id local_id remote_id : List ℕ) (addresses : FourTuple) (now : Moment) (c : Connection S)
    → other ≡ config → IsFirstConnection name other side session key_id local_id remote_id addresses now c → IsFirstConnection name config side session key_id local_id remote_id addresses now c
first_of name config other side session key_id local_id remote_id addresses now c e first = subst (λ (z : ConnConfig). IsFirstConnection name z side session key_id local_id remote_id addresses now c) e first
