-- How an endpoint finds what a datagram belongs to: by an id in it, by the addresses that it came over, or by a reset token at its end
-- (RFC 9000, sections 5.2 and 10.3).
use Rattle.std.specs.Prelude.{◌≡◌, ◌≢◌, ◌⊎◌, ◌↔◌, ℕ, ◌-◌, nat_le, Bool, true, false, List, [], ◌∷◌, ◌++◌, length, drop, Option, Some, None, count_by, if◌then◌else◌}
use Rattle.std.specs.Map.{keys_of as keys_in}
use Rattle.std.specs.declared.net.socket_addr.SocketAddr.{SocketAddr}
use Rattle.qh_base.specs.declared.path.FourTuple.{FourTuple}
use Rattle.qh_spec.specs.Lists.{In, Distinct}
use Rattle.qh_spec.specs.declared.sides.Side.{Side}
use Rattle.qh_spec.specs.declared.sides.Side.TheVariants.{Client, Server}
use Rattle.qh_routes.specs.declared.connection_index.RouteDatagramTo.{RouteDatagramTo}

-- what a route is found by: an id that this end issued, the id that a peer's first packets went to, a pair of addresses, the peer's
-- address, or that with a reset token
pub data RouteKey : Type 0 where
  issued : (id : List ℕ) → RouteKey
  initial : (id : List ℕ) → RouteKey
  pair : (addresses : FourTuple) → RouteKey
  remote : (address : SocketAddr) → RouteKey
  reset : (address : SocketAddr) → (token : List ℕ) → RouteKey

-- each key with what it leads to
abbrev pub Routes : Type 0
Routes = List (RouteKey × RouteDatagramTo)

-- no key stands twice, so each leads to one connection or attempt
pub record NoKeyTwice (routes : Routes) : Type 0 where
  pub distinct : Distinct (keys_in routes)
  pub one : (k : RouteKey) (t u : RouteDatagramTo) → In (k, t) routes → In (k, u) routes → t ≡ u

-- an empty id has no route
pub record HasNoEmptyId (routes : Routes) : Type 0 where
  pub as_issued : (t : RouteDatagramTo) → In (issued [], t) routes → ⊥
  pub as_initial : (t : RouteDatagramTo) → In (initial [], t) routes → ⊥

-- ---- changes

-- the key leads to the target, and each other key where it did
abbrev pub IsAdded : (key : RouteKey) → (target : RouteDatagramTo) → (old new : Routes) → Type 0
IsAdded key target old new = (k : RouteKey) (t : RouteDatagramTo) → In (k, t) new ↔ (((k ≡ key) × (t ≡ target)) ⊎ ((k ≢ key) × In (k, t) old))

-- the key leads no more to the target, and all other routes are as they were, also one from that key to something else
abbrev pub IsRemovedOf : (key : RouteKey) → (target : RouteDatagramTo) → (old new : Routes) → Type 0
IsRemovedOf key target old new = (k : RouteKey) (t : RouteDatagramTo) → In (k, t) new ↔ (((k ≡ key) × (t ≡ target) → ⊥) × In (k, t) old)

-- the same of several keys
abbrev pub AreRemovedOf : (keys : List RouteKey) → (target : RouteDatagramTo) → (old new : Routes) → Type 0
AreRemovedOf keys target old new = (k : RouteKey) (t : RouteDatagramTo) → In (k, t) new ↔ ((In k keys × (t ≡ target) → ⊥) × In (k, t) old)

-- by what a connection with this id of this end's is found from its beginning: by the id, or if that is empty by its addresses, at a client
-- by the peer's alone
abbrev pub conn_key : (addresses : FourTuple) → (id : List ℕ) → Side → RouteKey
conn_key addresses (b ∷ id) side = issued (b ∷ id)
conn_key addresses [] Server = pair addresses
conn_key addresses [] Client = remote addresses.remote

-- the same routes, in whatever order
pub record AreSameRoutes (old new : Routes) : Type 0 where
  pub kept : (k : RouteKey) (t : RouteDatagramTo) → In (k, t) old → In (k, t) new
  pub none_new : (k : RouteKey) (t : RouteDatagramTo) → In (k, t) new → In (k, t) old

-- a server's connection is found by the id that the client's first packets went to, unless that is empty
abbrev pub IsFirstAdded : Side → (init_cid : List ℕ) → (target : RouteDatagramTo) → (old new : Routes) → Type 0
IsFirstAdded Client init_cid target old new = new ≡ old
IsFirstAdded Server [] target old new = new ≡ old
IsFirstAdded Server (b ∷ id) target old new = IsAdded (initial (b ∷ id)) target old new

-- ---- how many ids are issued

abbrev pub is_issued_key : RouteKey → Bool
is_issued_key (issued id) = true
is_issued_key (initial id) = false
is_issued_key (pair addresses) = false
is_issued_key (remote address) = false
is_issued_key (reset address token) = false

-- how many ids that this end issued have a route
abbrev pub issued_count : Routes → ℕ
issued_count routes = count_by (λ (r : RouteKey × RouteDatagramTo). is_issued_key r.0) routes

-- ---- what a datagram is found by

-- by the id that it goes to, as one that this end issued, and if it is one of a connection's first packets also as one that a client chose
abbrev pub id_keys : (id : List ℕ) → (is_first : Bool) → List RouteKey
id_keys id true = issued id ∷ initial id ∷ []
id_keys id false = issued id ∷ []

-- by the addresses that it came over
abbrev pub address_keys : FourTuple → List RouteKey
address_keys addresses = pair addresses ∷ remote addresses.remote ∷ []

-- by its addresses if the id is empty
abbrev pub connection_keys : (addresses : FourTuple) → (dst_cid : List ℕ) → (is_first : Bool) → List RouteKey
connection_keys addresses [] is_first = address_keys addresses
connection_keys addresses (b ∷ id) is_first = id_keys (b ∷ id) is_first

-- by its last 16 bytes, as a reset token
abbrev pub reset_keys : (address : SocketAddr) → (bytes : List ℕ) → List RouteKey
reset_keys address bytes = if nat_le 16 (length bytes) then reset address (drop (length bytes - 16) bytes) ∷ [] else []

-- what it is looked up by, in order
abbrev pub keys_of : (addresses : FourTuple) → (dst_cid : List ℕ) → (is_first : Bool) → (bytes : List ℕ) → List RouteKey
keys_of addresses dst_cid is_first bytes = connection_keys addresses dst_cid is_first ++ reset_keys addresses.remote bytes

-- the first of the keys that has a route leads to the answer, which is None if none has one
pub data IsRouted (routes : Routes) : List RouteKey → Option RouteDatagramTo → Type 0 where
  none : IsRouted routes [] None
  found : {k : RouteKey} {keys : List RouteKey} {t : RouteDatagramTo} → In (k, t) routes → IsRouted routes (k ∷ keys) (Some t)
  next : {k : RouteKey} {keys : List RouteKey} {answer : Option RouteDatagramTo} → ((t : RouteDatagramTo) → In (k, t) routes → ⊥) → IsRouted routes keys answer → IsRouted routes (k ∷ keys) answer
