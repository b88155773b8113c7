-- How the routes are kept: in five maps.
use Rattle.std.specs.Prelude.{◌≡◌, ◌≢◌, ◌⊎◌, ℕ, Bool, cond, List, ◌++◌, map, Some, None}
use Rattle.std.specs.declared.cmp.Ordering.{Ordering}
use Rattle.std.specs.declared.net.socket_addr.SocketAddr.{SocketAddr}
use Rattle.std.specs.contracts.net.socket_addr.SocketAddrOrd.TheImpl as socket_order
use Rattle.std.specs.List.{IsDistinct}
use Rattle.std.specs.List.Sorted.{IsStrictlySortedBy}
use Rattle.std.specs.Map.{keys_of as keys_in, lookup}
use Rattle.qh_base.specs.contracts.shared.ConnectionIdOrd.TheImpl as id_order
use Rattle.qh_base.specs.contracts.shared.ConnectionIdPartialEq.TheImpl as id_equality
use Rattle.qh_routes.specs.declared.connection_handle.ConnectionHandle.{ConnectionHandle}
use Rattle.qh_routes.specs.declared.connection_index.RouteDatagramTo.{RouteDatagramTo}
use Rattle.qh_routes.specs.declared.connection_index.RouteDatagramTo.TheVariants.{Connection}
use Rattle.qh_routes.specs.declared.route_keys.PathKey.{PathKey}
use Rattle.qh_routes.specs.declared.route_keys.ResetKey.{ResetKey}
use Rattle.qh_routes.specs.contracts.route_keys.PathKeyOrd.TheImpl as path_order
use Rattle.qh_routes.specs.contracts.route_keys.ResetKeyOrd.TheImpl as reset_order
use Rattle.qh_routes.specs.Routes.{RouteKey, issued, initial, pair, remote, reset, Routes, HasNoEmptyId}

abbrev pub id_eq : List ℕ → List ℕ → Bool
id_eq = (id_equality.ghosts).eq

abbrev pub id_cmp : List ℕ → List ℕ → Ordering
id_cmp = (id_order.ghosts).cmp

abbrev pub path_cmp : PathKey → PathKey → Ordering
path_cmp = (path_order.ghosts).cmp

abbrev pub socket_cmp : SocketAddr → SocketAddr → Ordering
socket_cmp = (socket_order.ghosts).cmp

abbrev pub reset_cmp : ResetKey → ResetKey → Ordering
reset_cmp = (reset_order.ghosts).cmp

-- what the maps have
pub record Maps : Type 0 where
  pub ids : List (List ℕ × ConnectionHandle)
  pub initials : List (List ℕ × RouteDatagramTo)
  pub pairs : List (PathKey × ConnectionHandle)
  pub remotes : List (SocketAddr × ConnectionHandle)
  pub tokens : List (ResetKey × ConnectionHandle)

-- a map's entries as routes
abbrev pub part : {K X : Type 0} → (K → RouteKey) → (X → RouteDatagramTo) → List (K × X) → Routes
part key target entries = map (λ e. (key e.0, target e.1)) entries

abbrev pub pair_key : PathKey → RouteKey
pair_key p = pair (record { remote = p.remote; local_ip = p.local_ip })

abbrev pub reset_key : ResetKey → RouteKey
reset_key r = reset r.remote r.token.0

abbrev pub itself : RouteDatagramTo → RouteDatagramTo
itself t = t

-- the content of the five maps as one list
abbrev pub routes_of : Maps → Routes
routes_of m = part issued Connection m.ids ++ (part initial itself m.initials ++ (part pair_key Connection m.pairs ++ (part remote Connection m.remotes ++ part reset_key Connection m.tokens)))

-- what holds of them
pub record AreMaps (m : Maps) : Type 0 where
  pub ids : IsDistinct id_eq (keys_in m.ids)
  pub initials : IsStrictlySortedBy id_cmp (keys_in m.initials)
  pub pairs : IsStrictlySortedBy path_cmp (keys_in m.pairs)
  pub remotes : IsStrictlySortedBy socket_cmp (keys_in m.remotes)
  pub tokens : IsStrictlySortedBy reset_cmp (keys_in m.tokens)
  pub named : HasNoEmptyId (routes_of m)

-- each entry of the old list but one from this key to this value, if there is one
abbrev pub Loses : {K X : Type 0} → (K → K → Bool) → K → X → (old new : List (K × X)) → Type 0
Loses {K} eq key value old new =
    ((lookup (eq key) old ≡ Some value) × ((q : K) → lookup (eq q) new ≡ cond (eq key q) None (lookup (eq q) old))) ⊎ ((lookup (eq key) old ≢ Some value) × (new ≡ old))
