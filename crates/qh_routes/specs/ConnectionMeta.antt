-- What an endpoint keeps of a connection.
use Rattle.std.specs.Prelude.{ℕ, List, [], ◌∷◌, ◌++◌, map, Option, Some, None}
use Rattle.std.specs.Map.{values_of}
use Rattle.std.specs.declared.net.socket_addr.SocketAddr.{SocketAddr}
use Rattle.qh_base.specs.declared.path.FourTuple.{FourTuple}
use Rattle.qh_base.specs.declared.shared.ResetToken.{ResetToken}
use Rattle.qh_spec.specs.declared.sides.Side.{Side}
use Rattle.qh_spec.specs.declared.sides.Side.TheVariants.{Client, Server}
use Rattle.qh_routes.specs.Routes.{RouteKey, issued, initial, reset, address_keys}

pub record PlainMeta : Type 0 where
  pub init_cid : List ℕ
  -- how many ids were issued
  pub cids_issued : ℕ
  -- the ids that were issued and not retired, by their sequences
  pub loc_cids : List (ℕ × List ℕ)
  pub addresses : FourTuple
  pub side : Side
  pub reset_token : Option (SocketAddr × ResetToken)

-- the id that the peer's first packets went to, at a server
abbrev pub initial_keys : Side → (init_cid : List ℕ) → List RouteKey
initial_keys Server init_cid = initial init_cid ∷ []
initial_keys Client init_cid = []

abbrev pub issued_keys : (ids : List (List ℕ)) → List RouteKey
issued_keys ids = map issued ids

abbrev pub token_keys : Option (SocketAddr × ResetToken) → List RouteKey
token_keys None = []
token_keys (Some p) = reset p.0 p.1.0 ∷ []

-- by what a connection may be found
abbrev pub keys_of_meta : PlainMeta → List RouteKey
keys_of_meta m = initial_keys m.side m.init_cid ++ (issued_keys (values_of m.loc_cids) ++ (address_keys m.addresses ++ token_keys m.reset_token))
