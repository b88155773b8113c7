-- The connections of an endpoint: their routes, and what it keeps of each (quinn-proto, `Endpoint`: `index`, `connections` and
-- `local_cid_generator`).
use Rattle.std.specs.Prelude.{◌≡◌, ◌≢◌, ℕ, ◌+◌, ◌-◌, ◌<◌, ◌≤◌, ◌^◌, ◌*◌, is_some, List, [], ◌∷◌, Option, None, Some, IsSomeAnd, count_by, slice_index_or}
use Rattle.std.specs.BTreeMap.{insert_entry, is_at}
use Rattle.std.specs.Map.{lookup, remove_entry}
use Rattle.std.specs.Ordering.{nat_cmp}
use Rattle.std.specs.declared.net.socket_addr.SocketAddr.{SocketAddr}
use Rattle.qh_base.specs.declared.path.FourTuple.{FourTuple}
use Rattle.qh_base.specs.declared.shared.ResetToken.{ResetToken}
use Rattle.qh_routes.specs.ConnectionMeta.{PlainMeta, keys_of_meta}
use Rattle.qh_routes.specs.Routes.{AreRemovedOf, AreSameRoutes, IsAdded, IsFirstAdded, IsRemovedOf, RouteKey, Routes, conn_key, issued, reset}
use Rattle.qh_routes.specs.declared.connection_handle.ConnectionHandle.{ConnectionHandle}
use Rattle.qh_routes.specs.declared.connection_index.RouteDatagramTo.TheVariants.{Connection}
use Rattle.qh_spec.specs.Lists.{In}
use Rattle.qh_spec.specs.declared.sides.Side.{Side}

-- what a contract sees of them, with the source of the endpoint's ids
pub record PlainConnections (G : Type 0) : Type 0 where
  pub routes : Routes
  -- what is kept of the connection of each handle that is live
  pub metas : List (Option PlainMeta)
  pub ids : G

-- an id is tracked by a route; an empty one isn't
abbrev pub IsTracked : (id : List ℕ) → (handle : ConnectionHandle) → (old new : Routes) → Type 0
IsTracked [] handle old new = new ≡ old
IsTracked (b ∷ id) handle old new = IsAdded (issued (b ∷ id)) (Connection handle) old new

-- a connection that begins, with its first id
abbrev pub first_meta : Side → (init_cid local_id : List ℕ) → FourTuple → PlainMeta
first_meta side init_cid local_id addresses =
    record { init_cid = init_cid; cids_issued = 1; loc_cids = (0, local_id) ∷ []; addresses = addresses; side = side; reset_token = None }

-- one more id was issued for it, with the next sequence
abbrev pub with_id : PlainMeta → (id : List ℕ) → PlainMeta
with_id m id = record m { cids_issued = m.cids_issued + 1; loc_cids = insert_entry nat_cmp m.loc_cids m.cids_issued id }

-- the id with this sequence is taken away
abbrev pub without_id : PlainMeta → (sequence : ℕ) → PlainMeta
without_id m sequence = record m { loc_cids = remove_entry (is_at (nat_cmp sequence)) m.loc_cids }

-- the sequence that was given last is the next one again, and has no id
abbrev pub without_last : PlainMeta → PlainMeta
without_last m = record m { cids_issued = m.cids_issued - 1; loc_cids = remove_entry (is_at (nat_cmp (m.cids_issued - 1))) m.loc_cids }

-- the id with this sequence, if it was issued and not retired
abbrev pub id_at : PlainMeta → (sequence : ℕ) → Option (List ℕ)
id_at m sequence = lookup (is_at (nat_cmp sequence)) m.loc_cids

-- the reset token that a connection had leads no more to it, unless it is the one that it has now
pub data IsTokenReplaced (remote : SocketAddr) (token : ResetToken) (handle : ConnectionHandle) (old new : Routes) : (earlier : Option (SocketAddr × ResetToken)) → Type 0 where
  first : IsAdded (reset remote token.0) (Connection handle) old new → IsTokenReplaced remote token handle old new None
  again : (earlier : SocketAddr × ResetToken) → reset earlier.0 earlier.1.0 ≡ reset remote token.0 → IsAdded (reset remote token.0) (Connection handle) old new
      → IsTokenReplaced remote token handle old new (Some earlier)
  later : (earlier : SocketAddr × ResetToken) (mid : Routes) → reset earlier.0 earlier.1.0 ≢ reset remote token.0 → IsAdded (reset remote token.0) (Connection handle) old mid
      → IsRemovedOf (reset earlier.0 earlier.1.0) (Connection handle) mid new → IsTokenReplaced remote token handle old new (Some earlier)

-- Ids that have this length are exhausted where so many are issued that fewer than a quarter of all is left. Ids of no byte, and of more than
-- four, never are.
pub record AreExhausted (length issued : ℕ) : Type 0 where
  pub some : 1 ≤ length
  pub short : length ≤ 4
  pub few : 2 ^ (8 * length) - issued < 2 ^ (8 * length - 2)

module _ {G : Type 0} where
  -- what is kept of a live connection
  abbrev pub meta_at : PlainConnections G → ConnectionHandle → Option PlainMeta
  meta_at c handle = slice_index_or c.metas handle.0 None

  -- how many are live
  abbrev pub connection_count : PlainConnections G → ℕ
  connection_count c = count_by (λ (o : Option PlainMeta). is_some o) c.metas

  -- one handle has this now, or nothing, and each other handle has what it had
  pub record HasInstead (old new : PlainConnections G) (handle : ConnectionHandle) (meta : Option PlainMeta) : Type 0 where
    pub there : meta_at new handle ≡ meta
    pub others : (other : ConnectionHandle) → other.0 ≢ handle.0 → meta_at new other ≡ meta_at old other

  -- each handle has what it had
  abbrev pub KeepsMetas : (old new : PlainConnections G) → Type 0
  KeepsMetas old new = (handle : ConnectionHandle) → meta_at new handle ≡ meta_at old handle

  -- all routes, and what is kept of each connection, are as they were
  pub record IsKept (old new : PlainConnections G) : Type 0 where
    pub routes : AreSameRoutes old.routes new.routes
    pub metas : KeepsMetas old new

  -- What holds at any time.
  pub record AreConnections (c : PlainConnections G) : Type 0 where
    -- a route to a connection is to one that is live, by what is kept of it
    pub by_meta : (k : RouteKey) (handle : ConnectionHandle) → In (k, Connection handle) c.routes → IsSomeAnd (meta_at c handle) (λ m. In k (keys_of_meta m))
    -- each id that was issued and not retired leads to its connection
    pub leads : (handle : ConnectionHandle) (m : PlainMeta) (sequence : ℕ) (id : List ℕ) → meta_at c handle ≡ Some m → id_at m sequence ≡ Some id → id ≢ [] → In (issued id, Connection handle) c.routes
    -- a sequence that has an id was given
    pub below : (handle : ConnectionHandle) (m : PlainMeta) (sequence : ℕ) → meta_at c handle ≡ Some m → m.cids_issued ≤ sequence → id_at m sequence ≡ None
    -- an id has one sequence
    pub apart : (handle : ConnectionHandle) (m : PlainMeta) (sequence other : ℕ) (id : List ℕ) → meta_at c handle ≡ Some m → id_at m sequence ≡ Some id → id_at m other ≡ Some id → id ≢ [] → sequence ≡ other

  -- The connection is new: its handle was free, it is found by its first id, or by its addresses if that is empty, and at a server by the id that the
  -- client chose.
  pub record IsConnectionAdded (old new : PlainConnections G) (handle : ConnectionHandle) (side : Side) (init_cid local_id : List ℕ) (addresses : FourTuple) : Type 0 where
    pub free : meta_at old handle ≡ None
    pub meta : HasInstead old new handle (Some (first_meta side init_cid local_id addresses))
    pub between : Routes
    pub first : IsFirstAdded side init_cid (Connection handle) old.routes between
    pub added : IsAdded (conn_key addresses local_id side) (Connection handle) between new.routes

  -- the connection is forgotten, with all routes to it
  pub record IsConnectionRemoved (old new : PlainConnections G) (handle : ConnectionHandle) (m : PlainMeta) : Type 0 where
    pub meta : HasInstead old new handle None
    pub routes : AreRemovedOf (keys_of_meta m) (Connection handle) old.routes new.routes
    pub unreached : (k : RouteKey) → In (k, Connection handle) new.routes → ⊥
