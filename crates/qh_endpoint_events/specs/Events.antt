-- What an endpoint does that one of its connections asks (RFC 9000, sections 5.1.1, 5.1.2, 10.3 and 19.15).
use Rattle.std.specs.Prelude.{◌≡◌, ◌⊎◌, ℕ, ◌+◌, ◌<◌, ◌≤◌, ◌^◌, true, false, List, [], ◌∷◌, length, Option, Some, None}
use Rattle.std.specs.declared.net.socket_addr.SocketAddr.{SocketAddr}
use Rattle.qh_base.specs.declared.shared.ResetToken.{ResetToken as Token}
use Rattle.qh_base.specs.declared.time.Moment.{Moment}
use Rattle.qh_conn.specs.declared.event.ConnectionEvent.{ConnectionEvent}
use Rattle.qh_conn.specs.declared.event.ConnectionEvent.TheVariants.{NewIdentifiers}
use Rattle.qh_connections.specs.Connections.{HasInstead, IsConnectionRemoved, IsKept, IsTokenReplaced, IsTracked, PlainConnections, id_at, meta_at, with_id, without_id}
use Rattle.qh_connections.specs.Ids.{AreNoneFresh, IsFreshId, IsSameSource}
use Rattle.qh_control.specs.declared.event.EndpointEvent.{EndpointEvent}
use Rattle.qh_control.specs.declared.event.EndpointEvent.TheVariants.{NeedIdentifiers, ResetToken, RetireConnectionId, Drained}
use Rattle.qh_control.specs.declared.event.IssuedCid.{IssuedCid}
use Rattle.qh_routes.specs.ConnectionMeta.{PlainMeta}
use Rattle.qh_routes.specs.Routes.{IsRemovedOf, issued, reset}
use Rattle.qh_routes.specs.declared.connection_handle.ConnectionHandle.{ConnectionHandle}
use Rattle.qh_routes.specs.declared.connection_index.RouteDatagramTo.{RouteDatagramTo}
use Rattle.qh_routes.specs.declared.connection_index.RouteDatagramTo.TheVariants.{Connection}
use Rattle.qh_spec.specs.Lists.{In}
use Rattle.qh_token.specs.Reset.{reset_token_of}

-- no id has a sequence as great as this (section 19.15)
abbrev pub sequences : ℕ
sequences = 2 ^ 62

-- `given` says which ids the source of the endpoint's ids gave, `cid_len` how many bytes each has, and `validates` which ones it takes for its own.
module _ {G : Type 0} (given : G → List (List ℕ)) (cid_len : G → ℕ) (validates : G → List ℕ → Type 0) (handle : ConnectionHandle) where
  -- Ids are issued for the connection one after another: each with its next sequence and with the token that belongs to it, fresh by the routes
  -- of that moment, as long as the ids of the source, and one of its own. An empty one gets no route.
  pub data AreIssued : List IssuedCid → (old new : PlainConnections G) → Type 0 where
    none : (c : PlainConnections G) → AreIssued [] c c
    more : (cid : IssuedCid) (cids : List IssuedCid) (m : PlainMeta) (old mid new : PlainConnections G) → meta_at old handle ≡ Some m → cid.sequence ≡ m.cids_issued → cid.reset_token.0 ≡ reset_token_of cid.id
        → IsFreshId old.routes (given old.ids) (given mid.ids) cid.id → length cid.id ≡ cid_len old.ids → validates mid.ids cid.id → IsSameSource cid_len validates old.ids mid.ids → IsTracked cid.id handle old.routes mid.routes → HasInstead old mid handle (Some (with_id m cid.id)) → AreIssued cids mid new
        → AreIssued (cid ∷ cids) old new

  -- the connection is told of these ids
  abbrev pub AreTold : Moment → List IssuedCid → Option ConnectionEvent → Type 0
  AreTold now ids (Some (NewIdentifiers held at)) = (held.items ≡ ids) × (at ≡ now)
  AreTold now ids other = ⊥

  -- the id with this sequence is taken away, and its route alone
  pub record IsRetired (m : PlainMeta) (sequence : ℕ) (id : List ℕ) (old new : PlainConnections G) : Type 0 where
    pub there : id_at m sequence ≡ Some id
    pub routes : IsRemovedOf (issued id) (Connection handle) old.routes new.routes
    pub meta : HasInstead old new handle (Some (without_id m sequence))
    pub ids : new.ids ≡ old.ids

  -- What is done, and what is to be handed to the connection.
  pub data IsDone (old new : PlainConnections G) : EndpointEvent → Option ConnectionEvent → Type 0 where
    needed : (now : Moment) (count : ℕ) (m : PlainMeta) (ids : List IssuedCid) (event : Option ConnectionEvent) → meta_at old handle ≡ Some m → m.cids_issued + count ≤ sequences → length ids ≡ count
        → AreIssued ids old new → AreTold now ids event → IsDone old new (NeedIdentifiers now count) event
    too_many : (now : Moment) (count : ℕ) (m : PlainMeta) → meta_at old handle ≡ Some m → sequences < m.cids_issued + count → new ≡ old → IsDone old new (NeedIdentifiers now count) None
    token : (remote : _) (reset_token : _) (m : PlainMeta) → meta_at old handle ≡ Some m → IsTokenReplaced remote reset_token handle old.routes new.routes m.reset_token
        → HasInstead old new handle (Some (record m { reset_token = Some (remote, reset_token) })) → new.ids ≡ old.ids → IsDone old new (ResetToken remote reset_token) None
    not_there : (now : Moment) (sequence : ℕ) (allow_more : _) (m : PlainMeta) → meta_at old handle ≡ Some m → id_at m sequence ≡ None → new ≡ old → IsDone old new (RetireConnectionId now sequence allow_more) None
    retired : (now : Moment) (sequence : ℕ) (allow_more : _) (m : PlainMeta) (id : List ℕ) → meta_at old handle ≡ Some m → (allow_more ≡ false) ⊎ (sequences ≤ m.cids_issued) → IsRetired m sequence id old new
        → IsDone old new (RetireConnectionId now sequence allow_more) None
    -- another takes its place, which is issued first
    replaced : (now : Moment) (sequence : ℕ) (m : PlainMeta) (id : List ℕ) (cid : IssuedCid) (mid : PlainConnections G) (event : Option ConnectionEvent) → meta_at old handle ≡ Some m → m.cids_issued < sequences
        → AreIssued (cid ∷ []) old mid → IsRetired (with_id m cid.id) sequence id mid new → id_at m sequence ≡ Some id → AreTold now (cid ∷ []) event → IsDone old new (RetireConnectionId now sequence true) event
    drained : (m : PlainMeta) → meta_at old handle ≡ Some m → IsConnectionRemoved old new handle m → new.ids ≡ old.ids → IsDone old new Drained None
    unknown : meta_at old handle ≡ None → new ≡ old → IsDone old new Drained None

  -- 64 ids in a row were issued: none is kept of those that the event asks for, and one that was retired stays away.
  pub data IsExhausted (old new : PlainConnections G) : EndpointEvent → Type 0 where
    needed : (now : Moment) (count : ℕ) (m : PlainMeta) (ids : List IssuedCid) (mid last : PlainConnections G) → meta_at old handle ≡ Some m → m.cids_issued + count ≤ sequences → length ids < count → AreIssued ids old mid → AreNoneFresh mid.routes (given mid.ids) (given last.ids) → IsKept old new
        → new.ids ≡ last.ids → IsExhausted old new (NeedIdentifiers now count)
    retired : (now : Moment) (sequence : ℕ) (m : PlainMeta) (id : List ℕ) (mid : PlainConnections G) → meta_at old handle ≡ Some m → m.cids_issued < sequences → AreNoneFresh old.routes (given old.ids) (given mid.ids) → mid ≡ record old { ids = mid.ids }
        → IsRetired m sequence id mid new → IsExhausted old new (RetireConnectionId now sequence true)

  -- memory was wanting before an id was drawn, or behind the one that was to be issued
  abbrev pub IsDrawn : (old new : PlainConnections G) → Type 0
  IsDrawn old new = (new ≡ old) ⊎ ((id : List ℕ) × IsFreshId old.routes (given old.ids) (given new.ids) id)

  -- Memory is wanting, which it can be for ids that are needed and allowed, for a reset token that has no route, and for an id in place of another.
  -- Nothing is kept of the event.
  pub data IsWanting (old new : PlainConnections G) : EndpointEvent → Type 0 where
    needed : (now : Moment) (count : ℕ) (m : PlainMeta) (ids : List IssuedCid) (mid last : PlainConnections G) → meta_at old handle ≡ Some m → m.cids_issued + count ≤ sequences → length ids < count → AreIssued ids old mid
        → IsDrawn mid last → IsKept old new → new.ids ≡ last.ids → IsWanting old new (NeedIdentifiers now count)
    token : (remote : SocketAddr) (reset_token : Token) → ((t : RouteDatagramTo) → In (reset remote reset_token.0, t) old.routes → ⊥) → new ≡ old → IsWanting old new (ResetToken remote reset_token)
    replaced : (now : Moment) (sequence : ℕ) (m : PlainMeta) (id : List ℕ) → meta_at old handle ≡ Some m → m.cids_issued < sequences → id_at m sequence ≡ Some id → IsDrawn old new → IsKept old new
        → IsWanting old new (RetireConnectionId now sequence true)
