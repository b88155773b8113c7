-- What becomes of the datagrams that an endpoint's sockets bring (quinn, `RecvState`).
use Rattle.std.specs.Prelude.{◌≡◌, ◌≢◌, ◌⊎◌, ◌≤◌, ℕ, Bool, true, false, List, [], ◌∷◌, ◌++◌, length, Option, Some, None}
use Rattle.qh_attempts.specs.Attempts.{PlainAttempt}
use Rattle.qh_base.specs.declared.path.FourTuple.{FourTuple}
use Rattle.qh_base.specs.declared.path.Transmit.{Transmit}
use Rattle.qh_base.specs.declared.time.Moment.{Moment}
use Rattle.qh_conn.specs.declared.event.ConnectionEvent.{ConnectionEvent}
use Rattle.qh_endpoint.specs.Closed.{IsClosed, IsUnclosed, refused as refusal, reply_to}
use Rattle.qh_endpoint.specs.Endpoint.{PlainEndpoint}
use Rattle.qh_endpoint.specs.Handled.{IsHandled, IsUnhandled}
use Rattle.qh_endpoint.specs.Leaving.{HasLeft}
use Rattle.qh_endpoint.specs.declared.event.DatagramEvent.{DatagramEvent}
use Rattle.qh_endpoint.specs.declared.event.DatagramEvent.TheVariants as event
use Rattle.qh_endpoint.specs.declared.incoming.Incoming.{Incoming}
use Rattle.qh_endpoint.specs.declared.incoming.Waiting.{Waiting}
use Rattle.qh_packet.specs.Session.{SealsTag}
use Rattle.qh_quinn_end.specs.declared.recv.RecvState.{RecvState}
use Rattle.qh_routes.specs.declared.connection_handle.ConnectionHandle.{ConnectionHandle}
use Rattle.qh_runtime.specs.Socket.{with_sent}
use Rattle.qh_runtime.specs.declared.runtime.OutMessage.{OutMessage}
use Rattle.qh_spec.specs.Fault.{CountsFaults}
use Rattle.qh_spec.specs.TokenFilter.{TokenLimits}
use Rattle.qh_spec.specs.TokenLog.{TokenLog}

-- what is known of the parts of a kit: how long the ids of its generator are, which it takes for its own, and which it gave; which words were drawn; the log of
-- used tokens; and of a session its key id and its tags
pub record KitView (G R T S : Type 0) : Type 1 where
  pub cid_len : G → ℕ
  pub validates : G → List ℕ → Type 0
  pub given : G → List (List ℕ)
  pub drawn : R → List ℕ
  pub limits : T → TokenLimits
  pub stands : T → TokenLog → Type 0
  pub key : S → List ℕ
  pub sealed : S → SealsTag

-- what is held until it is taken: attempts, and what connections are to be told, each the oldest first; and how many responses weren't sent for want of memory
pub record PlainInbox : Type 0 where
  pub attempts : List Incoming
  pub events : List (ConnectionHandle × ConnectionEvent)
  pub responses_lost : ℕ

abbrev pub inbox : RecvState → PlainInbox
inbox s = record { attempts = s.attempts.items; events = s.connections.events; responses_lost = s.responses_lost }

-- what a socket tells of what was sent by it, and how often it failed
pub record PlainOutlet : Type 0 where
  pub departed : Option (List OutMessage)
  pub faults : ℕ

-- one response more is lost
abbrev pub IsLost : (old new : PlainInbox) → Type 0
IsLost old new = new ≡ record old { responses_lost = new.responses_lost } × CountsFaults old.responses_lost new.responses_lost true

-- A response was handed to a socket, which sent it. Else the socket failed, or can't be written to now, or memory was wanting, which is counted.
pub data IsResponse (never_blocks : Type 0) (transmit : Transmit) (bytes : List ℕ) (was is : PlainOutlet) (old new : PlainInbox) : Type 0 where
  sent : is.departed ≡ with_sent transmit bytes was.departed → CountsFaults was.faults is.faults false → new ≡ old → IsResponse never_blocks transmit bytes was is old new
  failed : is.departed ≡ was.departed → CountsFaults was.faults is.faults true → new ≡ old → IsResponse never_blocks transmit bytes was is old new
  blocked : (never_blocks → ⊥) → is.departed ≡ was.departed → CountsFaults was.faults is.faults false → new ≡ old → IsResponse never_blocks transmit bytes was is old new
  wanting : is.departed ≡ was.departed → CountsFaults was.faults is.faults false → IsLost old new → IsResponse never_blocks transmit bytes was is old new

module _ {K G R T S : Type 0} (v : KitView G R T S) (never_blocks : Type 0) where
  -- An attempt is refused: it waits no more, and its client is told so, unless memory is wanting for that, which is counted.
  pub record IsRefused (incoming : Incoming) (old new : PlainEndpoint K G R T) (was is : PlainOutlet) (before after : PlainInbox) : Type 0 where
    pub attempt : PlainAttempt Waiting
    pub mid : PlainEndpoint K G R T
    pub left : HasLeft incoming.key attempt old mid
    pub written : List ℕ
    pub told : (IsClosed {S = S} v.cid_len v.validates v.given v.key v.sealed attempt.config.first.destination attempt.config.first.source refusal mid new written
        × IsResponse never_blocks (reply_to attempt.config.addresses (length written)) written was is before after)
        ⊎ (IsUnclosed v.given mid new written × (is ≡ was) × IsLost before after)

module _ {K G R T S : Type 0} (v : KitView G R T S) (never_blocks : Type 0) (is_closed : Bool) (now : Moment) (addresses : FourTuple) (datagram : List ℕ) where
  -- the endpoint did so with the datagram
  abbrev pub Handles : (old new : PlainEndpoint K G R T) → (written : List ℕ) → Option DatagramEvent → Type 0
  Handles old new written event = IsHandled {S = S} v.cid_len v.validates v.given v.drawn v.limits v.stands v.key v.sealed now addresses datagram old new written event

  -- memory was wanting for that
  abbrev pub HandlesNone : (old new : PlainEndpoint K G R T) → (written : List ℕ) → Type 0
  HandlesNone old new written = IsUnhandled {S = S} v.cid_len v.validates v.given v.drawn v.limits v.stands v.key v.sealed now addresses datagram old new written

  -- What became of a datagram: its connection is to be told of it, behind what others are to be told; or an attempt waits to be taken, behind the others, or is
  -- refused once the endpoint is closed; or a response was handed to the socket; or the endpoint itself did all.
  pub data IsBrought (old new : PlainEndpoint K G R T) (was is : PlainOutlet) (before after : PlainInbox) : Type 0 where
    connection : (handle : ConnectionHandle) (e : ConnectionEvent) (written : List ℕ) → Handles old new written (Some (event.ConnectionEvent handle e)) → is ≡ was
        → after ≡ record before { events = before.events ++ (handle, e) ∷ [] } → IsBrought old new was is before after
    attempt : is_closed ≡ false → (incoming : Incoming) (written : List ℕ) → Handles old new written (Some (event.NewConnection incoming)) → is ≡ was
        → after ≡ record before { attempts = before.attempts ++ incoming ∷ [] } → IsBrought old new was is before after
    refused : is_closed ≡ true → (incoming : Incoming) (mid : PlainEndpoint K G R T) (written : List ℕ) → Handles old mid written (Some (event.NewConnection incoming))
        → IsRefused v never_blocks incoming mid new was is before after → IsBrought old new was is before after
    response : (transmit : Transmit) (written : List ℕ) → Handles old new written (Some (event.Response transmit)) → IsResponse never_blocks transmit written was is before after → IsBrought old new was is before after
    nothing : (written : List ℕ) → Handles old new written None → is ≡ was → after ≡ before → IsBrought old new was is before after

-- The datagrams of a message: as many bytes each, but for the last, which may have fewer.
pub data AreSegments (stride : ℕ) : List ℕ → List (List ℕ) → Type 0 where
  none : AreSegments stride [] []
  more : (first rest : List ℕ) (others : List (List ℕ)) → first ≢ [] → length first ≤ stride → (rest ≢ [] → length first ≡ stride) → AreSegments stride rest others → AreSegments stride (first ++ rest) (first ∷ others)

module _ {K G R T S : Type 0} (v : KitView G R T S) (never_blocks : Type 0) (is_closed : Bool) (now : Moment) (addresses : FourTuple) where
  -- these datagrams were handed to the endpoint, one after another
  abbrev pub AreBrought : List (List ℕ) → (old new : PlainEndpoint K G R T) (was is : PlainOutlet) (before after : PlainInbox) → Type 0
  AreBrought [] old new was is before after = (new ≡ old) × (is ≡ was) × (after ≡ before)
  AreBrought (d ∷ ds) old new was is before after = (mid : PlainEndpoint K G R T) × (out : PlainOutlet) × (box : PlainInbox) × IsBrought v never_blocks is_closed now addresses d old mid was out before box × AreBrought ds mid new out is box after

  -- Memory was wanting for one of them, or for a datagram itself, with which nothing was done but that the endpoint may have drawn for it.
  pub record AreCut (stride : ℕ) (message : List ℕ) (old new : PlainEndpoint K G R T) (was is : PlainOutlet) (before after : PlainInbox) : Type 0 where
    pub done : List (List ℕ)
    pub left : List (List ℕ)
    pub some : left ≢ []
    pub segments : AreSegments stride message (done ++ left)
    pub mid : PlainEndpoint K G R T
    pub brought : AreBrought done old mid was is before after
    pub undone : (new ≡ mid) ⊎ ((d : List ℕ) × (written : List ℕ) × HandlesNone v never_blocks is_closed now addresses d mid new written)
