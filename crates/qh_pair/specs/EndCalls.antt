-- What the calls on one end do (own).
use Rattle.std.specs.Prelude.{◌≡◌, ◌⊎◌, ℕ, ◌+◌, ◌≤◌, Bool, true, false, List, [], ◌∷◌, ◌++◌, Option, Some, None, Result, Ok, Err, is_some, length, map}
use Rattle.qh_base.specs.declared.connection_error.ConnectionError.{ConnectionError}
use Rattle.qh_base.specs.declared.connection_error.ConnectionError.TheVariants as lost
use Rattle.qh_base.specs.declared.memory.Memory.{Memory as OutOfMemory}
use Rattle.qh_base.specs.declared.time.Moment.{Moment}
use Rattle.qh_base.specs.declared.time.Span.{Span}
use Rattle.qh_conn.specs.Same.{IsSameConnection}
use Rattle.qh_conn.specs.Telling.{IsTimedOut}
use Rattle.qh_conn.specs.Whole.{CarriesOnBy, IsWhole}
use Rattle.qh_core.specs.Inner.{is_open}
use Rattle.qh_handshake.specs.declared.handshake.Handshake.{Handshake}
use Rattle.qh_packet.specs.Session.{plain_accepts, plain_sealed}
use Rattle.qh_peers.specs.Ends.{IsHonestEnd}
use Rattle.qh_peers.specs.Greets.{AreInitialsSealed, CanBeGreeted}
use Rattle.qh_spec.specs.declared.link.Event.{Event}
use Rattle.qh_spec.specs.declared.link.Event.TheVariants.{Sent, Given}
use Rattle.qh_spec.specs.declared.sides.Side.{Side}
use Rattle.qh_spec.specs.Transcript.{Act, HandedOut}
use Rattle.qh_pair.specs.Ends.{End, HasKept, StandsSince, key_of}
use Rattle.qh_pair.specs.Timed.{IsTimedBy}

-- ---- what the link gives and takes

-- so many datagrams were given to a side, and nothing else happened
pub record AreGiven (side : Side) (count : ℕ) (events : List Event) : Type 0 where
  pub datagrams : List (List ℕ)
  pub count_is : length datagrams ≡ count
  pub are : events ≡ map (λ (d : List ℕ). Given side d) datagrams

-- so many datagrams were sent by a side, and nothing else happened
pub record AreSent (side : Side) (count : ℕ) (events : List Event) : Type 0 where
  pub datagrams : List (List ℕ)
  pub count_is : length datagrams ≡ count
  pub are : events ≡ map (λ (d : List ℕ). Sent side d) datagrams

-- ---- one call

-- Calls made the end the other, and these acts are what they add: it is the same end, and stands to all that was done with it as it stood
-- before; and what is known of all that holds on.
pub record IsMadeBy (old new : End) (acts : List Act) : Type 0 where
  pub same : IsSameConnection key_of old new
  pub whole : IsWhole new
  pub carries : CarriesOnBy plain_accepts plain_sealed old new acts
  pub kept : (id_length : ℕ) (t : List Act) → length old.core.local_id ≡ id_length → StandsSince old.core.side old t → HasKept old.core.side id_length old t
      → HasKept old.core.side id_length new (t ++ acts)

-- what an end did that was asked for a datagram and answered so: it handed it out, where there is one
abbrev pub polled_acts : List ℕ → Result Bool OutOfMemory → List Act
polled_acts datagram (Ok true) = HandedOut datagram ∷ []
polled_acts datagram (Ok false) = []
polled_acts datagram (Err e) = []

-- ---- what no datagram tells

-- so many two-way streams were opened by the end, none before it was greeted; so many of the peer's were accepted, likewise
abbrev pub HasOpenedCount : ℕ → End → Type 0
HasOpenedCount n c = (c.core.space.streams.bi.opened ≡ n) × (c.handshake.peer ≡ None → n ≡ 0)

abbrev pub HasAcceptedCount : ℕ → End → Type 0
HasAcceptedCount n c = (c.core.space.streams.bi.accepted ≡ n) × (c.handshake.peer ≡ None → n ≡ 0)

-- a call leaves the counts of what this end opened and accepted
pub record KeepsCounts (c d : End) : Type 0 where
  pub opened : (n : ℕ) → HasOpenedCount n c → HasOpenedCount n d
  pub accepted : (n : ℕ) → HasAcceptedCount n c → HasAcceptedCount n d

-- A call at this moment leaves those counts, and the idle time, which it may restart, but for what the peer's hello makes of it; the end isn't
-- lost by its idle time; and one that was greeted still is.
pub record IsUndisturbedBy (now : Moment) (c d : End) : Type 0 where
  pub counts : KeepsCounts c d
  pub times : (own : Option Span) → IsTimedBy own c → IsTimedBy own d
  pub since : (d.core.idle.since ≡ c.core.idle.since) ⊎ (d.core.idle.since ≡ now)
  pub timed_out : d.core.error ≡ Some lost.TimedOut → c.core.error ≡ Some lost.TimedOut
  pub known : is_some c.handshake.peer ≡ true → is_some d.handshake.peer ≡ true

-- an honest end is honest behind what calls did that handed no datagram in, and is no less so to a peer
abbrev pub KeepsHonest : (old new : End) → List Act → Type 0
KeepsHonest old new acts = (hello : List ℕ) (t : List Act) → IsHonestEnd plain_accepts plain_sealed hello old t → IsHonestEnd plain_accepts plain_sealed hello new (t ++ acts)

-- a peer that can greet the end still can, and Initial packets that it handed out in these acts have the tags that are made for them
pub record KeepsGreetable (old new : End) (acts : List Act) : Type 0 where
  pub can : (peer : Handshake) → CanBeGreeted old.handshake peer → CanBeGreeted new.handshake peer
  pub sealed : (t : List Act) → AreInitialsSealed (plain_sealed old.core.session) old.core.side t → AreInitialsSealed (plain_sealed old.core.session) old.core.side (t ++ acts)

-- ---- the moments that are due

-- taking events of an end did no more than this
pub record IsPolledOut (old new : End) : Type 0 where
  pub made : IsMadeBy old new []
  pub counts : KeepsCounts old new
  pub idle_is : new.core.idle ≡ old.core.idle
  pub error_is : new.core.error ≡ old.core.error
  pub state_is : new.core.state ≡ old.core.state
  pub handshake_is : new.handshake ≡ old.handshake
  pub honest : KeepsHonest old new []

-- an idle time is set, and passed by this moment, of an end that is open
pub record HasWaited (now : ℕ) (c : End) : Type 0 where
  pub up : is_open c.core.state ≡ true
  pub span : Span
  pub timeout_is : c.core.idle.timeout ≡ Some span
  pub passed : c.core.idle.since.0 + span.0 ≤ now

-- What was due was done, and this is known of it.
pub record IsDueDone (now : ℕ) (old new : End) : Type 0 where
  pub due : IsTimedOut now old new
  pub counts : KeepsCounts old new
  pub idle_is : new.core.idle ≡ old.core.idle
  pub peer_is : new.handshake.peer ≡ old.handshake.peer
  pub retry_is : new.handshake.retry_id ≡ old.handshake.retry_id
  pub remote_is : new.handshake.remote_id ≡ old.handshake.remote_id
  pub timed_out : new.core.error ≡ Some lost.TimedOut → (old.core.error ≡ Some lost.TimedOut) ⊎ HasWaited now old
  pub kept : (e : ConnectionError) → new.core.error ≡ Some e → (old.core.error ≡ Some e) ⊎ (e ≡ lost.TimedOut)
  pub opens : is_open new.core.state ≡ true → is_open old.core.state ≡ true
  pub honest : is_open new.core.state ≡ true → KeepsHonest old new []
  pub can : (peer : Handshake) → CanBeGreeted old.handshake peer → CanBeGreeted new.handshake peer

-- What was due was done, or want of memory ended the end.
pub record IsTicked (now : ℕ) (old new : End) : Type 0 where
  pub made : IsMadeBy old new []
  pub done : (new.core.error ≡ Some lost.Memory) ⊎ IsDueDone now old new
