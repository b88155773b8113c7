-- What an end is over a link that gives it only what its peer sent: it is honest, its idle time runs from the last datagram that counts, and
-- it knows its peer once a datagram was given to it that greets it.
use Rattle.std.specs.Prelude.{◌≡◌, ℕ, ◌+◌, ◌≤◌, ◌^◌, true, List, [], ◌∷◌, ◌++◌, Option, Some, None, Result, Err, is_some, length}
use Rattle.qh_base.specs.declared.time.Span.{Span}
use Rattle.qh_conduct.specs.Restarting.{IsCounting}
use Rattle.qh_conn.specs.declared.config.ConnConfig.{ConnConfig}
use Rattle.qh_handshake.specs.declared.handshake.Handshake.{Handshake}
use Rattle.qh_packet.specs.Initial.{BeginsWithInitial}
use Rattle.qh_packet.specs.Session.{plain_accepts, plain_sealed}
use Rattle.qh_peers.specs.Ends.{AreTwoEnds, IsHonestEnd}
use Rattle.qh_peers.specs.Greets.{AreInitialsSealed, CanBeGreeted, IsGreeting}
use Rattle.qh_spec.specs.declared.link.Event.{Event}
use Rattle.qh_spec.specs.declared.link.Event.TheVariants.{Given}
use Rattle.qh_spec.specs.declared.sides.Side.{Side}
use Rattle.qh_spec.specs.declared.sides.Side.TheVariants.{Client, Server}
use Rattle.qh_spec.specs.Link.{given_to, moments_of, other}
use Rattle.qh_spec.specs.Lists.{In}
use Rattle.qh_spec.specs.Transcript.{Act, handed_in, handed_out}
use Rattle.qh_pair.specs.Ends.{End, IsEndOf, key_of}
use Rattle.qh_pair.specs.Settings.{whole_idle}
use Rattle.qh_pair.specs.Timed.{IsTimedBy}
use Rattle.qh_pair.specs.declared.ends.Ids.{Ids}
use Rattle.qh_pair.specs.declared.error.ExchangeError.{ExchangeError}
use Rattle.qh_pair.specs.declared.error.ExchangeError.TheVariants.{TimedOut, Protocol}

-- ---- moments

-- the last of the moments, 0 where there is none
abbrev pub last_of : List ℕ → ℕ
last_of [] = 0
last_of (m ∷ []) = m
last_of (m ∷ n ∷ ns) = last_of (n ∷ ns)

-- no round of these began later
abbrev pub AreBy : (now : ℕ) → List Event → Type 0
AreBy now events = (m : ℕ) → In m (moments_of events) → m ≤ now

-- It holds of the moment of each round in which the side was given a datagram that counts. Over an honest link it was greeted by then.
abbrev pub AtCounting : (id_length : ℕ) → Side → List Event → (ℕ → Type 0) → Type 0
AtCounting id_length side events P = (before after : List Event) (datagram : List ℕ) → events ≡ before ++ Given side datagram ∷ after
    → IsCounting id_length (other side) (given_to side before) datagram → P (last_of (moments_of before))

-- For one of the ends an idle time is set, and as long passed since the last datagram that counts was given to it.
pub record WasSilent (id_length : ℕ) (idle : Option Span) (events : List Event) : Type 0 where
  pub side : Side
  pub span : Span
  pub idle_is : idle ≡ Some span
  pub passed : AtCounting id_length side events (λ m. m + span.0 ≤ last_of (moments_of events))

-- Over an honest link no connection is lost but by its idle time or for want of memory; and by its idle time only if nothing that counts came
-- for as long, rounded down to whole milliseconds.
abbrev pub EndsFairly : {T : Type 0} → (id_length : ℕ) → (idle : Option Span) → List Event → Result T ExchangeError → Type 0
EndsFairly id_length idle events (Err (Protocol e)) = ⊥
EndsFairly id_length idle events (Err TimedOut) = WasSilent id_length (whole_idle idle) events
EndsFairly id_length idle events _ = Unit {0}

-- ---- datagrams that greet

-- behind these datagrams, which the side was given before, one that greets it was given to it in these events
pub record IsGreetedBehind (id_length : ℕ) (side : Side) (came : List (List ℕ)) (events : List Event) : Type 0 where
  pub before : List Event
  pub after : List Event
  pub datagram : List ℕ
  pub are : events ≡ before ++ Given side datagram ∷ after
  pub greets : IsGreeting id_length (other side) (came ++ given_to side before) datagram

-- a datagram that greets the side was given to it in these events
abbrev pub WasGreeted : (id_length : ℕ) → Side → List Event → Type 0
WasGreeted id_length side events = IsGreetedBehind id_length side [] events

-- this end is there, and knows its peer
abbrev pub IsGreetedAt : Option End → Type 0
IsGreetedAt None = ⊥
IsGreetedAt (Some c) = is_some c.handshake.peer ≡ true

-- ---- the ends

-- The datagram is a client's first one: it begins with an Initial packet, from the client's id to the one that it chose for the server, and has
-- 1,200 bytes at least (RFC 9000, sections 7.2 and 14.1).
pub record IsFirst (ids : Ids) (datagram : List ℕ) : Type 0 where
  pub long : 1200 ≤ length datagram
  pub first : ℕ
  pub token : List ℕ
  pub body : List ℕ
  pub rest : List ℕ
  pub begins : BeginsWithInitial datagram first ids.key ids.client token body rest

-- A client whose server isn't there yet: it is honest, was given nothing, and each datagram that it handed out is a first one, with the tag that
-- is made for it. It knows no peer, so any can greet it.
pub record IsAlone (ids : Ids) (config : ConnConfig) (c : End) (t : List Act) : Type 0 where
  pub of : IsEndOf Client ids config c
  pub fits : (config.limits.max_bidi ≤ 2 ^ 60) × (config.limits.max_uni ≤ 2 ^ 60)
  pub hello : List ℕ
  pub honest : IsHonestEnd plain_accepts plain_sealed hello c t
  pub key_is : c.core.session.key_id ≡ ids.key
  pub unretried : c.handshake.retry_id ≡ None
  pub unknown : c.handshake.peer ≡ None
  pub there : c.handshake.remote_id ≡ ids.key
  pub nothing : handed_in t ≡ []
  pub firsts : (d : List ℕ) → In d (handed_out t) → IsFirst ids d
  pub can : (peer : Handshake) → CanBeGreeted c.handshake peer
  pub sealed : AreInitialsSealed (plain_sealed c.core.session) c.core.side t

-- each of the two can be greeted by the other, and the Initial packets that each handed out have the tags that are made for them
pub record AreGreetable (c q : End) (t u : List Act) : Type 0 where
  pub own : CanBeGreeted c.handshake q.handshake
  pub peer : CanBeGreeted q.handshake c.handshake
  pub own_sealed : AreInitialsSealed (plain_sealed c.core.session) c.core.side t
  pub peer_sealed : AreInitialsSealed (plain_sealed q.core.session) q.core.side u

-- the two ends of a connection, each honest, where each was given only what the other sent, and which can greet each other
pub record AreTwo (c s : End) (t u : List Act) : Type 0 where
  pub hello : List ℕ
  pub peer_hello : List ℕ
  pub ends : AreTwoEnds plain_accepts plain_sealed key_of hello peer_hello c s t u
  pub greets : AreGreetable c s t u

-- the client and the server of a pair are sound: the server comes to be by the first datagram that is given to it
abbrev pub AreSound : Ids → ConnConfig → (client server : Option End) → (t u : List Act) → Type 0
AreSound ids config None None t u = (t ≡ []) × (u ≡ [])
AreSound ids config (Some c) None t u = IsAlone ids config c t × (u ≡ [])
AreSound ids config None (Some s) t u = ⊥
AreSound ids config (Some c) (Some s) t u = AreTwo c s t u

-- the same, of this side's end and the other one
abbrev pub AreSoundEnds : Side → Ids → ConnConfig → (own peer : Option End) → (t u : List Act) → Type 0
AreSoundEnds Client ids config own peer t u = AreSound ids config own peer t u
AreSoundEnds Server ids config own peer t u = AreSound ids config peer own u t

-- Its idle time is its own or the one in force, and began with the last datagram that counts, or later; and if a datagram was given to it that
-- greets it, it knows its peer.
pub record IsHeard (side : Side) (id_length : ℕ) (config : ConnConfig) (c : End) (events : List Event) : Type 0 where
  pub timed : IsTimedBy config.idle c
  pub heard : AtCounting id_length side events (λ m. m ≤ c.core.idle.since.0)
  pub greets : WasGreeted id_length side events → is_some c.handshake.peer ≡ true

abbrev pub IsHeardAt : Side → (id_length : ℕ) → ConnConfig → Option End → List Event → Type 0
IsHeardAt side id_length config None events = Unit {0}
IsHeardAt side id_length config (Some c) events = IsHeard side id_length config c events
