-- How a pair stands to what happened on its link, and what its service recorded, since it was opened. No object stores
-- these lists.
use Rattle.std.specs.Prelude.{◌≡◌, ℕ, ◌^◌, ◌≤◌, Bool, true, false, not, List, [], ◌∷◌, ◌++◌, Option, Some, None, Result, length, filter, slice_get, MatchBool}
use Rattle.qh_conn.specs.declared.config.ConnConfig.{ConnConfig}
use Rattle.qh_roles.specs.Client.{PlainClient, Asking, HasOpened}
use Rattle.qh_roles.specs.Server.{PlainServer, Serving, HasAccepted}
use Rattle.qh_spec.specs.declared.link.Event.{Event}
use Rattle.qh_spec.specs.declared.link.Event.TheVariants.{Sent, Given, Dry, Round, Fault}
use Rattle.qh_spec.specs.declared.sides.Side.{Side}
use Rattle.qh_spec.specs.declared.sides.Side.TheVariants.{Client, Server}
use Rattle.qh_spec.specs.Headline.{ServedOnce, IsRecordedAnswer}
use Rattle.qh_spec.specs.Honest.{IsHonest}
use Rattle.qh_spec.specs.Link.{if_same_side}
use Rattle.qh_spec.specs.Message.{PlainMessage}
use Rattle.qh_spec.specs.Record.{PlainEntry}
use Rattle.qh_spec.specs.Transcript.{Act, HandedIn, HandedOut}
use Rattle.qh_pair.specs.Ends.{End, Stands}
use Rattle.qh_pair.specs.Hellos.{AreGreetedAsSet, AreGreetedFirst}
use Rattle.qh_pair.specs.Sound.{AreSound, EndsFairly, IsGreetedAt, IsHeardAt, WasGreeted}
use Rattle.qh_pair.specs.Within.{KeptWithin}
use Rattle.qh_pair.specs.declared.ends.Ids.{Ids}
use Rattle.qh_pair.specs.declared.error.ExchangeError.{ExchangeError}

pub record PairState : Type 0 where
  -- the connection ids of the two ends, of one length, and the one that the client chooses for its server, of which their tags are made
  pub ids : Ids
  -- what both ends begin with
  pub config : ConnConfig
  pub client : PlainClient
  pub server : PlainServer
  -- the client's end, from the first turn on, and the server's, from the client's first datagram on
  pub client_end : Option End
  pub server_end : Option End
  -- a turn answered an error, or is being made
  pub is_over : Bool

-- how many bytes the connection ids have
abbrev pub id_length : PairState → ℕ
id_length p = length p.ids.client

-- ---- an end and its acts

-- the acts that hand datagrams in and out, in order
abbrev pub is_wire : Act → Bool
is_wire (HandedIn d) = true
is_wire (HandedOut d) = true
is_wire _ = false

abbrev pub wire : List Act → List Act
wire t = filter is_wire t

-- what the link tells of a side: a datagram that was given to it was handed in, one that it sent was handed out
abbrev pub told_acts : Side → List Event → List Act
told_acts s [] = []
told_acts s (Sent t d ∷ es) = if_same_side s t (HandedOut d ∷ told_acts s es) (told_acts s es)
told_acts s (Given t d ∷ es) = if_same_side s t (HandedIn d ∷ told_acts s es) (told_acts s es)
told_acts s (Dry t ∷ es) = told_acts s es
told_acts s (Round n ∷ es) = told_acts s es
told_acts s (Fault ∷ es) = told_acts s es

-- The wire saw what the link tells. Where a call failed, the last datagram was handed out and not sent.
pub data IsTold (side : Side) (events : List Event) (t : List Act) : Type 0 where
  all : wire t ≡ told_acts side events → IsTold side events t
  unsent : (d : List ℕ) → wire t ≡ told_acts side events ++ HandedOut d ∷ [] → IsTold side events t

-- the wire saw all that the link tells, where no call failed
abbrev pub IsToldIf : Bool → Side → List Event → List Act → Type 0
IsToldIf is_whole side events t = MatchBool is_whole (wire t ≡ told_acts side events) (IsTold side events t)

-- an end with its transcript, of which the events tell
pub record EndAt (is_whole : Bool) (side : Side) (ids : Ids) (config : ConnConfig) (end : Option End) (events : List Event) (t : List Act) : Type 0 where
  pub stands : Stands side ids config end t
  pub told : IsToldIf is_whole side events t

-- ---- a pair

-- as many streams were opened as the client says; none where there is no end
abbrev pub HasOpenedEnd : PlainClient → Option End → Type 0
HasOpenedEnd c None = c.next ≡ 0
HasOpenedEnd c (Some end) = HasOpened c end.core

-- as many streams were accepted as the server says
abbrev pub HasAcceptedEnd : PlainServer → Option End → Type 0
HasAcceptedEnd s None = s.accepted ≡ 0
HasAcceptedEnd s (Some end) = HasAccepted s end.core

pub record ClientAt (is_whole : Bool) (p : PairState) (events : List Event) : Type 0 where
  pub acts : List Act
  pub at : EndAt is_whole Client p.ids p.config p.client_end events acts
  pub asking : Asking p.client acts
  pub opened : HasOpenedEnd p.client p.client_end

pub record ServerAt (is_whole : Bool) (p : PairState) (events : List Event) (entries : List PlainEntry) : Type 0 where
  pub acts : List Act
  pub at : EndAt is_whole Server p.ids p.config p.server_end events acts
  pub serving : Serving p.server entries acts
  pub accepted : HasAcceptedEnd p.server p.server_end

-- the pair stands where these events and entries leave it
pub record IsRunning (is_whole : Bool) (p : PairState) (events : List Event) (entries : List PlainEntry) : Type 0 where
  pub client : ClientAt is_whole p events
  pub server : ServerAt is_whole p events entries

-- The counts of streams in the settings are such as a frame can say; the ids are of one length; and the two ends are sound, by all that was
-- done with them.
pub record IsSound (p : PairState) (t u : List Act) (events : List Event) : Type 0 where
  pub fits : (p.config.limits.max_bidi ≤ 2 ^ 60) × (p.config.limits.max_uni ≤ 2 ^ 60)
  pub lengths : length p.ids.server ≡ length p.ids.client
  pub ends : AreSound p.ids p.config p.client_end p.server_end t u
  pub client : IsHeardAt Client (id_length p) p.config p.client_end events
  pub server : IsHeardAt Server (id_length p) p.config p.server_end events

-- the pair stands there, with sound ends
pub record IsRunningSoundly (p : PairState) (events : List Event) (entries : List PlainEntry) : Type 0 where
  pub run : IsRunning true p events entries
  pub sound : IsSound p run.client.acts run.server.acts events

-- and over an honest link its ends are sound
pub record RunsOn (p : PairState) (events : List Event) (entries : List PlainEntry) : Type 0 where
  pub running : IsRunning (not p.is_over) p events entries
  pub soundly : p.is_over ≡ false → IsHonest events → IsRunningSoundly p events entries

unfoldable pub Running : PairState → List Event → List PlainEntry → Type 0
Running p events entries = RunsOn p events entries

-- the pair has the same requests and settings, and stands where what the link and the service tell now leaves it
pub record WentOn (old new : PairState) (earlier events : List Event) (told : Option (List Event)) (before entries served : List PlainEntry) : Type 0 where
  pub same_requests : new.client.requests ≡ old.client.requests
  pub same_ids : new.ids ≡ old.ids
  pub same_config : new.config ≡ old.config
  pub more : List Event
  pub told_is : told ≡ Some (earlier ++ (events ++ more))
  pub fresh : List PlainEntry
  pub served_is : served ≡ before ++ (entries ++ fresh)
  pub running : Running new (events ++ more) (entries ++ fresh)

-- whatever happened before, the pair goes on with what the link and the service tell
abbrev pub GoesOn : (old : PairState) → Option (List Event) → List PlainEntry → (new : PairState) → Option (List Event) → List PlainEntry → Type 0
GoesOn old told_before served_before new told_after served_after =
    (earlier events : List Event) (before entries : List PlainEntry)
    → Running old events entries → told_before ≡ Some (earlier ++ events) → served_before ≡ before ++ entries
    → WentOn old new earlier events told_after before entries served_after

-- Over an honest link a pair that went on so fails for no fault of an end's, and for its idle time only where nothing came for as long.
abbrev pub IsFair : {T : Type 0} → (old : PairState) → (told_before told_after : Option (List Event)) → Result T ExchangeError → Type 0
IsFair old told_before told_after result = (earlier events more : List Event) (entries : List PlainEntry)
    → Running old events entries → told_before ≡ Some (earlier ++ events) → told_after ≡ Some (earlier ++ (events ++ more)) → IsHonest (events ++ more)
    → EndsFairly (id_length old) old.config.idle (events ++ more) result

-- ---- what it means

-- What a pair means over an honest link: no request was served twice or altered, each that was served was whole in what
-- the server was given, and each answer that is held is the one recorded and was whole in what the client was given. Each hello that came to a
-- side whole is such as the other says; and both sides were greeted before the first 1-RTT packet.
pub record Means (p : PairState) (events : List Event) (before entries : List PlainEntry) : Type 0 where
  pub served : ServedOnce (id_length p) events p.client.requests before (before ++ entries)
  pub answered : (index : ℕ) (answer : PlainMessage) → slice_get p.client.answers index ≡ Some (Some answer)
      → IsRecordedAnswer (id_length p) events entries index answer
  pub as_set : AreGreetedAsSet (id_length p) p.config events
  pub greeted_first : AreGreetedFirst (id_length p) events

-- If a datagram that greets it was given to the client, the client's end is there and knows its peer; and so it is of the server. Over an honest
-- link this holds of a pair that isn't over.
pub record AreGreeted (p : PairState) (events : List Event) : Type 0 where
  pub client : WasGreeted (id_length p) Client events → IsGreetedAt p.client_end
  pub server : WasGreeted (id_length p) Server events → IsGreetedAt p.server_end

-- an end that knew its peer still does
pub record KeepsGreeted (old new : PairState) : Type 0 where
  pub client : IsGreetedAt old.client_end → IsGreetedAt new.client_end
  pub server : IsGreetedAt old.server_end → IsGreetedAt new.server_end

-- The STREAM and RESET_STREAM frames of each datagram that was sent kept within what was announced to its sender before, over any link whose
-- whole hellos are such as the ends say.
abbrev pub KeepWithin : ℕ → List Event → Type 0
KeepWithin id_length events = (before after : List Event) (side : Side) (datagram : List ℕ) → events ≡ before ++ Sent side datagram ∷ after
    → KeptWithin id_length side before datagram
