-- What the steps of a turn do (own).
use Rattle.std.specs.Prelude.{◌≡◌, ◌⊎◌, ℕ, ◌≤◌, ◌^◌, Bool, true, false, List, [], ◌++◌, ◌∷◌, Option, Some, None, Result, Ok, Err, IfOk, MatchBool, is_some, length}
use Rattle.qh_base.specs.declared.connection_error.ConnectionError.{ConnectionError}
use Rattle.qh_base.specs.declared.connection_error.ConnectionError.TheVariants as lost
use Rattle.qh_base.specs.declared.time.Moment.{Moment}
use Rattle.qh_base.specs.declared.time.Span.{Span}
use Rattle.qh_conduct.specs.Restarting.{IsCounting}
use Rattle.qh_conn.specs.Whole.{Stands as ConnStands}
use Rattle.qh_conn.specs.declared.config.ConnConfig.{ConnConfig}
use Rattle.qh_core.specs.Inner.{is_open, with_streams}
use Rattle.qh_handshake.specs.declared.handshake.Handshake.{Handshake}
use Rattle.qh_packet.specs.Session.{plain_accepts, plain_sealed}
use Rattle.qh_peers.specs.Ends.{IsHonestEnd}
use Rattle.qh_peers.specs.Greets.{CanBeGreeted, IsGreeting}
use Rattle.qh_roles.specs.Client.{PlainClient, Asking, HasOpened}
use Rattle.qh_roles.specs.Going.{WentFrom}
use Rattle.qh_roles.specs.Server.{PlainServer, HasAccepted, ServerStep}
use Rattle.qh_roles.specs.Streams.{Acted, IsFresh}
use Rattle.qh_spec.specs.declared.link.Event.{Event}
use Rattle.qh_spec.specs.declared.link.Event.TheVariants.{Given}
use Rattle.qh_spec.specs.declared.sides.Side.{Side}
use Rattle.qh_spec.specs.declared.sides.Side.TheVariants.{Client, Server}
use Rattle.qh_spec.specs.Honest.{IsHonest}
use Rattle.qh_spec.specs.Link.{given_to, other, told}
use Rattle.qh_spec.specs.Lists.{In}
use Rattle.qh_spec.specs.Record.{PlainEntry}
use Rattle.qh_spec.specs.Transcript.{Act, HandedIn, handed_in, handed_out}
use Rattle.qh_spec.specs.Turns.{IsIntake, IsOutput}
use Rattle.qh_pair.specs.Clock.{HasTimedOut}
use Rattle.qh_pair.specs.EndCalls.{HasAcceptedCount, HasOpenedCount, HasWaited, IsDueDone, IsPolledOut, IsUndisturbedBy, KeepsCounts}
use Rattle.qh_pair.specs.Ends.{End, HasKept, IsEndOf, Stands, first_destination, own_id}
use Rattle.qh_pair.specs.Error.{error_of_loss}
use Rattle.qh_pair.specs.Errors.{IfTimedOut}
use Rattle.qh_pair.specs.Full.{IsSentOut, OpensBy}
use Rattle.qh_pair.specs.Pair.{IsRunning, IsRunningSoundly, IsToldIf, KeepsGreeted, PairState, told_acts}
use Rattle.qh_pair.specs.Sound.{AreBy, AreSoundEnds, AreTwo, IsGreetedAt, IsGreetedBehind}
use Rattle.qh_pair.specs.Timed.{IsTimedBy}
use Rattle.qh_pair.specs.Turn.{IsNotLost}
use Rattle.qh_pair.specs.declared.ends.Ids.{Ids}
use Rattle.qh_pair.specs.declared.error.ExchangeError.{ExchangeError}
use Rattle.qh_pair.specs.declared.error.ExchangeError.TheVariants.{Link, Memory}

-- the errors of the steps that use the link
abbrev pub IsLinkError : ExchangeError → Type 0
IsLinkError Link = Unit {0}
IsLinkError Memory = Unit {0}
IsLinkError _ = ⊥

abbrev pub is_done : {T : Type 0} → {E : Type 0} → Result T E → Bool
is_done (Ok x) = true
is_done (Err e) = false

-- ---- one end

-- An end that opened at this moment, and did nothing yet. A server sends to the client's id, so the client can greet it; a client knows no id of
-- its server's yet, so any server can.
pub record IsNewEnd (side : Side) (ids : Ids) (config : ConnConfig) (now : Moment) (c : End) : Type 0 where
  pub of : IsEndOf side ids config c
  pub hello : List ℕ
  pub stands : ConnStands plain_accepts plain_sealed hello c []
  pub kept : HasKept side (length ids.client) c []
  pub honest : (config.limits.max_bidi ≤ 2 ^ 60) × (config.limits.max_uni ≤ 2 ^ 60) → IsHonestEnd plain_accepts plain_sealed hello c []
  pub key_is : c.core.session.key_id ≡ ids.key
  pub unretried : c.handshake.retry_id ≡ None
  pub unknown : c.handshake.peer ≡ None
  pub there : c.handshake.remote_id ≡ first_destination side ids
  pub opened : c.core.space.streams.bi.opened ≡ 0
  pub accepted : c.core.space.streams.bi.accepted ≡ 0
  pub since : c.core.idle.since ≡ now
  pub timed : IsTimedBy config.idle c
  pub not_lost : c.core.error ≡ None
  pub up : is_open c.core.state ≡ true
  pub can : (peer : Handshake) → (side ≡ Server → peer.local_id ≡ ids.client) → CanBeGreeted c.handshake peer

-- acts that no writer and no reader of a stream sees
abbrev pub IsQuiet : List Act → Type 0
IsQuiet acts = (stream : ℕ) → IsFresh acts stream

-- an end that came to be at this moment
pub record IsOpenedAt (now : Moment) (idle : Option Span) (d : End) : Type 0 where
  pub opened : HasOpenedCount 0 d
  pub accepted : HasAcceptedCount 0 d
  pub timed : IsTimedBy idle d
  pub since : d.core.idle.since ≡ now
  pub timed_out : d.core.error ≡ Some lost.TimedOut → ⊥

-- what no datagram tells is as it was, but where want of memory ended the end; one that wasn't there begins
abbrev pub IsEndUndisturbed : (is_whole : Bool) → Moment → (idle : Option Span) → (old new : Option End) → Type 0
IsEndUndisturbed is_whole now idle None None = Unit {0}
IsEndUndisturbed is_whole now idle None (Some d) = MatchBool is_whole (IsOpenedAt now idle d) (IsOpenedAt now idle d ⊎ (d.core.error ≡ Some lost.Memory))
IsEndUndisturbed is_whole now idle (Some c) None = ⊥
IsEndUndisturbed is_whole now idle (Some c) (Some d) = MatchBool is_whole (IsUndisturbedBy now c d) (IsUndisturbedBy now c d ⊎ (d.core.error ≡ Some lost.Memory))

-- the idle time of an end that is there runs from this moment
abbrev pub IsRestartedAt : Moment → Option End → Type 0
IsRestartedAt now None = ⊥
IsRestartedAt now (Some d) = d.core.idle.since ≡ now

-- What a datagram of its peer's leaves of one of two ends: they are two ends still; one that counts restarts the idle time, and by one that greets
-- it the end is greeted.
pub record IsTakenFrom (now : Moment) (c d q : End) (datagram : List ℕ) (t u : List Act) : Type 0 where
  pub ends : AreTwo d q (t ++ HandedIn datagram ∷ []) u
  pub restarted : IsCounting (length c.core.local_id) q.core.side (handed_in t) datagram → d.core.idle.since ≡ now
  pub greeted : IsGreeting (length c.core.local_id) q.core.side (handed_in t) datagram → is_some d.handshake.peer ≡ true

-- so it does of whichever end handed it out
abbrev pub TakesFrom : Moment → (c d : End) → (datagram : List ℕ) → Type 0
TakesFrom now c d datagram = (q : End) (t u : List Act) → AreTwo c q t u → In datagram (handed_out u) → IsTakenFrom now c d q datagram t u

-- What more events leave of two sound ends, whose other one did nothing meanwhile: they are sound; a datagram that counts restarted the idle
-- time, and by one that greets it the end was greeted.
pub record StaysSound (now : Moment) (side : Side) (ids : Ids) (config : ConnConfig) (new peer : Option End) (t acts u : List Act) (more : List Event) : Type 0 where
  pub ends : AreSoundEnds side ids config new peer (t ++ acts) u
  pub restarted : (before after : List Event) (datagram : List ℕ) → more ≡ before ++ Given side datagram ∷ after
      → IsCounting (length (own_id side ids)) (other side) (handed_in t ++ given_to side before) datagram → IsRestartedAt now new
  pub greeted : IsGreetedBehind (length (own_id side ids)) side (handed_in t) more → IsGreetedAt new

-- so it is where the call went well, and the link gave the end only what its peer handed out
abbrev pub KeepsSound : (is_whole : Bool) → Moment → Side → Ids → ConnConfig → (old new : Option End) → (t acts : List Act) → List Event → Type 0
KeepsSound is_whole now side ids config old new t acts more = (peer : Option End) (u : List Act) → is_whole ≡ true → AreSoundEnds side ids config old peer t u
    → ((datagram : List ℕ) → In datagram (given_to side more) → In datagram (handed_out u)) → StaysSound now side ids config new peer t acts u more

-- behind this transcript the end did quiet acts, of which the events tell
pub record Did (is_whole : Bool) (now : Moment) (side : Side) (ids : Ids) (config : ConnConfig) (old new : Option End) (t : List Act) (more : List Event) : Type 0 where
  pub acts : List Act
  pub quiet : IsQuiet acts
  pub stands : Stands side ids config new (t ++ acts)
  pub told : IsToldIf is_whole side more acts
  pub sound : KeepsSound is_whole now side ids config old new t acts more

-- An end went on at this moment by what the link tells more, which is of this kind, and knows its peer if it did; the other end did nothing
-- meanwhile.
pub record EndStep (is_whole : Bool) (now : Moment) (side : Side) (ids : Ids) (config : ConnConfig) (old new : Option End) (before after : Option (List Event)) (Kind : List Event → Type 0) : Type 0 where
  pub more : List Event
  pub told_is : after ≡ told before more
  pub kind : Kind more
  pub silent : told_acts (other side) more ≡ []
  pub does : (t : List Act) → Stands side ids config old t → Did is_whole now side ids config old new t more
  pub undisturbed : IsEndUndisturbed is_whole now config.idle old new
  pub known : IsGreetedAt old → IsGreetedAt new

-- why an end is lost over an honest link
abbrev pub IsLostFairly : (now : ℕ) → ConnectionError → Option End → Type 0
IsLostFairly now e None = ⊥
IsLostFairly now e (Some c) = (e ≡ lost.Memory) ⊎ ((e ≡ lost.TimedOut) × HasWaited now c)

-- the counts of an end that isn't lost for want of memory are as they were
abbrev pub KeepsCountsAt : (old new : Option End) → Type 0
KeepsCountsAt None None = Unit {0}
KeepsCountsAt None (Some d) = ⊥
KeepsCountsAt (Some c) None = ⊥
KeepsCountsAt (Some c) (Some d) = (d.core.error ≡ Some lost.Memory) ⊎ KeepsCounts c d

-- what was due was done of an end that is there, and then events were taken; or want of memory ended it
abbrev pub IsDueDoneAt : (now : ℕ) → (old new : Option End) → Type 0
IsDueDoneAt now None None = Unit {0}
IsDueDoneAt now None (Some d) = ⊥
IsDueDoneAt now (Some c) None = ⊥
IsDueDoneAt now (Some c) (Some d) = (d.core.error ≡ Some lost.Memory) ⊎ ((mid : End) × IsDueDone now c mid × IsPolledOut mid d)

-- the moments that were due did this to an end: its transcript stays
pub record EndTicked (now : ℕ) (side : Side) (old new : Option End) : Type 0 where
  pub due : IsDueDoneAt now old new
  pub stands : (ids : Ids) (config : ConnConfig) (t : List Act) → Stands side ids config old t → Stands side ids config new t
  pub counts : KeepsCountsAt old new
  pub known : IsGreetedAt old → IsGreetedAt new

-- ---- a pair

-- as many streams were opened and accepted as the client and the server say, and none before the end was greeted
abbrev pub HasOpenedAll : PlainClient → Option End → Type 0
HasOpenedAll c None = c.next ≡ 0
HasOpenedAll c (Some end) = HasOpenedCount c.next end

abbrev pub HasAcceptedAll : PlainServer → Option End → Type 0
HasAcceptedAll s None = s.accepted ≡ 0
HasAcceptedAll s (Some end) = HasAcceptedCount s.accepted end

pub record IsCounted (p : PairState) : Type 0 where
  pub client : HasOpenedAll p.client p.client_end
  pub server : HasAcceptedAll p.server p.server_end

-- Some events and entries leave the pair as it is. Its ends count their streams exactly, unless a turn answered an error or is being made.
pub record HasRun (p : PairState) : Type 0 where
  pub events : List Event
  pub entries : List PlainEntry
  pub running : IsRunning true p events entries
  pub counted : p.is_over ≡ false → IsCounted p
  pub places : length p.client.answers ≡ length p.client.requests

-- the same pair, with the same requests and settings, whose ends know their peers if they did
pub record IsSamePair (old new : PairState) : Type 0 where
  pub requests : new.client.requests ≡ old.client.requests
  pub places : length new.client.answers ≡ length old.client.answers
  pub ids : new.ids ≡ old.ids
  pub config : new.config ≡ old.config
  pub limits : new.server.limits ≡ old.server.limits
  pub over : new.is_over ≡ old.is_over
  pub known : KeepsGreeted old new

-- a pair went on at this moment by what the link and the service tell more, which is of this kind
pub record PairStep (now : ℕ) (is_whole : Bool) (old new : PairState) (before after : Option (List Event)) (served_before served_after : List PlainEntry) (Kind : List Event → Type 0) : Type 0 where
  pub same : IsSamePair old new
  pub more : List Event
  pub told_is : after ≡ told before more
  pub kind : Kind more
  pub fresh : List PlainEntry
  pub served_is : served_after ≡ served_before ++ fresh
  pub running : (events : List Event) (entries : List PlainEntry) → IsRunning true old events entries → IsRunning is_whole new (events ++ more) (entries ++ fresh)
  pub counted : is_whole ≡ true → IsCounted new
  pub soundly : is_whole ≡ true → (events : List Event) (entries : List PlainEntry) → IsHonest (events ++ more) → AreBy now (events ++ more)
      → IsRunningSoundly old events entries → IsRunningSoundly new (events ++ more) (entries ++ fresh)

-- nothing passed on the link and nothing was served
pub record IsStill (old new : PairState) : Type 0 where
  pub same : IsSamePair old new
  pub running : (events : List Event) (entries : List PlainEntry) → IsRunning true old events entries → IsRunning true new events entries
  pub counted : IsCounted new
  pub soundly : (events : List Event) (entries : List PlainEntry) → IsRunningSoundly old events entries → IsRunningSoundly new events entries

-- this side's end, of a connection
abbrev pub IsOnSide : Side → Option End → Type 0
IsOnSide side None = Unit {0}
IsOnSide side (Some c) = c.core.side ≡ side

-- A client went on at its end, without a datagram.
pub record ClientWent (old new : PlainClient) (before after : End) : Type 0 where
  pub greeted : is_some before.handshake.peer ≡ true
  pub rest : after ≡ record before { core = with_streams before.core after.core.space.streams }
  pub requests : new.requests ≡ old.requests
  pub places : length new.answers ≡ length old.answers
  pub opened : HasOpened old before.core → HasOpened new after.core
  pub asks : (done t : List Act) → WentFrom before.core done before.core t → HasOpened old before.core → Asking old t → Acted before.core done (Asking new) after.core t

-- It did so, or its end isn't greeted.
pub data ClientPolled (old new : PlainClient) (old_end new_end : Option End) : Type 0 where
  went : (before after : End) → old_end ≡ Some before → new_end ≡ Some after → ClientWent old new before after → ClientPolled old new old_end new_end
  waits : new ≡ old → new_end ≡ old_end → ClientPolled old new old_end new_end

-- A server went on at its end, without a datagram.
pub record ServerWent (old new : PlainServer) (before after : End) (served_before served_after : List PlainEntry) : Type 0 where
  pub greeted : is_some before.handshake.peer ≡ true
  pub rest : after ≡ record before { core = with_streams before.core after.core.space.streams }
  pub limits : new.limits ≡ old.limits
  pub accepted : HasAccepted old before.core → HasAccepted new after.core
  pub serves : HasAccepted old before.core → ServerStep old new before.core after.core served_before served_after

-- It did so, or its end isn't greeted, or isn't there.
pub data ServerPolled (old new : PlainServer) (old_end new_end : Option End) (served_before served_after : List PlainEntry) : Type 0 where
  went : (before after : End) → old_end ≡ Some before → new_end ≡ Some after → ServerWent old new before after served_before served_after
      → ServerPolled old new old_end new_end served_before served_after
  waits : new ≡ old → new_end ≡ old_end → served_after ≡ served_before → ServerPolled old new old_end new_end served_before served_after

-- how a turn ends by what its ends lost, the client's loss first
abbrev pub ended_by : (client server : Option ConnectionError) → Result (Unit {0}) ExchangeError
ended_by (Some e) server = Err (error_of_loss e)
ended_by None (Some e) = Err (error_of_loss e)
ended_by None None = Ok tt

-- neither end is lost
pub record AreNotLost (p : PairState) : Type 0 where
  pub client : IsNotLost p.client_end
  pub server : IsNotLost p.server_end

-- ---- the clock

-- the idle time of an end runs from the first of these moments or later, and didn't end it
pub record IsTicking (idle : Option Span) (moments : List ℕ) (c : End) : Type 0 where
  pub first : ℕ
  pub rest : List ℕ
  pub are : moments ≡ first ∷ rest
  pub since : first ≤ c.core.idle.since.0
  pub timed : IsTimedBy idle c
  pub not_timed_out : c.core.error ≡ Some lost.TimedOut → ⊥

abbrev pub IsEndTicking : Option Span → List ℕ → Option End → Type 0
IsEndTicking idle moments None = Unit {0}
IsEndTicking idle moments (Some c) = IsTicking idle moments c

pub record AreTicking (p : PairState) (moments : List ℕ) : Type 0 where
  pub client : IsEndTicking p.config.idle moments p.client_end
  pub server : IsEndTicking p.config.idle moments p.server_end

-- this is the last of the moments, and not before the first
pub record IsLastOf (moments : List ℕ) (now : ℕ) : Type 0 where
  pub first : ℕ
  pub rest : List ℕ
  pub begin : moments ≡ first ∷ rest
  pub front : List ℕ
  pub end : moments ≡ front ++ now ∷ []
  pub order : first ≤ now

-- a step at this moment leaves the clock running
abbrev pub KeepsTicking : (now : ℕ) → (old new : PairState) → Type 0
KeepsTicking now old new = (moments : List ℕ) → IsLastOf moments now → AreTicking old moments → AreTicking new moments

-- a round began behind these moments of earlier turns
pub record BeginsAt (new : PairState) (before moments after : List ℕ) (result : Result Moment ExchangeError) : Type 0 where
  pub more : List ℕ
  pub are : after ≡ before ++ (moments ++ more)
  pub begun : IfOk result (λ now. IsLastOf (moments ++ more) now.0 × AreTicking new (moments ++ more))

-- a turn went on from these moments of earlier turns
pub record TicksOn {T : Type 0} (old new : PairState) (before moments after : List ℕ) (result : Result T ExchangeError) : Type 0 where
  pub more : List ℕ
  pub are : after ≡ before ++ (moments ++ more)
  pub ticking : IfOk result (λ _. AreTicking new (moments ++ more))
  pub timed_out : IfTimedOut result (HasTimedOut new (moments ++ more))

-- the client's end is there
abbrev pub IsOpen : PairState → Type 0
IsOpen p = is_some p.client_end ≡ true

-- the client takes, and then the server, which is there if a client's first datagram was given to it
pub record AreIntakes (ids : Ids) (is_there : Bool) (events : List Event) : Type 0 where
  pub to_client : List Event
  pub to_server : List Event
  pub are : events ≡ to_client ++ to_server
  pub client_takes : IsIntake Client to_client
  pub server_takes : IsIntake Server to_server
  pub opened : OpensBy ids Server to_server (is_there ≡ true)

-- the client sends all that it has, and then the server
pub record AreOutputs (p : PairState) (events : List Event) : Type 0 where
  pub by_client : List Event
  pub by_server : List Event
  pub are : events ≡ by_client ++ by_server
  pub client_sends : IsOutput Client by_client
  pub server_sends : IsOutput Server by_server
  pub client_is_done : IsSentOut Client p.client_end by_client
  pub server_is_done : IsSentOut Server p.server_end by_server
