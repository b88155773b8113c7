-- Turns in which all was done that could be.
use Rattle.std.specs.Prelude.{◌≡◌, ◌⊎◌, ℕ, zero, suc, true, false, List, [], ◌++◌, Option, Some, None, is_some, length}
use Rattle.qh_conduct.specs.Calls.{ToldTheSame}
use Rattle.qh_conn.specs.Outgoing.{IsSilent, IsStill}
use Rattle.qh_roles.specs.Client.{PlainClient}
use Rattle.qh_roles.specs.ClientSteps.{MayOpenNone}
use Rattle.qh_spec.specs.declared.link.Event.{Event}
use Rattle.qh_spec.specs.declared.sides.Side.{Side}
use Rattle.qh_spec.specs.declared.sides.Side.TheVariants.{Client, Server}
use Rattle.qh_spec.specs.Link.{given_to, sent_by}
use Rattle.qh_spec.specs.Lists.{In}
use Rattle.qh_spec.specs.Turns.{IsWholeTurn}
use Rattle.qh_spec.specs.Message.{PlainMessage}
use Rattle.qh_spec.specs.Record.{PlainEntry}
use Rattle.qh_pair.specs.Ends.{End}
use Rattle.qh_pair.specs.Pair.{PairState, Running, id_length}
use Rattle.qh_pair.specs.Sound.{IsFirst, WasGreeted}
use Rattle.qh_pair.specs.declared.ends.Ids.{Ids}

-- an end was asked for a datagram, and has none to send; or there is none
abbrev pub HasNothingToSend : Option End → Type 0
HasNothingToSend None = Unit {0}
HasNothingToSend (Some d) = (c : End) × IsStill c d × IsSilent c

-- if a client's first datagram was given to a side, this holds
abbrev pub OpensBy : Ids → Side → List Event → Type 0 → Type 0
OpensBy ids side events There = (d : List ℕ) → In d (given_to side events) → IsFirst ids d → There

-- all was sent that an end has, or as many datagrams as a turn may have
abbrev pub IsSentOut : Side → (new : Option End) → List Event → Type 0
IsSentOut side new more = (length (sent_by side more) ≡ 4096) ⊎ HasNothingToSend new

-- it is greeted exactly if it was, the peer permits as many streams as before, and as many of its own arrived
abbrev pub ToldAsBefore : (old new : Option End) → Type 0
ToldAsBefore (Some c) (Some d) = (d.handshake.peer ≡ c.handshake.peer) × ToldTheSame c.core.space.streams d.core.space.streams
ToldAsBefore (Some c) None = ⊥
ToldAsBefore None None = Unit {0}
ToldAsBefore None (Some d) = ⊥

-- each request has a stream, or the peer permits no more, or the connection is closed, or the client isn't greeted
abbrev pub AsksWhereItMay : PlainClient → Option End → Type 0
AsksWhereItMay c None = ⊥
AsksWhereItMay c (Some end) = (end.handshake.peer ≡ None) ⊎ ((c.next ≡ length c.requests) ⊎ MayOpenNone end.core)

-- each stream that arrived was accepted, or the server isn't greeted, or isn't there
abbrev pub HasAcceptedWhatArrived : Option End → Type 0
HasAcceptedWhatArrived None = Unit {0}
HasAcceptedWhatArrived (Some end) = (end.handshake.peer ≡ None) ⊎ (end.core.space.streams.bi.accepted ≡ end.core.space.streams.bi.arrived)

-- A whole turn that left the pair so: the client's end is there, and the server's, if a client's first datagram was given to it; each end sent
-- all that it had, the client asks wherever it may, and the server accepted each stream.
pub record IsFullTurn (p : PairState) (events : List Event) : Type 0 where
  pub turn : IsWholeTurn events
  pub client_sent : IsSentOut Client p.client_end turn.by_client
  pub server_sent : IsSentOut Server p.server_end turn.by_server
  pub opened : OpensBy p.ids Server turn.to_server (is_some p.server_end ≡ true)
  pub asks : AsksWhereItMay p.client p.client_end
  pub accepts : HasAcceptedWhatArrived p.server_end

-- each request has a stream, or the peer permits no more, or the connection is closed
abbrev pub HasAskedWherePermitted : PlainClient → Option End → Type 0
HasAskedWherePermitted c None = ⊥
HasAskedWherePermitted c (Some end) = (c.next ≡ length c.requests) ⊎ MayOpenNone end.core

-- each stream that arrived was accepted
abbrev pub HasAcceptedEachArrived : Option End → Type 0
HasAcceptedEachArrived None = ⊥
HasAcceptedEachArrived (Some end) = end.core.space.streams.bi.accepted ≡ end.core.space.streams.bi.arrived

-- If a datagram that greets it was given to the client in these events, it asked wherever its peer permits; and if one was given to the server,
-- it accepted each stream that arrived. Over an honest link a full turn leaves a pair so that isn't over.
pub record ActOnceGreeted (p : PairState) (events : List Event) : Type 0 where
  pub asks : WasGreeted (id_length p) Client events → HasAskedWherePermitted p.client p.client_end
  pub accepts : WasGreeted (id_length p) Server events → HasAcceptedEachArrived p.server_end

-- the last of these turns was such a one
pub record EndsInFullTurn (p : PairState) (events : List Event) : Type 0 where
  pub front : List Event
  pub turn : List Event
  pub are : events ≡ front ++ turn
  pub full : IsFullTurn p turn

-- Behind these events so many turns were made, one after another, and for each there is a pair with these requests, which goes on and
-- stands where the events and some entries leave it, of which it was a full one.
abbrev pub AreFullTurns : (requests : List PlainMessage) → ℕ → (before events : List Event) → Type 0
AreFullTurns requests zero before events = events ≡ []
AreFullTurns requests (suc n) before events = (turn rest : List Event) × (entries : List PlainEntry) × (p : PairState) × (events ≡ turn ++ rest) × (p.client.requests ≡ requests)
    × (p.is_over ≡ false) × Running p (before ++ turn) entries × IsFullTurn p turn × AreFullTurns requests n (before ++ turn) rest
