-- What a turn of the driver does (quinn, `ConnectionDriver::poll`).
use Rattle.std.specs.Prelude.{◌≡◌, ◌⊎◌, ◌≤◌, ◌<◌, ℕ, ◌^◌, ◌-◌, Bool, true, false, List, [], ◌∷◌, ◌++◌, length, map, Option, Some, None, is_some, Result, Ok, Err}
use Rattle.futures.specs.declared.task.Poll.{Poll}
use Rattle.futures.specs.declared.task.Poll.TheVariants.{Pending, Ready}
use Rattle.qh_base.specs.declared.connection_error.ConnectionError.TheVariants as error
use Rattle.qh_base.specs.declared.path.Transmit.{Transmit}
use Rattle.qh_base.specs.declared.time.Moment.{Moment}
use Rattle.qh_base.specs.declared.transport_error.TransportError.{TransportError}
use Rattle.qh_book.specs.Book.{Book}
use Rattle.qh_book.specs.Items.{bring_all}
use Rattle.qh_book.specs.Shown.{Note}
use Rattle.qh_book.specs.Step.{StepsWith}
use Rattle.qh_book.specs.declared.call.Call.TheVariants as call
use Rattle.qh_book.specs.declared.item.Item.{Item}
use Rattle.qh_conn.specs.Items.{came}
use Rattle.qh_conn.specs.Incoming.{IsEventHandled, acts_of}
use Rattle.qh_conn.specs.Outgoing.{IsSilent, IsStill, IsTransmitted}
use Rattle.qh_conn.specs.Telling.{IsDueAt, IsFirstDue, IsTimedOut}
use Rattle.qh_conn.specs.Whole.{CarriesOnBy, IsWhole}
use Rattle.qh_conn.specs.declared.connection.Connection.{Connection}
use Rattle.qh_conn.specs.declared.event.ConnectionEvent.{ConnectionEvent}
use Rattle.qh_control.specs.Items.{logged}
use Rattle.qh_control.specs.declared.items.ConnectionItem.{ConnectionItem}
use Rattle.qh_core.specs.Event.{is_drained}
use Rattle.qh_core.specs.Inner.{is_open}
use Rattle.qh_core.specs.Made.{AcceptsTags, MakesTagsOf}
use Rattle.qh_core.specs.Receiving.{IsFaulted}
use Rattle.qh_handles.specs.Turns.{count_of, turn_reply}
use Rattle.qh_handshake.specs.Incoming.{SessionView}
use Rattle.qh_packet.specs.Session.{MakesTags, NamesTags}
use Rattle.qh_quinn.specs.Losses.{lost_items, new_loss}
use Rattle.qh_quinn.specs.States.{IsState, Shows}
use Rattle.qh_quinn.specs.Telling.{AreTold}
use Rattle.qh_quinn.specs.Waiting.{AreWoken}
use Rattle.qh_quinn.specs.declared.inner.StateInner.{StateInner}
use Rattle.qh_runtime.specs.Socket.{has_failed, poll_failed}
use Rattle.qh_runtime.specs.declared.runtime.IoFault.{IoFault}
use Rattle.qh_runtime.specs.declared.runtime.OutMessage.{OutMessage}
use Rattle.qh_shown.specs.Brings.{BringsSome, EndsWanting}
use Rattle.qh_shown.specs.Connections.{ShowsConnection, is_wanting}
use Rattle.qh_shown.specs.Items.{item_of}
use Rattle.qh_spec.specs.Codes as codes
use Rattle.qh_spec.specs.Fault.{CountsFaults}
use Rattle.qh_spec.specs.Transcript.{Act, HandedOut}

-- ---- what a turn does to the connection

-- what these events add to all that was done with it, in their order
abbrev pub acts_of_all : List ConnectionEvent → List Act
acts_of_all [] = []
acts_of_all (e ∷ es) = acts_of e ++ acts_of_all es

-- and these datagrams that were made
abbrev pub made_all : List OutMessage → List Act
made_all [] = []
made_all (m ∷ ms) = HandedOut m.bytes ∷ made_all ms

-- the datagram that waits for the socket, if one does
abbrev pub waiting_out : Option Transmit → (bytes : List ℕ) → List OutMessage
waiting_out None bytes = []
waiting_out (Some t) bytes = record { transmit = t; bytes = bytes } ∷ []

-- how a call ended, whatever it answered
abbrev pub ended : {T E : Type 0} → Result T E → Result (Unit {0}) IoFault
ended (Ok x) = Ok tt
ended (Err e) = Err IoFault.Memory

abbrev pub ended_by : {T : Type 0} → Result T IoFault → Result (Unit {0}) IoFault
ended_by (Ok x) = Ok tt
ended_by (Err fault) = Err fault

module _ {S : Type 0} where
  -- sessions name and make their tags
  pub record AreLawful (accepts : AcceptsTags S) (sealed : MakesTagsOf S) : Type 0 where
    pub names : (s : S) → NamesTags (accepts s)
    pub makes : (s : S) → MakesTags (sealed s)

  -- a book shows it
  pub record IsShown (c : Connection S) : Type 0 where
    pub told : Bool
    pub notes : ℕ → Note
    pub b : Book
    pub shows : ShowsConnection told c notes b

  -- What events, datagrams and timers brought: items, or items and then want of memory.
  pub data IsBrought (old new : Connection S) : Type 0 where
    some : BringsSome old new → IsBrought old new
    wanting : is_wanting old ≡ false → EndsWanting old new → IsBrought old new

  abbrev pub IsBroughtBy : Result (Unit {0}) IoFault → (old new : Connection S) → Type 0
  IsBroughtBy (Err IoFault.Memory) old new = IsBrought old new
  IsBroughtBy other old new = BringsSome old new

  -- one that isn't open stays so
  abbrev pub IsEnded : (old new : Connection S) → Type 0
  IsEnded old new = is_open old.core.state ≡ false → is_open new.core.state ≡ false

  -- In the middle of a turn the calls, the handles and what is kept of streams are as they were.
  abbrev pub HasSameCalls : (old new : StateInner S) → Type 0
  HasSameCalls old new = new ≡ record old {
    connection = new.connection;
    events = new.events;
    outgoing = new.outgoing;
    send_buffer = new.send_buffer;
    last_turn = new.last_turn;
    driver = new.driver;
  }

  -- the datagram that waits for the socket
  abbrev pub waits_in : StateInner S → List OutMessage
  waits_in s = waiting_out s.outgoing s.send_buffer.items

  -- Events that waited were handed over, in their order, or what was due was done.
  pub record IsHandled (accepts : AcceptsTags S) (sealed : MakesTagsOf S) (answer : Result (Unit {0}) IoFault) (old new : StateInner S) : Type 0 where
    pub same : new ≡ record old { connection = new.connection; events = new.events }
    pub whole : IsWhole new.connection
    pub handed : List ConnectionEvent
    pub events : old.events.items ≡ handed ++ new.events.items
    pub carries : AreLawful accepts sealed → CarriesOnBy accepts sealed old.connection new.connection (acts_of_all handed)
    pub brings : IsBroughtBy answer old.connection new.connection
    pub ended : IsEnded old.connection new.connection

  -- Datagrams were made, and these messages were handed to the socket, in the order in which they were made and behind one that waited for it.
  pub record IsSending (accepts : AcceptsTags S) (sealed : MakesTagsOf S) (answer : Result (Unit {0}) IoFault) (old new : StateInner S) (out : List OutMessage) : Type 0 where
    pub same : new ≡ record old { connection = new.connection; outgoing = new.outgoing; send_buffer = new.send_buffer }
    pub whole : IsWhole new.connection
    pub made : List OutMessage
    pub carries : AreLawful accepts sealed → CarriesOnBy accepts sealed old.connection new.connection (made_all made)
    pub brings : IsBroughtBy answer old.connection new.connection
    pub ended : IsEnded old.connection new.connection
    pub order : waits_in old ++ made ≡ out ++ waits_in new

  -- The first half of a turn: events that waited were handed over, all of them unless memory was wanting, what is due was done, and datagrams were made and
  -- handed to the socket.
  pub record IsAdvanced (accepts : AcceptsTags S) (sealed : MakesTagsOf S) (answer : Result (Unit {0}) IoFault) (old new : StateInner S) (out : List OutMessage) : Type 0 where
    pub same : HasSameCalls old new
    pub last_turn : new.last_turn ≡ old.last_turn
    pub whole : IsWhole new.connection
    pub handed : List ConnectionEvent
    pub made : List OutMessage
    pub events : old.events.items ≡ handed ++ new.events.items
    pub all : (answer ≡ Err IoFault.Memory → ⊥) → new.events.items ≡ []
    pub carries : AreLawful accepts sealed → CarriesOnBy accepts sealed old.connection new.connection (acts_of_all handed ++ made_all made)
    pub brings : IsBroughtBy answer old.connection new.connection
    pub ended : IsEnded old.connection new.connection
    pub order : waits_in old ++ made ≡ out ++ waits_in new

  -- what is due by then is done, if something is
  pub data IsTimedAt (now : Moment) (old new : Connection S) : Type 0 where
    done : (moment : ℕ) → IsFirstDue old moment → moment ≤ now.0 → IsTimedOut now.0 old new → IsTimedAt now old new
    not_yet : ((moment : ℕ) → IsDueAt old moment → now.0 < moment) → new ≡ old → IsTimedAt now old new

  -- these events were handed over, one after another
  abbrev pub AreHandled : SessionView S → List ConnectionEvent → (old new : Connection S) → Type 0
  AreHandled v [] old new = new ≡ old
  AreHandled v (e ∷ es) old new = (mid : Connection S) × IsEventHandled v e old mid × AreHandled v es mid new

  -- these datagrams were made, one after another
  abbrev pub AreMade : MakesTagsOf S → (now : Moment) → List OutMessage → (old new : Connection S) → Type 0
  AreMade sealed now [] old new = new ≡ old
  AreMade sealed now (m ∷ ms) old new = (mid : Connection S) × IsTransmitted (sealed old.core.session) now old mid [] m.bytes m.transmit × AreMade sealed now ms mid new

  -- it was asked for no more, or there was nothing more to be sent
  abbrev pub AsksNoMore : (old new : Connection S) → Type 0
  AsksNoMore old new = (new ≡ old) ⊎ (IsSilent old × IsStill old new)

  -- These datagrams were made, and no more.
  pub record IsFilled (sealed : MakesTagsOf S) (now : Moment) (made : List OutMessage) (old new : Connection S) : Type 0 where
    pub filled : Connection S
    pub makes : AreMade sealed now made old filled
    pub ends : AsksNoMore filled new

  -- These events were handed over, then what was due was done, and then these datagrams were made, and no more.
  pub record IsInOrder (v : SessionView S) (now : Moment) (handed : List ConnectionEvent) (made : List OutMessage) (old new : Connection S) : Type 0 where
    pub told : Connection S
    pub hands : AreHandled v handed old told
    pub timed : Connection S
    pub times : IsTimedAt now told timed
    pub fills : IsFilled v.sealed now made timed new

  -- Then a connection whose socket failed was lost by an internal error, which is the kept one; and what was due was told to the application.
  pub record IsHeeded (now : Moment) (has_failed was_told : Bool) (old : Connection S) (new : StateInner S) : Type 0 where
    pub lost : Connection S
    pub fails : has_failed ≡ true → (e : TransportError) × IsFaulted now e old.core lost.core × (lost ≡ record old { core = lost.core }) × (e.code.0 ≡ codes.internal_error) × (new.error ≡ Some (error.TransportError e))
    pub other : has_failed ≡ false → lost ≡ old
    pub tells : AreTold was_told lost new.is_connected new.connection

  -- The error that was kept is kept still, but want of memory in this turn takes its place; and what the connection was lost by in this turn is kept, if none was.
  pub record IsErrorKept (old new : StateInner S) : Type 0 where
    pub stays : is_some old.error ≡ true → (is_wanting old.connection ≡ true) ⊎ (is_wanting new.connection ≡ false) → new.error ≡ old.error
    pub lost : (old.error ≡ None) ⊎ ((is_wanting old.connection ≡ false) × (is_wanting new.connection ≡ true)) → new.error ≡ new.connection.core.error

  -- What a turn brought is known to the handles: items lead from each book that showed the state at its begin to one that shows it now. If the turn answers
  -- that the socket failed, that is the kept error.
  pub record IsTakenUp (done : Result (Unit {0}) IoFault) (first new : StateInner S) : Type 0 where
    pub items : List ConnectionItem
    pub logs : came new.connection ≡ logged (came first.connection) items
    pub each : (b : Book) → Shows first b → Shows new (bring_all (map item_of items ++ lost_items (new_loss (has_failed done) first new)) b)
    pub state : IsState new
    pub failed : done ≡ Err IoFault.Failed → (e : TransportError) × (new.error ≡ Some (error.TransportError e)) × (e.code.0 ≡ codes.internal_error)

  -- there was nothing to be sent, and no datagram waits for the socket
  pub record HasMadeNone (s : StateInner S) : Type 0 where
    pub none_waits : s.outgoing ≡ None
    pub before : Connection S
    pub silent : IsSilent before
    pub still : IsStill before s.connection

  -- Nothing is left to be sent for now, and no datagram waits for the socket. What the connection's log held may have been taken since.
  pub record HasSentAll (s : StateInner S) : Type 0 where
    pub none_waits : s.outgoing ≡ None
    pub before : Connection S
    pub silent : IsSilent before
    pub mid : Connection S
    pub still : IsStill before mid
    pub was_told : Bool
    pub log : Option (List ConnectionItem)
    pub told : AreTold was_told mid s.is_connected (record s.connection { control = record s.connection.control { log = log } })

-- ---- how often what stands outside failed

module _ {P : Type 0} (faults : P → ℕ) where
  -- the poller that was there failed, or one that was made since
  pub data FailsPoller (made_old made_new : ℕ) (before after : Option P) : Type 0 where
    kept : (poller : P) → before ≡ Some poller → made_new ≡ made_old → CountsFaults (faults poller) (count_of faults after) true → FailsPoller made_old made_new before after
    anew : ((made_old < made_new) ⊎ (made_new ≡ 2 ^ 64 - 1)) → CountsFaults 0 (count_of faults after) true → FailsPoller made_old made_new before after

  -- none failed: the one that was there is there still, or one was made, or there is none
  pub data LeavesPoller (made_old made_new : ℕ) (before after : Option P) : Type 0 where
    kept : (old new : P) → before ≡ Some old → after ≡ Some new → faults new ≡ faults old → made_new ≡ made_old → LeavesPoller made_old made_new before after
    anew : (new : P) → after ≡ Some new → faults new ≡ 0 → ((made_old < made_new) ⊎ (made_new ≡ 2 ^ 64 - 1)) → LeavesPoller made_old made_new before after
    gone : after ≡ None → LeavesPoller made_old made_new before after

  -- the counts of the socket and of the poller, over a call that failed by one of them or didn't
  pub record IsCounted (failed : Bool) (old new : ℕ) (made_old made_new : ℕ) (before after : Option P) : Type 0 where
    pub socket : old ≤ new
    pub made : made_old ≤ made_new
    pub cause : failed ≡ true → CountsFaults old new true ⊎ FailsPoller made_old made_new before after
    pub still : failed ≡ false → LeavesPoller made_old made_new before after

-- ---- turns

module _ {S : Type 0} (T : Type 0) where
  -- the book is stepped by the turn, with these items that it brought
  pub record IsTurnOf (now : Moment) (answer : Poll (Result (Unit {0}) IoFault)) (items : List Item) (b : Book) (new : StateInner S) : Type 0 where
    pub after : Book
    pub steps : StepsWith {T = T} b (call.Drive now) (turn_reply answer) items after
    pub shows : Shows new after

module _ {S : Type 0} (T : Type 0) where
  -- What a turn did: events that waited were handed over in their order, all of them unless memory was wanting; what is due was done; datagrams were made,
  -- none while the driver was held, and these messages were handed to the socket, behind one that waited for it, but for one that it failed at; then the
  -- application was told.
  pub record IsTurned (v : SessionView S) (old : StateInner S) (now : Moment) (is_held : Bool) (out : List OutMessage) (answer : Poll (Result (Unit {0}) IoFault)) (new : StateInner S) : Type 0 where
    -- what it brought, in its order; behind it, if the kept error is new, that the connection is lost by it
    pub items : List ConnectionItem
    pub logs : came new.connection ≡ logged (came old.connection) items
    pub each : (b : Book) → Shows old b → IsTurnOf T now answer (map item_of items ++ lost_items (new_loss (poll_failed answer) old new)) b new
    pub state : IsState new
    -- the handles are as they were
    pub handles : (new.handles ≡ old.handles) × (new.readers ≡ old.readers) × (new.stable_id ≡ old.stable_id)
    pub handed : List ConnectionEvent
    pub made : List OutMessage
    pub dropped : List OutMessage
    pub events : old.events.items ≡ handed ++ new.events.items
    pub all : (answer ≡ Ready (Err IoFault.Memory) → ⊥) → new.events.items ≡ []
    pub carries : AreLawful v.accepts v.sealed → CarriesOnBy v.accepts v.sealed old.connection new.connection (acts_of_all handed ++ made_all made)
    pub in_order : (answer ≡ Ready (Err IoFault.Memory) → ⊥) → (sent : Connection S) × IsInOrder v now handed made old.connection sent × IsHeeded now (poll_failed answer) old.is_connected sent new × AreWoken sent.is_data_due old.waiting.items new.waiting.items
    pub error : poll_failed answer ≡ false → IsErrorKept old new
    pub order : waits_in old ++ made ≡ out ++ (dropped ++ waits_in new)
    pub none_dropped : (answer ≡ Pending) ⊎ (answer ≡ Ready (Err IoFault.Memory)) → dropped ≡ []
    pub few_dropped : length dropped ≤ 1
    pub last_turn : new.last_turn ≡ now
    pub few : length out ≤ 20
    pub held : is_held ≡ true → (made ≡ []) × (out ≡ [])
    pub drained : answer ≡ Ready (Ok tt) → is_drained new.connection.core.state ≡ true
    pub goes_on : answer ≡ Pending → is_drained new.connection.core.state ≡ false
