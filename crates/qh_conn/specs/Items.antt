-- What a log keeps of a connection: its own items, and what came to its streams.
use Rattle.std.specs.Prelude.{◌≡◌, ◌⊎◌, true, false, Bool, ◌||◌, ◌&&◌, not, List, [], ◌∷◌, ◌++◌, Option, Some, None, is_some, if◌then◌else◌}
use Rattle.std.specs.Option.{option_map}
use Rattle.qh_base.specs.declared.connection_error.ConnectionError.{ConnectionError}
use Rattle.qh_base.specs.declared.connection_error.ConnectionError.TheVariants as error
use Rattle.qh_conn.specs.declared.connection.Connection.{Connection}
use Rattle.qh_conn.specs.declared.event.ConnectionEvent.{ConnectionEvent}
use Rattle.qh_conn.specs.declared.event.ConnectionEvent.TheVariants as event
use Rattle.qh_control.specs.Items.{logged, streamed}
use Rattle.qh_control.specs.declared.items.ConnectionItem.{ConnectionItem}
use Rattle.qh_control.specs.declared.items.ConnectionItem.TheVariants as item
use Rattle.qh_core.specs.Inner.{with_space}
use Rattle.qh_core.specs.declared.inner.Inner.{Inner}
use Rattle.qh_space.specs.declared.data_space.DataSpace.{DataSpace}
use Rattle.qh_streams.specs.Items.{first_items}
use Rattle.qh_streams.specs.declared.frames.PeerLimits.{PeerLimits}

-- the log of the streams is on, if that of the connection is, and empty: what it begins with is moved into that of the connection
abbrev pub streams_logged : Option (List ConnectionItem) → DataSpace → DataSpace
streams_logged None s = s
streams_logged (Some items) s = record s { log = Some [] }

-- what the log of the streams begins with, the peer's first limits
abbrev pub first_limits : PeerLimits → List ConnectionItem
first_limits peer = streamed (Some (first_items peer))

-- that the connection is lost, if it is and that wasn't logged
abbrev pub loss : (is_logged : Bool) → Option ConnectionError → List ConnectionItem
loss true error = []
loss false None = []
loss false (Some e) = item.Lost e ∷ []

-- Those of these items that the peer's frames and its hello don't bring: that the handshake is complete, that datagrams were sent, and that
-- the connection is lost.
abbrev pub own_items : List ConnectionItem → List ConnectionItem
own_items [] = []
own_items (item.Connected ∷ items) = item.Connected ∷ own_items items
own_items (item.DatagramsSent count ∷ items) = item.DatagramsSent count ∷ own_items items
own_items (item.Lost e ∷ items) = item.Lost e ∷ own_items items
own_items (other ∷ items) = own_items items

module _ {S : Type 0} where
  -- the log of the streams is empty, if that of the connection is on
  abbrev pub streams_taken : Option (List ConnectionItem) → Inner S → Inner S
  streams_taken None core = core
  streams_taken (Some items) core = with_space core (record core.space { log = option_map (λ _. []) core.space.log })

  -- What came to the streams comes behind the items of this log, which is the connection's, and these items behind that, if it is on.
  abbrev pub noted_in : Option (List ConnectionItem) → List ConnectionItem → Connection S → Connection S
  noted_in log more c = record c { core = streams_taken log c.core; control = record c.control { log = logged log (streamed c.core.space.log ++ more) } }

  abbrev pub noted : List ConnectionItem → Connection S → Connection S
  noted more c = noted_in c.control.log more c

  -- a log that was lent out is given back
  abbrev pub given_back : Option (List ConnectionItem) → Connection S → Connection S
  given_back log c = record c { control = record c.control { log = log } }

  -- All that wasn't taken yet, in the order in which it came: what is in the connection's log, what came to the streams since, and that the
  -- connection is lost. None if the log is off.
  abbrev pub untaken : Connection S → Option (List ConnectionItem)
  untaken c = logged c.control.log (streamed c.core.space.log ++ loss c.is_lost_logged c.core.error)

  -- the loss is logged once
  abbrev pub is_loss_logged : Connection S → Bool
  is_loss_logged c = c.is_lost_logged || (is_some c.control.log && is_some c.core.error)

  -- the log of the streams is on, if that of the connection is, behind whose items the peer's first limits come
  abbrev pub streams_started : Connection S → Connection S
  streams_started c = record c {
    core = with_space c.core (streams_logged c.control.log c.core.space);
    control = record c.control { log = logged c.control.log (first_limits c.core.space.streams.peer) };
  }

  -- The log is on, and that of the streams of an end that was greeted. It begins with the peer's first limits then, and else with nothing.
  abbrev pub log_started : Connection S → Connection S
  log_started c = record c {
    core = (if is_some c.handshake.peer then with_space c.core (record c.core.space { log = Some [] }) else c.core);
    control = record c.control { log = Some (if is_some c.handshake.peer then first_limits c.core.space.streams.peer else []) };
  }

  -- all was taken, if the log is on
  abbrev pub items_taken : Connection S → Connection S
  items_taken c = record c {
    core = streams_taken c.control.log c.core;
    control = record c.control { log = option_map (λ _. []) c.control.log };
    is_lost_logged = is_loss_logged c;
  }

  -- that the connection is lost is in the log too
  abbrev pub loss_noted : Connection S → Connection S
  loss_noted c = record (noted (loss c.is_lost_logged c.core.error) c) { is_lost_logged = is_loss_logged c }

  -- Nothing came to the streams that isn't in the connection's log, if that is on, and nothing before the peer's hello was read.
  abbrev pub IsLogCurrent : Connection S → Type 0
  IsLogCurrent c = (is_some c.control.log ≡ true) ⊎ (c.handshake.peer ≡ None) → streamed c.core.space.log ≡ []

  -- ---- want of memory

  -- all that wasn't taken yet, but for that the connection is lost
  abbrev pub came : Connection S → Option (List ConnectionItem)
  came c = logged c.control.log (streamed c.core.space.log)

  -- the handshake is complete since
  abbrev pub is_connected_since : (old new : Connection S) → Bool
  is_connected_since old new = not old.is_connected && new.is_connected

  -- What a call that sends nothing does with the connection's log, whatever it answers: nothing that is in it goes, and these items come
  -- behind it, in this order. One of them tells that the handshake is complete exactly if it is since, and then that is to be told by an event
  -- too; the others are such as the peer brings. What was to be told stays so, and so does what was told.
  pub record LogGoesOn (more : List ConnectionItem) (old new : Connection S) : Type 0 where
    pub log_is : new.control.log ≡ logged old.control.log more
    pub own : own_items more ≡ (if is_connected_since old new then item.Connected ∷ [] else [])
    pub connected : old.is_connected ≡ true → new.is_connected ≡ true
    pub due : new.is_connected_due ≡ (is_connected_since old new || old.is_connected_due)
    pub data_due : old.is_data_due ≡ true → new.is_data_due ≡ true
    pub lost_logged : new.is_lost_logged ≡ old.is_lost_logged
    pub lost_told : new.core.is_lost_told ≡ old.core.is_lost_told
    pub drained_told : new.core.is_drained_told ≡ old.core.is_drained_told

  -- Want of memory ended the connection. What can be taken is all that came before and wasn't taken, in its order, then these items, which the
  -- call added until then, and last, once, that the connection is lost by that, unless a loss was logged before.
  pub record IsLogEnded (more : List ConnectionItem) (old new : Connection S) : Type 0 where
    pub goes_on : LogGoesOn more old new
    pub untaken_is : untaken new ≡ logged (came old) (more ++ loss old.is_lost_logged (Some error.Memory))

  -- The same by an event. Only a datagram adds items. Which of those that it would bring are there isn't said.
  abbrev pub EndsLogBy : ConnectionEvent → (old new : Connection S) → Type 0
  EndsLogBy (event.Datagram now remote payload) old new = (more : List ConnectionItem) × IsLogEnded more old new
  EndsLogBy other old new = IsLogEnded [] old new
