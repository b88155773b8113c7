-- What holds of a connection at every moment, and how it stands to all that was done with it (RFC 9000, sections 5 and 7).
use Rattle.std.specs.Prelude.{◌≡◌, ◌⊎◌, ℕ, true, false, List, ◌++◌, length, None, is_some}
use Rattle.qh_conn.specs.Items.{IsLogCurrent}
use Rattle.qh_conn.specs.declared.connection.Connection.{Connection}
use Rattle.qh_control.specs.Control.{IsSendable}
use Rattle.qh_converse.specs.Converses.{Converses}
use Rattle.qh_core.specs.Inner.{is_open}
use Rattle.qh_core.specs.Made.{AcceptsTags, MakesTagsOf}
use Rattle.qh_handshake.specs.Handshake.{IsHandshake}
use Rattle.qh_spec.specs.Transcript.{Act}
use Rattle.qh_spec.specs.declared.sides.Side.TheVariants.{Client}

module _ {S : Type 0} where
  -- The handshake and the end of the 1-RTT packets are of one end, and what waits may be sent. An end that is connected was greeted, and has
  -- no use for Initial packets any more.
  pub record IsSound (c : Connection S) : Type 0 where
    pub handshake : IsHandshake c.handshake
    pub side_is : c.core.side ≡ c.handshake.side
    pub id_is : c.core.local_id ≡ c.handshake.local_id
    pub as_long : length c.core.remote_id ≡ length c.control.ids.active.id
    pub sendable : IsSendable c.core.side c.core.config.peer_datagram c.control
    pub ungreeted : c.handshake.peer ≡ None → c.core.config.peer_datagram ≡ None
    pub connected : c.is_connected ≡ true → (is_some c.handshake.peer ≡ true) × (c.handshake.space ≡ None)

  -- What holds of it still if memory is wanting in the middle of a datagram: the Initial space isn't to be used any more.
  pub record IsSafe (c : Connection S) : Type 0 where
    pub handshake : IsHandshake c.handshake
    pub side_is : c.core.side ≡ c.handshake.side
    pub id_is : c.core.local_id ≡ c.handshake.local_id
    pub as_long : length c.core.remote_id ≡ length c.control.ids.active.id
    pub sendable : IsSendable c.core.side c.core.config.peer_datagram c.control
    pub ungreeted : c.handshake.peer ≡ None → c.core.config.peer_datagram ≡ None
    pub connected : c.is_connected ≡ true → is_some c.handshake.peer ≡ true

  -- So it is at every moment, and a client that was greeted is connected, unless the connection was over by then, and the log is current.
  pub record IsWhole (c : Connection S) : Type 0 where
    pub sound : IsSound c
    pub current : IsLogCurrent c
    pub client : c.handshake.side ≡ Client → is_some c.handshake.peer ≡ true → (c.is_connected ≡ true) ⊎ (is_open c.core.state ≡ false)

  -- what that is said of is the same, but for the end of the 1-RTT packets, and of that the log of the streams
  pub record HasSameParts (old new : Connection S) : Type 0 where
    pub handshake : new.handshake ≡ old.handshake
    pub control : new.control ≡ old.control
    pub is_connected : new.is_connected ≡ old.is_connected
    pub log : new.core.space.log ≡ old.core.space.log

  -- it stands so to all that was done with it, if its own hello is this one, and sessions take and make these tags
  abbrev pub Stands : AcceptsTags S → MakesTagsOf S → (hello : List ℕ) → Connection S → List Act → Type 0
  Stands accepts sealed hello c t = Converses accepts sealed hello c.handshake c.core c.is_connected t

  -- it stands to these acts more as it stood to all before, if sessions take and make these tags
  abbrev pub CarriesOnBy : AcceptsTags S → MakesTagsOf S → (old new : Connection S) → List Act → Type 0
  CarriesOnBy accepts sealed old new acts = (hello : List ℕ) (t : List Act) → Stands accepts sealed hello old t → Stands accepts sealed hello new (t ++ acts)

  -- the same, whatever tags they take and make
  abbrev pub CarriesOn : (old new : Connection S) → List Act → Type 0
  CarriesOn old new acts = (accepts : AcceptsTags S) (sealed : MakesTagsOf S) → CarriesOnBy accepts sealed old new acts

  -- it stands to all that was done with it as before, whatever tags they take and make
  abbrev pub StandsStill : (old new : Connection S) → Type 0
  StandsStill old new = (accepts : AcceptsTags S) (sealed : MakesTagsOf S) (hello : List ℕ) (t : List Act) → Stands accepts sealed hello old t → Stands accepts sealed hello new t
