-- What of a connection stays as it is, whatever is done with it (RFC 9000, sections 5.1, 7.2, 7.3 and 10.2).
use Rattle.std.specs.Prelude.{◌≡◌, ℕ, Bool, true, false, List, length, is_some}
use Rattle.qh_conn.specs.declared.connection.Connection.{Connection}
use Rattle.qh_control.specs.declared.control.ControlState.{ControlState}
use Rattle.qh_core.specs.Inner.{is_open}
use Rattle.qh_handshake.specs.GoesOn.{GoesOn}
use Rattle.qh_handshake.specs.Handshake.{dropping}

-- What stays of the frames of its own: how long this end's ids are, where the peer is, the longest payload that this end takes and how many
-- bytes of them may wait; and once it was greeted the longest payload that the peer takes, and how many ids are active at a time.
pub record IsSameControl (was_greeted : Bool) (old new : ControlState) : Type 0 where
  pub id_len : new.own_ids.id_len ≡ old.own_ids.id_len
  pub remote : new.remote ≡ old.remote
  pub receives : new.datagram_receive ≡ old.datagram_receive
  pub room : new.datagram_send ≡ old.datagram_send
  pub settled : was_greeted ≡ true → (new.peer_datagram ≡ old.peer_datagram) × (new.id_limit ≡ old.id_limit)

module _ {S : Type 0} where
  -- its Initial space isn't used any more, as want of memory leaves it
  abbrev pub dropped : Connection S → Connection S
  dropped c = record c { handshake = dropping c.handshake }

-- `key` is the id from which a session makes its tags.
module _ {S : Type 0} (key : S → List ℕ) where
  -- The new one is a later state of the old one: it is the same end of the same connection, and what ended stays so. Its session has the same
  -- key, unless a Retry packet was taken. Once it was greeted its packets go to ids of one length, and the peer's first limits, how long a
  -- datagram the peer takes, how many ids it keeps and the idle time are settled.
  pub record IsSameConnection (old new : Connection S) : Type 0 where
    pub config : new.config ≡ old.config
    pub handshake : GoesOn old.handshake new.handshake
    pub side : new.core.side ≡ old.core.side
    pub local_id : new.core.local_id ≡ old.core.local_id
    pub addresses : new.core.addresses ≡ old.core.addresses
    pub limits : new.core.config.limits ≡ old.core.config.limits
    pub receives : new.core.config.datagram_receive ≡ old.core.config.datagram_receive
    pub control : IsSameControl (is_some old.handshake.peer) old.control new.control
    pub key_is : new.handshake.retry_id ≡ old.handshake.retry_id → key new.core.session ≡ key old.core.session
    pub settled : is_some old.handshake.peer ≡ true → (length new.core.remote_id ≡ length old.core.remote_id) × (new.core.config ≡ old.core.config)
    pub connected : old.is_connected ≡ true → new.is_connected ≡ true
    pub ended : is_open old.core.state ≡ false → is_open new.core.state ≡ false
