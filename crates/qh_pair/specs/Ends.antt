-- An end of a pair: which end it is, and how it stands to all that was done with it.
use Rattle.std.specs.Prelude.{◌≡◌, ℕ, List, [], ◌∷◌, ◌++◌, Option, Some, None, length}
use Rattle.qh_conn.specs.Parameters.{IsSaid}
use Rattle.qh_conn.specs.Whole.{IsWhole, Stands as ConnStands}
use Rattle.qh_conn.specs.declared.config.ConnConfig.{ConnConfig}
use Rattle.qh_conn.specs.declared.connection.Connection.{Connection}
use Rattle.qh_converse.specs.Converses.{IsPeerLength}
use Rattle.qh_packet.specs.Session.{PlainKeys, plain_accepts, plain_sealed}
use Rattle.qh_spec.specs.Lawful.{Lawful}
use Rattle.qh_spec.specs.Transcript.{Act, HandedIn, HandedOut, handed_in, handed_out}
use Rattle.qh_spec.specs.declared.sides.Side.{Side}
use Rattle.qh_spec.specs.declared.sides.Side.TheVariants.{Client, Server}
use Rattle.qh_pair.specs.Within.{IsWithinAnnounced, TakesTo}
use Rattle.qh_pair.specs.declared.ends.Ids.{Ids}

-- an end of a connection with a plain session
abbrev pub End : Type 0
End = Connection PlainKeys

-- the id from which a session makes its tags
abbrev pub key_of : PlainKeys → List ℕ
key_of keys = keys.key_id

-- the id of this side's end
abbrev pub own_id : Side → Ids → List ℕ
own_id Client ids = ids.client
own_id Server ids = ids.server

-- the id to which this side's first packets go: a client's to the one that it chose for its server (RFC 9000, section 7.2)
abbrev pub first_destination : Side → Ids → List ℕ
first_destination Client ids = ids.key
first_destination Server ids = ids.client

-- This side's end of a pair with these ids and settings. Its hello says them, and the id to which the client's first packet went (RFC 9000,
-- sections 7.3 and 18.2).
pub record IsEndOf (side : Side) (ids : Ids) (config : ConnConfig) (c : End) : Type 0 where
  pub as_long : length (own_id side ids) ≡ length ids.client
  pub config_is : c.config ≡ config
  pub side_is : c.core.side ≡ side
  pub local_is : c.core.local_id ≡ own_id side ids
  pub original_is : c.handshake.original_id ≡ ids.key
  pub said : IsSaid config side (own_id side ids) ids.key c.handshake.parameters
  pub whole : IsWhole c

-- ---- what was done with an end

-- datagrams were handed in, and nothing else was done
abbrev pub AreHandedIn : List Act → Type 0
AreHandedIn [] = Unit {0}
AreHandedIn (HandedIn d ∷ t) = AreHandedIn t
AreHandedIn _ = ⊥

-- a server that isn't there drops the datagrams that come for it; a client is there before one comes
abbrev pub AreDropped : Side → List Act → Type 0
AreDropped Client t = t ≡ []
AreDropped Server t = AreHandedIn t

-- The end began behind these acts, and stands to all that was done with it since as it owes, by tags of its session; its own hello is
-- this one.
pub record StandsSince (side : Side) (c : End) (t : List Act) : Type 0 where
  pub hello : List ℕ
  pub before : List Act
  pub since : List Act
  pub are : t ≡ before ++ since
  pub dropped : AreDropped side before
  pub stands : ConnStands plain_accepts plain_sealed hello c since

-- What is known of all that was done with an end, whichever length the ids of its peer have, as far as it knows that: it keeps the laws of an
-- end, and each STREAM and RESET_STREAM frame of a datagram that it handed out keeps within what was announced to it before. So it is also of
-- an end that want of memory ended, or an error, in the middle of a datagram.
pub record HasKept (side : Side) (id_length : ℕ) (c : End) (t : List Act) : Type 0 where
  pub lawful : (n : ℕ) → IsPeerLength c.handshake n → Lawful side id_length n t
  pub within : (n : ℕ) → IsPeerLength c.handshake n → (before after : List Act) (d : List ℕ) → t ≡ before ++ HandedOut d ∷ after
      → (id end : ℕ) → TakesTo n (d ∷ []) side id end → IsWithinAnnounced id_length n side (handed_in before) (handed_out before) d id end

-- an end stands where this transcript leaves it; one that isn't there dropped it all
abbrev pub Stands : Side → Ids → ConnConfig → Option End → List Act → Type 0
Stands side ids config None t = AreDropped side t
Stands side ids config (Some c) t = IsEndOf side ids config c × StandsSince side c t × HasKept side (length ids.client) c t

-- what holds of a connection at every moment holds of an end that is there
abbrev pub IsWholeAt : Option End → Type 0
IsWholeAt None = Unit {0}
IsWholeAt (Some c) = IsWhole c
