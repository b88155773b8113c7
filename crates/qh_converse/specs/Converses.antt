-- How an end stands to all that was done with it: its handshake by its part of that, and the end of its 1-RTT packets by the rest (RFC
-- 9000, sections 7 and 12.2).
use Rattle.std.specs.Prelude.{◌≡◌, ◌⊎◌, ℕ, Bool, true, not, ◌&&◌, List, [], ◌∷◌, ◌++◌, length, Some, None, is_some}
use Rattle.qh_arrival.specs.Accord.{Accords, AreTags, IsInAccord}
use Rattle.qh_conduct.specs.Behaves.{Behaves}
use Rattle.qh_converse.specs.Parts.{IsShakeOf}
use Rattle.qh_converse.specs.Settled.{IsSettledBy, milliseconds}
use Rattle.qh_core.specs.Inner.{is_client, is_open}
use Rattle.qh_core.specs.Made.{AcceptsTags, MakesTagsOf}
use Rattle.qh_core.specs.declared.inner.Inner.{Inner}
use Rattle.qh_handshake.specs.Follows.{Follows}
use Rattle.qh_handshake.specs.Sends.{Sends}
use Rattle.qh_handshake.specs.declared.handshake.Handshake.{Handshake}
use Rattle.qh_hello.specs.declared.transport_parameters.TransportParameters.{TransportParameters}
use Rattle.qh_packet.specs.Session.{AcceptsTag, SealsTag}
use Rattle.qh_spec.specs.HandshakeOrder.{Progress, Orders}
use Rattle.qh_spec.specs.Lists.{In}
use Rattle.qh_spec.specs.Parted.{IsPartOf, AreShort, EndsWith, IsInitialAlone}
use Rattle.qh_spec.specs.Transcript.{Act, HandedIn, handed_in, handed_out, written, finished, read}

-- how far the handshake is: a server is connected from the first 1-RTT packet on that it accepted
abbrev pub progress_of : Handshake → (is_connected : Bool) → Progress
progress_of h is_connected = record { side = h.side; is_greeted = is_some h.peer; has_heard = is_connected && not (is_client h.side) }

-- so long are the ids of its peer, as far as it knows: any length may be theirs before it was greeted
abbrev pub IsPeerLength : Handshake → ℕ → Type 0
IsPeerLength h n = is_some h.peer ≡ true → n ≡ length h.remote_id

-- its datagrams were sent in the order of a handshake
abbrev pub IsInOrder : {S : Type 0} → Handshake → Inner S → (is_connected : Bool) → List Act → Type 0
IsInOrder h c is_connected t =
    (peer_length : ℕ) → IsPeerLength h peer_length → Orders (length c.local_id) peer_length (progress_of h is_connected) t

-- it came as what stands behind the Initial packets of one of these datagrams
pub record IsBehindOne (tail : List ℕ) (datagrams : List (List ℕ)) : Type 0 where
  pub datagram : List ℕ
  pub among : In datagram datagrams
  pub ends : EndsWith tail datagram

-- The part of what was done that concerns 1-RTT packets: what came is behind the Initial packets of datagrams that came; what went is each
-- datagram that went but those of one Initial packet; and of streams it tells the same.
pub record IsDataPart (part t : List Act) : Type 0 where
  pub is_part : IsPartOf part t
  pub came : (tail : List ℕ) → In tail (handed_in part) → IsBehindOne tail (handed_in t)
  pub went : (datagram : List ℕ) → In datagram (handed_out part) → In datagram (handed_out t)
  pub all_went : (datagram : List ℕ) → In datagram (handed_out t) → In datagram (handed_out part) ⊎ IsInitialAlone datagram
  pub written_is : (id : ℕ) → written part id ≡ written t id
  pub finished_is : (id : ℕ) → finished part id ≡ finished t id
  pub read_is : (id : ℕ) → read part id ≡ read t id

module _ {S : Type 0} (accepts : AcceptsTags S) (sealed : MakesTagsOf S) where
  -- It stands to its part of what was done as it owes, by the tags that its session takes and makes, if they are tags. Before the end was
  -- greeted it does so by whatever tags: a Retry packet may change those of its session until then (RFC 9000, section 17.2.5).
  abbrev pub AccordsByTags : Handshake → Inner S → (part : List Act) → Type 0
  AccordsByTags h c part = (takes : AcceptsTag) (makes : SealsTag) → (is_some h.peer ≡ true → (takes ≡ accepts c.session) × (makes ≡ sealed c.session)) → AreTags takes makes
      → Accords takes makes c part

  -- The end of the 1-RTT packets: it behaves as by its part of what was done, which is nothing before the end was greeted, and owes what it
  -- owes by that; since it was greeted it has what the peer's hello settles, if it is open, and before that its own idle time, and its idle
  -- timer is as long.
  pub record IsBegun (h : Handshake) (c : Inner S) (part : List Act) : Type 0 where
    pub side_is : c.side ≡ h.side
    pub id_is : c.local_id ≡ h.local_id
    pub behaves : Behaves c part
    pub accords : AccordsByTags h c part
    pub short : AreShort part
    pub not_yet : h.peer ≡ None → part ≡ []
    pub settled : (p : TransportParameters) → h.peer ≡ Some p → is_open c.state ≡ true → IsSettledBy h p c
    pub unsettled : h.peer ≡ None → milliseconds c.config.idle ≡ h.parameters.max_idle_timeout
    pub runs : is_open c.state ≡ true → c.idle.timeout ≡ c.config.idle

  -- The end stands so to all that was done with it.
  pub record Converses (hello : List ℕ) (h : Handshake) (c : Inner S) (is_connected : Bool) (t : List Act) : Type 0 where
    pub shake : List Act
    pub is_shake : IsShakeOf shake t
    pub follows : Follows hello h shake
    pub sends : Sends hello h shake
    pub part : List Act
    pub is_part : IsPartOf part t
    pub begun : IsBegun h c part
    pub orders : IsInOrder h c is_connected t

  -- The same in the middle of a datagram: the handshake took its Initial packets, and the end of the 1-RTT packets hasn't seen it.
  pub record Hears (hello : List ℕ) (h : Handshake) (c : Inner S) (is_connected : Bool) (t : List Act) (datagram : List ℕ) : Type 0 where
    pub shake : List Act
    pub is_shake : IsShakeOf shake (t ++ HandedIn datagram ∷ [])
    pub follows : Follows hello h shake
    pub sends : Sends hello h shake
    pub part : List Act
    pub is_part : IsPartOf part t
    pub begun : IsBegun h c part
    pub orders : IsInOrder h c is_connected (t ++ HandedIn datagram ∷ [])

  -- ---- what that means of what is owed

  -- it accords with its part of all that was done
  pub record HasAccord (c : Inner S) (t : List Act) : Type 0 where
    pub part : List Act
    pub is : IsDataPart part t
    pub accords : Accords (accepts c.session) (sealed c.session) c part

  -- Of an open end: what is owed waits or is out, and its packets are those of the datagrams, by its part of all that was done.
  pub record IsInAccordBehind (c : Inner S) (t : List Act) : Type 0 where
    pub part : List Act
    pub is : IsDataPart part t
    pub in_accord : IsInAccord (accepts c.session) (sealed c.session) c part
