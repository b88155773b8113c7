-- What becomes of a handshake if memory is wanting for a datagram that came.
use Rattle.std.specs.Prelude.{◌≡◌, List, ℕ, length, Option, None}
use Rattle.qh_base.specs.declared.time.Moment.{Moment}
use Rattle.qh_handshake.specs.Incoming.{Form, IsInitialTaken, IsMismatch, IsRetryFor, MayRetry, knowing, or_learned, received}
use Rattle.qh_handshake.specs.Unread.{IsInitialUnread}
use Rattle.qh_handshake.specs.declared.handshake.Handshake.{Handshake}
use Rattle.qh_handshake.specs.declared.initial_space.InitialSpace.{InitialSpace}
use Rattle.qh_packet.specs.Initial.{BeginsWithInitial}
use Rattle.qh_packet.specs.Session.{AcceptsTag}

-- Initial packets with which the bytes begin are taken one after another, and none of them ends the connection; this is the rest.
pub data AreBegun (accepts : AcceptsTag) (now : Moment) : (bytes rest : List ℕ) → (old new : Handshake) → (learned : Option (List ℕ)) → Type 0 where
  here : (bytes : List ℕ) (h : Handshake) → AreBegun accepts now bytes bytes h h None
  more : (bytes destination behind rest : List ℕ) (f : Form) (old mid new : Handshake) (first later : Option (List ℕ))
      → BeginsWithInitial bytes f.first destination f.source f.token f.body behind → IsInitialTaken accepts now f old mid first None
      → AreBegun accepts now behind rest mid new later → AreBegun accepts now bytes rest old new (or_learned first later)

-- the peer is known by the packet's source id, and nothing else changed but the space, of which nothing is said
pub record IsLeft (source : List ℕ) (old new : Handshake) : Type 0 where
  pub space : InitialSpace
  pub rest_is : new ≡ knowing old source space

-- Initial packets are taken up to one for which memory is wanting: it is opened, its frames can all be read, and none that was taken of it,
-- nor the one behind them, is at fault. If its number couldn't be noted none but the first was taken.
pub record AreInitialsLost (accepts : AcceptsTag) (now : Moment) (bytes : List ℕ) (old new : Handshake) (learned : Option (List ℕ)) : Type 0 where
  pub rest : List ℕ
  pub mid : Handshake
  pub begun : AreBegun accepts now bytes rest old mid learned
  pub destination : List ℕ
  pub behind : List ℕ
  pub form : Form
  pub begins : BeginsWithInitial rest form.first destination form.source form.token form.body behind
  pub unread : IsInitialUnread accepts now form mid
  pub left : IsLeft form.source mid new

-- The datagram is counted. It is a Retry packet that is to be taken, and nothing else changed; or such Initial packets. One that tells of
-- other versions takes no memory.
pub data IsLost (accepts : AcceptsTag) (now : Moment) (datagram : List ℕ) (old new : Handshake) : (learned : Option (List ℕ)) → Type 0 where
  retry : (s : InitialSpace) (source token : List ℕ) → MayRetry old s → IsRetryFor old datagram source token → new ≡ received (length datagram) old
      → IsLost accepts now datagram old new None
  initials : (learned : Option (List ℕ)) → ((s : InitialSpace) (source token : List ℕ) → MayRetry old s → IsRetryFor old datagram source token → ⊥) → (IsMismatch old datagram → ⊥)
      → AreInitialsLost accepts now datagram (received (length datagram) old) new learned → IsLost accepts now datagram old new learned
