-- A connection as a value, and what holds of it at every moment.
use Rattle.std.specs.Prelude.{◌≡◌, ℕ, ◌+◌, ◌-◌, ◌^◌, min, Bool, true, false, [], length, Some, None, is_some}
use Rattle.qh_base.specs.declared.connection_error.ConnectionError.TheVariants.{Memory}
use Rattle.qh_core.specs.Config.{CanBeSaid}
use Rattle.qh_core.specs.declared.config.ConnConfig.{ConnConfig}
use Rattle.qh_core.specs.declared.inner.Inner.{Inner}
use Rattle.qh_core.specs.declared.state.State.{State}
use Rattle.qh_core.specs.declared.state.State.TheVariants.{Established, Drained}
use Rattle.qh_core.specs.declared.stats.UdpStats.{UdpStats}
use Rattle.qh_recovery.specs.Accepted.{Remembers}
use Rattle.qh_recovery.specs.Rtt.{new_estimator}
use Rattle.qh_recovery.specs.Window.{new_controller}
use Rattle.qh_space.specs.Space.{IsSpace, first_streams}
use Rattle.qh_space.specs.declared.data_space.DataSpace.{DataSpace}
use Rattle.qh_spec.specs.declared.sides.Side.{Side}
use Rattle.qh_spec.specs.declared.sides.Side.TheVariants.{Client, Server}
use Rattle.qh_streams.specs.Streams.{PlainStreams, counts_of}
use Rattle.qh_streams.specs.declared.frames.PeerLimits.{PeerLimits}

-- packets go both ways
abbrev pub is_open : State → Bool
is_open Established = true
is_open other = false

abbrev pub is_client : Side → Bool
is_client Client = true
is_client Server = false

-- one datagram more, of so many bytes
abbrev pub counted : (size : ℕ) → UdpStats → UdpStats
counted size u = record { datagrams = min (2 ^ 64 - 1) (u.datagrams + 1); bytes = min (2 ^ 64 - 1) (u.bytes + size) }

abbrev pub fresh_stats : UdpStats
fresh_stats = record { datagrams = 0; bytes = 0 }

-- no stream has a half: none was opened, or want of memory ended the connection
pub record HasNoHalf (s : PlainStreams) : Type 0 where
  pub send : s.send.halves ≡ []
  pub recv : s.recv.halves ≡ []

-- the streams are those of this end, and of a peer with these first limits, which can be said
pub record AreOf (side : Side) (peer : PeerLimits) (s : PlainStreams) : Type 0 where
  pub side_is : s.side ≡ side
  pub peer_is : s.peer ≡ peer
  pub said : CanBeSaid peer

-- so many streams of each direction as before were opened and accepted by this end
pub record HaveSameCounts (old new : PlainStreams) : Type 0 where
  pub bi_opened : new.bi.opened ≡ old.bi.opened
  pub bi_accepted : new.bi.accepted ≡ old.bi.accepted
  pub uni_opened : new.uni.opened ≡ old.uni.opened
  pub uni_accepted : new.uni.accepted ≡ old.uni.accepted

-- a space before its first packet
pub record IsNewSpace (config : ConnConfig) (side : Side) (s : DataSpace) : Type 0 where
  pub no_half : HasNoHalf s.streams
  pub streams_are : s.streams ≡ first_streams side config.limits config.peer
  pub of : AreOf side config.peer s.streams
  -- the longest DATAGRAM frame's payload that is taken (RFC 9221, section 3)
  pub datagrams : s.datagram_receive ≡ config.datagram_receive
  pub sent : s.sent ≡ []
  pub log : s.log ≡ None
  pub counts : (two_way : Bool) → ((counts_of s.streams two_way).opened ≡ 0) × ((counts_of s.streams two_way).accepted ≡ 0)
  pub next : s.next_number ≡ 0
  pub largest : s.largest_acked ≡ None
  pub acks : s.acks ≡ record { ranges = []; is_due = false }
  pub rtt : s.rtt ≡ new_estimator config.initial_rtt.0
  pub congestion : s.congestion ≡ new_controller config.initial_window
  pub probes : (s.is_probe_due ≡ false) × (s.pto_count ≡ 0)
  pub response : s.path_response ≡ None
  pub remembers : Remembers [] s.dedup

module _ {S : Type 0} where
  abbrev pub with_space : Inner S → DataSpace → Inner S
  with_space c s = record c { space = s }

  abbrev pub with_streams : Inner S → PlainStreams → Inner S
  with_streams c s = record c { space = record c.space { streams = s } }

  -- The space is whole; the connection is open exactly where it isn't lost; want of memory drains it, and leaves no half.
  pub record IsConnection (c : Inner S) : Type 0 where
    pub space : IsSpace c.space
    pub of : AreOf c.side c.config.peer c.space.streams
    pub not_lost : is_open c.state ≡ true → c.error ≡ None
    pub lost : is_open c.state ≡ false → is_some c.error ≡ true
    pub drained : c.error ≡ Some Memory → c.state ≡ Drained
    pub no_half : c.error ≡ Some Memory → HasNoHalf c.space.streams

  -- want of memory ended the connection: it is drained, and what waited to be read is dropped
  pub record IsFailedBy (old new : Inner S) : Type 0 where
    pub no_half : HasNoHalf new.space.streams
    pub rest_is : new ≡ record old { space = new.space; idle = new.idle; state = Drained; error = Some Memory }

  -- the two are states of one end
  pub record IsSameEnd (old new : Inner S) : Type 0 where
    pub side : new.side ≡ old.side
    pub local_id : new.local_id ≡ old.local_id
    -- the peer may be heard under another id of the same length (RFC 9000, section 5.1.2)
    pub remote_length : length new.remote_id ≡ length old.remote_id
    pub config : new.config ≡ old.config
