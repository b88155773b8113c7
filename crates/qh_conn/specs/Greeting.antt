-- What being greeted and being connected do (RFC 9000, sections 5.1.1, 7 and 7.4; RFC 9001, sections 4.1.1 and 4.9.1).
use Rattle.std.specs.Prelude.{◌≡◌, ℕ, [], ◌∷◌, ◌++◌, min, true, List, Option, Some, None, if◌then◌else◌}
use Rattle.qh_base.specs.declared.time.Moment.{Moment}
use Rattle.qh_conn.specs.Items.{first_limits, streams_logged, streams_taken}
use Rattle.qh_conn.specs.declared.connection.Connection.{Connection}
use Rattle.qh_conn.specs.declared.connection.EarlyLimits.{EarlyLimits}
use Rattle.qh_control.specs.Control.{asked_events, first_ids, token_event}
use Rattle.qh_control.specs.Items.{logged, streamed}
use Rattle.qh_control.specs.declared.control.ControlState.{ControlState}
use Rattle.qh_control.specs.declared.items.ConnectionItem.{ConnectionItem}
use Rattle.qh_control.specs.declared.items.ConnectionItem.TheVariants as item
use Rattle.qh_converse.specs.Settled.{datagram_of, idle_of, peer_limits}
use Rattle.qh_core.specs.Inner.{IsNewSpace, is_client, is_open}
use Rattle.qh_core.specs.declared.inner.Inner.{Inner}
use Rattle.qh_handshake.specs.Handshake.{dropping}
use Rattle.qh_handshake.specs.declared.handshake.Handshake.{Handshake}
use Rattle.qh_hello.specs.declared.transport_parameters.TransportParameters.{TransportParameters}
use Rattle.qh_space.specs.declared.data_space.DataSpace.{DataSpace}
use Rattle.qh_spec.specs.declared.sides.Dir.{Dir}
use Rattle.qh_spec.specs.declared.sides.Dir.TheVariants.{Bi, Uni}
use Rattle.qh_streams.specs.Streams.{PlainStreams, counts_of, is_two_way, with_counts}

-- nothing was set
abbrev pub no_early : EarlyLimits
no_early = record { max_bidi = None; max_uni = None; send_window = None; receive_window = None }

abbrev pub or_set : Option ℕ → ℕ → ℕ
or_set None n = n
or_set (Some set) n = set

-- what was set before holds on
abbrev pub with_early : EarlyLimits → PlainStreams → PlainStreams
with_early e s = record s {
  send = record s.send { send_window = or_set e.send_window s.send.send_window };
  recv = record s.recv { receive_window = or_set e.receive_window s.recv.receive_window };
  bi = record s.bi { max_concurrent = or_set e.max_bidi s.bi.max_concurrent };
  uni = record s.uni { max_concurrent = or_set e.max_uni s.uni.max_concurrent };
}

-- so many streams of a direction may be open at a time
abbrev pub with_concurrent : Dir → (count : ℕ) → PlainStreams → PlainStreams
with_concurrent dir count s = with_counts s (is_two_way dir) (record (counts_of s (is_two_way dir)) { max_concurrent = count })

-- the same, if it was set
abbrev pub with_count : Dir → (count : Option ℕ) → PlainStreams → PlainStreams
with_count dir None s = s
with_count dir (Some count) s = with_concurrent dir count s

abbrev pub early_concurrent : Dir → (count : ℕ) → EarlyLimits → EarlyLimits
early_concurrent Bi count e = record e { max_bidi = Some count }
early_concurrent Uni count e = record e { max_uni = Some count }

-- the peer's id, how many ids it keeps, of which at most 8 are used (own), and which datagrams it takes, which is logged, and its first limits
-- behind that
abbrev pub control_greeted : ControlState → (id : List ℕ) → TransportParameters → ControlState
control_greeted s id p = record s {
  ids = first_ids id p.stateless_reset_token;
  id_limit = min p.active_connection_id_limit 8;
  peer_datagram = datagram_of p.max_datagram_frame_size;
  endpoint_events = s.endpoint_events ++ token_event s p.stateless_reset_token;
  log = logged s.log (item.MaxDatagramSize (datagram_of p.max_datagram_frame_size) ∷ first_limits (peer_limits p));
}

-- further ids are asked for
abbrev pub ids_asked : Moment → ControlState → ControlState
ids_asked now s = record s { endpoint_events = s.endpoint_events ++ asked_events now s }

module _ {S : Type 0} where
  -- The handshake is complete, which is logged, behind what came to the streams by then; further ids are asked for, if the connection isn't
  -- over already.
  abbrev pub connected : Moment → Connection S → Connection S
  connected now c = record c {
    handshake = record (dropping c.handshake) { is_validated = true };
    core = streams_taken c.control.log c.core;
    control = record (if is_open c.core.state then ids_asked now c.control else c.control) { log = logged c.control.log (streamed c.core.space.log ++ item.Connected ∷ []) };
    is_connected = true;
    is_connected_due = true;
  }

  -- The end of the 1-RTT packets begins with the limits and the idle time of the peer's hello, and with what was set before; a client has a
  -- PING to send. If the connection's log is on, this one, so is that of the streams.
  pub record IsBegunBy (p : TransportParameters) (h : Handshake) (e : EarlyLimits) (log : Option (List ConnectionItem)) (old new : Inner S) : Type 0 where
    pub begun : DataSpace
    pub space : IsNewSpace new.config new.side begun
    pub ping : begun.is_ping_due ≡ is_client old.side
    pub rest_is : new ≡ record old {
      remote_id = h.remote_id;
      config = record old.config { peer = peer_limits p; peer_datagram = datagram_of p.max_datagram_frame_size; idle = idle_of h.parameters.max_idle_timeout p.max_idle_timeout };
      space = record (streams_logged log begun) { streams = with_early e begun.streams };
      idle = record old.idle { timeout = idle_of h.parameters.max_idle_timeout p.max_idle_timeout };
    }

  abbrev pub with_core : Connection S → Inner S → TransportParameters → Connection S
  with_core c core p = record c { core = core; control = control_greeted c.control c.handshake.remote_id p; is_data_due = true }

  -- the peer's hello was read: the handshake data are there, and a client is connected
  pub record IsGreetedNow (now : Moment) (old new : Connection S) : Type 0 where
    pub peer : TransportParameters
    pub peer_is : old.handshake.peer ≡ Some peer
    pub core : Inner S
    pub core_is : IsBegunBy peer old.handshake old.early old.control.log old.core core
    pub new_is : new ≡ (if is_client old.handshake.side then connected now (with_core old core peer) else with_core old core peer)
