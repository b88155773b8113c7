-- The end of the 1-RTT packets begins when an end is greeted, and with it the log of its streams.
use Rattle.std.proofs.Common.{◌≡◌, ◌^◌, min, max, ℕ, Bool, true, false, List, [], ◌∷◌, ◌++◌, Option, None, Some, is_some, length, if◌then◌else◌, refl, sym, ap, subst, ◌∙◌, inl, inr, arith}
use Rattle.std.proofs.lemmas.List.{append-nil}
use Rattle.qh_conn.proofs.CoreLog.{KeepsTold}
use Rattle.qh_conn.proofs.LogKept.{GoesOn, logged_both, logged_on, quiet_goes, streamed_own, flags_by}
use Rattle.qh_conn.specs.Greeting.{IsBegunBy, control_greeted, with_core, with_early}
use Rattle.qh_conn.specs.Items.{IsLogCurrent, first_limits, log_started, noted_in, streams_logged, streams_started}
use Rattle.qh_conn.specs.Whole.{IsSound, IsWhole}
use Rattle.qh_conn.specs.declared.connection.Connection.{Connection}
use Rattle.qh_conn.specs.declared.connection.EarlyLimits.{EarlyLimits}
use Rattle.qh_control.specs.Control.{IsSendable}
use Rattle.qh_control.specs.Items.{logged, streamed}
use Rattle.qh_control.specs.declared.control.ControlState.{ControlState}
use Rattle.qh_control.specs.declared.items.ConnectionItem.{ConnectionItem}
use Rattle.qh_control.specs.declared.items.ConnectionItem.TheVariants as item
use Rattle.qh_converse.specs.Settled.{IsSettledBy, datagram_of, idle_of, peer_limits}
use Rattle.qh_core.specs.Inner.{IsNewSpace, is_client, with_space, with_streams}
use Rattle.qh_core.specs.declared.config.ConnConfig.{ConnConfig as CoreConfig}
use Rattle.qh_core.specs.declared.inner.Inner.{Inner}
use Rattle.qh_handshake.specs.declared.handshake.Handshake.{Handshake}
use Rattle.qh_hello.specs.declared.transport_parameters.TransportParameters.{TransportParameters}
use Rattle.qh_space.specs.Space.{AreUnused, first_streams}
use Rattle.qh_space.specs.declared.data_space.DataSpace.{DataSpace}
use Rattle.qh_spec.specs.declared.sides.Side.{Side}
use Rattle.qh_streams.specs.Items.{first_items}
use Rattle.qh_streams.specs.Streams.{PlainStreams, counts_of}
use Rattle.qh_streams.specs.declared.frames.PeerLimits.{PeerLimits}
use Rattle.qh_streams.specs.declared.frames.StreamLimits.{StreamLimits}

-- ---- streams that begin are unused

none_opened : (side : Side) (limits : StreamLimits) (peer : PeerLimits) (two_way : Bool) → (counts_of (first_streams side limits peer) two_way).opened ≡ 0
none_opened side limits peer true = refl
none_opened side limits peer false = refl

none_accepted : (side : Side) (limits : StreamLimits) (peer : PeerLimits) (two_way : Bool) → (counts_of (first_streams side limits peer) two_way).accepted ≡ 0
none_accepted side limits peer true = refl
none_accepted side limits peer false = refl

none_arrived : (side : Side) (limits : StreamLimits) (peer : PeerLimits) (two_way : Bool) → (counts_of (first_streams side limits peer) two_way).arrived ≡ 0
none_arrived side limits peer true = refl
none_arrived side limits peer false = refl

most_opened : (side : Side) (limits : StreamLimits) (peer : PeerLimits) (two_way : Bool)
    → (counts_of (first_streams side limits peer) two_way).max_opened ≡ min (if two_way then peer.max_bidi else peer.max_uni) (2 ^ 60)
most_opened side limits peer true = omega arith
most_opened side limits peer false = omega arith

no_more : (n : ℕ) → max 0 n ≡ n
no_more n = omega arith

first_unused : (side : Side) (limits : StreamLimits) (peer : PeerLimits) → AreUnused (first_streams side limits peer) peer
first_unused side limits peer = record {
  peer_is = refl;
  no_send = refl;
  data_sent = refl;
  max_data = no_more peer.max_data;
  opened = none_opened side limits peer;
  accepted = none_accepted side limits peer;
  max_opened = most_opened side limits peer;
}

pub new_unused : (k : CoreConfig) (side : Side) (s : DataSpace) → IsNewSpace k side s → AreUnused s.streams s.streams.peer
new_unused k side s n = subst (λ (z : PlainStreams). AreUnused z z.peer) (sym n.streams_are) (first_unused side k.limits k.peer)

pub new_arrived : (k : CoreConfig) (side : Side) (s : DataSpace) → IsNewSpace k side s → (two_way : Bool) → (counts_of s.streams two_way).arrived ≡ 0
new_arrived k side s n two_way = subst (λ (z : PlainStreams). (counts_of z two_way).arrived ≡ 0) (sym n.streams_are) (none_arrived side k.limits k.peer two_way)

-- ---- the end begins

started_log : (log : Option (List ConnectionItem)) (space : DataSpace) → (is_some log ≡ false → streamed space.log ≡ []) → streamed (streams_logged log space).log ≡ []
started_log (Some items) space off = refl
started_log None space off = off refl

module _ {S : Type 0} where
  abbrev pub begun_as : Inner S → (peer : TransportParameters) → (h : Handshake) → DataSpace → Inner S
  begun_as old p h space = record old {
    remote_id = h.remote_id;
    config = record old.config { peer = peer_limits p; peer_datagram = datagram_of p.max_datagram_frame_size; idle = idle_of h.parameters.max_idle_timeout p.max_idle_timeout };
    space = space;
    idle = record old.idle { timeout = idle_of h.parameters.max_idle_timeout p.max_idle_timeout };
  }

  pub begun_settled : (old core : Inner S) (p : TransportParameters) (h : Handshake) (space : DataSpace) → core ≡ begun_as old p h space → IsSettledBy h p core × (core.idle.timeout ≡ core.config.idle)
  begun_settled old core p h space is = (
    record {
      limits = ap (λ (z : Inner S). z.config.peer) is;
      there = ap (λ (z : Inner S). length z.remote_id) is;
      datagrams = ap (λ (z : Inner S). z.config.peer_datagram) is;
      idle = ap (λ (z : Inner S). z.config.idle) is;
    },
    ap (λ (z : Inner S). z.idle.timeout) is ∙ sym (ap (λ (z : Inner S). z.config.idle) is),
  )

  pub begun_by : (p : TransportParameters) (h : Handshake) (e : EarlyLimits) (log : Option (List ConnectionItem)) (more : List ConnectionItem) (old core new : Inner S) → IsNewSpace core.config core.side core.space
      → core.space.is_ping_due ≡ is_client old.side → core ≡ begun_as old p h core.space
      → new ≡ with_streams (with_space core (streams_logged (logged log more) core.space)) (with_early e (streams_logged (logged log more) core.space).streams) → IsBegunBy p h e log old new
  begun_by p h e None more old core new n ping is new_is = record {
    begun = core.space;
    space = subst (λ (z : Inner S). IsNewSpace z.config z.side core.space) (sym new_is) n;
    ping = ping;
    rest_is = new_is ∙ ap (λ (z : Inner S). with_streams z (with_early e core.space.streams)) is;
  }
  begun_by p h e (Some items) more old core new n ping is new_is = record {
    begun = core.space;
    space = subst (λ (z : Inner S). IsNewSpace z.config z.side core.space) (sym new_is) n;
    ping = ping;
    rest_is = new_is ∙ ap (λ (z : Inner S). with_streams (with_space z (record core.space { log = Some [] })) (with_early e core.space.streams)) is;
  }

  pub begun_sound : (old : Connection S) (control : ControlState) (core : Inner S) (peer : TransportParameters) → IsSound old → core.side ≡ old.core.side → core.local_id ≡ old.core.local_id
      → length core.remote_id ≡ length control.ids.active.id → IsSendable core.side core.config.peer_datagram control → old.handshake.peer ≡ Some peer → old.is_connected ≡ false
      → IsSound (record old { control = control; core = core })
  begun_sound old control core peer s side id long sendable greeted early = record {
    handshake = s.handshake;
    side_is = side ∙ s.side_is;
    id_is = id ∙ s.id_is;
    as_long = long;
    sendable = sendable;
    ungreeted = λ none. let z : None ≡ Some peer = sym none ∙ greeted in cc;
    connected = λ k. let z : true ≡ false = sym k ∙ early in cc;
  }

  -- what was set before leaves that
  pub early_sound : (c : Connection S) (s : PlainStreams) → IsSound c → IsSound (record c { core = with_streams c.core s; is_data_due = true })
  early_sound c s sound = record {
    handshake = sound.handshake;
    side_is = sound.side_is;
    id_is = sound.id_is;
    as_long = sound.as_long;
    sendable = sound.sendable;
    ungreeted = sound.ungreeted;
    connected = sound.connected;
  }

  -- ---- the log of its streams starts

  -- the connection once its parts have begun
  abbrev pub begins : Connection S → ControlState → Inner S → Connection S
  begins c control core = record c { control = control; core = core }

  -- what was set before, and that the handshake data are there
  abbrev pub set_in : Connection S → Inner S → Connection S
  set_in c core = record c { core = core; is_data_due = true }

  -- the peer's first limits come behind what datagrams it takes
  pub begun_rest : (c : Connection S) (control : ControlState) (core last : Inner S) (on : Connection S) (p : TransportParameters)
      → control ≡ record (control_greeted c.control c.handshake.remote_id p) { log = logged c.control.log (item.MaxDatagramSize (datagram_of p.max_datagram_frame_size) ∷ []) }
      → core.space.streams.peer ≡ peer_limits p → on ≡ streams_started (begins c control core) → set_in on last ≡ with_core c last p
  begun_rest c control core last on p is peer started =
      ap (λ (z : Connection S). set_in z last) started
      ∙ ap (λ (z : PeerLimits). set_in (begins c (record control { log = logged control.log (first_limits z) }) last) last) peer
      ∙ ap (λ (z : ControlState). set_in (begins c (record z { log = logged z.log (first_limits (peer_limits p)) }) last) last) is
      ∙ ap (λ (z : Option (List ConnectionItem)). set_in (begins c (record (control_greeted c.control c.handshake.remote_id p) { log = z }) last) last)
      (logged_both c.control.log (item.MaxDatagramSize (datagram_of p.max_datagram_frame_size) ∷ []) (first_limits (peer_limits p)))

  -- what holds at every moment holds then
  pub started_current : (c : Connection S) → (c.handshake.peer ≡ None → streamed c.core.space.log ≡ []) → IsLogCurrent (streams_started c)
  started_current c ungreeted (inl on) = started_log c.control.log c.core.space (λ off. let z : true ≡ false = sym on ∙ (logged_on c.control.log (first_limits c.core.space.streams.peer) ∙ off) in cc)
  started_current c ungreeted (inr none) = started_log c.control.log c.core.space (λ _. ungreeted none)

  pub started_whole : (c new : Connection S) → new ≡ streams_started c → IsWhole c → IsSound new → IsWhole new
  started_whole c new is w sound = subst (λ (z : Connection S). IsWhole z) (sym is) (record {
    sound = subst (λ (z : Connection S). IsSound z) is sound;
    current = started_current c (λ none. w.current (inr none));
    client = w.client;
  })

  -- the log is off
  pub unlogged_started : (c : Connection S) → c.control.log ≡ None → c ≡ streams_started c
  unlogged_started c off =
      ap (λ (z : Option (List ConnectionItem)). record c { control = record c.control { log = z } }) off
      ∙ sym (ap (λ (z : Option (List ConnectionItem)). record c { core = with_space c.core (streams_logged z c.core.space); control = record c.control { log = logged z (first_limits c.core.space.streams.peer) } }) off)

  -- it is on, and what that of the streams begins with is moved into it
  moved_by : (c : Connection S) (log off : Option (List ConnectionItem)) → is_some log ≡ true
      → noted_in log [] (record c { core = with_space c.core (record c.core.space { log = Some (first_items c.core.space.streams.peer) }); control = record c.control { log = off } })
      ≡ record c { core = with_space c.core (streams_logged log c.core.space); control = record c.control { log = logged log (first_limits c.core.space.streams.peer) } }
  moved_by c (Some items) off on =
      ap (λ (z : List ConnectionItem). record c { core = with_space c.core (record c.core.space { log = Some [] }); control = record c.control { log = Some (items ++ z) } }) (append-nil (first_limits c.core.space.streams.peer))
  moved_by c None off on = let z : false ≡ true = on in cc

  pub moved_started : (c new : Connection S) (core : Inner S) (log off : Option (List ConnectionItem)) → log ≡ c.control.log → is_some c.control.log ≡ true
      → core ≡ with_space c.core (record c.core.space { log = Some (first_items c.core.space.streams.peer) })
      → new ≡ noted_in log [] (record c { core = core; control = record c.control { log = off } }) → new ≡ streams_started c
  moved_started c new core log off log_is on core_is is =
      is ∙ ap (λ (z : Inner S). noted_in log [] (record c { core = z; control = record c.control { log = off } })) core_is
      ∙ ap (λ (z : Option (List ConnectionItem)). noted_in z [] (record c { core = with_space c.core (record c.core.space { log = Some (first_items c.core.space.streams.peer) }); control = record c.control { log = off } })) log_is
      ∙ moved_by c c.control.log off on

  -- ---- a log is kept from now on

  abbrev with_log : Connection S → Option (List ConnectionItem) → Connection S
  with_log c log = record c { control = record c.control { log = log } }

  abbrev started_by : Bool → Connection S → Connection S
  started_by greeted c = record c {
    core = (if greeted then with_space c.core (record c.core.space { log = Some [] }) else c.core);
    control = record c.control { log = Some (if greeted then first_limits c.core.space.streams.peer else []) };
  }

  pub ungreeted_started : (c : Connection S) (log : Option (List ConnectionItem)) → log ≡ Some [] → is_some c.handshake.peer ≡ false → with_log c log ≡ log_started c
  ungreeted_started c log is unknown = ap (λ (z : Option (List ConnectionItem)). with_log c z) is ∙ ap (λ (z : Bool). started_by z c) (sym unknown)

  pub greeted_started : (c new : Connection S) (log : Option (List ConnectionItem)) → log ≡ Some [] → is_some c.handshake.peer ≡ true → new ≡ streams_started (with_log c log) → new ≡ log_started c
  greeted_started c new log is known started = started ∙ ap (λ (z : Option (List ConnectionItem)). streams_started (with_log c z)) is ∙ ap (λ (z : Bool). started_by z c) (sym known)

  -- memory is wanting for it
  pub unstarted : (c mid : Connection S) (log off : Option (List ConnectionItem)) → mid ≡ with_log c log → off ≡ None → c.control.log ≡ None → with_log mid off ≡ c
  unstarted c mid log off is off_is was = ap (λ (z : Connection S). with_log z off) is ∙ ap (λ (z : Option (List ConnectionItem)). with_log c z) (off_is ∙ sym was)

  -- its log goes on
  pub begun_goes : (c new : Connection S) (p : TransportParameters) → new ≡ with_core c new.core p → KeepsTold c.core new.core → GoesOn c new
  begun_goes c new p is told = (
    item.MaxDatagramSize (datagram_of p.max_datagram_frame_size) ∷ first_limits (peer_limits p),
    quiet_goes (item.MaxDatagramSize (datagram_of p.max_datagram_frame_size) ∷ first_limits (peer_limits p)) c new
        (flags_by c new (with_core c new.core p) is (record { connected = refl; due = refl; data_due = λ _. refl; lost_logged = refl; told = told }))
        (ap (λ (z : Connection S). z.control.log) is) (streamed_own (Some (first_items (peer_limits p)))),
  )

  -- memory is wanting for the log of the streams
  pub unstarted_goes : (c new : Connection S) (control : ControlState) (core : Inner S) (most : Option ℕ) → new ≡ begins c control core → control.log ≡ logged c.control.log (item.MaxDatagramSize most ∷ [])
      → KeepsTold c.core core → GoesOn c new
  unstarted_goes c new control core most is log told = (
    item.MaxDatagramSize most ∷ [],
    quiet_goes (item.MaxDatagramSize most ∷ []) c new (flags_by c new (begins c control core) is (record { connected = refl; due = refl; data_due = λ due. due; lost_logged = refl; told = told }))
        (ap (λ (z : Connection S). z.control.log) is ∙ log) refl,
  )
