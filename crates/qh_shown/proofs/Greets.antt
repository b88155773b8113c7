-- What the peer's hello brings: how long a datagram it takes, its first limits, and at a client that the handshake is complete.
use Rattle.std.proofs.Common.{◌≡◌, ℕ, Bool, true, false, if◌then◌else◌, List, [], ◌∷◌, map, Option, None, Some, is_some, refl, sym, ap, subst, ◌∙◌}
use Rattle.std.proofs.lemmas.Bool.{both_ways}
use Rattle.std.proofs.lemmas.Option.{none-some}
use Rattle.qh_base.specs.declared.connection_error.ConnectionError.{ConnectionError}
use Rattle.qh_base.specs.declared.time.Moment.{Moment}
use Rattle.qh_book.specs.Book.{Book}
use Rattle.qh_book.specs.Items.{bring, bring_all, item_of as stream_item}
use Rattle.qh_book.specs.Shown.{AreFirst, ShowsStreams}
use Rattle.qh_book.specs.declared.item.Item.TheVariants as item
use Rattle.qh_conn.proofs.LogKept.{Log, logged_none, logged_on, none_left}
use Rattle.qh_conn.specs.Greeting.{IsBegunBy, IsGreetedNow, connected, with_core, with_early}
use Rattle.qh_conn.specs.Incoming.{IsFed, IsMet, IsRestarted}
use Rattle.qh_conn.specs.Items.{first_limits, streams_logged, streams_taken}
use Rattle.qh_conn.specs.declared.connection.Connection.{Connection}
use Rattle.qh_conn.specs.declared.connection.EarlyLimits.{EarlyLimits}
use Rattle.qh_control.specs.Items.{logged, streamed}
use Rattle.qh_control.specs.declared.items.ConnectionItem.{ConnectionItem}
use Rattle.qh_control.specs.declared.items.ConnectionItem.TheVariants as entry
use Rattle.qh_converse.specs.Settled.{datagram_of, peer_limits}
use Rattle.qh_core.specs.Inner.{is_client, is_open}
use Rattle.qh_core.specs.Timers.{restarted}
use Rattle.qh_core.specs.declared.idle.IdleTimer.{IdleTimer}
use Rattle.qh_core.specs.declared.inner.Inner.{Inner}
use Rattle.qh_handshake.proofs.GoingOn.{taken_goes}
use Rattle.qh_handshake.specs.Incoming.{AreFramesTaken, ArePacketsTaken, IsDatagramTaken, IsHelloRead, IsInitialTaken, IsPacketHandled, SessionView}
use Rattle.qh_handshake.specs.declared.handshake.Handshake.{Handshake}
use Rattle.qh_handshake.specs.declared.initial_space.InitialSpace.{InitialSpace}
use Rattle.qh_hello.specs.declared.transport_parameters.TransportParameters.{TransportParameters}
use Rattle.qh_packet.specs.Session.{AcceptsTag}
use Rattle.qh_shown.proofs.CoreSteps.{CoreStep, core_step, kept}
use Rattle.qh_shown.proofs.Keeping.{bounded_keeps, first_keeps, keeps_both}
use Rattle.qh_shown.proofs.Steps.{Quiet, SomeStep, Step, by_parts, connected_step, quiet_by, quiet_step, some_both, some_by}
use Rattle.qh_shown.specs.Connections.{is_wanting_in}
use Rattle.qh_shown.specs.Items.{brought}
use Rattle.qh_shown.specs.Laws.{BookLaws}
use Rattle.qh_space.specs.Space.{first_streams, fresh_streams}
use Rattle.qh_space.specs.declared.data_space.DataSpace.{DataSpace}
use Rattle.qh_spec.specs.declared.sides.Side.{Side}
use Rattle.qh_streams.specs.Items.{first_items}
use Rattle.qh_streams.specs.Streams.{PlainStreams, with_peer}
use Rattle.qh_streams.specs.declared.frames.PeerLimits.{PeerLimits}
use Rattle.qh_streams.specs.declared.items.Item.{Item}
use Rattle.qh_streams.specs.declared.frames.StreamLimits.{StreamLimits}

-- ---- the handshake ends no connection for want of memory

hello_calm : (old new : Handshake) (learned : Option (List ℕ)) (end : Option ConnectionError) → IsHelloRead old new learned end → is_wanting_in end ≡ false
hello_calm old new _ _ (IsHelloRead.gone _ _) = refl
hello_calm old new _ _ (IsHelloRead.known _ _ _) = refl
hello_calm old new _ _ (IsHelloRead.cut _ _ _ _) = refl
hello_calm old new _ _ (IsHelloRead.refused _ _ _ _ _ _ _ _ _ _ _ _) = refl
hello_calm old new _ _ (IsHelloRead.at_client _ _ _ _ _) = refl
hello_calm old new _ _ (IsHelloRead.at_server _ _ _ _ _ _ _) = refl

frames_calm : (now : ℕ) (bytes : List ℕ) (old new : InitialSpace) (end : Option ConnectionError) → AreFramesTaken now bytes old new end → is_wanting_in end ≡ false
frames_calm now _ _ _ _ (AreFramesTaken.none s) = refl
frames_calm now _ _ _ _ (AreFramesTaken.more bytes rest frame old mid new end begins unrefused first later) = frames_calm now rest mid new end later
frames_calm now _ _ _ _ (AreFramesTaken.closed bytes rest frame old new close begins unrefused taken) = refl
frames_calm now _ _ _ _ (AreFramesTaken.refused bytes rest frame s e begins named refusal) = refl

packet_calm : (now : Moment) (number : ℕ) (frames : List ℕ) (old new : InitialSpace) (end : Option ConnectionError) → IsPacketHandled now number frames old new end → is_wanting_in end ≡ false
packet_calm now number frames old new _ (IsPacketHandled.repeated _ _) = refl
packet_calm now number frames old new _ (IsPacketHandled.empty _ _ _ _ _) = refl
packet_calm now number frames old new _ (IsPacketHandled.faulty _ _ _ _ _ _) = refl
packet_calm now number frames old new _ (IsPacketHandled.unnoted _ _ _ _ _ _) = refl
packet_calm now number frames old new _ (IsPacketHandled.taken mid eliciting end fresh valid accepted taken) = frames_calm now.0 frames mid new end taken

module _ (accepts : AcceptsTag) (now : Moment) where
  initial_calm : (f : _) (old new : Handshake) (learned : Option (List ℕ)) (end : Option ConnectionError) → IsInitialTaken accepts now f old new learned end → is_wanting_in end ≡ false
  initial_calm f old new _ _ (IsInitialTaken.gone _ _) = refl
  initial_calm f old new _ _ (IsInitialTaken.dropped _ _ _ _) = refl
  initial_calm f old new _ _ (IsInitialTaken.ended s mid number frames e there opened handled is) = packet_calm now number frames s mid (Some e) handled
  initial_calm f old new _ _ (IsInitialTaken.handled s mid number frames learned end there opened handled read) = hello_calm _ new learned end read

  packets_calm : (bytes rest : List ℕ) (old new : Handshake) (learned : Option (List ℕ)) (end : Option ConnectionError) → ArePacketsTaken accepts now bytes rest old new learned end → is_wanting_in end ≡ false
  packets_calm _ _ _ _ _ _ (ArePacketsTaken.done bytes h behind) = refl
  packets_calm _ _ _ _ _ _ (ArePacketsTaken.more bytes destination behind rest f old mid new first later end begins taken packets) = packets_calm behind rest mid new later end packets
  packets_calm _ _ _ _ _ _ (ArePacketsTaken.ended bytes destination behind f old new learned e begins taken) = initial_calm f old new learned (Some e) taken

  pub datagram_calm : (d rest : List ℕ) (old new : Handshake) (retried learned : Option (List ℕ)) (end : Option ConnectionError) → IsDatagramTaken accepts now d old new rest retried learned end → is_wanting_in end ≡ false
  datagram_calm d _ old new _ _ _ (IsDatagramTaken.retry _ _ _ _ _ _) = refl
  datagram_calm d _ old new _ _ _ (IsDatagramTaken.mismatch _ _) = refl
  datagram_calm d _ old new _ _ _ (IsDatagramTaken.packets rest learned end never other packets) = packets_calm d rest _ new learned end packets

-- ---- what was there of the peer

known_still : {A : Type 0} (old new : Option A) → ((x : A) → old ≡ Some x → new ≡ Some x) → is_some old ≡ true → new ≡ old
known_still None new keeps some = absurd (both_ways false refl some)
known_still (Some x) new keeps some = keeps x refl

unknown_before : {A : Type 0} (old new : Option A) → ((x : A) → old ≡ Some x → new ≡ Some x) → new ≡ None → old ≡ None
unknown_before None new keeps none = refl
unknown_before (Some x) new keeps none = absurd (none-some x (sym none ∙ keeps x refl))

pub not_known : {A : Type 0} (o : Option A) → is_some o ≡ false → o ≡ None
not_known None is = refl
not_known (Some x) is = let z : true ≡ false = is in cc

-- ---- the streams begin anew

abbrev unused : Side → StreamLimits → EarlyLimits → PlainStreams
unused side limits e = with_early e (fresh_streams side limits (record { max_data = 0; bidi_local = 0; bidi_remote = 0; uni = 0; max_bidi = 0; max_uni = 0 }))

unused_first : (side : Side) (limits : StreamLimits) (e : EarlyLimits) → AreFirst (unused side limits e)
unused_first side limits e = record { sends = λ k. refl; recvs = λ k. refl; bi = refl; uni = refl; first_bi = refl; first_uni = refl; credit_to = refl; taken = refl; unconfirmed = refl }

limits_on : (side : Side) (limits : StreamLimits) (e : EarlyLimits) (peer : PeerLimits) → with_early e (first_streams side limits peer) ≡ with_peer (unused side limits e) peer
limits_on side limits e peer = refl

begun_log : (log : Log) (s : DataSpace) → s.log ≡ None → streamed (streams_logged log s).log ≡ []
begun_log None s off = ap (λ (z : Option (List Item)). streamed z) off
begun_log (Some items) s off = refl

begun_on : (log : Log) (s : DataSpace) → is_some log ≡ true → is_some (streams_logged log s).log ≡ true
begun_on None s on = let z : false ≡ true = on in cc
begun_on (Some items) s on = refl

module _ {S : Type 0} where
  -- the connection as it was before its peer's hello was read
  abbrev pub unmet : Connection S → Connection S
  unmet c = record c { handshake = record c.handshake { peer = None } }

  module _ (laws : BookLaws) where
    pub begun_step : (c : Connection S) (core : Inner S) (p : TransportParameters) → c.handshake.peer ≡ Some p → streamed c.core.space.log ≡ [] → IsBegunBy p c.handshake c.early c.control.log c.core core
        → Step (entry.MaxDatagramSize (datagram_of p.max_datagram_frame_size) ∷ first_limits (peer_limits p)) (unmet c) (with_core c core p)
    begun_step c core p met none begun =
        let most = datagram_of p.max_datagram_frame_size in
        let peer = peer_limits p in
        let items : List ConnectionItem = entry.MaxDatagramSize most ∷ first_limits peer in
        let limits = c.core.config.limits in
        let new = unused c.core.side limits c.early in
        let side_is : core.side ≡ c.core.side = ap (λ (z : Inner S). z.side) begun.rest_is in
        let is : core.space.streams ≡ with_peer new peer =
        ap (λ (z : Inner S). z.space.streams) begun.rest_is
        ∙ ap (λ (z : PlainStreams). with_early c.early z)
        (begun.space.streams_are ∙ ap (λ (z : Side). first_streams z core.config.limits core.config.peer) side_is
        ∙ ap (λ (z : Inner S). first_streams c.core.side z.config.limits z.config.peer) begun.rest_is)
        ∙ limits_on c.core.side limits c.early peer in
        let log_is : streamed core.space.log ≡ [] = ap (λ (z : Inner S). streamed z.space.log) begun.rest_is ∙ begun_log c.control.log begun.begun begun.space.log in
        record {
          front = λ was_told b shown. record { side = shown.side ∙ sym side_is; addresses = shown.addresses ∙ ap (λ (z : Inner S). z.addresses) (sym begun.rest_is); connected = shown.connected };
          wanting = λ calm. ap (λ (z : Inner S). is_wanting_in z.error) begun.rest_is ∙ calm;
          live = λ notes b shown.
              let u = shown.ungreeted refl in
              let at : Book = bring (item.MaxDatagramSize most) b in
              let to : Book = bring_all (map stream_item (first_items peer)) at in
              let first = laws.streams c.core.space.streams notes b at (laws.bounds most b) shown.streams in
              let next = (laws.anew c.core.space.streams new u.streams (unused_first c.core.side limits c.early) (sym u.side) (sym u.window)).to notes at first in
              record {
                streams = subst (λ (z : PlainStreams). ShowsStreams z notes to) (sym is) ((laws.peer new peer).to notes at next);
                datagrams = laws.datagrams c.control.datagrams _ at to (laws.changed at to (laws.items (first_items peer) at)) (laws.bounded c.control.datagrams _ b most shown.datagrams);
                kept = shown.kept;
                ungreeted = λ unread. absurd (none-some p (sym unread ∙ met));
              };
          keeps = λ notes b shown. let at : Book = bring (item.MaxDatagramSize most) b in keeps_both b at (brought items b) (bounded_keeps most b) (first_keeps peer at);
          logs = ap (λ (z : List ConnectionItem). logged (logged c.control.log items) z) log_is
              ∙ logged_none (logged c.control.log items) ∙ ap (λ (z : Log). logged z items) (sym (ap (λ (z : List ConnectionItem). logged c.control.log z) none ∙ logged_none c.control.log));
          logging = λ logging up greeted on. ap (λ (z : Inner S). is_some z.space.log) begun.rest_is ∙ begun_on c.control.log begun.begun (sym (logged_on c.control.log items) ∙ on);
        }

    either_greeted : (now : Moment) (c at : Connection S) (b : Bool) → is_some at.handshake.peer ≡ true → SomeStep c at → SomeStep c (if b then connected now at else at)
    either_greeted now c at true greeted s = some_both c at (connected now at) s (entry.Connected ∷ [], connected_step laws now at greeted)
    either_greeted now c at false greeted s = s

    pub greeted_step : (now : Moment) (c new : Connection S) → streamed c.core.space.log ≡ [] → IsGreetedNow now c new → SomeStep (unmet c) new
    greeted_step now c new none g =
        some_by (unmet c) new _ g.new_is (either_greeted now (unmet c) (with_core c g.core g.peer) (is_client c.handshake.side) (ap (λ (z : Option TransportParameters). is_some z) g.peer_is)
        (_, begun_step c g.core g.peer g.peer_is none g.core_is))

    -- ---- the handshake took a datagram

    -- the handshake, the session and the idle time are these since
    abbrev HasTaken : (old new : Connection S) (h : Handshake) (session : S) (idle : IdleTimer) → Type 0
    HasTaken old new h session idle = new ≡ record old { handshake = h; core = record old.core { session = session; idle = idle } }

    pub restarted_is : (now : Moment) (before : Handshake) (old fed new : Connection S) (h : Handshake) (session : S) → fed ≡ record old { handshake = h; core = record old.core { session = session } } → IsRestarted now before fed new
        → (idle : IdleTimer) × HasTaken old new h session idle
    restarted_is now before old fed new h session fed_is (IsRestarted.heard heard is) = (restarted now fed.core.idle, is ∙ ap (λ (z : Connection S). record z { core = record z.core { idle = restarted now fed.core.idle } }) fed_is)
    restarted_is now before old fed new h session fed_is (IsRestarted.quiet never is) = (old.core.idle, is ∙ fed_is)

    taken_quiet : (old new : Connection S) (h : Handshake) (session : S) (idle : IdleTimer) → HasTaken old new h session idle → h.peer ≡ old.handshake.peer → Quiet old new
    taken_quiet old new h session idle is peer = quiet_by old new _ is (by_parts old _ (core_step old.core _ (kept old.core)) refl refl peer refl refl)

    pub taken_unmet : (old new : Connection S) (h : Handshake) (session : S) (idle : IdleTimer) → HasTaken old new h session idle → old.handshake.peer ≡ None → Quiet old (unmet new)
    taken_unmet old new h session idle is none =
        quiet_by old (unmet new) _ (ap unmet is) (by_parts old _ (core_step old.core _ (kept old.core)) refl refl (sym none) refl refl)

    module _ (v : SessionView S) (now : Moment) (d rest : List ℕ) (old fed : Connection S) where
      -- the peer's hello was read, if it was by then
      pub met_step : (restarted met : Connection S) → (old.handshake.peer ≡ None → streamed old.core.space.log ≡ []) → IsFed v now d old fed rest None → IsRestarted now old.handshake fed restarted
          → IsMet now (is_some old.handshake.peer) restarted met → SomeStep old met
      met_step restarted met none f r m =
          let i = restarted_is now old.handshake old fed restarted f.handshake f.session f.new_is r in
          let keeps = (taken_goes (v.accepts old.core.session) now d rest old.handshake f.handshake f.retried f.learned None f.taken).peer in
          met_by restarted met f.handshake f.session i.0 i.1 keeps none m
        where
          met_by : (restarted met : Connection S) (h : Handshake) (session : S) (idle : IdleTimer) → HasTaken old restarted h session idle → ((p : TransportParameters) → old.handshake.peer ≡ Some p → h.peer ≡ Some p)
              → (old.handshake.peer ≡ None → streamed old.core.space.log ≡ []) → IsMet now (is_some old.handshake.peer) restarted met → SomeStep old met
          met_by restarted met h session idle is keeps none (IsMet.before was same) =
              some_by old met restarted same ([], quiet_step laws old restarted (taken_quiet old restarted h session idle is (known_still old.handshake.peer h.peer keeps was)) (ap (λ (z : Connection S). z.is_connected_due) is))
          met_by restarted met h session idle is keeps none (IsMet.not_yet was unread same) =
              let same_peer = sym (ap (λ (z : Connection S). z.handshake.peer) is) ∙ (unread ∙ sym (not_known old.handshake.peer was)) in
              some_by old met restarted same ([], quiet_step laws old restarted (taken_quiet old restarted h session idle is same_peer) (ap (λ (z : Connection S). z.is_connected_due) is))
          met_by restarted met h session idle is keeps none (IsMet.greeted was g) =
              let unread = not_known old.handshake.peer was in
              some_both old (unmet restarted) met ([], quiet_step laws old (unmet restarted) (taken_unmet old restarted h session idle is unread) (ap (λ (z : Connection S). z.is_connected_due) is))
              (greeted_step now restarted met (ap (λ (z : Connection S). streamed z.core.space.log) is ∙ none unread) g)

      -- the handshake ended the connection
      pub ended_step : (e : ConnectionError) (new : Connection S) → is_open new.core.state ≡ false → CoreStep [] fed.core new.core → IsFed v now d old fed rest (Some e) → new ≡ record fed { core = new.core } → SomeStep old new
      ended_step e new shut s f is =
          let keeps = (taken_goes (v.accepts old.core.session) now d rest old.handshake f.handshake f.retried f.learned (Some e) f.taken).peer in
          let to : Connection S = record old { handshake = f.handshake; core = new.core } in
          let core : CoreStep [] old.core new.core = after (sym (ap (λ (z : Connection S). z.core) f.new_is)) s in
          some_by old new to (is ∙ ap (λ (z : Connection S). record z { core = new.core }) f.new_is) (
            [],
            quiet_step laws old to (record {
              core = core;
              datagrams = refl;
              bounds = refl;
              unmet = unknown_before old.handshake.peer f.handshake.peer keeps;
              log = refl;
              early = refl;
              logging = λ logging up. let z : false ≡ true = sym shut ∙ up in cc;
            }) refl,
          )
        where
          after : {session : S} {new : Inner S} → record old.core { session = session } ≡ fed.core → CoreStep [] fed.core new → CoreStep [] old.core new
          after {session = session} {new = new} same s =
              let p = subst (λ (z : Inner S). CoreStep [] z new) (sym same) s in
              record { side = p.side; addresses = p.addresses; config = p.config; log = p.log; leads = p.leads; wanting = p.wanting; opened = p.opened }

  -- ---- what came to the streams by then is in the log of the connection

  pub begun_moved : (c : Connection S) (core : Inner S) (p : TransportParameters) → IsBegunBy p c.handshake c.early c.control.log c.core core → streamed core.space.log ≡ []
  begun_moved c core p begun = ap (λ (z : Inner S). streamed z.space.log) begun.rest_is ∙ begun_log c.control.log begun.begun begun.space.log

  taken_moved : (log : Log) (core : Inner S) → streamed core.space.log ≡ [] → streamed (streams_taken log core).space.log ≡ []
  taken_moved None core none = none
  taken_moved (Some items) core none = none_left core.space.log

  either_moved : (now : Moment) (at : Connection S) (b : Bool) → streamed at.core.space.log ≡ [] → streamed (if b then connected now at else at).core.space.log ≡ []
  either_moved now at true none = taken_moved at.control.log at.core none
  either_moved now at false none = none

  -- the same once the peer's hello was read, if it was by then
  pub met_moved : (now : Moment) (before : Handshake) (was : Bool) (old fed restarted met : Connection S) (h : Handshake) (session : S) → fed ≡ record old { handshake = h; core = record old.core { session = session } }
      → IsRestarted now before fed restarted → IsMet now was restarted met → (is_some old.control.log ≡ true → streamed old.core.space.log ≡ []) → is_some met.control.log ≡ true → streamed met.core.space.log ≡ []
  met_moved now before was old fed restarted met h session fed_is r m moved on = moved_by m on
    where
      same_log : (r : IsRestarted now before fed restarted) → (restarted.control.log ≡ old.control.log) × (restarted.core.space.log ≡ old.core.space.log)
      same_log (IsRestarted.heard heard is) = (ap (λ (z : Connection S). z.control.log) is ∙ ap (λ (z : Connection S). z.control.log) fed_is, ap (λ (z : Connection S). z.core.space.log) is ∙ ap (λ (z : Connection S). z.core.space.log) fed_is)
      same_log (IsRestarted.quiet never is) = (ap (λ (z : Connection S). z.control.log) (is ∙ fed_is), ap (λ (z : Connection S). z.core.space.log) (is ∙ fed_is))

      still : (to : Connection S) → to ≡ restarted → is_some to.control.log ≡ true → streamed to.core.space.log ≡ []
      still to is on =
          let same = same_log r in
          ap (λ (z : Connection S). streamed z.core.space.log) is ∙ ap (λ (z : Option (List Item)). streamed z) same.1 ∙ moved (sym (ap (λ (z : Log). is_some z) (ap (λ (z : Connection S). z.control.log) is ∙ same.0)) ∙ on)

      moved_by : IsMet now was restarted met → is_some met.control.log ≡ true → streamed met.core.space.log ≡ []
      moved_by (IsMet.before greeted is) on = still met is on
      moved_by (IsMet.not_yet ungreeted unread is) on = still met is on
      moved_by (IsMet.greeted ungreeted g) on =
          ap (λ (z : Connection S). streamed z.core.space.log) g.new_is ∙ either_moved now (with_core restarted g.core g.peer) (is_client restarted.handshake.side) (begun_moved restarted g.core g.peer g.core_is)
