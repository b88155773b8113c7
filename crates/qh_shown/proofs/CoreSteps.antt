-- What the end of the 1-RTT packets goes on by, and what it brings then.
use Rattle.std.proofs.Common.{◌≡◌, ℕ, Bool, true, false, List, [], Option, None, Some, refl, sym, ap, subst, ◌∙◌}
use Rattle.qh_base.specs.declared.connection_error.ConnectionError.{ConnectionError}
use Rattle.qh_base.specs.declared.connection_error.ConnectionError.TheVariants.{TransportError as Fault}
use Rattle.qh_base.specs.declared.time.Moment.{Moment}
use Rattle.qh_base.specs.declared.transport_error.TransportError.{TransportError}
use Rattle.qh_book.specs.Items.{is_memory}
use Rattle.qh_conn.specs.Incoming.{EndsBy}
use Rattle.qh_core.specs.Event.{IsDrainedTold, IsPolledEvent, is_drained}
use Rattle.qh_core.specs.Inner.{is_open}
use Rattle.qh_core.specs.Receiving.{GoesOnWith, IsClosedHeard, IsDatagramTaken, IsFaulted, IsPacketHandled, IsPacketTaken}
use Rattle.qh_core.specs.Sending.{AreFramesMade, without_close_due}
use Rattle.qh_core.specs.Timers.{IsTimedOut}
use Rattle.qh_core.specs.declared.event.EndpointEvent.{EndpointEvent}
use Rattle.qh_core.specs.declared.event.Event.{Event}
use Rattle.qh_core.specs.declared.idle.IdleTimer.{IdleTimer}
use Rattle.qh_core.specs.declared.inner.Inner.{Inner}
use Rattle.qh_core.specs.declared.state.State.{State}
use Rattle.qh_core.specs.declared.state.State.TheVariants.{Established, Closed, Draining, Drained}
use Rattle.qh_core.specs.declared.stats.UdpStats.{UdpStats}
use Rattle.qh_packet.specs.Session.{AcceptsTag}
use Rattle.qh_shown.proofs.SpaceSteps.{SpaceQuiet, accepted_quiet, bare_quiet, frames_calm, frames_step, leads_by, leads_self, logged_none, packet_quiet, quiet_step, step_both, timed_quiet}
use Rattle.qh_shown.specs.Connections.{is_wanting_in}
use Rattle.qh_shown.specs.Laws.{BookLaws, Leads}
use Rattle.qh_space.specs.declared.data_space.DataSpace.{DataSpace}
use Rattle.qh_streams.specs.Items.{logged}
use Rattle.qh_streams.specs.Streams.{IsPolled, PlainStreams}
use Rattle.qh_streams.specs.declared.frames.StreamEvent.{StreamEvent}
use Rattle.qh_streams.specs.declared.items.Item.{Item}

-- ---- want of memory

-- want of memory drains a connection, so that it didn't end one that isn't drained
pub live_calm : (drained wanting : Bool) → drained ≡ false → (wanting ≡ true → drained ≡ true) → wanting ≡ false
live_calm drained false lives drains = refl
live_calm drained true lives drains = let z : false ≡ true = sym lives ∙ drains refl in cc

pub open_lives : (s : State) → is_open s ≡ true → is_drained s ≡ false
open_lives Established up = refl
open_lives (Closed reason is_due until) up = refl
open_lives (Draining until) up = refl
open_lives Drained up = let z : false ≡ true = up in cc

told_opened : (s : State) → is_open (without_close_due s) ≡ true → is_open s ≡ true
told_opened Established up = up
told_opened (Closed reason is_due until) up = up
told_opened (Draining until) up = up
told_opened Drained up = up

told_drained : (s : State) → is_drained s ≡ true → is_drained (without_close_due s) ≡ true
told_drained Established is = is
told_drained (Closed reason is_due until) is = is
told_drained (Draining until) is = is
told_drained Drained is = is

polled_streams : (old new : PlainStreams) (e : Option StreamEvent) → IsPolled old new e → new ≡ record old { events = new.events; blocked = new.blocked }
polled_streams old new _ (IsPolled.writable id front rest some waits none writable is) = is ∙ ap (λ (z : PlainStreams). record old { events = z.events; blocked = z.blocked }) (sym is)
polled_streams old new _ (IsPolled.queued e es none events is) = is ∙ ap (λ (z : PlainStreams). record old { events = z.events; blocked = z.blocked }) (sym is)
polled_streams old new _ (IsPolled.none none events is) = is ∙ ap (λ (z : PlainStreams). record old { events = z.events; blocked = z.blocked }) (sym is)

module _ (laws : BookLaws) where
  told_leads : (old new : PlainStreams) (e : Option StreamEvent) → IsPolled old new e → Leads [] old new
  told_leads old new e polled = leads_by [] old new _ (polled_streams old new e polled) (laws.told old new.events new.blocked)

  told_space : (s : DataSpace) (new : PlainStreams) (e : Option StreamEvent) → IsPolled s.streams new e → SpaceQuiet s (record s { streams = new })
  told_space s new e polled = record { leads = told_leads s.streams new e polled; log = refl }

module _ {S : Type 0} where
  -- ---- these items come

  pub record CoreStep (items : List Item) (old new : Inner S) : Type 0 where
    pub side : new.side ≡ old.side
    pub addresses : new.addresses ≡ old.addresses
    pub config : new.config ≡ old.config
    pub log : new.space.log ≡ logged old.space.log items
    pub leads : Leads items old.space.streams new.space.streams
    pub wanting : is_wanting_in old.error ≡ false → is_wanting_in new.error ≡ false
    pub opened : is_open new.state ≡ true → is_open old.state ≡ true

  -- none does, and want of memory ended it exactly if it had before
  pub record CoreQuiet (old new : Inner S) : Type 0 where
    pub side : new.side ≡ old.side
    pub addresses : new.addresses ≡ old.addresses
    pub config : new.config ≡ old.config
    pub log : new.space.log ≡ old.space.log
    pub leads : Leads [] old.space.streams new.space.streams
    pub wanting : (is_wanting_in old.error ≡ true → is_drained old.state ≡ true) → is_wanting_in new.error ≡ is_wanting_in old.error
    pub drained : is_drained old.state ≡ true → is_drained new.state ≡ true
    pub opened : is_open new.state ≡ true → is_open old.state ≡ true

  pub step_by : (items : List Item) (old new to : Inner S) → new ≡ to → CoreStep items old to → CoreStep items old new
  step_by items old new to is s = subst (λ (z : Inner S). CoreStep items old z) (sym is) s

  pub quiet_by : (old new to : Inner S) → new ≡ to → CoreQuiet old to → CoreQuiet old new
  quiet_by old new to is s = subst (λ (z : Inner S). CoreQuiet old z) (sym is) s

  -- its session, its peer's id, its space, its moments, its counts and what was told alone changed
  spaced : (c : Inner S) {session : S} {id : List ℕ} {space : DataSpace} {idle : IdleTimer} {told drained : Bool} {out came : UdpStats} → SpaceQuiet c.space space
      → CoreQuiet c (record c { session = session; remote_id = id; space = space; idle = idle; is_lost_told = told; is_drained_told = drained; udp_tx = out; udp_rx = came })
  spaced c q = record { side = refl; addresses = refl; config = refl; log = q.log; leads = q.leads; wanting = λ _. refl; drained = λ is. is; opened = λ up. up }

  pub kept : (c : Inner S) {session : S} {id : List ℕ} {idle : IdleTimer} {told drained : Bool} {out came : UdpStats}
      → CoreQuiet c (record c { session = session; remote_id = id; idle = idle; is_lost_told = told; is_drained_told = drained; udp_tx = out; udp_rx = came })
  kept c = spaced c (record { leads = leads_self c.space.streams; log = refl })

  pub quiet_self : (c : Inner S) → CoreQuiet c c
  quiet_self c = kept c

  pub quiet_same : (old new : Inner S) → new ≡ old → CoreQuiet old new
  quiet_same old new is = quiet_by old new old is (quiet_self old)

  pub counted_quiet : (c : Inner S) (came : UdpStats) → CoreQuiet c (record c { udp_rx = came })
  counted_quiet c came = kept c

  pub moment_quiet : (old new : Inner S) (idle : IdleTimer) → new ≡ record old { idle = idle } → CoreQuiet old new
  moment_quiet old new idle is = quiet_by old new _ is (kept old)

  -- its state alone changed
  turned : (c : Inner S) (state : State) → (is_drained c.state ≡ true → is_drained state ≡ true) → (is_open state ≡ true → is_open c.state ≡ true) → CoreQuiet c (record c { state = state })
  turned c state drained opened = record { side = refl; addresses = refl; config = refl; log = refl; leads = leads_self c.space.streams; wanting = λ _. refl; drained = drained; opened = opened }

  turned_from : (c : Inner S) (from state : State) → c.state ≡ from → is_drained from ≡ false → is_open state ≡ false → CoreQuiet c (record c { state = state })
  turned_from c from state is lives shut = turned c state (λ drained. let z : false ≡ true = sym lives ∙ (ap is_drained (sym is) ∙ drained) in cc) (λ up. let z : false ≡ true = sym shut ∙ up in cc)

  -- one that wasn't drained ends by an error, not for want of memory
  pub ended : (c : Inner S) (state : State) (e : ConnectionError) → is_drained c.state ≡ false → is_open state ≡ false → is_memory e ≡ false → CoreQuiet c (record c { state = state; error = Some e })
  ended c state e lives shut calm = record {
    side = refl;
    addresses = refl;
    config = refl;
    log = refl;
    leads = leads_self c.space.streams;
    wanting = λ drains. calm ∙ sym (live_calm (is_drained c.state) (is_wanting_in c.error) lives drains);
    drained = λ drained. let z : false ≡ true = sym lives ∙ drained in cc;
    opened = λ up. let z : false ≡ true = sym shut ∙ up in cc;
  }

  -- the same of one that may be drained, where want of memory hadn't ended it
  pub ends : (items : List Item) (old mid : Inner S) (state : State) (e : ConnectionError) → is_open state ≡ false → is_memory e ≡ false → CoreStep items old mid → CoreStep items old (record mid { state = state; error = Some e })
  ends items old mid state e shut calm s =
      record { side = s.side; addresses = s.addresses; config = s.config; log = s.log; leads = s.leads; wanting = λ _. calm; opened = λ up. let z : false ≡ true = sym shut ∙ up in cc }

  pub core_step : (old new : Inner S) → CoreQuiet old new → CoreStep [] old new
  core_step old new q = record {
    side = q.side;
    addresses = q.addresses;
    config = q.config;
    log = q.log ∙ sym (logged_none old.space.log);
    leads = q.leads;
    wanting = λ calm. q.wanting (λ wanting. let z : false ≡ true = sym calm ∙ wanting in cc) ∙ calm;
    opened = q.opened;
  }

  pub step_self : (c : Inner S) → CoreStep [] c c
  step_self c = core_step c c (quiet_self c)

  -- counted before it
  pub after_counted : (items : List Item) (c : Inner S) (came : UdpStats) (new : Inner S) → CoreStep items (record c { udp_rx = came }) new → CoreStep items c new
  after_counted items c came new s = record { side = s.side; addresses = s.addresses; config = s.config; log = s.log; leads = s.leads; wanting = s.wanting; opened = s.opened }

  pub quiet_counted : (c : Inner S) (came : UdpStats) (new : Inner S) → CoreQuiet (record c { udp_rx = came }) new → CoreQuiet c new
  quiet_counted c came new q = record { side = q.side; addresses = q.addresses; config = q.config; log = q.log; leads = q.leads; wanting = q.wanting; drained = q.drained; opened = q.opened }

  -- ---- datagrams

  pub faulted_step : (items : List Item) (now : Moment) (e : TransportError) (old mid new : Inner S) → IsFaulted now e mid new → CoreStep items old mid → CoreStep items old new
  faulted_step items now e old mid new f s = step_by items old new _ f.closed.rest_is (ends items old mid _ (Fault e) refl refl s)

  goes_step : (items : List Item) (now : Moment) (end : Option ConnectionError) (old mid new : Inner S) → is_wanting_in end ≡ false → GoesOnWith now end mid new → CoreStep items old mid → CoreStep items old new
  goes_step items now None old mid new calm is s = step_by items old new mid is s
  goes_step items now (Some (Fault e)) old mid new calm f s = faulted_step items now e old mid new f s
  goes_step items now (Some e) old mid new calm d s = step_by items old new _ d.rest_is (ends items old mid _ _ refl calm s)

  -- the handshake ended it
  pub ends_step : (items : List Item) (now : Moment) (e : ConnectionError) (old mid new : Inner S) → is_memory e ≡ false → EndsBy now e mid new → CoreStep items old mid → CoreStep items old new
  ends_step items now (Fault e) old mid new calm f s = faulted_step items now e old mid new f s
  ends_step items now e old mid new calm d s = step_by items old new _ d.rest_is (ends items old mid _ _ refl calm s)

  abbrev pub SomeStep : (old new : Inner S) → Type 0
  SomeStep old new = (items : List Item) × CoreStep items old new

  faulted_some : (now : Moment) (e : TransportError) (old new : Inner S) → IsFaulted now e old new → SomeStep old new
  faulted_some now e old new f = ([], faulted_step [] now e old old new f (step_self old))

  same_some : (old new : Inner S) → CoreQuiet old new → SomeStep old new
  same_some old new q = ([], core_step old new q)

  module _ (laws : BookLaws) where
    pub packet_step : (now : Moment) (number : ℕ) (frames : List ℕ) (old new : Inner S) → IsPacketTaken now number frames old new → SomeStep old new
    packet_step now number frames old new p =
        let first = quiet_step old.space p.mid (accepted_quiet number p.is_eliciting old.space p.mid p.accepted) in
        let s = step_both old.space p.mid p.space first (frames_step laws now.0 frames p.mid p.space p.taken p.end p.are_taken) in (
          s.items,
          goes_step s.items now p.end old _ new (frames_calm now.0 frames p.mid p.space p.taken p.end p.are_taken) p.goes_on
              (record { side = refl; addresses = refl; config = refl; log = s.log; leads = s.leads; wanting = λ calm. calm; opened = λ up. up }),
        )

    handled_step : (now : Moment) (number : ℕ) (frames : List ℕ) (old new : Inner S) → IsPacketHandled now number frames old new → SomeStep old new
    handled_step now number frames old new (IsPacketHandled.repeated before is) = same_some old new (quiet_same old new is)
    handled_step now number frames old new (IsPacketHandled.empty e fresh blank fault f) = faulted_some now e old new f
    handled_step now number frames old new (IsPacketHandled.faulty e k fresh faulty fault f) = faulted_some now e old new f
    handled_step now number frames old new (IsPacketHandled.unnoted e eliciting fresh valid first f) = faulted_some now e old new f
    handled_step now number frames old new (IsPacketHandled.taken fresh p) = packet_step now number frames old new p

    pub datagram_step : (accepts : AcceptsTag) (now : Moment) (d : List ℕ) (old new : Inner S) → IsDatagramTaken accepts now d old new → SomeStep old new
    datagram_step accepts now d old new (IsDatagramTaken.dropped up none is) = same_some old new (quiet_same old new is)
    datagram_step accepts now d old new (IsDatagramTaken.handled number frames up opened h) = handled_step now number frames old new h
    datagram_step accepts now d old new (IsDatagramTaken.told_again reason is_due until was none is) = same_some old new (quiet_by old new _ is (turned_from old _ (Closed reason true until) was refl refl))
    datagram_step accepts now d old new (IsDatagramTaken.closed_too reason is_due until was brings is) = same_some old new (quiet_by old new _ is (turned_from old _ (Draining until) was refl refl))
    datagram_step accepts now d old new (IsDatagramTaken.draining until was is) = same_some old new (quiet_same old new is)
    datagram_step accepts now d old new (IsDatagramTaken.drained was is) = same_some old new (quiet_same old new is)

    -- ---- what is due

    pub timed_quiet_core : (now : ℕ) (old new : Inner S) → IsTimedOut now old new → CoreQuiet old new
    timed_quiet_core now old new (IsTimedOut.idle up due is) = quiet_by old new _ is (ended old Drained _ (open_lives old.state up) refl refl)
    timed_quiet_core now old new (IsTimedOut.recovery mid up idle lost probed is) = quiet_by old new _ is (spaced old (timed_quiet laws now old.space mid new.space lost probed))
    timed_quiet_core now old new (IsTimedOut.closed reason is_due until was by is) = quiet_by old new _ is (turned_from old _ Drained was refl refl)
    timed_quiet_core now old new (IsTimedOut.draining until was by is) = quiet_by old new _ is (turned_from old _ Drained was refl refl)
    timed_quiet_core now old new (IsTimedOut.waits moment ends later is) = quiet_same old new is
    timed_quiet_core now old new (IsTimedOut.drained was is) = quiet_same old new is

    -- ---- what is sent

    pub frames_quiet : (now : Moment) (old new : Inner S) (before frames : List ℕ) → AreFramesMade now old new before frames → CoreQuiet old new
    frames_quiet now old new before frames (AreFramesMade.packet up made is) = quiet_by old new _ is (spaced old (packet_quiet laws now.0 _ _ old.space new.space before _ made))
    frames_quiet now old new before frames (AreFramesMade.control up made is) = quiet_by old new _ is (spaced old (bare_quiet laws old.space new.space made.sent.packet made.sent.new_is))
    frames_quiet now old new before frames (AreFramesMade.close reason until was are is) =
        let t = turned_from old _ (Closed reason false until) was refl refl in
        quiet_by old new _ is (record { side = refl; addresses = refl; config = refl; log = refl; leads = leads_self old.space.streams; wanting = λ _. refl; drained = t.drained; opened = t.opened })

    -- ---- what is told

    pub polled_quiet : (told : Option Event) (old new : Inner S) → IsPolledEvent old new told → CoreQuiet old new
    polled_quiet _ old new (IsPolledEvent.stream e polled is) = quiet_by old new _ is (spaced old (told_space laws old.space _ _ polled))
    polled_quiet _ old new (IsPolledEvent.lost mid error polled was untold is) = quiet_by old new _ is (spaced old (told_space laws old.space mid _ polled))
    polled_quiet _ old new (IsPolledEvent.none polled either is) = quiet_by old new _ is (spaced old (told_space laws old.space _ _ polled))

  -- ---- an end that closed

  pub heard_quiet : (brings_close : Bool) (old new : Inner S) → IsClosedHeard brings_close old new → CoreQuiet old new
  heard_quiet b old new (IsClosedHeard.told_again reason is_due until was none is) = quiet_by old new _ is (turned_from old _ (Closed reason true until) was refl refl)
  heard_quiet b old new (IsClosedHeard.closed_too reason is_due until was brings is) = quiet_by old new _ is (turned_from old _ (Draining until) was refl refl)
  heard_quiet b old new (IsClosedHeard.draining until was is) = quiet_same old new is
  heard_quiet b old new (IsClosedHeard.drained was is) = quiet_same old new is

  pub shut_quiet : (accepts : AcceptsTag) (now : Moment) (d : List ℕ) (old new : Inner S) → is_open old.state ≡ false → IsDatagramTaken accepts now d old new → CoreQuiet old new
  shut_quiet accepts now d old new shut (IsDatagramTaken.dropped up none is) = let z : true ≡ false = sym up ∙ shut in cc
  shut_quiet accepts now d old new shut (IsDatagramTaken.handled number frames up opened h) = let z : true ≡ false = sym up ∙ shut in cc
  shut_quiet accepts now d old new shut (IsDatagramTaken.told_again reason is_due until was none is) = quiet_by old new _ is (turned_from old _ (Closed reason true until) was refl refl)
  shut_quiet accepts now d old new shut (IsDatagramTaken.closed_too reason is_due until was brings is) = quiet_by old new _ is (turned_from old _ (Draining until) was refl refl)
  shut_quiet accepts now d old new shut (IsDatagramTaken.draining until was is) = quiet_same old new is
  shut_quiet accepts now d old new shut (IsDatagramTaken.drained was is) = quiet_same old new is

  pub drained_quiet : (told : Option EndpointEvent) (old new : Inner S) → IsDrainedTold old new told → CoreQuiet old new
  drained_quiet _ old new (IsDrainedTold.drained was untold is) = quiet_by old new _ is (kept old)
  drained_quiet _ old new (IsDrainedTold.none either is) = quiet_same old new is

  pub close_quiet : (old new : Inner S) → new ≡ record old { state = without_close_due old.state } → CoreQuiet old new
  close_quiet old new is = quiet_by old new _ is (turned old (without_close_due old.state) (told_drained old.state) (told_opened old.state))
