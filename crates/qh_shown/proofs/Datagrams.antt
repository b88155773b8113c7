-- What a datagram brings that comes.
use Rattle.std.proofs.Common.{◌≡◌, ℕ, Bool, true, false, if◌then◌else◌, List, [], length, Some, is_some, refl, sym, ap, subst, ◌∙◌, inl, inr}
use Rattle.qh_base.specs.declared.connection_error.ConnectionError.{ConnectionError}
use Rattle.qh_base.specs.declared.connection_error.ConnectionError.TheVariants as error
use Rattle.qh_base.specs.declared.time.Moment.{Moment}
use Rattle.qh_conn.proofs.Noted.{accepted_current}
use Rattle.qh_conn.specs.Greeting.{connected}
use Rattle.qh_conn.specs.Incoming.{EndsBy, IsClosingHeard, IsDatagramHandled, IsRestTaken, IsShutConnected, connected_if, counted_at, heard_at}
use Rattle.qh_conn.specs.Items.{noted}
use Rattle.qh_conn.specs.Whole.{IsWhole}
use Rattle.qh_conn.specs.declared.connection.Connection.{Connection}
use Rattle.qh_control.specs.Items.{streamed}
use Rattle.qh_control.specs.declared.control.ControlState.{ControlState}
use Rattle.qh_core.specs.Inner.{is_open}
use Rattle.qh_core.specs.Receiving.{counted_in}
use Rattle.qh_core.specs.declared.inner.Inner.{Inner}
use Rattle.qh_core.specs.declared.stats.UdpStats.{UdpStats}
use Rattle.qh_handshake.specs.Incoming.{SessionView}
use Rattle.qh_packet.specs.Session.{AcceptsTag}
use Rattle.qh_shown.proofs.Books.{of_streams}
use Rattle.qh_shown.proofs.ControlSteps.{frames_handled}
use Rattle.qh_shown.proofs.CoreSteps.{CoreQuiet, CoreStep, after_counted, core_step, datagram_step, ends, ends_step, heard_quiet, packet_step, quiet_counted, quiet_self, shut_quiet, step_by, step_self}
use Rattle.qh_shown.proofs.Greets.{datagram_calm, ended_step, met_step}
use Rattle.qh_shown.proofs.SpaceSteps.{leads_same, logged_none}
use Rattle.qh_shown.proofs.Steps.{SomeStep, Step, accepted_step, brings_both, brings_by, by_core, by_parts, no_longer, open_some, quiet_brings, quiet_step, some_both, some_by, streams_step}
use Rattle.qh_shown.specs.Brings.{Brings, BringsSome, IsLogging}
use Rattle.qh_shown.specs.Connections.{bounds_of}
use Rattle.qh_shown.specs.Laws.{BookLaws}
use Rattle.qh_space.specs.declared.data_space.DataSpace.{DataSpace}
use Rattle.qh_streams.specs.declared.items.Item.{Item}

module _ {S : Type 0} (laws : BookLaws) where
  -- ---- behind the Initial packets

  if_peer : (now : Moment) (c : Connection S) (b : Bool) → (if b then noted [] c else connected now c).handshake.peer ≡ c.handshake.peer
  if_peer now c true = refl
  if_peer now c false = refl

  pub accepted_peer : (now : Moment) (c : Connection S) → is_some c.handshake.peer ≡ true → is_some (connected_if now c).handshake.peer ≡ true
  accepted_peer now c greeted = ap is_some (if_peer now c c.is_connected) ∙ greeted

  pub accepted_moved : (now : Moment) (c : Connection S) → is_some c.handshake.peer ≡ true → is_some (connected_if now c).control.log ≡ true → streamed (connected_if now c).core.space.log ≡ []
  accepted_moved now c greeted on = accepted_current now c (connected_if now c) refl (λ none. no_longer c.handshake.peer (streamed c.core.space.log ≡ []) greeted none) (inl on)

  -- a packet that was accepted, and nothing of its frames of the connection's own yet
  pub core_accepted : (old : Connection S) (came : UdpStats) (core : Inner S) (s : (items : List Item) × CoreStep items (record old.core { udp_rx = came }) core) → is_open old.core.state ≡ true → is_some old.handshake.peer ≡ true → IsLogging old
      → SomeStep old (record old { core = core })
  core_accepted old came core s up greeted logging = (of_streams s.0, streams_step laws s.0 old core (after_counted s.0 old.core came core s.1) greeted (logging up greeted))

  -- the space is as it was
  unspaced : (items : List Item) (old new : Inner S) → CoreStep items old new → new.space ≡ old.space → CoreStep [] old new
  unspaced items old new s same = record {
    side = s.side;
    addresses = s.addresses;
    config = s.config;
    log = ap (λ (z : DataSpace). z.log) same ∙ sym (logged_none old.space.log);
    leads = leads_same old.space.streams new.space.streams (ap (λ (z : DataSpace). z.streams) same);
    wanting = s.wanting;
    opened = s.opened;
  }

  self_step : (old new : Connection S) → new ≡ old → SomeStep old new
  self_step old new is = some_by old new old is ([], quiet_step laws old old (by_core old old.core (step_self old.core)) refl)

  rest_step : (accepts : AcceptsTag) (now : Moment) (d rest : List ℕ) (old new : Connection S) → IsRestTaken accepts now d rest old new → IsLogging old → SomeStep old new
  rest_step accepts now d rest old new (IsRestTaken.nothing none is) logging = self_step old new is
  rest_step accepts now d rest old new (IsRestTaken.ungreeted none is) logging = self_step old new is
  rest_step accepts now d rest old new (IsRestTaken.unheard core greeted taken same never is) logging =
      let s = datagram_step laws accepts now rest (counted_in (length rest) old.core) core taken in
      some_by old new _ is ([], quiet_step laws old (record old { core = core }) (by_core old core (unspaced s.0 old.core core (after_counted s.0 old.core _ core s.1) same)) refl)
  rest_step accepts now d rest old new (IsRestTaken.reset core greeted taken up token drains is) logging =
      let s = datagram_step laws accepts now rest (counted_in (length rest) old.core) core taken in
      let at : Connection S = record old { core = core } in
      some_by old new _ is (some_both old at (record at { core = new.core }) (core_accepted old _ core s (s.1.opened up) greeted logging)
      ([], quiet_step laws at (record at { core = new.core }) (by_core at new.core (step_by [] core new.core _ drains.rest_is (ends [] core core _ error.Reset refl refl (step_self core)))) refl))
  rest_step accepts now d rest old new (IsRestTaken.accepted core frames read greeted b begins count handled) logging =
      let s = packet_step laws now b.number frames (counted_in (length rest) old.core) core b.taken in
      let at : Connection S = record old { core = core } in
      let mid = connected_if now at in
      some_both old at new (core_accepted old _ core s b.opened greeted logging)
      (some_both at mid new (accepted_step laws now at greeted) (frames_handled laws now read mid new handled (accepted_peer now at greeted) (accepted_moved now at greeted)))

  -- ---- an end that closed

  shut_parts : (old new : Connection S) → CoreQuiet old.core new.core → new.control ≡ old.control → new.handshake.peer ≡ old.handshake.peer → new.early ≡ old.early → new.is_connected_due ≡ old.is_connected_due → Brings [] old new
  shut_parts old new k control peer early due =
      quiet_brings laws old new (by_parts old new (core_step old.core new.core k) (ap (λ (z : ControlState). z.datagrams) control) (ap (λ (z : ControlState). bounds_of z) control) peer
      (ap (λ (z : ControlState). z.log) control) early) k due

  -- the handshake was complete when it closed, or is since
  shut_connected : (accepts : AcceptsTag) (rest : List ℕ) (old heard mid : Connection S) (core : Inner S) → heard.core ≡ old.core → heard.control ≡ old.control → heard.handshake.peer ≡ old.handshake.peer → heard.early ≡ old.early
      → heard.is_connected_due ≡ old.is_connected_due → IsShutConnected accepts rest heard mid → CoreQuiet mid.core core → Brings [] old (record mid { core = core })
  shut_connected accepts rest old heard mid core same control peer early due (IsShutConnected.brought brings is) k =
      let q = subst (λ (z : Inner S). CoreQuiet z core) (ap (λ (z : Connection S). z.core) is ∙ same) k in
      shut_parts old (record mid { core = core }) q (ap (λ (z : Connection S). z.control) is ∙ control) (ap (λ (z : Connection S). z.handshake.peer) is ∙ peer) (ap (λ (z : Connection S). z.early) is ∙ early)
      (ap (λ (z : Connection S). z.is_connected_due) is ∙ due)
  shut_connected accepts rest old heard mid core same control peer early due (IsShutConnected.still never is) k =
      let q = subst (λ (z : Inner S). CoreQuiet z core) (ap (λ (z : Connection S). z.core) is ∙ same) k in
      shut_parts old (record mid { core = core }) q (ap (λ (z : Connection S). z.control) is ∙ control) (ap (λ (z : Connection S). z.handshake.peer) is ∙ peer) (ap (λ (z : Connection S). z.early) is ∙ early)
      (ap (λ (z : Connection S). z.is_connected_due) is ∙ due)

  connected_core : (accepts : AcceptsTag) (rest : List ℕ) (old mid : Connection S) → IsShutConnected accepts rest old mid → mid.core ≡ old.core
  connected_core accepts rest old mid (IsShutConnected.brought brings is) = ap (λ (z : Connection S). z.core) is
  connected_core accepts rest old mid (IsShutConnected.still never is) = ap (λ (z : Connection S). z.core) is

  closing_brings : (v : SessionView S) (now : Moment) (d : List ℕ) (old new : Connection S) → is_open old.core.state ≡ false → IsClosingHeard v now d old new → Brings [] old new
  closing_brings v now d old new shut (IsClosingHeard.initial brings heard is) =
      brings_by [] old new _ is (shut_parts old (heard_at (length d) old new.core) (heard_quiet true old.core new.core heard) refl refl refl refl)
  closing_brings v now d old new shut (IsClosingHeard.ungreeted never unread heard is) =
      brings_by [] old new _ is (shut_parts old (heard_at (length d) old new.core) (heard_quiet false old.core new.core heard) refl refl refl refl)
  closing_brings v now d old new shut (IsClosingHeard.greeted rest mid never greeted ends behind connects taken is) =
      let same = connected_core _ rest (heard_at (length d) old old.core) mid connects in
      let k = quiet_counted mid.core _ new.core (shut_quiet _ now rest (counted_in (length rest) mid.core) new.core (ap (λ (z : Inner S). is_open z.state) same ∙ shut) taken) in
      brings_by [] old new _ is (shut_connected _ rest old (heard_at (length d) old old.core) mid new.core refl refl refl refl refl connects k)

  -- ---- a datagram

  pub counted_step : (size : ℕ) (c : Connection S) → Step [] c (counted_at size c)
  counted_step size c = quiet_step laws c (counted_at size c) (by_parts c (counted_at size c) (step_self c.core) refl refl refl refl refl) refl

  counted_brings : (size : ℕ) (c : Connection S) → Brings [] c (counted_at size c)
  counted_brings size c = shut_parts c (counted_at size c) (quiet_self c.core) refl refl refl refl

  ends_shut : (now : Moment) (e : ConnectionError) (old new : Inner S) → EndsBy now e old new → is_open new.state ≡ false
  ends_shut now (error.TransportError e) old new f = ap (λ (z : Inner S). is_open z.state) f.closed.rest_is
  ends_shut now e old new d = ap (λ (z : Inner S). is_open z.state) d.rest_is

  pub datagram_brings : (v : SessionView S) (now : Moment) (d : List ℕ) (old new : Connection S) → IsWhole old → IsLogging old → IsDatagramHandled v now d old new → BringsSome old new
  datagram_brings v now d old new w logging (IsDatagramHandled.closing shut heard) =
      record { items = []; brings = brings_both [] [] old (counted_at (length d) old) new (counted_brings (length d) old) (closing_brings v now d (counted_at (length d) old) new shut heard) }
  datagram_brings v now d old new w logging (IsDatagramHandled.ended mid rest e up fed by is) =
      let at = counted_at (length d) old in
      let calm = datagram_calm (v.accepts at.core.session) now d rest at.handshake fed.handshake fed.retried fed.learned (Some e) fed.taken in
      open_some old new up (some_both old at new ([], counted_step (length d) old)
      (ended_step laws v now d rest at mid e new (ends_shut now e mid.core new.core by) (ends_step [] now e mid.core mid.core new.core calm by (step_self mid.core)) fed is))
  datagram_brings v now d old new w logging (IsDatagramHandled.taken fed restarted met rest up f r m t) =
      let at = counted_at (length d) old in
      let first = met_step laws v now d rest at fed restarted met (λ none. w.current (inr none)) f r m in
      open_some old new up (some_both old at new ([], counted_step (length d) old) (some_both at met new first (rest_step _ now d rest met new t (first.1.logging logging))))
