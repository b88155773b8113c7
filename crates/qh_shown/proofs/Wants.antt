-- What want of memory leaves of a connection: a book that showed it shows it still once the loss was brought.
use Rattle.std.proofs.Common.{◌≡◌, ◌⊎◌, ℕ, nat_lt, ◌≤◌, Bool, true, false, ◌||◌, MatchBool, if◌then◌else◌, List, [], ◌∷◌, length, take, Option, None, Some, is_some, refl, sym, ap, subst, ◌∙◌, inl, inr, arith}
use Rattle.std.specs.Option.{option_map}
use Rattle.qh_base.specs.declared.connection_error.ConnectionError.TheVariants as error
use Rattle.qh_base.specs.declared.time.Moment.{Moment}
use Rattle.qh_book.specs.Book.{Book, tally}
use Rattle.qh_book.specs.Items.{bring}
use Rattle.qh_book.specs.Pages.{RecvPage, RecvState, Reading, Stopped, EndGiven, ResetGiven, is_open as is_read, without_waiting}
use Rattle.qh_book.specs.Shown.{DatagramBounds, IsShut, Note, ShowsDatagrams, ShowsHalf, ShowsRecv, ShowsStreams, is_reset_given}
use Rattle.qh_book.specs.declared.item.Item.TheVariants as item
use Rattle.qh_conn.proofs.LogKept.{Log, came_current, logged_none, logged_on}
use Rattle.qh_conn.specs.Greeting.{with_core}
use Rattle.qh_conn.specs.Incoming.{AreControlsTaken, connected_if, counted_at}
use Rattle.qh_conn.specs.Items.{came, first_limits}
use Rattle.qh_conn.specs.Unread.{HasFailed, IsCompletionCut, IsDataUnsent, IsEventUnread, IsGreetingCut, IsRestUnread, IsTimeCut, IsUnread, IsUnsent}
use Rattle.qh_conn.specs.Whole.{IsWhole}
use Rattle.qh_conn.specs.declared.connection.Connection.{Connection}
use Rattle.qh_conn.specs.declared.event.ConnectionEvent.{ConnectionEvent}
use Rattle.qh_conn.specs.declared.event.ConnectionEvent.TheVariants as incoming
use Rattle.qh_control.specs.Items.{logged, streamed}
use Rattle.qh_control.specs.declared.control.ControlState.{ControlState}
use Rattle.qh_control.specs.declared.items.ConnectionItem.{ConnectionItem}
use Rattle.qh_control.specs.declared.items.ConnectionItem.TheVariants as entry
use Rattle.qh_converse.specs.Settled.{datagram_of, peer_limits}
use Rattle.qh_core.specs.Event.{is_drained}
use Rattle.qh_core.specs.Inner.{IsFailedBy, is_open}
use Rattle.qh_core.specs.Receiving.{BringsPacket, counted_in}
use Rattle.qh_core.specs.declared.inner.Inner.{Inner}
use Rattle.qh_core.specs.declared.state.State.TheVariants.{Drained}
use Rattle.qh_datagrams.specs.Datagrams.{PlainDatagrams}
use Rattle.qh_frame.specs.declared.frame.Frame.{Frame}
use Rattle.qh_half.specs.Recv.{PlainRecv}
use Rattle.qh_halves.specs.RecvHalves.{recv_at}
use Rattle.qh_shown.specs.Brings.{EndsWanting, IsLogging}
use Rattle.qh_shown.specs.Connections.{IsDry, IsEmptied, ShowsConnection, ShowsLost, bounds_of, is_wanting, is_wanting_in, spared, spared_all}
use Rattle.qh_shown.specs.Items.{brought}
use Rattle.qh_shown.specs.Kept.{Keeps}
use Rattle.qh_shown.specs.Laws.{BookLaws}
use Rattle.qh_handshake.specs.Incoming.{SessionView}
use Rattle.qh_hello.specs.declared.transport_parameters.TransportParameters.{TransportParameters}
use Rattle.qh_packet.specs.Session.{AcceptsTag}
use Rattle.qh_shown.proofs.ControlSteps.{all_issued_quiet, control_step, controls_step}
use Rattle.qh_shown.proofs.CoreSteps.{live_calm, open_lives, packet_step, timed_quiet_core}
use Rattle.qh_shown.proofs.Datagrams.{accepted_moved, accepted_peer, core_accepted, counted_step}
use Rattle.qh_shown.proofs.Greets.{begun_moved, begun_step, met_moved, met_step, not_known, restarted_is, taken_unmet, unmet}
use Rattle.qh_shown.proofs.Keeping.{bounded_keeps, keeps_lost, keeps_self, lost_keeps}
use Rattle.qh_shown.proofs.Steps.{SomeStep, Step, accepted_step, open_calm, quiet_step, some_both, step_both}
use Rattle.qh_spec.specs.declared.sides.Dir.{Dir}
use Rattle.qh_spec.specs.declared.sides.Dir.TheVariants.{Bi, Uni}
use Rattle.qh_streams.specs.Streams.{PlainStreams}
use Rattle.qh_streams.specs.declared.fault.StreamFault.{StreamFault}

-- ---- pages

none_either : (b : Bool) → ◌≡◌ {A = Option ℕ} (if b then None else None) None
none_either true = refl
none_either false = refl

module _ (note : Note) (p : RecvPage) where
  -- of a page in this state
  abbrev At : RecvState → Type 0
  At state = ShowsLost (spared note (Some (record p { state = state }))) (Some (without_waiting (record p { state = state })))

  read_at : note.is_told ≡ false → At Reading
  read_at untold = (record { unread = λ k. none_either (nat_lt k 0); end = refl; reset_code = refl }, refl, untold)

  shut_at : (state : RecvState) → is_read state ≡ false → p.reset_code ≡ note.code → is_reset_given state ≡ note.is_told → At state
  shut_at Reading shut code told = let z : true ≡ false = shut in cc
  shut_at Stopped shut code told = record { shut = refl; code = refl; told = told }
  shut_at EndGiven shut code told = record { shut = refl; code = code; told = told }
  shut_at ResetGiven shut code told = record { shut = refl; code = code; told = told }

  shut_lost : IsShut note p → ShowsLost (spared note (Some p)) (Some (without_waiting p))
  shut_lost s = shut_at p.state s.shut s.code s.told

  half_lost : (is_stopped : Bool) (r : PlainRecv) → ShowsHalf is_stopped note r p → ShowsLost (spared note (Some p)) (Some (without_waiting p))
  half_lost true r s = shut_lost s
  half_lost false r s = subst At (sym s.0.state) (read_at s.1.untold)

  again_at : (state : RecvState) → MatchBool (is_read state) (IsDry (record p { state = state }) × (note.code ≡ None) × (note.is_told ≡ false)) (IsShut note (record p { state = state })) → At state
  again_at Reading s = read_at s.2
  again_at Stopped s = shut_at Stopped refl s.code s.told
  again_at EndGiven s = shut_at EndGiven refl s.code s.told
  again_at ResetGiven s = shut_at ResetGiven refl s.code s.told

page_lost : (note : Note) (r : Option PlainRecv) (p : Option RecvPage) → ShowsRecv note r p → ShowsLost (spared note p) (option_map without_waiting p)
page_lost note (Some r) (Some p) shown = half_lost note p r.is_stopped r shown.1
page_lost note (Some r) None shown = absurd shown
page_lost note None (Some p) shown = shut_lost note p shown
page_lost note None None shown = shown

page_again : (note : Note) (p : Option RecvPage) → ShowsLost note p → ShowsLost (spared note p) (option_map without_waiting p)
page_again note None lost = lost
page_again note (Some p) lost = again_at note p p.state lost

-- the book that the loss leaves
abbrev pub lost_book : Book → Book
lost_book b = bring (item.Lost error.Memory) b

all_taken : (b : Book) (dir : Dir) → (tally (lost_book b) dir).arrived ≤ (tally (lost_book b) dir).accepted
all_taken b Bi = omega arith
all_taken b Uni = omega arith

record AreBounds (l : DatagramBounds) (b : Book) : Type 0 where
  receive : b.datagram_receive ≡ l.receive
  send : b.datagram_send ≡ l.send
  most : b.max_datagram_size ≡ l.most

emptied_by : (l : DatagramBounds) (notes : ℕ → Note) (b : Book) → ((k : ℕ) → ShowsLost (spared (notes k) (b.recvs k)) (option_map without_waiting (b.recvs k))) → AreBounds l b
    → IsEmptied l (spared_all notes b) (lost_book b)
emptied_by l notes b recvs bounds = record {
  emptied = refl;
  sends = λ k. refl;
  recvs = recvs;
  accepted = all_taken b;
  datagrams = refl;
  queued = refl;
  receive = bounds.receive;
  send = bounds.send;
  most = bounds.most;
}

live_emptied : (s : PlainStreams) (d : PlainDatagrams) (l : DatagramBounds) (notes : ℕ → Note) (b : Book) → ShowsStreams s notes b → ShowsDatagrams d l b → IsEmptied l (spared_all notes b) (lost_book b)
live_emptied s d l notes b streams datagrams =
    emptied_by l notes b (λ k. page_lost (notes k) (recv_at s.recv k) (b.recvs k) (streams.recvs k)) (record { receive = datagrams.receive; send = datagrams.send; most = datagrams.most })

emptied_again : (l : DatagramBounds) (notes : ℕ → Note) (b : Book) → IsEmptied l notes b → IsEmptied l (spared_all notes b) (lost_book b)
emptied_again l notes b e = emptied_by l notes b (λ k. page_again (notes k) (b.recvs k) (e.recvs k)) (record { receive = e.receive; send = e.send; most = e.most })

module _ {S : Type 0} where
  -- ---- the connection

  -- what the loss leaves of it
  pub record Fails (mid new : Connection S) : Type 0 where
    pub side : new.core.side ≡ mid.core.side
    pub addresses : new.core.addresses ≡ mid.core.addresses
    pub due : new.is_connected_due ≡ mid.is_connected_due
    pub bounds : bounds_of new.control ≡ bounds_of mid.control
    pub state : new.core.state ≡ Drained
    pub error : new.core.error ≡ Some error.Memory

  ends_shows : (was_told : Bool) (mid new : Connection S) (notes : ℕ → Note) (b : Book) → Fails mid new → b.side ≡ mid.core.side → b.addresses ≡ mid.core.addresses → b.is_connected ≡ (was_told || mid.is_connected_due)
      → IsEmptied (bounds_of mid.control) (spared_all notes b) (lost_book b) → ShowsConnection was_told new (spared_all notes b) (lost_book b)
  ends_shows was_told mid new notes b f side addresses connected emptied = record {
    side = side ∙ sym f.side;
    addresses = addresses ∙ sym f.addresses;
    connected = connected ∙ ap (λ (z : Bool). was_told || z) (sym f.due);
    drained = λ wanting. ap is_drained f.state;
    live = λ calm. let z : true ≡ false = ap is_wanting_in (sym f.error) ∙ calm in cc;
    emptied = λ wanting. subst (λ (l : DatagramBounds). IsEmptied l (spared_all notes b) (lost_book b)) (sym f.bounds) emptied;
  }

  -- nothing came before it
  still_shows : (wanting : Bool) (was_told : Bool) (old new : Connection S) (notes : ℕ → Note) (b : Book) → is_wanting old ≡ wanting → Fails old new → ShowsConnection was_told old notes b
      → ShowsConnection was_told new (spared_all notes b) (lost_book b)
  still_shows true was_told old new notes b is f shown = ends_shows was_told old new notes b f shown.side shown.addresses shown.connected (emptied_again (bounds_of old.control) notes b (shown.emptied is))
  still_shows false was_told old new notes b is f shown =
      let l = shown.live is in
      ends_shows was_told old new notes b f shown.side shown.addresses shown.connected (live_emptied old.core.space.streams old.control.datagrams (bounds_of old.control) notes b l.streams l.datagrams)

  failed_log : (old mid new : Connection S) (items : List ConnectionItem) → IsWhole old → IsWhole new → new.control.log ≡ mid.control.log → mid.control.log ≡ logged old.control.log items → came new ≡ logged (came old) items
  failed_log old mid new items was is same log = came_current new is.current ∙ same ∙ log ∙ ap (λ (z : Log). logged z items) (sym (came_current old was.current))

  still_ends : (old new : Connection S) → Fails old new → came new ≡ logged (came old) [] → EndsWanting old new
  still_ends old new f logs = record {
    items = [];
    wanting = ap is_wanting_in f.error;
    shows = λ was_told notes b shown. still_shows (is_wanting old) was_told old new notes b refl f shown;
    before = λ was_told notes b shown. keeps_self b;
    keeps = λ was_told notes b shown. lost_keeps b;
    logs = logs;
  }

  -- these items came before it, to an end that was open
  step_ends : (items : List ConnectionItem) (old mid new : Connection S) → is_open old.core.state ≡ true → Step items old mid → Fails mid new → came new ≡ logged (came old) items → EndsWanting old new
  step_ends items old mid new up s f logs = record {
    items = items;
    wanting = ap is_wanting_in f.error;
    shows = λ was_told notes b shown.
        let calm = live_calm (is_drained old.core.state) (is_wanting old) (open_lives old.core.state up) shown.drained in
        let e = s.front was_told b (record { side = shown.side; addresses = shown.addresses; connected = shown.connected }) in
        let l = s.live notes b (shown.live calm) in
        ends_shows was_told mid new notes (brought items b) f e.side e.addresses e.connected
        (live_emptied mid.core.space.streams mid.control.datagrams (bounds_of mid.control) notes (brought items b) l.streams l.datagrams);
    before = before;
    keeps = λ was_told notes b shown. keeps_lost b (brought items b) (lost_book (brought items b)) (before was_told notes b shown) (lost_keeps (brought items b));
    logs = logs;
  }
    where
      before : (was_told : Bool) (notes : ℕ → Note) (b : Book) → ShowsConnection was_told old notes b → Keeps b (brought items b)
      before was_told notes b shown = s.keeps notes b (shown.live (open_calm was_told old notes b up shown))

  -- ---- by what it was that failed

  failed : (mid new : Connection S) → HasFailed mid new → Fails mid new
  failed mid new f = record {
    side = ap (λ (z : Inner S). z.side) f.core.rest_is;
    addresses = ap (λ (z : Inner S). z.addresses) f.core.rest_is;
    due = ap (λ (z : Connection S). z.is_connected_due) f.rest_is;
    bounds = ap (λ (z : Connection S). bounds_of z.control) f.rest_is;
    state = ap (λ (z : Inner S). z.state) f.core.rest_is;
    error = ap (λ (z : Inner S). z.error) f.core.rest_is;
  }

  -- it is the same end, with the same bounds, as this one
  pub record IsLike (old mid : Connection S) : Type 0 where
    pub side : mid.core.side ≡ old.core.side
    pub addresses : mid.core.addresses ≡ old.core.addresses
    pub due : mid.is_connected_due ≡ old.is_connected_due
    pub bounds : bounds_of mid.control ≡ bounds_of old.control
    pub log : mid.control.log ≡ old.control.log

  like_fails : (old mid new : Connection S) → IsLike old mid → Fails mid new → Fails old new
  like_fails old mid new l f = record { side = f.side ∙ l.side; addresses = f.addresses ∙ l.addresses; due = f.due ∙ l.due; bounds = f.bounds ∙ l.bounds; state = f.state; error = f.error }

  self_like : (c : Connection S) → IsLike c c
  self_like c = record { side = refl; addresses = refl; due = refl; bounds = refl; log = refl }

  like_by : (old mid to : Connection S) → mid ≡ to → IsLike old to → IsLike old mid
  like_by old mid to is l = subst (λ (z : Connection S). IsLike old z) (sym is) l

  like_ends : (old mid new : Connection S) → IsWhole old → IsWhole new → IsLike old mid → HasFailed mid new → EndsWanting old new
  like_ends old mid new was is l f =
      still_ends old new (like_fails old mid new l (failed mid new f))
      (failed_log old mid new [] was is (ap (λ (z : Connection S). z.control.log) f.rest_is) (l.log ∙ sym (logged_none old.control.log)))

  log_ends : (items : List ConnectionItem) (old at mid new : Connection S) → is_open old.core.state ≡ true → IsWhole old → IsWhole new → Step items old at → (is_some at.control.log ≡ true → streamed at.core.space.log ≡ []) → IsLike at mid → HasFailed mid new
      → EndsWanting old new
  log_ends items old at mid new up was is s moved l f =
      step_ends items old at new up s (like_fails at mid new l (failed mid new f))
      (failed_log old mid new items was is (ap (λ (z : Connection S). z.control.log) f.rest_is)
      (l.log ∙ (sym (moved_all at.control.log (streamed at.core.space.log) moved) ∙ (s.logs ∙ ap (λ (z : Log). logged z items) (came_current old was.current)))))
    where
      moved_all : (log : Log) (xs : List ConnectionItem) → (is_some log ≡ true → xs ≡ []) → logged log xs ≡ log
      moved_all None xs none = refl
      moved_all (Some all) xs none = ap (λ (z : List ConnectionItem). logged (Some all) z) (none refl) ∙ logged_none (Some all)

  module _ (laws : BookLaws) where
    pub timed_ends : (now : ℕ) (old mid new : Connection S) → IsWhole old → IsWhole new → IsTimeCut now old mid → HasFailed mid new → EndsWanting old new
    timed_ends now old mid new was is t f =
        let k = timed_quiet_core laws now old.core mid.core t.core in
        like_ends old mid new was is (like_by old mid _ t.rest_is (record { side = k.side; addresses = k.addresses; due = refl; bounds = refl; log = refl })) f

    data_like : (old mid : Connection S) → IsDataUnsent old mid → IsLike old mid
    data_like old mid d = like_by old mid _ d.rest_is (core_like d.core)
      where
        core_like : (mid.core ≡ old.core) ⊎ IsFailedBy old.core mid.core → IsLike old (record old { core = mid.core; control = record old.control { queue = mid.control.queue } })
        core_like (inl same) = record { side = ap (λ (z : Inner S). z.side) same; addresses = ap (λ (z : Inner S). z.addresses) same; due = refl; bounds = refl; log = refl }
        core_like (inr f) = record { side = ap (λ (z : Inner S). z.side) f.rest_is; addresses = ap (λ (z : Inner S). z.addresses) f.rest_is; due = refl; bounds = refl; log = refl }

    pub unsent_ends : (now : Moment) (old mid new : Connection S) → IsWhole old → IsWhole new → IsUnsent now old mid → HasFailed mid new → EndsWanting old new
    unsent_ends now old mid new was is (IsUnsent.initial early up unsent e) f = like_ends old mid new was is (like_by old mid _ e (record { side = refl; addresses = refl; due = refl; bounds = refl; log = refl })) f
    unsent_ends now old mid new was is (IsUnsent.close early shut unsent e) f = like_ends old mid new was is (like_by old mid _ e (record { side = refl; addresses = refl; due = refl; bounds = refl; log = refl })) f
    unsent_ends now old mid new was is (IsUnsent.data_packet connected carried) f = like_ends old mid new was is (data_like old mid carried) f

    -- ---- a datagram

    open_ends : (old at mid new : Connection S) → is_open old.core.state ≡ true → IsWhole old → IsWhole new → (s : SomeStep old at) → (is_some at.control.log ≡ true → streamed at.core.space.log ≡ []) → IsLike at mid → HasFailed mid new → EndsWanting old new
    open_ends old at mid new up was is s moved l f = log_ends s.0 old at mid new up was is s.1 moved l f

    -- the frames of a packet that was accepted, up to one for which memory is wanting
    read_step : (accepts : AcceptsTag) (now : Moment) (rest : List ℕ) (at : Connection S) (control : ControlState) (core : Inner S) (frames : List ℕ) (read : List Frame) → BringsPacket accepts now rest frames (counted_in (length rest) at.core) core
        → is_some at.handshake.peer ≡ true → IsLogging at → (end : Option StreamFault) → AreControlsTaken now read (connected_if now (record at { core = core })).control control end
        → SomeStep at (record (connected_if now (record at { core = core })) { control = control })
    read_step accepts now rest at control core frames read b greeted logging end controls =
        let p = packet_step laws now b.number frames (counted_in (length rest) at.core) core b.taken in
        let on : Connection S = record at { core = core } in
        let mid = connected_if now on in
        let c = controls_step laws now read mid.control control end controls in
        some_both at on (record mid { control = control }) (core_accepted laws at _ core p b.opened greeted logging)
        (some_both on mid (record mid { control = control }) (accepted_step laws now on greeted)
        (c.0, control_step laws c.0 mid control c.1 (accepted_peer laws now on greeted) (accepted_moved laws now on greeted)))

    control_on : (now : Moment) (c : Connection S) (control : ControlState) (read : List Frame) (end : Option StreamFault) → AreControlsTaken now read (connected_if now c).control control end → is_some control.log ≡ true
        → is_some (connected_if now c).control.log ≡ true
    control_on now c control read end controls on =
        let s = controls_step laws now read (connected_if now c).control control end controls in
        sym (logged_on (connected_if now c).control.log s.0) ∙ (ap (λ (z : Log). is_some z) (sym s.1.log) ∙ on)

    -- behind the peer's hello
    rest_ends : (accepts : AcceptsTag) (now : Moment) (rest : List ℕ) (old at mid new : Connection S) → is_open old.core.state ≡ true → IsWhole old → IsWhole new → SomeStep old at
        → (is_some at.control.log ≡ true → streamed at.core.space.log ≡ []) → IsLogging at → is_some at.handshake.peer ≡ true → IsRestUnread accepts now rest at mid → HasFailed mid new → EndsWanting old new
    rest_ends accepts now rest old at mid new up was is s moved logging greeted (IsRestUnread.unlogged on e) f = open_ends old at mid new up was is s moved (like_by at mid at e (self_like at)) f
    rest_ends accepts now rest old at mid new up was is s moved logging greeted (IsRestUnread.packet unread lost e) f =
        open_ends old at mid new up was is s moved
        (like_by at mid _ e (record { side = ap (λ (z : Inner S). z.side) lost.rest_is; addresses = ap (λ (z : Inner S). z.addresses) lost.rest_is; due = refl; bounds = refl; log = refl })) f
    rest_ends accepts now rest old at mid new up was is s moved logging greeted (IsRestUnread.unasked core frames b opened early asks e) f =
        let p = packet_step laws now b.number frames (counted_in (length rest) at.core) core b.taken in
        open_ends old at mid new up was is s moved (like_by at mid _ e (record { side = p.1.side; addresses = p.1.addresses; due = refl; bounds = refl; log = refl })) f
    rest_ends accepts now rest old at mid new up was is s moved logging greeted (IsRestUnread.frame core frames read b begins count opened controls e) f =
        let next = read_step accepts now rest at mid.control core frames read b greeted logging _ controls in
        let to : Connection S = record (connected_if now (record at { core = core })) { control = mid.control } in
        open_ends old to mid new up was is (some_both old at to s next)
        (λ on. accepted_moved laws now (record at { core = core }) greeted (control_on now (record at { core = core }) mid.control read _ controls on)) (like_by to mid to e (self_like to)) f
    rest_ends accepts now rest old at mid new up was is s moved logging greeted (IsRestUnread.lost core frames read b begins count opened controls e) f =
        let next = read_step accepts now rest at mid.control core frames read b greeted logging _ controls in
        let to : Connection S = record (connected_if now (record at { core = core })) { control = mid.control } in
        open_ends old to mid new up was is (some_both old at to s next)
        (λ on. accepted_moved laws now (record at { core = core }) greeted (control_on now (record at { core = core }) mid.control read _ controls on))
        (like_by to mid _ e (record { side = refl; addresses = refl; due = refl; bounds = refl; log = refl })) f

    -- the peer's hello was read, and memory is wanting for what becomes of it
    greeting_ends : (now : Moment) (p : TransportParameters) (old at mid new : Connection S) → is_open old.core.state ≡ true → IsWhole old → IsWhole new → Step [] old (unmet at) → IsLike old at → at.handshake.peer ≡ Some p → streamed at.core.space.log ≡ []
        → IsGreetingCut now p at mid → HasFailed mid new → EndsWanting old new
    greeting_ends now p old at mid new up was is s l met none (IsGreetingCut.untold either e) f = like_ends old mid new was is (like_by old mid at e l) f
    greeting_ends now p old at mid new up was is s l met none (IsGreetingCut.unlogged on begun e) f =
        let most = datagram_of p.max_datagram_frame_size in
        let item : ConnectionItem = entry.MaxDatagramSize most in
        let g = failed mid new f in
        record {
          items = item ∷ [];
          wanting = ap is_wanting_in g.error;
          shows = λ was_told notes b shown.
              let calm = live_calm (is_drained old.core.state) (is_wanting old) (open_lives old.core.state up) shown.drained in
              let front = s.front was_told b (record { side = shown.side; addresses = shown.addresses; connected = shown.connected }) in
              let live = s.live notes b (shown.live calm) in
              let to : Connection S = record at { control = mid.control } in
              ends_shows was_told to new notes (brought (item ∷ []) b)
              (like_fails to mid new (like_by to mid _ e (record { side = ap (λ (z : Inner S). z.side) begun.rest_is; addresses = ap (λ (z : Inner S). z.addresses) begun.rest_is; due = refl; bounds = ap (λ (z : Connection S). bounds_of z.control) (sym e); log = ap (λ (z : Connection S). z.control.log) (sym e) })) g)
              front.side front.addresses front.connected
              (live_emptied at.core.space.streams at.control.datagrams (bounds_of mid.control) notes (brought (item ∷ []) b) (laws.streams at.core.space.streams notes b _ (laws.bounds most b) live.streams)
              (subst (λ (z : DatagramBounds). ShowsDatagrams at.control.datagrams z (brought (item ∷ []) b)) (ap (λ (z : Connection S). bounds_of z.control) (sym e)) (laws.bounded at.control.datagrams (bounds_of at.control) b most live.datagrams)));
          before = λ was_told notes b shown. bounded_keeps most b;
          keeps = λ was_told notes b shown. keeps_lost b (brought (item ∷ []) b) (lost_book (brought (item ∷ []) b)) (bounded_keeps most b) (lost_keeps (brought (item ∷ []) b));
          logs = failed_log old mid new (item ∷ []) was is (ap (λ (z : Connection S). z.control.log) f.rest_is) (ap (λ (z : Connection S). z.control.log) e ∙ ap (λ (z : Log). logged z (item ∷ [])) l.log);
        }
    greeting_ends now p old at mid new up was is s l met none (IsGreetingCut.incomplete core client begun cut) f =
        let items : List ConnectionItem = entry.MaxDatagramSize (datagram_of p.max_datagram_frame_size) ∷ first_limits (peer_limits p) in
        let to = with_core at core p in
        log_ends items old to mid new up was is (step_both [] items old (unmet at) to s (begun_step laws at core p met none begun)) (λ on. begun_moved at core p begun) (like_by to mid to (cut_is now to mid cut) (self_like to)) f
      where
        cut_is : (now : Moment) (old new : Connection S) → IsCompletionCut now old new → new ≡ old
        cut_is now old new (IsCompletionCut.unasked up asks is) = is
        cut_is now old new (IsCompletionCut.unlogged on is) = is

    datagram_ends : (v : SessionView S) (now : Moment) (d : List ℕ) (old mid new : Connection S) → IsWhole old → IsWhole new → is_open old.core.state ≡ true → IsLogging old → IsUnread v now d (counted_at (length d) old) mid → HasFailed mid new → EndsWanting old new
    datagram_ends v now d old mid new was is up logging (IsUnread.initials learned lost learns e) f = like_ends old mid new was is (like_by old mid _ e (record { side = refl; addresses = refl; due = refl; bounds = refl; log = refl })) f
    datagram_ends v now d old mid new was is up logging (IsUnread.greeting fed restarted rest p fed_by r unmet_yet met cut) f =
        let at = counted_at (length d) old in
        let i = restarted_is laws now at.handshake at fed restarted fed_by.handshake fed_by.session fed_by.new_is r in
        let unread = not_known old.handshake.peer unmet_yet in
        let q = taken_unmet laws at restarted fed_by.handshake fed_by.session i.0 i.1 unread in
        greeting_ends now p old restarted mid new up was is
        (step_both [] [] old at (unmet restarted) (counted_step laws (length d) old) (quiet_step laws at (unmet restarted) q (ap (λ (z : Connection S). z.is_connected_due) i.1)))
        (like_by old restarted _ i.1 (record { side = refl; addresses = refl; due = refl; bounds = refl; log = refl })) met
        (ap (λ (z : Connection S). streamed z.core.space.log) i.1 ∙ was.current (inr unread)) cut f
    datagram_ends v now d old mid new was is up logging (IsUnread.behind fed restarted met rest fed_by r m greeted some unread) f =
        let at = counted_at (length d) old in
        let first = met_step laws v now d rest at fed restarted met (λ none. was.current (inr none)) fed_by r m in
        let moved = met_moved now at.handshake (is_some at.handshake.peer) at fed restarted met fed_by.handshake fed_by.session fed_by.new_is r m (λ on. was.current (inl on)) in
        rest_ends _ now rest old met mid new up was is (some_both old at met ([], counted_step laws (length d) old) first) moved (first.1.logging logging) greeted unread f

    pub event_ends : (v : SessionView S) (e : ConnectionEvent) (old mid new : Connection S) → IsWhole old → IsWhole new → is_open old.core.state ≡ true → IsLogging old → IsEventUnread v e old mid → HasFailed mid new → EndsWanting old new
    event_ends v (incoming.Datagram now remote payload) old mid new was is up logging unread f = datagram_ends v now payload old mid new was is up logging unread f
    event_ends v (incoming.NewIdentifiers ids now) old mid new was is up logging cut f =
        let q = all_issued_quiet old.control (take cut.count ids.items) in
        like_ends old mid new was is (like_by old mid _ cut.rest_is (record { side = refl; addresses = refl; due = refl; bounds = q.bounds; log = q.log })) f
    event_ends v (incoming.Close now code reason) old mid new was is up logging unread f = absurd unread
    event_ends v incoming.Rebind old mid new was is up logging unread f = absurd unread
