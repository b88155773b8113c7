-- Steps of a connection: these items lead from each book that shows it to one that shows it afterwards.
use Rattle.std.proofs.Common.{◌≡◌, ℕ, Bool, true, false, ◌||◌, if◌then◌else◌, List, [], ◌∷◌, ◌++◌, map, Option, None, Some, is_some, refl, sym, ap, subst, ◌∙◌}
use Rattle.std.proofs.lemmas.Bool.{both_ways}
use Rattle.qh_base.specs.declared.path.FourTuple.{FourTuple}
use Rattle.qh_base.specs.declared.time.Moment.{Moment}
use Rattle.qh_book.specs.Book.{Book, first_book}
use Rattle.qh_book.specs.Items.{bring, bring_all, item_of as stream_item}
use Rattle.qh_book.specs.Shown.{AreFirst, DatagramBounds, Note, ShowsDatagrams, ShowsRecv, ShowsSend, ShowsStreams, no_note}
use Rattle.qh_book.specs.declared.item.Item.TheVariants as item
use Rattle.qh_conn.proofs.LogKept.{Log, logged_both, logged_none, logged_on}
use Rattle.qh_conn.specs.Greeting.{connected, ids_asked, or_set}
use Rattle.qh_conn.specs.Incoming.{connected_if}
use Rattle.qh_conn.specs.Items.{came, noted, streams_taken}
use Rattle.qh_conn.specs.declared.connection.Connection.{Connection}
use Rattle.qh_conn.specs.declared.connection.EarlyLimits.{EarlyLimits}
use Rattle.qh_control.specs.Items.{logged, streamed}
use Rattle.qh_control.specs.declared.control.ControlState.{ControlState}
use Rattle.qh_control.specs.declared.items.ConnectionItem.{ConnectionItem}
use Rattle.qh_control.specs.declared.items.ConnectionItem.TheVariants as entry
use Rattle.qh_core.specs.Event.{is_drained}
use Rattle.qh_core.specs.Inner.{is_open}
use Rattle.qh_core.specs.declared.config.ConnConfig.{ConnConfig as CoreConfig}
use Rattle.qh_core.specs.declared.inner.Inner.{Inner}
use Rattle.qh_datagrams.specs.Datagrams.{PlainDatagrams}
use Rattle.qh_half.specs.Recv.{PlainRecv}
use Rattle.qh_half.specs.Send.{PlainSend}
use Rattle.qh_halves.specs.RecvHalves.{recv_at}
use Rattle.qh_halves.specs.SendHalves.{send_at}
use Rattle.qh_hello.specs.declared.transport_parameters.TransportParameters.{TransportParameters}
use Rattle.qh_shown.proofs.Books.{brought_both, brought_streams, came_moved, came_with, of_streams, or_true, some_map, streams_end, with_on}
use Rattle.qh_shown.proofs.CoreSteps.{CoreQuiet, CoreStep, live_calm, open_lives}
use Rattle.qh_shown.proofs.Keeping.{connected_keeps, keeps_both, keeps_self}
use Rattle.qh_shown.proofs.SpaceSteps.{logged_none as streams_none}
use Rattle.qh_shown.specs.Brings.{Brings, BringsSome, IsLogging}
use Rattle.qh_shown.specs.Connections.{IsEmptied, IsUngreeted, ShowsConnection, ShowsLive, bounds_of, is_wanting, is_wanting_in}
use Rattle.qh_shown.specs.Items.{brought}
use Rattle.qh_shown.specs.Kept.{Keeps}
use Rattle.qh_shown.specs.Laws.{BookLaws, Leads}
use Rattle.qh_streams.specs.Streams.{PlainStreams}
use Rattle.qh_streams.specs.declared.items.Item.{Item}

-- ---- streams that aren't used yet

none_sent : (o : Option PlainSend) → ShowsSend o None → o ≡ None
none_sent None shown = refl
none_sent (Some h) shown = absurd shown

none_read : (o : Option PlainRecv) → ShowsRecv no_note o None → o ≡ None
none_read None shown = refl
none_read (Some h) shown = absurd shown

-- of which nothing came and nothing is shown, are so still
first_still : BookLaws → FourTuple → (s t : PlainStreams) → AreFirst s → Leads [] s t → AreFirst t × (t.side ≡ s.side) × (t.send.send_window ≡ s.send.send_window)
first_still laws addresses s t f leads =
    let shown = leads.to (λ k. no_note) (first_book s.side addresses 0 s.send.send_window None 0) (laws.first s addresses 0 None 0 f) in (
      record {
        sends = λ k. none_sent (send_at t.send k) (shown.sends k);
        recvs = λ k. none_read (recv_at t.recv k) (shown.recvs k);
        bi = shown.bi;
        uni = shown.uni;
        first_bi = shown.first_bi;
        first_uni = shown.first_uni;
        credit_to = shown.credit_to;
        taken = shown.taken;
        unconfirmed = shown.unconfirmed;
      },
      sym shown.side,
      sym shown.send_window,
    )

pub no_longer : {A : Type 0} (o : Option A) (P : Type 0) → is_some o ≡ true → o ≡ None → P
no_longer None P some none = absurd (both_ways false refl some)
no_longer (Some x) P some none = let z : true ≡ false = ap is_some none in cc

-- what stays by items stays by those behind them
brought_keeps : (xs ys : List ConnectionItem) (b : Book) → Keeps b (brought xs b) → Keeps (brought xs b) (brought ys (brought xs b)) → Keeps b (brought (xs ++ ys) b)
brought_keeps xs ys b p q = subst (λ (z : Book). Keeps b z) (sym (brought_both xs ys b)) (keeps_both b (brought xs b) (brought ys (brought xs b)) p q)

record AsksAlone (old new : ControlState) : Type 0 where
  datagrams : new.datagrams ≡ old.datagrams
  bounds : bounds_of new ≡ bounds_of old

asked_alone : (now : Moment) (up : Bool) (s : ControlState) (log : Log) → AsksAlone s (record (if up then ids_asked now s else s) { log = log })
asked_alone now true s log = record { datagrams = refl; bounds = refl }
asked_alone now false s log = record { datagrams = refl; bounds = refl }

module _ {S : Type 0} where
  -- ---- what a book shows of a connection that goes on

  pub record ShowsEnd (was_told : Bool) (c : Connection S) (b : Book) : Type 0 where
    pub side : b.side ≡ c.core.side
    pub addresses : b.addresses ≡ c.core.addresses
    pub connected : b.is_connected ≡ (was_told || c.is_connected_due)

  pub record Step (items : List ConnectionItem) (old new : Connection S) : Type 0 where
    pub front : (was_told : Bool) (b : Book) → ShowsEnd was_told old b → ShowsEnd was_told new (brought items b)
    pub wanting : is_wanting old ≡ false → is_wanting new ≡ false
    pub live : (notes : ℕ → Note) (b : Book) → ShowsLive old notes b → ShowsLive new notes (brought items b)
    pub keeps : (notes : ℕ → Note) (b : Book) → ShowsLive old notes b → Keeps b (brought items b)
    pub logs : came new ≡ logged (came old) items
    pub logging : IsLogging old → IsLogging new

  abbrev pub SomeStep : (old new : Connection S) → Type 0
  SomeStep old new = (items : List ConnectionItem) × Step items old new

  pub step_by : (items : List ConnectionItem) (old new to : Connection S) → new ≡ to → Step items old to → Step items old new
  step_by items old new to is s = subst (λ (z : Connection S). Step items old z) (sym is) s

  pub some_by : (old new to : Connection S) → new ≡ to → SomeStep old to → SomeStep old new
  some_by old new to is s = (s.0, step_by s.0 old new to is s.1)

  pub step_both : (xs ys : List ConnectionItem) (old mid new : Connection S) → Step xs old mid → Step ys mid new → Step (xs ++ ys) old new
  step_both xs ys old mid new p q = record {
    front = λ was_told b shown. subst (λ (z : Book). ShowsEnd was_told new z) (sym (brought_both xs ys b)) (q.front was_told (brought xs b) (p.front was_told b shown));
    wanting = λ calm. q.wanting (p.wanting calm);
    live = λ notes b shown. subst (λ (z : Book). ShowsLive new notes z) (sym (brought_both xs ys b)) (q.live notes (brought xs b) (p.live notes b shown));
    keeps = λ notes b shown. brought_keeps xs ys b (p.keeps notes b shown) (q.keeps notes (brought xs b) (p.live notes b shown));
    logs = q.logs ∙ ap (λ (z : Log). logged z ys) p.logs ∙ logged_both (came old) xs ys;
    logging = λ on. q.logging (p.logging on);
  }

  pub some_both : (old mid new : Connection S) → SomeStep old mid → SomeStep mid new → SomeStep old new
  some_both old mid new p q = (p.0 ++ q.0, step_both p.0 q.0 old mid new p.1 q.1)

  -- want of memory didn't end it
  live_shows : (was_told : Bool) (c : Connection S) (notes : ℕ → Note) (b : Book) → is_wanting c ≡ false → ShowsEnd was_told c b → ShowsLive c notes b → ShowsConnection was_told c notes b
  live_shows was_told c notes b calm front live = record {
    side = front.side;
    addresses = front.addresses;
    connected = front.connected;
    drained = λ wanting. let z : false ≡ true = sym calm ∙ wanting in cc;
    live = λ _. live;
    emptied = λ wanting. let z : false ≡ true = sym calm ∙ wanting in cc;
  }

  pub open_calm : (was_told : Bool) (c : Connection S) (notes : ℕ → Note) (b : Book) → is_open c.core.state ≡ true → ShowsConnection was_told c notes b → is_wanting c ≡ false
  open_calm was_told c notes b up shown = live_calm (is_drained c.core.state) (is_wanting c) (open_lives c.core.state up) shown.drained

  pub open_brings : (items : List ConnectionItem) (old new : Connection S) → is_open old.core.state ≡ true → Step items old new → Brings items old new
  open_brings items old new up s = record {
    shows = λ was_told notes b shown.
        let calm = open_calm was_told old notes b up shown in
        live_shows was_told new notes (brought items b) (s.wanting calm) (s.front was_told b (record { side = shown.side; addresses = shown.addresses; connected = shown.connected })) (s.live notes b (shown.live calm));
    keeps = λ was_told notes b shown. s.keeps notes b (shown.live (open_calm was_told old notes b up shown));
    logs = s.logs;
    logging = s.logging;
  }

  pub open_some : (old new : Connection S) → is_open old.core.state ≡ true → SomeStep old new → BringsSome old new
  open_some old new up s = record { items = s.0; brings = open_brings s.0 old new up s.1 }

  pub brings_both : (xs ys : List ConnectionItem) (old mid new : Connection S) → Brings xs old mid → Brings ys mid new → Brings (xs ++ ys) old new
  brings_both xs ys old mid new p q = record {
    shows = λ was_told notes b shown. subst (λ (z : Book). ShowsConnection was_told new notes z) (sym (brought_both xs ys b)) (q.shows was_told notes (brought xs b) (p.shows was_told notes b shown));
    keeps = λ was_told notes b shown. brought_keeps xs ys b (p.keeps was_told notes b shown) (q.keeps was_told notes (brought xs b) (p.shows was_told notes b shown));
    logs = q.logs ∙ ap (λ (z : Log). logged z ys) p.logs ∙ logged_both (came old) xs ys;
    logging = λ on. q.logging (p.logging on);
  }

  pub some_brings : (old mid new : Connection S) → BringsSome old mid → BringsSome mid new → BringsSome old new
  some_brings old mid new p q = record { items = p.items ++ q.items; brings = brings_both p.items q.items old mid new p.brings q.brings }

  pub brings_by : (items : List ConnectionItem) (old new to : Connection S) → new ≡ to → Brings items old to → Brings items old new
  brings_by items old new to is s = subst (λ (z : Connection S). Brings items old z) (sym is) s

  -- ---- steps that bring nothing

  pub record Quiet (old new : Connection S) : Type 0 where
    pub core : CoreStep [] old.core new.core
    pub datagrams : new.control.datagrams ≡ old.control.datagrams
    pub bounds : bounds_of new.control ≡ bounds_of old.control
    pub unmet : new.handshake.peer ≡ None → old.handshake.peer ≡ None
    pub log : new.control.log ≡ old.control.log
    pub early : new.early ≡ old.early
    pub logging : IsLogging old → IsLogging new

  pub quiet_by : (old new to : Connection S) → new ≡ to → Quiet old to → Quiet old new
  quiet_by old new to is q = subst (λ (z : Connection S). Quiet old z) (sym is) q

  -- by what becomes of its parts
  pub by_parts : (old new : Connection S) → CoreStep [] old.core new.core → new.control.datagrams ≡ old.control.datagrams → bounds_of new.control ≡ bounds_of old.control → new.handshake.peer ≡ old.handshake.peer
      → new.control.log ≡ old.control.log → new.early ≡ old.early → Quiet old new
  by_parts old new core datagrams bounds peer log early = record {
    core = core;
    datagrams = datagrams;
    bounds = bounds;
    unmet = λ none. sym peer ∙ none;
    log = log;
    early = early;
    logging = λ logging up greeted on.
        ap (λ (z : Option (List Item)). is_some z) (core.log ∙ streams_none old.core.space.log)
        ∙ logging (core.opened up) (ap (λ (z : Option TransportParameters). is_some z) (sym peer) ∙ greeted) (ap (λ (z : Log). is_some z) (sym log) ∙ on);
  }

  -- the end of the 1-RTT packets alone goes on
  pub by_core : (c : Connection S) (core : Inner S) → CoreStep [] c.core core → Quiet c (record c { core = core })
  by_core c core s = by_parts c (record c { core = core }) s refl refl refl refl refl

  pub came_still : (old new : Connection S) → Quiet old new → came new ≡ came old
  came_still old new q =
      ap (λ (z : Log). logged z (streamed new.core.space.log)) q.log
      ∙ ap (λ (z : Option (List Item)). logged old.control.log (streamed z)) (q.core.log ∙ streams_none old.core.space.log)

  quiet_logs : (old new : Connection S) → Quiet old new → came new ≡ logged (came old) []
  quiet_logs old new q = came_still old new q ∙ sym (logged_none (came old))

  -- ---- the log of the streams

  -- the streams' log alone was taken, if it was
  pub record IsTaken (old new : Inner S) : Type 0 where
    pub side : new.side ≡ old.side
    pub addresses : new.addresses ≡ old.addresses
    pub state : new.state ≡ old.state
    pub error : new.error ≡ old.error
    pub config : new.config ≡ old.config
    pub streams : new.space.streams ≡ old.space.streams

  pub taken : (log : Log) (core : Inner S) → IsTaken core (streams_taken log core)
  taken None core = record { side = refl; addresses = refl; state = refl; error = refl; config = refl; streams = refl }
  taken (Some items) core = record { side = refl; addresses = refl; state = refl; error = refl; config = refl; streams = refl }

  pub came_taken : (log : Log) (core : Inner S) (more : List ConnectionItem) → logged (logged log (streamed core.space.log ++ more)) (streamed (streams_taken log core).space.log) ≡ logged (logged log (streamed core.space.log)) more
  came_taken None core more = refl
  came_taken (Some all) core more = came_moved (Some all) core.space.log more

  pub taken_on : (log : Log) (core : Inner S) → is_some (streams_taken log core).space.log ≡ is_some core.space.log
  taken_on None core = refl
  taken_on (Some items) core = some_map (λ (z : List Item). []) core.space.log

  module _ (laws : BookLaws) where
    ungreeted_still : (old new : Connection S) → Quiet old new → IsUngreeted old → IsUngreeted new
    ungreeted_still old new q u =
        let f = first_still laws old.core.addresses old.core.space.streams new.core.space.streams u.streams q.core.leads in
        record {
          streams = f.0;
          side = f.1 ∙ u.side ∙ sym q.core.side;
          window = f.2 ∙ u.window
              ∙ ap (λ (e : EarlyLimits). or_set e.send_window old.core.config.limits.send_window) (sym q.early) ∙ ap (λ (k : CoreConfig). or_set new.early.send_window k.limits.send_window) (sym q.core.config);
          log = q.core.log ∙ streams_none old.core.space.log ∙ u.log;
          most = ap (λ (l : DatagramBounds). l.most) q.bounds ∙ u.most;
        }

    quiet_live : (old new : Connection S) (notes : ℕ → Note) (b : Book) → Quiet old new → ShowsLive old notes b → ShowsLive new notes b
    quiet_live old new notes b q shown = record {
      streams = q.core.leads.to notes b shown.streams;
      datagrams = subst (λ (d : PlainDatagrams). ShowsDatagrams d (bounds_of new.control) b) (sym q.datagrams) (subst (λ (l : DatagramBounds). ShowsDatagrams old.control.datagrams l b) (sym q.bounds) shown.datagrams);
      kept = shown.kept;
      ungreeted = λ none. ungreeted_still old new q (shown.ungreeted (q.unmet none));
    }

    pub quiet_step : (old new : Connection S) → Quiet old new → new.is_connected_due ≡ old.is_connected_due → Step [] old new
    quiet_step old new q due = record {
      front = λ was_told b shown. record { side = shown.side ∙ sym q.core.side; addresses = shown.addresses ∙ sym q.core.addresses; connected = shown.connected ∙ ap (λ (z : Bool). was_told || z) (sym due) };
      wanting = q.core.wanting;
      live = λ notes b shown. quiet_live old new notes b q shown;
      keeps = λ notes b shown. keeps_self b;
      logs = quiet_logs old new q;
      logging = q.logging;
    }

    -- the same of a connection that want of memory may have ended
    pub quiet_shows : (was_told is_told : Bool) (old new : Connection S) (notes : ℕ → Note) (b : Book) → Quiet old new → CoreQuiet old.core new.core → (was_told || old.is_connected_due) ≡ (is_told || new.is_connected_due)
        → ShowsConnection was_told old notes b → ShowsConnection is_told new notes b
    quiet_shows was_told is_told old new notes b q k due shown =
        let same : is_wanting new ≡ is_wanting old = k.wanting shown.drained in
        record {
          side = shown.side ∙ sym q.core.side;
          addresses = shown.addresses ∙ sym q.core.addresses;
          connected = shown.connected ∙ due;
          drained = λ wanting. k.drained (shown.drained (sym same ∙ wanting));
          live = λ calm. quiet_live old new notes b q (shown.live (sym same ∙ calm));
          emptied = λ wanting. subst (λ (l : DatagramBounds). IsEmptied l notes b) (sym q.bounds) (shown.emptied (sym same ∙ wanting));
        }

    pub quiet_brings : (old new : Connection S) → Quiet old new → CoreQuiet old.core new.core → new.is_connected_due ≡ old.is_connected_due → Brings [] old new
    quiet_brings old new q k due = record {
      shows = λ was_told notes b shown. quiet_shows was_told was_told old new notes b q k (ap (λ (z : Bool). was_told || z) (sym due)) shown;
      keeps = λ was_told notes b shown. keeps_self b;
      logs = quiet_logs old new q;
      logging = q.logging;
    }

    -- ---- items of streams

    -- frames of streams came to an end that was greeted
    pub streams_step : (items : List Item) (c : Connection S) (core : Inner S) → CoreStep items c.core core → is_some c.handshake.peer ≡ true → (is_some c.control.log ≡ true → is_some c.core.space.log ≡ true)
        → Step (of_streams items) c (record c { core = core })
    streams_step items c core s greeted on = record {
      front = λ was_told b shown.
          let e = streams_end laws items b in
          record { side = e.side ∙ shown.side ∙ sym s.side; addresses = e.addresses ∙ shown.addresses ∙ sym s.addresses; connected = e.is_connected ∙ shown.connected };
      wanting = s.wanting;
      live = λ notes b shown. record {
        streams = subst (λ (z : Book). ShowsStreams core.space.streams notes z) (sym (brought_streams items b)) (s.leads.to notes b shown.streams);
        datagrams = subst (λ (z : Book). ShowsDatagrams c.control.datagrams (bounds_of c.control) z) (sym (brought_streams items b))
            (laws.datagrams c.control.datagrams (bounds_of c.control) b (bring_all (map stream_item items) b) (laws.changed b (bring_all (map stream_item items) b) (laws.items items b)) shown.datagrams);
        kept = (streams_end laws items b).is_emptied ∙ shown.kept;
        ungreeted = λ none. no_longer c.handshake.peer (IsUngreeted (record c { core = core })) greeted none;
      };
      keeps = λ notes b shown. subst (λ (z : Book). Keeps b z) (sym (brought_streams items b)) (s.leads.keeps notes b shown.streams);
      logs = ap (λ (z : Option (List Item)). logged c.control.log (streamed z)) s.log ∙ came_with c.control.log c.core.space.log items on;
      logging = λ logging up met logs. ap (λ (z : Option (List Item)). is_some z) s.log ∙ with_on c.core.space.log items ∙ on logs;
    }

    -- ---- the handshake is complete

    pub connected_step : (now : Moment) (c : Connection S) → is_some c.handshake.peer ≡ true → Step (entry.Connected ∷ []) c (connected now c)
    connected_step now c greeted =
        let t = taken c.control.log c.core in
        let a = asked_alone now (is_open c.core.state) c.control (connected now c).control.log in
        record {
          front = λ was_told b shown. record { side = shown.side ∙ sym t.side; addresses = shown.addresses ∙ sym t.addresses; connected = or_true was_told };
          wanting = λ calm. ap is_wanting_in t.error ∙ calm;
          live = λ notes b shown.
              let same = laws.connects b in
              record {
                streams = subst (λ (s : PlainStreams). ShowsStreams s notes (bring item.Connected b)) (sym t.streams) (laws.streams c.core.space.streams notes b (bring item.Connected b) same.0 shown.streams);
                datagrams = subst (λ (d : PlainDatagrams). ShowsDatagrams d (bounds_of (connected now c).control) (bring item.Connected b)) (sym a.datagrams)
                    (subst (λ (l : DatagramBounds). ShowsDatagrams c.control.datagrams l (bring item.Connected b)) (sym a.bounds)
                    (laws.datagrams c.control.datagrams (bounds_of c.control) b (bring item.Connected b) same.1 shown.datagrams));
                kept = shown.kept;
                ungreeted = λ none. no_longer c.handshake.peer (IsUngreeted (connected now c)) greeted none;
              };
          keeps = λ notes b shown. connected_keeps b;
          logs = came_taken c.control.log c.core (entry.Connected ∷ []);
          logging = λ logging up met on. taken_on c.control.log c.core ∙ logging (ap is_open (sym t.state) ∙ up) met (sym (logged_on c.control.log (streamed c.core.space.log ++ entry.Connected ∷ [])) ∙ on);
        }

    -- what came to the streams is moved into the log
    pub noted_step : (c : Connection S) → is_some c.handshake.peer ≡ true → Step [] c (noted [] c)
    noted_step c greeted =
        let t = taken c.control.log c.core in
        record {
          front = λ was_told b shown. record { side = shown.side ∙ sym t.side; addresses = shown.addresses ∙ sym t.addresses; connected = shown.connected };
          wanting = λ calm. ap is_wanting_in t.error ∙ calm;
          live = λ notes b shown. record {
            streams = subst (λ (s : PlainStreams). ShowsStreams s notes b) (sym t.streams) shown.streams;
            datagrams = record { datagrams = shown.datagrams.datagrams; queued = shown.datagrams.queued; receive = shown.datagrams.receive; send = shown.datagrams.send; most = shown.datagrams.most };
            kept = shown.kept;
            ungreeted = λ none. no_longer c.handshake.peer (IsUngreeted (noted [] c)) greeted none;
          };
          keeps = λ notes b shown. keeps_self b;
          logs = came_taken c.control.log c.core [];
          logging = λ logging up met on. taken_on c.control.log c.core ∙ logging (ap is_open (sym t.state) ∙ up) met (sym (logged_on c.control.log (streamed c.core.space.log ++ [])) ∙ on);
        }

    either_step : (now : Moment) (c : Connection S) (b : Bool) → is_some c.handshake.peer ≡ true → SomeStep c (if b then noted [] c else connected now c)
    either_step now c true greeted = ([], noted_step c greeted)
    either_step now c false greeted = (entry.Connected ∷ [], connected_step now c greeted)

    pub accepted_step : (now : Moment) (c : Connection S) → is_some c.handshake.peer ≡ true → SomeStep c (connected_if now c)
    accepted_step now c greeted = either_step now c c.is_connected greeted
