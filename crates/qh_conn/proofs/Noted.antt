-- What came to the streams is moved into the log of a connection.
use Rattle.std.proofs.Common.{◌≡◌, ℕ, Result, Ok, Err, ◌||◌, ◌&&◌, not, Bool, true, false, if◌then◌else◌, List, [], ◌∷◌, ◌++◌, length, Option, None, Some, is_some, refl, sym, ap, subst, ◌∙◌, inl, inr}
use Rattle.std.proofs.lemmas.List.{append-nil}
use Rattle.std.specs.Prelude.{OnOk, OnErr}
use Rattle.std.specs.Option.{option_map}
use Rattle.qh_base.specs.declared.connection_error.ConnectionError.{ConnectionError}
use Rattle.qh_base.specs.declared.memory.Memory.{Memory as OutOfMemory}
use Rattle.qh_conn.proofs.CoreLog.{KeepsTold}
use Rattle.qh_conn.proofs.InHears.{connected_stands, self_made}
use Rattle.qh_conn.proofs.InSound.{sound_control, sound_core}
use Rattle.qh_conn.proofs.LogKept.{GoesOn, current_by, none_left, noted_current, quiet_goes, same_goes, self_flags, streamed_own, told_of, own_both, flags_by}
use Rattle.qh_base.specs.declared.time.Moment.{Moment}
use Rattle.qh_conn.specs.Greeting.{connected, ids_asked}
use Rattle.qh_conn.specs.Incoming.{connected_if}
use Rattle.qh_conn.specs.Items.{IsLogCurrent, given_back, is_connected_since, is_loss_logged, items_taken as all_taken, own_items, loss, loss_noted, noted, noted_in, streams_taken, untaken}
use Rattle.qh_conn.specs.Whole.{IsSound, IsWhole, Stands}
use Rattle.qh_conn.specs.declared.connection.Connection.{Connection}
use Rattle.qh_control.specs.Control.{IsSendable}
use Rattle.qh_control.specs.Items.{logged, streamed}
use Rattle.qh_control.specs.declared.control.ControlState.{ControlState}
use Rattle.qh_control.specs.declared.items.ConnectionItem.{ConnectionItem}
use Rattle.qh_control.specs.declared.items.ConnectionItem.TheVariants as item
use Rattle.qh_converse.proofs.MidDatagram.{stays}
use Rattle.qh_converse.specs.Converses.{Converses}
use Rattle.qh_core.proofs.MadeEnds.{turned_made}
use Rattle.qh_core.specs.Follows.{Follows}
use Rattle.qh_core.specs.Inner.{IsFailedBy, IsSameEnd, is_open, with_space}
use Rattle.qh_core.specs.Made.{AcceptsTags, IsMadeLocally, MakesTagsOf}
use Rattle.qh_core.specs.Made.IsTurned.{items_taken, log_started}
use Rattle.qh_core.specs.declared.inner.Inner.{Inner}
use Rattle.qh_handshake.specs.Handshake.{IsHandshake, dropping}
use Rattle.qh_handshake.specs.declared.handshake.Handshake.{Handshake}
use Rattle.qh_space.specs.Space.{AreUnused}
use Rattle.qh_spec.specs.Greeted.{HasPacketOf}
use Rattle.qh_spec.specs.Link.{other}
use Rattle.qh_spec.specs.Transcript.{Act, handed_in}
use Rattle.qh_spec.specs.declared.sides.Side.{Side}
use Rattle.qh_spec.specs.declared.sides.Space.TheVariants.{Data}
use Rattle.qh_streams.specs.Items.{first_items}
use Rattle.qh_streams.specs.Streams.{counts_of}

-- ---- logs

-- that the connection is lost is told once
told_once : (b : Bool) (e : Option ConnectionError) → loss (b || is_some e) e ≡ []
told_once true e = refl
told_once false None = refl
told_once false (Some e) = refl

-- what is taken is gone
abbrev pub none_of : List ConnectionItem → List ConnectionItem
none_of items = []

pub taken_log : (log : Option (List ConnectionItem)) (more : List ConnectionItem) → option_map none_of (logged log more) ≡ option_map none_of log
taken_log None more = refl
taken_log (Some items) more = refl

-- what holds where it answers for want of memory
pub on_err : {X E : Type 0} (P Q : Type 0) → (P → Q) → (r : Result X E) → OnErr r P → OnErr r Q
on_err P Q f (Ok x) is = is
on_err P Q f (Err e) is = f is

pub any_err : {X E : Type 0} (P : Type 0) (r : Result X E) → P → OnErr r P
any_err P (Ok x) p = tt
any_err P (Err e) p = p

-- a log for which memory lacked is on
abbrev pub IsCompleted : (old new : Handshake) → Type 0
IsCompleted old new = new ≡ record (dropping old) { is_validated = true }

pub log_sendable : (side : Side) (peer : Option ℕ) (s : ControlState) (log : Option (List ConnectionItem)) → IsSendable side peer s → IsSendable side peer (record s { log = log })
log_sendable side peer s log is = record { frames = is.frames; peer = is.peer; bounded = is.bounded; payloads = is.payloads }

asked_as : (now : Moment) (b : Bool) (s : ControlState) → (if b then ids_asked now s else s) ≡ record s { endpoint_events = (if b then ids_asked now s else s).endpoint_events }
asked_as now true s = refl
asked_as now false s = refl

asked_back : (now : Moment) (b : Bool) (s : ControlState) (log more : Option (List ConnectionItem)) → record (if b then ids_asked now s else s) { log = more } ≡ record (if b then ids_asked now (record s { log = log }) else record s { log = log }) { log = more }
asked_back now true s log more = refl
asked_back now false s log more = refl

module _ {S : Type 0} where
  pub taken_session : (log : Option (List ConnectionItem)) (core : Inner S) → (streams_taken log core).session ≡ core.session
  taken_session None core = refl
  taken_session (Some items) core = refl

  pub taken_state : (log : Option (List ConnectionItem)) (core : Inner S) → (streams_taken log core).state ≡ core.state
  taken_state None core = refl
  taken_state (Some items) core = refl

  still_told : (log : Option (List ConnectionItem)) (core : Inner S) (b : Bool)
      → logged (logged log (streamed core.space.log ++ loss b core.error)) (streamed (streams_taken log core).space.log ++ loss (b || (is_some log && is_some core.error)) (streams_taken log core).error)
      ≡ logged log (streamed core.space.log ++ loss b core.error)
  still_told None core b = refl
  still_told (Some items) core b =
      let all = items ++ (streamed core.space.log ++ loss b core.error) in
      ap (λ (z : List ConnectionItem). Some (all ++ (z ++ loss (b || is_some core.error) core.error))) (none_left core.space.log)
      ∙ ap (λ (z : List ConnectionItem). Some (all ++ z)) (told_once b core.error) ∙ ap (λ (z : List ConnectionItem). Some z) (append-nil all)

  -- what wasn't taken is the same once the loss is logged
  pub untaken_noted : (c : Connection S) → untaken (loss_noted c) ≡ untaken c
  untaken_noted c = still_told c.control.log c.core c.is_lost_logged

  -- ---- what holds at every moment

  pub sound_log : (c : Connection S) (log : Option (List ConnectionItem)) → IsSound c → IsSound (record c { control = record c.control { log = log } })
  sound_log c log s = sound_control c (record c.control { log = log }) s (λ peer is. record { frames = is.frames; peer = is.peer; bounded = is.bounded; payloads = is.payloads }) refl

  pub sound_on : (c : Connection S) (core : Inner S) → IsSound c → IsSameEnd c.core core → core.state ≡ c.core.state → IsSound (record c { core = core })
  sound_on c core s same state = sound_core c core s same (λ up. ap is_open (sym state) ∙ up)

  -- with another log, that is off or was on before
  pub whole_log : (c : Connection S) (log : Option (List ConnectionItem)) → IsWhole c → (is_some log ≡ true → is_some c.control.log ≡ true) → IsWhole (record c { control = record c.control { log = log } })
  whole_log c log w on = record {
    sound = sound_log c log w.sound;
    current = current_by c (record c { control = record c.control { log = log } }) on refl refl w.current;
    client = w.client;
  }

  -- what came to the streams is moved into it
  pub noted_whole : (c : Connection S) (log : Option (List ConnectionItem)) (more : List ConnectionItem) → IsWhole c → IsSound (noted_in log more c) → IsWhole (noted_in log more c)
  noted_whole c log more w sound = record {
    sound = sound;
    current = noted_current log more c (λ none. w.current (inr none));
    client = λ side greeted. elim (w.client side greeted) [ inl k ↦ inl k | inr shut ↦ inr (ap is_open (taken_state log c.core) ∙ shut) ];
  }

  -- the end of the 1-RTT packets goes on, whether it is open or not, and the streams' log is taken if it was on
  pub whole_on : (c : Connection S) (core : Inner S) → IsWhole c → IsSameEnd c.core core → core.state ≡ c.core.state → IsLogCurrent (record c { core = core }) → IsWhole (record c { core = core })
  whole_on c core w same state current = record {
    sound = sound_on c core w.sound same state;
    current = current;
    client = λ side greeted. elim (w.client side greeted) [ inl k ↦ inl k | inr shut ↦ inr (ap is_open state ∙ shut) ];
  }

  -- ---- how it stands to all that was done with it

  pub taken_made : (old new : Inner S) → new ≡ with_space old (record old.space { log = option_map (λ _. []) old.space.log }) → ((t : List Act) → Follows old t → Follows new t) → IsSameEnd old new
      → IsMadeLocally old new []
  taken_made old new is follows same = turned_made old new (items_taken is) follows same

  -- want of memory ended it still, once what came to the streams is taken
  pub failed_taken : (old mid new : Inner S) → IsFailedBy old mid → new ≡ with_space mid (record mid.space { log = option_map (λ _. []) mid.space.log }) → IsFailedBy old new
  failed_taken old mid new f is = subst (λ (z : Inner S). IsFailedBy old z) (sym is) (record {
    no_half = f.no_half;
    rest_is = ap (λ (z : Inner S). record z { space = record mid.space { log = option_map (λ _. []) mid.space.log } }) f.rest_is;
  })

  pub started_made : (r : Result Unit OutOfMemory) (old new : Inner S) → AreUnused old.space.streams old.space.streams.peer → ((two_way : Bool) → (counts_of old.space.streams two_way).arrived ≡ 0)
      → old.space.log ≡ None → OnOk r (new ≡ with_space old (record old.space { log = Some (first_items old.space.streams.peer) })) → OnErr r (new ≡ old)
      → ((t : List Act) → Follows old t → Follows new t) → IsSameEnd old new → IsMadeLocally old new []
  started_made (Ok x) old new unused arrived off ok err follows same = turned_made old new (log_started unused arrived off ok) follows same
  started_made (Err e) old new unused arrived off ok err follows same = subst (λ (z : Inner S). IsMadeLocally old z []) (sym err) (self_made old)

  pub started_state : (r : Result Unit OutOfMemory) (old new : Inner S) → OnOk r (new ≡ with_space old (record old.space { log = Some (first_items old.space.streams.peer) })) → OnErr r (new ≡ old)
      → new.state ≡ old.state
  started_state (Ok x) old new ok err = ap (λ (z : Inner S). z.state) ok
  started_state (Err e) old new ok err = ap (λ (z : Inner S). z.state) err

  pub noted_stands : (accepts : AcceptsTags S) (sealed : MakesTagsOf S) (hello : List ℕ) (old mid : Connection S) (core : Inner S) (t : List Act) → mid ≡ record old { core = core } → IsMadeLocally old.core mid.core []
      → Stands accepts sealed hello old t → Stands accepts sealed hello mid t
  noted_stands accepts sealed hello old mid core t is made p =
      subst (λ (z : Handshake). Converses accepts sealed hello z mid.core mid.is_connected t) (sym (ap (λ (z : Connection S). z.handshake) is))
      (subst (λ (z : Bool). Converses accepts sealed hello old.handshake mid.core z t) (sym (ap (λ (z : Connection S). z.is_connected) is))
      (stays accepts sealed hello old.handshake old.core mid.core old.is_connected t made p))

  -- ---- a datagram of the connection's own

  flags_whole : (c : Connection S) (next is_logged : Bool) → IsWhole c → IsWhole (record c { is_control_next = next; is_lost_logged = is_logged })
  flags_whole c next is_logged w = record {
    current = w.current;
    sound = record {
      handshake = w.sound.handshake;
      side_is = w.sound.side_is;
      id_is = w.sound.id_is;
      as_long = w.sound.as_long;
      sendable = w.sound.sendable;
      ungreeted = w.sound.ungreeted;
      connected = w.sound.connected;
    };
    client = w.client;
  }

  pub next_whole : (c : Connection S) (next : Bool) → IsWhole c → IsWhole (record c { is_control_next = next })
  next_whole c next w = flags_whole c next c.is_lost_logged w

  pub lost_whole : (c : Connection S) (is_logged : Bool) → IsWhole c → IsWhole (record c { is_lost_logged = is_logged })
  lost_whole c is_logged w = flags_whole c c.is_control_next is_logged w

  -- ---- that the connection is lost

  pub lost_noted : (old mid : Connection S) (more : List ConnectionItem) (is_logged : Bool) → mid ≡ noted more old → more ≡ loss old.is_lost_logged old.core.error → is_logged ≡ is_loss_logged old
      → record mid { is_lost_logged = is_logged } ≡ loss_noted old
  lost_noted old mid more is_logged is more_is logged_is =
      ap (λ (z : Connection S). record z { is_lost_logged = is_logged }) is
      ∙ ap (λ (z : List ConnectionItem). record (noted z old) { is_lost_logged = is_logged }) more_is
      ∙ ap (λ (z : Bool). record (noted (loss old.is_lost_logged old.core.error) old) { is_lost_logged = z }) logged_is

  -- all is taken
  pub taken_all : (old mid : Connection S) (log : Option (List ConnectionItem)) → mid ≡ loss_noted old → log ≡ option_map none_of mid.control.log
      → record mid { control = record mid.control { log = log } } ≡ all_taken old
  taken_all old mid log is taken =
      ap (λ (z : Option (List ConnectionItem)). record mid { control = record mid.control { log = z } })
      (taken ∙ ap (λ (z : Connection S). option_map none_of z.control.log) is ∙ taken_log old.control.log (streamed old.core.space.log ++ loss old.is_lost_logged old.core.error))
      ∙ ap (λ (z : Connection S). record z { control = record z.control { log = option_map none_of old.control.log } }) is

  -- nothing is, but the loss is logged
  pub still_untaken : (old mid : Connection S) (log : Option (List ConnectionItem)) → mid ≡ loss_noted old → log ≡ mid.control.log → record mid { control = record mid.control { log = log } } ≡ loss_noted old
  still_untaken old mid log is same = ap (λ (z : Option (List ConnectionItem)). record mid { control = record mid.control { log = z } }) same ∙ is

  -- ---- the log goes on

  taken_keeps : (log : Option (List ConnectionItem)) (core : Inner S) → KeepsTold core (streams_taken log core)
  taken_keeps None core = record { lost = refl; drained = refl }
  taken_keeps (Some items) core = record { lost = refl; drained = refl }

  -- what came to the streams is moved into it, or memory is wanting for that
  pub note_goes : {X E : Type 0} (r : Result X E) (more : List ConnectionItem) (old new : Connection S) → own_items more ≡ [] → OnOk r (new ≡ noted more old) → OnErr r (new ≡ old) → GoesOn old new
  note_goes (Ok x) more old new quiet ok err = (
    streamed old.core.space.log ++ more,
    quiet_goes (streamed old.core.space.log ++ more) old new
        (flags_by old new (noted more old) ok (record { connected = refl; due = refl; data_due = λ is. is; lost_logged = refl; told = taken_keeps old.control.log old.core }))
        (ap (λ (z : Connection S). z.control.log) ok)
        (own_both (streamed old.core.space.log) more ∙ ap (λ (z : List ConnectionItem). z ++ own_items more) (streamed_own old.core.space.log) ∙ quiet),
  )
  note_goes (Err e) more old new quiet ok err = ([], same_goes old new (flags_by old new old err (self_flags old)) (ap (λ (z : Connection S). z.control.log) err))

  -- ---- the handshake is complete

  abbrev pub completed : Connection S → Handshake → Connection S
  completed c h = record c { handshake = h; is_connected = true; is_connected_due = true }

  pub completed_sound : (c : Connection S) (h : Handshake) → IsCompleted c.handshake h → IsHandshake h → is_some c.handshake.peer ≡ true → IsSound c → IsSound (completed c h)
  completed_sound c h is whole greeted s = record {
    handshake = whole;
    side_is = s.side_is ∙ sym (ap (λ (z : Handshake). z.side) is);
    id_is = s.id_is ∙ sym (ap (λ (z : Handshake). z.local_id) is);
    as_long = s.as_long;
    sendable = s.sendable;
    ungreeted = λ none. s.ungreeted (sym (ap (λ (z : Handshake). z.peer) is) ∙ none);
    connected = λ _. (ap (λ (z : Handshake). is_some z.peer) is ∙ greeted, ap (λ (z : Handshake). z.space) is);
  }

  -- further ids are asked for, if it isn't over
  abbrev pub asked : Moment → Connection S → Connection S
  asked now c = record c { control = (if is_open c.core.state then ids_asked now c.control else c.control) }

  pub only_events : (now : Moment) (old new : Connection S) → new ≡ asked now old → new ≡ record old { control = record old.control { endpoint_events = new.control.endpoint_events } }
  only_events now old new is =
      is ∙ ap (λ (z : ControlState). record old { control = z }) (asked_as now (is_open old.core.state) old.control)
      ∙ ap (λ (z : Connection S). record old { control = record old.control { endpoint_events = z.control.endpoint_events } }) (sym is)

  pub events_sound : (old new : Connection S) → new ≡ record old { control = record old.control { endpoint_events = new.control.endpoint_events } } → IsSound old → IsSound new
  events_sound old new is s =
      subst (λ (z : Connection S). IsSound z) (sym is)
      (sound_control old (record old.control { endpoint_events = new.control.endpoint_events }) s (λ peer is. record { frames = is.frames; peer = is.peer; bounded = is.bounded; payloads = is.payloads }) refl)

  -- the same, of a log that was lent out
  pub connected_in : (log : Option (List ConnectionItem)) (now : Moment) (old mid : Connection S) (h : Handshake) → mid ≡ noted_in log (item.Connected ∷ []) (asked now old) → IsCompleted mid.handshake h
      → completed mid h ≡ connected now (given_back log old)
  connected_in log now old mid h is h_is =
      let hand = h_is ∙ ap (λ (z : Connection S). record (dropping z.handshake) { is_validated = true }) is in
      ap (λ (z : Handshake). completed mid z) hand
      ∙ ap (λ (z : Connection S). completed z (record (dropping old.handshake) { is_validated = true })) is
      ∙ ap (λ (z : ControlState). completed (record old { core = streams_taken log old.core; control = z }) (record (dropping old.handshake) { is_validated = true }))
      (asked_back now (is_open old.core.state) old.control log (logged log (streamed old.core.space.log ++ item.Connected ∷ [])))

  pub noted_if : (now : Moment) (c new : Connection S) (b : Bool) → b ≡ true → new ≡ noted [] c → new ≡ (if b then noted [] c else connected now c)
  noted_if now c new true e is = is
  noted_if now c new false e is = let z : false ≡ true = e in cc

  pub connected_else : (now : Moment) (c new : Connection S) (b : Bool) → b ≡ false → new ≡ connected now c → new ≡ (if b then noted [] c else connected now c)
  connected_else now c new false e is = is
  connected_else now c new true e is = let z : true ≡ false = e in cc

  -- that is logged, and to be told
  pub connect_goes : (now : Moment) (old new : Connection S) → old.is_connected ≡ false → new ≡ connected now old → GoesOn old new
  connect_goes now old new early is =
      let more = streamed old.core.space.log ++ item.Connected ∷ [] in
      let since : is_connected_since old new ≡ true = ap (λ (k : Bool). not k && new.is_connected) early ∙ ap (λ (z : Connection S). z.is_connected) is in
      let told = taken_keeps old.control.log old.core in (
        more,
        record {
          log_is = ap (λ (z : Connection S). z.control.log) is;
          own = own_both (streamed old.core.space.log) (item.Connected ∷ []) ∙ ap (λ (z : List ConnectionItem). z ++ item.Connected ∷ []) (streamed_own old.core.space.log) ∙ sym (ap told_of since);
          connected = λ _. ap (λ (z : Connection S). z.is_connected) is;
          due = ap (λ (z : Connection S). z.is_connected_due) is ∙ sym (ap (λ (k : Bool). k || old.is_connected_due) since);
          data_due = λ due. ap (λ (z : Connection S). z.is_data_due) is ∙ due;
          lost_logged = ap (λ (z : Connection S). z.is_lost_logged) is;
          lost_told = ap (λ (z : Connection S). z.core.is_lost_told) is ∙ told.lost;
          drained_told = ap (λ (z : Connection S). z.core.is_drained_told) is ∙ told.drained;
        },
      )

  -- what came to the streams is in the log of an end that is connected now
  pub connected_current : (now : Moment) (c : Connection S) → (c.handshake.peer ≡ None → streamed c.core.space.log ≡ []) → IsLogCurrent (connected now c)
  connected_current now c ungreeted = current_by (noted (item.Connected ∷ []) c) (connected now c) (λ on. on) refl refl (noted_current c.control.log (item.Connected ∷ []) c ungreeted)

  -- its log goes on, or memory was wanting and nothing changed
  pub connect_logs : {X E : Type 0} (r : Result X E) (now : Moment) (old new : Connection S) → old.is_connected ≡ false → OnOk r (new ≡ connected now old) → OnErr r (new ≡ old) → GoesOn old new
  connect_logs (Ok x) now old new early ok err = connect_goes now old new early ok
  connect_logs (Err e) now old new early ok err = ([], same_goes old new (flags_by old new old err (self_flags old)) (ap (λ (z : Connection S). z.control.log) err))

  if_goes : (now : Moment) (c : Connection S) (b : Bool) → c.is_connected ≡ b → GoesOn c (if b then noted [] c else connected now c)
  if_goes now c true e = note_goes {X = Unit} {E = OutOfMemory} (Ok tt) [] c (noted [] c) refl refl tt
  if_goes now c false e = connect_goes now c (connected now c) e refl

  pub accepted_goes : (now : Moment) (c new : Connection S) → new ≡ connected_if now c → GoesOn c new
  accepted_goes now c new is = subst (λ (z : Connection S). GoesOn c z) (sym is) (if_goes now c c.is_connected refl)

  if_current : (now : Moment) (c : Connection S) (b : Bool) → (c.handshake.peer ≡ None → streamed c.core.space.log ≡ []) → IsLogCurrent (if b then noted [] c else connected now c)
  if_current now c true ungreeted = noted_current c.control.log [] c ungreeted
  if_current now c false ungreeted = connected_current now c ungreeted

  pub accepted_current : (now : Moment) (c new : Connection S) → new ≡ connected_if now c → (c.handshake.peer ≡ None → streamed c.core.space.log ≡ []) → IsLogCurrent new
  accepted_current now c new is ungreeted = subst (λ (z : Connection S). IsLogCurrent z) (sym is) (if_current now c c.is_connected ungreeted)

  if_complete : (now : Moment) (c : Connection S) (b : Bool) → c.is_connected ≡ b → (if b then noted [] c else connected now c).is_connected ≡ true
  if_complete now c true e = e
  if_complete now c false e = refl

  pub accepted_complete : (now : Moment) (c new : Connection S) → new ≡ connected_if now c → new.is_connected ≡ true
  accepted_complete now c new is = ap (λ (z : Connection S). z.is_connected) is ∙ if_complete now c c.is_connected refl

  if_stands : (accepts : AcceptsTags S) (sealed : MakesTagsOf S) (hello : List ℕ) (now : Moment) (c new : Connection S) (t : List Act) (b : Bool) → new ≡ (if b then noted [] c else connected now c) → c.is_connected ≡ b
      → IsMadeLocally c.core new.core [] → HasPacketOf (length c.core.local_id) (handed_in t) (other c.handshake.side) Data → Stands accepts sealed hello c t → Stands accepts sealed hello new t
  if_stands accepts sealed hello now c new t true is e made has p =
      subst (λ (z : Handshake). Converses accepts sealed hello z new.core new.is_connected t) (sym (ap (λ (z : Connection S). z.handshake) is))
      (subst (λ (z : Bool). Converses accepts sealed hello c.handshake new.core z t) (sym (ap (λ (z : Connection S). z.is_connected) is)) (stays accepts sealed hello c.handshake c.core new.core c.is_connected t made p))
  if_stands accepts sealed hello now c new t false is e made has p =
      connected_stands accepts sealed hello c new t (ap (λ (z : Connection S). z.handshake) is) (ap (λ (z : Connection S). z.is_connected) is) made has p

  pub accepted_stands : (accepts : AcceptsTags S) (sealed : MakesTagsOf S) (hello : List ℕ) (now : Moment) (c new : Connection S) (t : List Act) → new ≡ connected_if now c → IsMadeLocally c.core new.core []
      → HasPacketOf (length c.core.local_id) (handed_in t) (other c.handshake.side) Data → Stands accepts sealed hello c t → Stands accepts sealed hello new t
  accepted_stands accepts sealed hello now c new t is made has p = if_stands accepts sealed hello now c new t c.is_connected is refl made has p

  pub unmoved_goes : (old new : Connection S) → new ≡ old → GoesOn old new
  unmoved_goes old new is = ([], same_goes old new (flags_by old new old is (self_flags old)) (ap (λ (z : Connection S). z.control.log) is))
