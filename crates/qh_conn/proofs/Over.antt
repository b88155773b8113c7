-- What stays of a connection that ends for want of memory.
use Rattle.std.proofs.Common.{◌≡◌, ◌⊎◌, ℕ, Bool, true, false, if◌then◌else◌, List, [], ◌∷◌, ◌++◌, length, take, Option, None, Some, is_some, Result, Ok, Err, refl, sym, ap, subst, ◌∙◌, inl, inr, append_assoc}
use Rattle.std.proofs.lemmas.List.{append-nil}
use Rattle.std.specs.Prelude.{IsOk, OnErr}
use Rattle.qh_base.specs.declared.time.Moment.{Moment}
use Rattle.qh_conn.specs.Greeting.{connected, ids_asked, with_core}
use Rattle.qh_conn.specs.Incoming.{AreControlsTaken, IsFed, IsMet, IsRestarted, connected_if, counted_at}
use Rattle.qh_conn.specs.Items.{IsLogEnded, LogGoesOn, noted}
use Rattle.qh_conn.specs.Outgoing.{IsStill}
use Rattle.qh_conn.specs.Same.{IsSameConnection}
use Rattle.qh_conn.specs.Unread.{AreIdsCut, EndsUnsent, HasFailed, IsCompletionCut, IsDataUnsent, IsGreetingCut, IsOverOf, IsRestUnread, IsTimeCut, IsUnread, IsUnsent}
use Rattle.qh_conn.specs.declared.connection.Connection.{Connection}
use Rattle.qh_control.specs.Control.{IsControlTaken, asked_events, retired_events, token_event, token_events, renewed, with_all_issued, with_issued, may_announce}
use Rattle.qh_control.specs.declared.control.ControlState.{ControlState}
use Rattle.qh_control.specs.declared.event.EndpointEvent.{EndpointEvent}
use Rattle.qh_control.specs.declared.event.IssuedCid.{IssuedCid}
use Rattle.qh_control.specs.declared.items.ConnectionItem.{ConnectionItem}
use Rattle.qh_core.specs.Inner.{IsFailedBy, counted, is_client, is_open}
use Rattle.qh_core.specs.declared.inner.Inner.{Inner}
use Rattle.qh_core.specs.declared.stats.UdpStats.{UdpStats}
use Rattle.qh_frame.specs.declared.frame.Frame.{Frame}
use Rattle.qh_handshake.specs.Incoming.{SessionView}
use Rattle.qh_handshake.specs.Outgoing.{IsCloseUnsent}
use Rattle.qh_handshake.specs.declared.handshake.Handshake.{Handshake}
use Rattle.qh_hello.specs.declared.transport_parameters.TransportParameters.{TransportParameters}
use Rattle.qh_packet.specs.Session.{AcceptsTag}
use Rattle.qh_streams.specs.declared.fault.StreamFault.{StreamFault}

-- two facts of one answer
pub err_both : {X E : Type 0} {P Q R : Type 0} (r : Result X E) → (P → Q → R) → OnErr r P → OnErr r Q → OnErr r R
err_both (Ok x) f p q = tt
err_both (Err e) f p q = f p q

-- the same answer
pub err_as : {X E : Type 0} (P : Type 0) (r s : Result X E) → s ≡ r → OnErr r P → OnErr s P
err_as P r s is p = subst (λ (z : Result _ _). OnErr z P) (sym is) p

-- one for which memory is wanting is on
pub lent_on : {A X E : Type 0} (log : Option A) (r : Result X E) (e : E) → r ≡ Err e → (log ≡ None → IsOk r) → is_some log ≡ true
lent_on (Some x) r e is free = refl
lent_on None r e is free = let z : false ≡ true = subst (λ (y : Result _ _). IsOk y) is (free refl) in cc

-- ---- events for the endpoint

-- events come behind those that wait
abbrev pub Tells : (old new : ControlState) → Type 0
Tells old new = (told : List EndpointEvent) × (new.endpoint_events ≡ old.endpoint_events ++ told)

quiet : (old new : ControlState) → new.endpoint_events ≡ old.endpoint_events → Tells old new
quiet old new is = ([], is ∙ sym (append-nil old.endpoint_events))

both_tell : (old mid new : ControlState) → Tells old mid → Tells mid new → Tells old new
both_tell old mid new p q = (p.0 ++ q.0, q.1 ∙ ap (λ (z : List EndpointEvent). z ++ q.0) p.1 ∙ append_assoc old.endpoint_events p.0 q.0)

asked_tells : (now : Moment) (b : Bool) (s : ControlState) → Tells s (if b then ids_asked now s else s)
asked_tells now true s = (asked_events now s, refl)
asked_tells now false s = quiet s s refl

frame_tells : (now : Moment) (old new : ControlState) (f : Frame) → IsControlTaken now old new f → Tells old new
frame_tells now old new _ (IsControlTaken.new_id sequence prior id token is) = (token_events old (renewed old sequence prior id token), ap (λ (z : ControlState). z.endpoint_events) is)
frame_tells now old new _ (IsControlTaken.retire sequence is) = (retired_events now old sequence, ap (λ (z : ControlState). z.endpoint_events) is)
frame_tells now old new _ (IsControlTaken.ack _ _ is) = quiet old new (ap (λ (z : ControlState). z.endpoint_events) is)
frame_tells now old new _ (IsControlTaken.given _ is) = quiet old new (ap (λ (z : ControlState). z.endpoint_events) is)
frame_tells now old new _ (IsControlTaken.datagram _ _ _ _ _ is) = quiet old new (ap (λ (z : ControlState). z.endpoint_events) is)
frame_tells now old new _ (IsControlTaken.undue _ _ _ is) = quiet old new (ap (λ (z : ControlState). z.endpoint_events) is)
frame_tells now old new _ (IsControlTaken.passive _ _ is) = quiet old new (ap (λ (z : ControlState). z.endpoint_events) is)

frames_tell : (now : Moment) (frames : List Frame) (old new : ControlState) (end : Option StreamFault) → AreControlsTaken now frames old new end → Tells old new
frames_tell now _ _ _ _ (AreControlsTaken.none s) = quiet s s refl
frames_tell now _ _ _ _ (AreControlsTaken.more frame frames old mid new end _ taken later) = both_tell old mid new (frame_tells now old mid frame taken) (frames_tell now frames mid new end later)
frames_tell now _ _ _ _ (AreControlsTaken.refused _ _ s _ _) = quiet s s refl
frames_tell now _ _ _ _ (AreControlsTaken.cut _ _ s new _ _ is) = quiet s new (ap (λ (z : ControlState). z.endpoint_events) is)

issued_if : (b : Bool) (s with_one : ControlState) → with_one.endpoint_events ≡ s.endpoint_events → (if b then with_one else s).endpoint_events ≡ s.endpoint_events
issued_if true s with_one is = is
issued_if false s with_one is = refl

-- ids that are announced add none
all_issued : (ids : List IssuedCid) (s : ControlState) → (with_all_issued s ids).endpoint_events ≡ s.endpoint_events
all_issued [] s = refl
all_issued (id ∷ ids) s = all_issued ids (with_issued s id) ∙ issued_if (may_announce s id) s _ refl

module _ {S : Type 0} where
  -- ---- what stays of a connection

  -- what was set before it was greeted, and its counts of datagrams, stay; events come for the endpoint
  pub record Kept (told : List EndpointEvent) (old new : Connection S) : Type 0 where
    pub early : new.early ≡ old.early
    pub udp_tx : new.udp_tx ≡ old.udp_tx
    pub udp_rx : new.udp_rx ≡ old.udp_rx
    pub events : new.control.endpoint_events ≡ old.control.endpoint_events ++ told

  abbrev pub Keeps : (old new : Connection S) → Type 0
  Keeps old new = (told : List EndpointEvent) × Kept told old new

  kept_by : (told : List EndpointEvent) (old new to : Connection S) → new ≡ to → Kept told old to → Kept told old new
  kept_by told old new to is k = subst (λ (z : Connection S). Kept told old z) (sym is) k

  -- its parts changed
  told_kept : (told : List EndpointEvent) (c : Connection S) {h : Handshake} {core : Inner S} {control : ControlState} {complete ready due : Bool} → control.endpoint_events ≡ c.control.endpoint_events ++ told
      → Kept told c (record c { handshake = h; core = core; control = control; is_connected = complete; is_data_due = ready; is_connected_due = due })
  told_kept told c is = record { early = refl; udp_tx = refl; udp_rx = refl; events = is }

  none_kept : (c : Connection S) {h : Handshake} {core : Inner S} {control : ControlState} {complete ready due : Bool} → control.endpoint_events ≡ c.control.endpoint_events
      → Kept [] c (record c { handshake = h; core = core; control = control; is_connected = complete; is_data_due = ready; is_connected_due = due })
  none_kept c is = told_kept [] c (is ∙ sym (append-nil c.control.endpoint_events))

  pub both_kept : (first later : List EndpointEvent) (old mid new : Connection S) → Kept first old mid → Kept later mid new → Kept (first ++ later) old new
  both_kept first later old mid new p q = record {
    early = q.early ∙ p.early;
    udp_tx = q.udp_tx ∙ p.udp_tx;
    udp_rx = q.udp_rx ∙ p.udp_rx;
    events = q.events ∙ ap (λ (z : List EndpointEvent). z ++ later) p.events ∙ append_assoc old.control.endpoint_events first later;
  }

  both_keep : (old mid new : Connection S) → Keeps old mid → Keeps mid new → Keeps old new
  both_keep old mid new p q = (p.0 ++ q.0, both_kept p.0 q.0 old mid new p.1 q.1)

  pub failed_kept : (old new : Connection S) → HasFailed old new → Kept [] old new
  failed_kept old new f = kept_by [] old new _ f.rest_is (none_kept old refl)

  -- it is the same connection
  pub over_of : (key : S → List ℕ) (told : List EndpointEvent) (old new : Connection S) → Kept told old new → IsSameConnection key old new → new.core.is_lost_told ≡ old.core.is_lost_told
      → new.core.is_drained_told ≡ old.core.is_drained_told → IsOverOf told old new
  over_of key told old new k same lost drained = record {
    config = same.config;
    early = k.early;
    side = same.side;
    addresses = same.addresses;
    udp_tx = k.udp_tx;
    udp_rx = k.udp_rx;
    endpoint_events = k.events;
    lost_told = lost;
    drained_told = drained;
  }

  -- ---- a datagram that came

  connected_keeps : (now : Moment) (c : Connection S) → Keeps c (connected now c)
  connected_keeps now c = let t = asked_tells now (is_open c.core.state) c.control in (t.0, told_kept t.0 c t.1)

  complete_keeps : (now : Moment) (c : Connection S) (b : Bool) → Keeps c (if b then noted [] c else connected now c)
  complete_keeps now c true = ([], none_kept c refl)
  complete_keeps now c false = connected_keeps now c

  completion_keeps : (now : Moment) (old new : Connection S) → IsCompletionCut now old new → Keeps old new
  completion_keeps now old new (IsCompletionCut.unasked _ _ is) = ([], kept_by [] old new old is (none_kept old refl))
  completion_keeps now old new (IsCompletionCut.unlogged _ is) = ([], kept_by [] old new old is (none_kept old refl))

  begun_keeps : (old : Connection S) (core : Inner S) (peer : TransportParameters) → Keeps old (with_core old core peer)
  begun_keeps old core peer = (token_event old.control peer.stateless_reset_token, told_kept (token_event old.control peer.stateless_reset_token) old refl)

  greeting_keeps : (now : Moment) (peer : TransportParameters) (old new : Connection S) → IsGreetingCut now peer old new → Keeps old new
  greeting_keeps now peer old new (IsGreetingCut.untold _ is) = ([], kept_by [] old new old is (none_kept old refl))
  greeting_keeps now peer old new (IsGreetingCut.unlogged _ _ is) =
      (token_event old.control peer.stateless_reset_token, kept_by (token_event old.control peer.stateless_reset_token) old new _ is (told_kept (token_event old.control peer.stateless_reset_token) old refl))
  greeting_keeps now peer old new (IsGreetingCut.incomplete core _ _ cut) =
      both_keep old (with_core old core peer) new (begun_keeps old core peer) (completion_keeps now (with_core old core peer) new cut)

  fed_keeps : (v : SessionView S) (now : Moment) (d rest : List ℕ) (old new : Connection S) → IsFed v now d old new rest None → Keeps old new
  fed_keeps v now d rest old new fed = ([], kept_by [] old new _ fed.new_is (none_kept old refl))

  restarted_keeps : (now : Moment) (h : Handshake) (old new : Connection S) → IsRestarted now h old new → Keeps old new
  restarted_keeps now h old new (IsRestarted.heard _ is) = ([], kept_by [] old new _ is (none_kept old refl))
  restarted_keeps now h old new (IsRestarted.quiet _ is) = ([], kept_by [] old new old is (none_kept old refl))

  met_if : (now : Moment) (b : Bool) (old : Connection S) (core : Inner S) (peer : TransportParameters) → Keeps old (if b then connected now (with_core old core peer) else with_core old core peer)
  met_if now true old core peer = both_keep old (with_core old core peer) _ (begun_keeps old core peer) (connected_keeps now (with_core old core peer))
  met_if now false old core peer = begun_keeps old core peer

  met_keeps : (now : Moment) (was : Bool) (old new : Connection S) → IsMet now was old new → Keeps old new
  met_keeps now was old new (IsMet.before _ is) = ([], kept_by [] old new old is (none_kept old refl))
  met_keeps now was old new (IsMet.not_yet _ _ is) = ([], kept_by [] old new old is (none_kept old refl))
  met_keeps now was old new (IsMet.greeted _ g) = let k = met_if now (is_client old.handshake.side) old g.core g.peer in (k.0, kept_by k.0 old new _ g.new_is k.1)

  core_keeps : (c : Connection S) (core : Inner S) → Keeps c (record c { core = core })
  core_keeps c core = ([], none_kept c refl)

  rest_keeps : (accepts : AcceptsTag) (now : Moment) (rest : List ℕ) (old new : Connection S) → IsRestUnread accepts now rest old new → Keeps old new
  rest_keeps accepts now rest old new (IsRestUnread.packet _ _ is) = ([], kept_by [] old new _ is (none_kept old refl))
  rest_keeps accepts now rest old new (IsRestUnread.unlogged _ is) = ([], kept_by [] old new old is (none_kept old refl))
  rest_keeps accepts now rest old new (IsRestUnread.unasked core _ _ _ _ _ is) = ([], kept_by [] old new _ is (none_kept old refl))
  rest_keeps accepts now rest old new (IsRestUnread.frame core _ read _ _ _ _ taken is) =
      let mid : Connection S = record old { core = core } in
      let be = complete_keeps now mid mid.is_connected in
      let t = frames_tell now read (connected_if now mid).control new.control _ taken in
      both_keep old (connected_if now mid) new (both_keep old mid (connected_if now mid) (core_keeps old core) be) (t.0, kept_by t.0 (connected_if now mid) new _ is (told_kept t.0 (connected_if now mid) t.1))
  rest_keeps accepts now rest old new (IsRestUnread.lost core _ read _ _ _ _ taken is) =
      let mid : Connection S = record old { core = core } in
      let be = complete_keeps now mid mid.is_connected in
      let t = frames_tell now read (connected_if now mid).control new.control _ taken in
      both_keep old (connected_if now mid) new (both_keep old mid (connected_if now mid) (core_keeps old core) be) (t.0, kept_by t.0 (connected_if now mid) new _ is (told_kept t.0 (connected_if now mid) t.1))

  pub unread_keeps : (v : SessionView S) (now : Moment) (d : List ℕ) (old new : Connection S) → IsUnread v now d old new → Keeps old new
  unread_keeps v now d old new (IsUnread.initials _ _ _ is) = ([], kept_by [] old new _ is (none_kept old refl))
  unread_keeps v now d old new (IsUnread.greeting fed restarted rest peer is again _ _ cut) =
      both_keep old restarted new (both_keep old fed restarted (fed_keeps v now d rest old fed is) (restarted_keeps now old.handshake fed restarted again)) (greeting_keeps now peer restarted new cut)
  unread_keeps v now d old new (IsUnread.behind fed restarted met rest is again meets _ _ unread) =
      both_keep old met new
      (both_keep old restarted met (both_keep old fed restarted (fed_keeps v now d rest old fed is) (restarted_keeps now old.handshake fed restarted again)) (met_keeps now _ restarted met meets))
      (rest_keeps _ now rest met new unread)

  -- want of memory for it, by what is answered
  pub unread_by : {X E : Type 0} (v : SessionView S) (now : Moment) (d : List ℕ) (old mid new : Connection S) (u : UdpStats) (r s : Result X E) → u ≡ counted (length d) old.udp_rx → s ≡ r
      → OnErr r (IsUnread v now d (record old { udp_rx = u }) mid) → OnErr r (HasFailed mid new)
      → OnErr s ((z : Connection S) × IsUnread v now d (counted_at (length d) old) z × HasFailed z new)
  unread_by v now d old mid new u r s same is unread failed =
      err_as _ r s is (err_both r (λ a f. (mid, subst (λ (z : UdpStats). IsUnread v now d (record old { udp_rx = z }) mid) same a, f)) unread failed)

  recounted : (key : S → List ℕ) (old new : Connection S) (u : UdpStats) → IsSameConnection key old new → IsSameConnection key (record old { udp_rx = u }) new
  recounted key old new u p = record {
    config = p.config;
    handshake = p.handshake;
    side = p.side;
    local_id = p.local_id;
    addresses = p.addresses;
    limits = p.limits;
    receives = p.receives;
    control = p.control;
    key_is = p.key_is;
    settled = p.settled;
    connected = p.connected;
    ended = p.ended;
  }

  pub over_by : {X E : Type 0} (v : SessionView S) (key : S → List ℕ) (now : Moment) (d : List ℕ) (old new : Connection S) (s : Result X E) → IsSameConnection key old new
      → OnErr s ((more : List ConnectionItem) × IsLogEnded more old new)
      → OnErr s ((z : Connection S) × IsUnread v now d (counted_at (length d) old) z × HasFailed z new)
      → OnErr s ((told : List EndpointEvent) × IsOverOf told (counted_at (length d) old) new)
  over_by v key now d old new s same log unread =
      err_both s (λ l u.
      let k = both_keep (counted_at (length d) old) u.0 new (unread_keeps v now d (counted_at (length d) old) u.0 u.1) ([], failed_kept u.0 new u.2) in
      (k.0, over_of key k.0 (counted_at (length d) old) new k.1 (recounted key old new _ same) l.1.goes_on.lost_told l.1.goes_on.drained_told)) log unread

  -- ---- what else memory is wanting for

  issued_over : (key : S → List ℕ) (ids : List IssuedCid) (old mid new : Connection S) → AreIdsCut ids old mid → HasFailed mid new → IsSameConnection key old new → IsLogEnded [] old new → IsOverOf [] old new
  issued_over key ids old mid new cut failed same log =
      over_of key [] old new
      (both_kept [] [] old mid new (kept_by [] old mid _ cut.rest_is (none_kept old (all_issued (take cut.count ids) old.control))) (failed_kept mid new failed)) same log.goes_on.lost_told log.goes_on.drained_told

  pub issued_by : {X E : Type 0} (key : S → List ℕ) (ids : List IssuedCid) (r : Result X E) (old mid new : Connection S) → OnErr r (AreIdsCut ids old mid) → OnErr r (HasFailed mid new) → OnErr r (IsLogEnded [] old new)
      → IsSameConnection key old new → OnErr r (IsOverOf [] old new)
  issued_by key ids (Ok x) old mid new cut failed log same = tt
  issued_by key ids (Err e) old mid new cut failed log same = issued_over key ids old mid new cut failed same log

  pub timed_over : (key : S → List ℕ) (now : ℕ) (old mid new : Connection S) → IsTimeCut now old mid → HasFailed mid new → IsSameConnection key old new → IsLogEnded [] old new → IsOverOf [] old new
  timed_over key now old mid new cut failed same log =
      over_of key [] old new (both_kept [] [] old mid new (kept_by [] old mid _ cut.rest_is (none_kept old refl)) (failed_kept mid new failed)) same log.goes_on.lost_told log.goes_on.drained_told

  pub unsent_kept : (now : Moment) (old new : Connection S) → IsUnsent now old new → Kept [] old new
  unsent_kept now old new (IsUnsent.initial _ _ _ is) = kept_by [] old new _ is (none_kept old refl)
  unsent_kept now old new (IsUnsent.close _ _ _ is) = kept_by [] old new _ is (none_kept old refl)
  unsent_kept now old new (IsUnsent.data_packet _ u) = kept_by [] old new _ u.rest_is (none_kept old refl)

  -- ---- what is to be sent

  -- nothing was to be sent before
  pub unsent_after : (old mid new : Connection S) → IsStill old mid → IsDataUnsent mid new → IsDataUnsent old new
  unsent_after old mid new s u = record {
    core = subst (λ (z : Connection S). (new.core ≡ z.core) ⊎ IsFailedBy z.core new.core) s.rest_is u.core;
    queue = record { waiting = u.queue.waiting ∙ s.queue.waiting; sent = u.queue.sent ∙ s.queue.sent };
    rest_is = u.rest_is ∙ ap (λ (z : Connection S). record z { core = new.core; control = record z.control { queue = new.control.queue } }) s.rest_is;
  }

  -- the close stays due of one that was over before the handshake was complete
  pub still_closing : (now : Moment) (old new : Connection S) → IsUnsent now old new → is_open old.core.state ≡ false → old.is_connected ≡ false
      → IsCloseUnsent old.handshake new.handshake × (new ≡ record old { handshake = new.handshake })
  still_closing now old new (IsUnsent.initial _ up _ _) shut early = let z : true ≡ false = sym up ∙ shut in cc
  still_closing now old new (IsUnsent.close _ _ unsent is) shut early = (unsent, is)
  still_closing now old new (IsUnsent.data_packet complete _) shut early = let z : true ≡ false = sym complete ∙ early in cc

  pub not_both : (c : Connection S) → is_open c.core.state ≡ false → c.is_connected ≡ false → EndsUnsent c → ⊥
  not_both c shut early (inl up) = let z : true ≡ false = sym up ∙ shut in cc
  not_both c shut early (inr complete) = let z : true ≡ false = sym complete ∙ early in cc

  pub closing_over : (key : S → List ℕ) (now : Moment) (old new : Connection S) → IsUnsent now old new → IsSameConnection key old new → LogGoesOn [] old new → IsOverOf [] old new
  closing_over key now old new unsent same goes = over_of key [] old new (unsent_kept now old new unsent) same goes.lost_told goes.drained_told

  pub failing_over : (key : S → List ℕ) (now : Moment) (old mid new : Connection S) → IsUnsent now old mid → HasFailed mid new → IsSameConnection key old new → IsLogEnded [] old new → IsOverOf [] old new
  failing_over key now old mid new unsent failed same log =
      over_of key [] old new (both_kept [] [] old mid new (unsent_kept now old mid unsent) (failed_kept mid new failed)) same log.goes_on.lost_told log.goes_on.drained_told
