-- What the frames of the connection's own bring: payloads of DATAGRAM frames, and nothing else.
use Rattle.std.proofs.Common.{◌≡◌, Bool, true, false, if◌then◌else◌, List, [], ◌∷◌, ◌++◌, Option, None, Some, is_some, refl, sym, ap, subst, ◌∙◌}
use Rattle.qh_base.specs.declared.time.Moment.{Moment}
use Rattle.qh_book.specs.Book.{Book}
use Rattle.qh_book.specs.Shown.{DatagramBounds, SameStreams, ShowsDatagrams}
use Rattle.qh_conn.proofs.LogKept.{Log, logged_both, logged_none, logged_on}
use Rattle.qh_conn.specs.Incoming.{AreControlsTaken, AreFramesHandled}
use Rattle.qh_conn.specs.declared.connection.Connection.{Connection}
use Rattle.qh_control.specs.Control.{IsControlTaken, may_announce, with_all_issued, with_issued}
use Rattle.qh_control.specs.Items.{logged, streamed}
use Rattle.qh_control.specs.declared.control.ControlState.{ControlState}
use Rattle.qh_control.specs.declared.event.IssuedCid.{IssuedCid}
use Rattle.qh_control.specs.declared.items.ConnectionItem.{ConnectionItem}
use Rattle.qh_control.specs.declared.items.ConnectionItem.TheVariants as entry
use Rattle.qh_core.specs.declared.inner.Inner.{Inner}
use Rattle.qh_datagrams.specs.Datagrams.{PlainDatagrams}
use Rattle.qh_frame.specs.declared.frame.Frame.{Frame}
use Rattle.qh_shown.proofs.Books.{SameEnd, both_end, both_streams, brought_both, same_end, same_streams}
use Rattle.qh_shown.proofs.CoreSteps.{CoreStep, core_step, faulted_step, kept, step_self}
use Rattle.qh_shown.proofs.Keeping.{datagram_keeps, keeps_both, keeps_self}
use Rattle.qh_shown.proofs.Steps.{SomeStep, Step, by_core, by_parts, no_longer, quiet_step, some_both, some_by}
use Rattle.qh_shown.specs.Connections.{IsUngreeted, bounds_of}
use Rattle.qh_shown.specs.Items.{brought}
use Rattle.qh_shown.specs.Kept.{Keeps}
use Rattle.qh_shown.specs.Laws.{BookLaws}
use Rattle.qh_streams.specs.declared.fault.StreamFault.{StreamFault}

-- what stays of them while a connection only speaks of ids and tokens
pub record IsQuietControl (old new : ControlState) : Type 0 where
  pub datagrams : new.datagrams ≡ old.datagrams
  pub bounds : bounds_of new ≡ bounds_of old
  pub log : new.log ≡ old.log

pub quiet_self : (s : ControlState) → IsQuietControl s s
quiet_self s = record { datagrams = refl; bounds = refl; log = refl }

pub quiet_control : (old new to : ControlState) → new ≡ to → IsQuietControl old to → IsQuietControl old new
quiet_control old new to is q = subst (λ (z : ControlState). IsQuietControl old z) (sym is) q

both_quiet : (old mid new : ControlState) → IsQuietControl old mid → IsQuietControl mid new → IsQuietControl old new
both_quiet old mid new p q = record { datagrams = q.datagrams ∙ p.datagrams; bounds = q.bounds ∙ p.bounds; log = q.log ∙ p.log }

-- ---- ids

issued_if : (s : ControlState) (cid : IssuedCid) (b : Bool) (to : ControlState) → IsQuietControl s to → IsQuietControl s (if b then to else s)
issued_if s cid true to q = q
issued_if s cid false to q = quiet_self s

issued_quiet : (s : ControlState) (cid : IssuedCid) → IsQuietControl s (with_issued s cid)
issued_quiet s cid = issued_if s cid (may_announce s cid) _ (record { datagrams = refl; bounds = refl; log = refl })

pub all_issued_quiet : (s : ControlState) (cids : List IssuedCid) → IsQuietControl s (with_all_issued s cids)
all_issued_quiet s [] = quiet_self s
all_issued_quiet s (cid ∷ cids) = both_quiet s (with_issued s cid) (with_all_issued (with_issued s cid) cids) (issued_quiet s cid) (all_issued_quiet (with_issued s cid) cids)

-- ---- frames

pub record ControlStep (items : List ConnectionItem) (old new : ControlState) : Type 0 where
  pub datagrams : (b : Book) → ShowsDatagrams old.datagrams (bounds_of old) b → ShowsDatagrams new.datagrams (bounds_of new) (brought items b)
  pub streams : (b : Book) → SameStreams b (brought items b)
  pub end : (b : Book) → SameEnd b (brought items b)
  pub keeps : (b : Book) → Keeps b (brought items b)
  pub most : new.peer_datagram ≡ old.peer_datagram
  pub log : new.log ≡ logged old.log items

step_quiet : (old new : ControlState) → IsQuietControl old new → ControlStep [] old new
step_quiet old new q = record {
  datagrams = λ b shown. subst (λ (d : PlainDatagrams). ShowsDatagrams d (bounds_of new) b) (sym q.datagrams) (subst (λ (l : DatagramBounds). ShowsDatagrams old.datagrams l b) (sym q.bounds) shown);
  streams = same_streams;
  end = same_end;
  keeps = keeps_self;
  most = ap (λ (l : DatagramBounds). l.most) q.bounds;
  log = q.log ∙ sym (logged_none old.log);
}

control_by : (items : List ConnectionItem) (old new to : ControlState) → new ≡ to → ControlStep items old to → ControlStep items old new
control_by items old new to is s = subst (λ (z : ControlState). ControlStep items old z) (sym is) s

control_both : (xs ys : List ConnectionItem) (old mid new : ControlState) → ControlStep xs old mid → ControlStep ys mid new → ControlStep (xs ++ ys) old new
control_both xs ys old mid new p q = record {
  datagrams = λ b shown. subst (λ (z : Book). ShowsDatagrams new.datagrams (bounds_of new) z) (sym (brought_both xs ys b)) (q.datagrams (brought xs b) (p.datagrams b shown));
  streams = λ b. subst (λ (z : Book). SameStreams b z) (sym (brought_both xs ys b)) (both_streams b (brought xs b) (brought ys (brought xs b)) (p.streams b) (q.streams (brought xs b)));
  end = λ b. subst (λ (z : Book). SameEnd b z) (sym (brought_both xs ys b)) (both_end b (brought xs b) (brought ys (brought xs b)) (p.end b) (q.end (brought xs b)));
  keeps = λ b. subst (λ (z : Book). Keeps b z) (sym (brought_both xs ys b)) (keeps_both b (brought xs b) (brought ys (brought xs b)) (p.keeps b) (q.keeps (brought xs b)));
  most = q.most ∙ p.most;
  log = q.log ∙ ap (λ (z : Log). logged z ys) p.log ∙ logged_both old.log xs ys;
}

abbrev pub SomeControl : (old new : ControlState) → Type 0
SomeControl old new = (items : List ConnectionItem) × ControlStep items old new

none_of : (old new : ControlState) → IsQuietControl old new → SomeControl old new
none_of old new q = ([], step_quiet old new q)

-- items of two logs, of which the other has none if this one is on
pub either_way : (log : Log) (xs ys : List ConnectionItem) → (is_some log ≡ true → ys ≡ []) → logged (logged log xs) ys ≡ logged (logged log ys) xs
either_way None xs ys none = refl
either_way (Some all) xs ys none =
    let e = none refl in
    ap (λ (z : List ConnectionItem). logged (logged (Some all) xs) z) e
    ∙ logged_none (logged (Some all) xs) ∙ ap (λ (z : Log). logged z xs) (sym (ap (λ (z : List ConnectionItem). logged (Some all) z) e ∙ logged_none (Some all)))

module _ (laws : BookLaws) where
  frame_step : (now : Moment) (old new : ControlState) (f : Frame) → IsControlTaken now old new f → SomeControl old new
  frame_step now old new _ (IsControlTaken.new_id _ _ _ _ is) = none_of old new (quiet_control old new _ is (record { datagrams = refl; bounds = refl; log = refl }))
  frame_step now old new _ (IsControlTaken.retire _ is) = none_of old new (quiet_control old new _ is (record { datagrams = refl; bounds = refl; log = refl }))
  frame_step now old new _ (IsControlTaken.ack _ _ is) = none_of old new (quiet_control old new _ is (record { datagrams = refl; bounds = refl; log = refl }))
  frame_step now old new _ (IsControlTaken.given _ is) = none_of old new (quiet_control old new _ is (record { datagrams = refl; bounds = refl; log = refl }))
  frame_step now old new _ (IsControlTaken.datagram payload has_length most receive fits is) = (
    entry.Datagram payload.now ∷ [],
    control_by (entry.Datagram payload.now ∷ []) old new _ is (record {
      datagrams = λ b shown. laws.came old.datagrams (bounds_of old) b payload.now most shown receive;
      streams = λ b. laws.comes payload.now b;
      end = λ b. record { side = refl; addresses = refl; is_connected = refl; is_emptied = refl };
      keeps = λ b. datagram_keeps payload.now b;
      most = refl;
      log = refl;
    }),
  )
  frame_step now old new _ (IsControlTaken.undue _ _ _ is) = none_of old new (quiet_control old new _ is (quiet_self old))
  frame_step now old new _ (IsControlTaken.passive _ _ is) = none_of old new (quiet_control old new _ is (quiet_self old))

  pub controls_step : (now : Moment) (frames : List Frame) (old new : ControlState) (end : Option StreamFault) → AreControlsTaken now frames old new end → SomeControl old new
  controls_step now _ _ _ _ (AreControlsTaken.none s) = none_of s s (quiet_self s)
  controls_step now _ _ _ _ (AreControlsTaken.more frame frames old mid new end unrefused first later) =
      let p = frame_step now old mid frame first in
      let q = controls_step now frames mid new end later in
      (p.0 ++ q.0, control_both p.0 q.0 old mid new p.1 q.1)
  controls_step now _ _ _ _ (AreControlsTaken.refused frame frames s e refusal) = none_of s s (quiet_self s)
  controls_step now _ _ _ _ (AreControlsTaken.cut frame frames s new unrefused keeps is) = none_of s new (quiet_control s new _ is (record { datagrams = refl; bounds = refl; log = refl }))

  -- ---- of a connection that was greeted

  module _ {S : Type 0} where
    -- nothing came to the streams that isn't in the log of the connection, if that is on
    abbrev pub IsMoved : Connection S → Type 0
    IsMoved c = is_some c.control.log ≡ true → streamed c.core.space.log ≡ []

    pub control_step : (items : List ConnectionItem) (c : Connection S) (control : ControlState) → ControlStep items c.control control → is_some c.handshake.peer ≡ true → IsMoved c → Step items c (record c { control = control })
    control_step items c control s greeted moved = record {
      front = λ was_told b shown. let e = s.end b in record { side = e.side ∙ shown.side; addresses = e.addresses ∙ shown.addresses; connected = e.is_connected ∙ shown.connected };
      wanting = λ calm. calm;
      live = λ notes b shown. record {
        streams = laws.streams c.core.space.streams notes b (brought items b) (s.streams b) shown.streams;
        datagrams = s.datagrams b shown.datagrams;
        kept = (s.end b).is_emptied ∙ shown.kept;
        ungreeted = λ none. no_longer c.handshake.peer (IsUngreeted (record c { control = control })) greeted none;
      };
      keeps = λ notes b shown. s.keeps b;
      logs = ap (λ (z : Log). logged z (streamed c.core.space.log)) s.log ∙ either_way c.control.log items (streamed c.core.space.log) moved;
      logging = λ logging up met on. logging up met (sym (logged_on c.control.log items) ∙ (ap (λ (z : Log). is_some z) (sym s.log) ∙ on));
    }

    -- of an end that goes on behind that
    core_step_on : (c : Connection S) (core : Inner S) → CoreStep [] c.core core → SomeStep c (record c { core = core })
    core_step_on c core s = ([], quiet_step laws c (record c { core = core }) (by_core c core s) refl)

    pub frames_handled : (now : Moment) (frames : List Frame) (mid new : Connection S) → AreFramesHandled now frames mid new → is_some mid.handshake.peer ≡ true → IsMoved mid → SomeStep mid new
    frames_handled now frames mid new (AreFramesHandled.taken control controls up lost is) greeted moved =
        let s = controls_step now frames mid.control control None controls in
        let at : Connection S = record mid { control = control } in
        let to : Connection S = record mid { core = record mid.core { remote_id = control.ids.active.id }; control = record control { queue = new.control.queue } } in
        some_by mid new to is (some_both mid at to (s.0, control_step s.0 mid control s.1 greeted moved)
        ([], quiet_step laws at to (by_parts at to (core_step mid.core to.core (kept mid.core)) refl refl refl refl refl) refl))
    frames_handled now frames mid new (AreFramesHandled.ended controls shut is) greeted moved =
        let s = controls_step now frames mid.control new.control None controls in
        some_by mid new _ is (s.0, control_step s.0 mid new.control s.1 greeted moved)
    frames_handled now frames mid new (AreFramesHandled.refused e controls f is) greeted moved =
        let s = controls_step now frames mid.control new.control _ controls in
        let at : Connection S = record mid { control = new.control } in
        some_by mid new _ is (some_both mid at (record at { core = new.core }) (s.0, control_step s.0 mid new.control s.1 greeted moved)
        (core_step_on at new.core (faulted_step [] now e mid.core mid.core new.core f (step_self mid.core))))
    frames_handled now frames mid new (AreFramesHandled.cut controls shut is) greeted moved =
        let s = controls_step now frames mid.control new.control _ controls in
        some_by mid new _ is (s.0, control_step s.0 mid new.control s.1 greeted moved)
