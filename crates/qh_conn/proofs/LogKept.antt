-- What is in the log of a connection stays in it, and what came to the streams is in it.
use Rattle.std.proofs.Common.{◌≡◌, ◌⊎◌, ◌||◌, ◌&&◌, not, Bool, true, false, if◌then◌else◌, List, [], ◌∷◌, ◌++◌, map, Option, None, Some, is_some, Result, Ok, Err, refl, sym, ap, subst, ◌∙◌, inl, inr, append_assoc}
use Rattle.std.proofs.lemmas.List.{append-nil}
use Rattle.std.specs.Prelude.{OnErr, OnOk}
use Rattle.std.specs.Option.{option_map}
use Rattle.qh_base.specs.declared.connection_error.ConnectionError.{ConnectionError}
use Rattle.qh_base.specs.declared.connection_error.ConnectionError.TheVariants as error
use Rattle.qh_conn.proofs.CoreLog.{KeepsTold}
use Rattle.qh_conn.specs.Items.{IsLogCurrent, IsLogEnded, LogGoesOn, came, is_connected_since, loss, noted_in, streams_taken, own_items}
use Rattle.qh_conn.specs.declared.connection.Connection.{Connection}
use Rattle.qh_base.specs.declared.time.Moment.{Moment}
use Rattle.qh_control.specs.Control.{IsControlTaken}
use Rattle.qh_control.specs.Items.{logged, streamed}
use Rattle.qh_control.specs.Queue.{PlainQueue}
use Rattle.qh_control.specs.declared.control.ControlState.{ControlState}
use Rattle.qh_control.specs.declared.items.ConnectionItem.{ConnectionItem}
use Rattle.qh_control.specs.declared.items.ConnectionItem.TheVariants as item
use Rattle.qh_core.specs.declared.inner.Inner.{Inner}
use Rattle.qh_core.specs.declared.stats.UdpStats.{UdpStats}
use Rattle.qh_frame.specs.declared.frame.Frame.{Frame}
use Rattle.qh_space.specs.declared.data_space.DataSpace.{DataSpace}
use Rattle.qh_streams.specs.declared.items.Item.{Item}

abbrev pub Log : Type 0
Log = Option (List ConnectionItem)

-- ---- logs

pub logged_none : (log : Log) → logged log [] ≡ log
logged_none None = refl
logged_none (Some items) = ap (λ (z : List ConnectionItem). Some z) (append-nil items)

pub logged_both : (log : Log) (a b : List ConnectionItem) → logged (logged log a) b ≡ logged log (a ++ b)
logged_both None a b = refl
logged_both (Some items) a b = ap (λ (z : List ConnectionItem). Some z) (append_assoc items a b)

pub logged_on : (log : Log) (more : List ConnectionItem) → is_some (logged log more) ≡ is_some log
logged_on None more = refl
logged_on (Some items) more = refl

pub came_on : (log : Log) (items : List ConnectionItem) → (is_some log ≡ true → items ≡ []) → logged log items ≡ log
came_on None items none = refl
came_on (Some all) items none = ap (λ (z : List ConnectionItem). Some (all ++ z)) (none refl) ∙ logged_none (Some all)

-- one that was taken is on if it was
pub left_on : {X E : Type 0} (r : Result X E) (old new : Log) → OnOk r (new ≡ option_map (λ _. []) old) → OnErr r (new ≡ old) → is_some new ≡ true → is_some old ≡ true
left_on (Ok x) None new ok err on = ap is_some (sym ok) ∙ on
left_on (Ok x) (Some items) new ok err on = refl
left_on (Err e) old new ok err on = ap is_some (sym err) ∙ on

pub left_off : (old new : Log) → new ≡ option_map (λ _. []) old → is_some new ≡ true → is_some old ≡ true
left_off None new is on = ap is_some (sym is) ∙ on
left_off (Some items) new is on = refl

pub none_left : (streams : Option (List Item)) → streamed (option_map (λ _. []) streams) ≡ []
none_left None = refl
none_left (Some items) = refl

-- ---- what tells of the connection itself

pub own_both : (a b : List ConnectionItem) → own_items (a ++ b) ≡ own_items a ++ own_items b
own_both [] b = refl
own_both (item.Connected ∷ a) b = ap (λ (z : List ConnectionItem). item.Connected ∷ z) (own_both a b)
own_both (item.Lost e ∷ a) b = ap (λ (z : List ConnectionItem). item.Lost e ∷ z) (own_both a b)
own_both (item.Stream i ∷ a) b = own_both a b
own_both (item.Datagram payload ∷ a) b = own_both a b
own_both (item.DatagramsSent count ∷ a) b = ap (λ (z : List ConnectionItem). item.DatagramsSent count ∷ z) (own_both a b)
own_both (item.MaxDatagramSize most ∷ a) b = own_both a b

streams_own : (items : List Item) → own_items (map (λ (i : Item). item.Stream i) items) ≡ []
streams_own [] = refl
streams_own (i ∷ items) = streams_own items

-- what comes to the streams tells nothing of it
pub streamed_own : (streams : Option (List Item)) → own_items (streamed streams) ≡ []
streamed_own None = refl
streamed_own (Some items) = streams_own items

abbrev since : (old new : Bool) → Bool
since old new = not old && new

abbrev pub told_of : Bool → List ConnectionItem
told_of is = if is then item.Connected ∷ [] else []

none_since : (k : Bool) → since k k ≡ false
none_since true = refl
none_since false = refl

both_since : (a b c : Bool) → (a ≡ true → b ≡ true) → (b ≡ true → c ≡ true) → told_of (since a b) ++ told_of (since b c) ≡ told_of (since a c)
both_since true true c ab bc = refl
both_since true false c ab bc = let z : false ≡ true = ab refl in cc
both_since false true true ab bc = refl
both_since false true false ab bc = let z : false ≡ true = bc refl in cc
both_since false false c ab bc = refl

due_since : (a b c due : Bool) → (a ≡ true → b ≡ true) → (b ≡ true → c ≡ true) → (since b c || (since a b || due)) ≡ (since a c || due)
due_since true true c due ab bc = refl
due_since true false c due ab bc = let z : false ≡ true = ab refl in cc
due_since false true true due ab bc = refl
due_since false true false due ab bc = let z : false ≡ true = bc refl in cc
due_since false false c due ab bc = refl

-- ---- a frame of the connection's own

-- what is logged of it tells nothing of the connection itself
pub frame_log : (now : Moment) (old new : ControlState) (f : Frame) → IsControlTaken now old new f → (more : List ConnectionItem) × (new.log ≡ logged old.log more) × (own_items more ≡ [])
frame_log now old new _ (IsControlTaken.new_id _ _ _ _ is) = ([], ap (λ (s : ControlState). s.log) is ∙ sym (logged_none old.log), refl)
frame_log now old new _ (IsControlTaken.retire _ is) = ([], ap (λ (s : ControlState). s.log) is ∙ sym (logged_none old.log), refl)
frame_log now old new _ (IsControlTaken.ack _ _ is) = ([], ap (λ (s : ControlState). s.log) is ∙ sym (logged_none old.log), refl)
frame_log now old new _ (IsControlTaken.given _ is) = ([], ap (λ (s : ControlState). s.log) is ∙ sym (logged_none old.log), refl)
frame_log now old new _ (IsControlTaken.datagram payload _ _ _ _ is) = (item.Datagram payload.now ∷ [], ap (λ (s : ControlState). s.log) is, refl)
frame_log now old new _ (IsControlTaken.undue _ _ _ is) = ([], ap (λ (s : ControlState). s.log) is ∙ sym (logged_none old.log), refl)
frame_log now old new _ (IsControlTaken.passive _ _ is) = ([], ap (λ (s : ControlState). s.log) is ∙ sym (logged_none old.log), refl)

-- what is unknown now was before, if what is known stays
unknown_still : {A : Type 0} (old new : Option A) → (is_some old ≡ true → new ≡ old) → new ≡ None → old ≡ None
unknown_still None new kept none = refl
unknown_still (Some x) new kept none = sym (kept refl) ∙ none

module _ {S : Type 0} where
  -- ---- the log goes on

  -- what is told of the connection is as before, by events too
  pub record HasSameFlags (old new : Connection S) : Type 0 where
    pub connected : new.is_connected ≡ old.is_connected
    pub due : new.is_connected_due ≡ old.is_connected_due
    pub data_due : old.is_data_due ≡ true → new.is_data_due ≡ true
    pub lost_logged : new.is_lost_logged ≡ old.is_lost_logged
    pub told : KeepsTold old.core new.core

  abbrev pub GoesOn : (old new : Connection S) → Type 0
  GoesOn old new = (more : List ConnectionItem) × LogGoesOn more old new

  -- items come that tell nothing of it
  pub quiet_goes : (more : List ConnectionItem) (old new : Connection S) → HasSameFlags old new → new.control.log ≡ logged old.control.log more → own_items more ≡ [] → LogGoesOn more old new
  quiet_goes more old new same log quiet =
      let none : is_connected_since old new ≡ false = ap (λ (k : Bool). not old.is_connected && k) same.connected ∙ none_since old.is_connected in
      record {
        log_is = log;
        own = quiet ∙ sym (ap told_of none);
        connected = λ is. same.connected ∙ is;
        due = same.due ∙ sym (ap (λ (k : Bool). k || old.is_connected_due) none);
        data_due = same.data_due;
        lost_logged = same.lost_logged;
        lost_told = same.told.lost;
        drained_told = same.told.drained;
      }

  -- none comes
  pub same_goes : (old new : Connection S) → HasSameFlags old new → new.control.log ≡ old.control.log → LogGoesOn [] old new
  same_goes old new same log = quiet_goes [] old new same (log ∙ sym (logged_none old.control.log)) refl

  pub self_flags : (c : Connection S) → HasSameFlags c c
  self_flags c = record { connected = refl; due = refl; data_due = λ is. is; lost_logged = refl; told = record { lost = refl; drained = refl } }

  -- by what becomes of its parts
  pub flags_by : (old new : Connection S) (to : Connection S) → new ≡ to → HasSameFlags old to → HasSameFlags old new
  flags_by old new to is same = subst (λ (z : Connection S). HasSameFlags old z) (sym is) same

  pub stands_still : (c : Connection S) → GoesOn c c
  stands_still c = ([], same_goes c c (self_flags c) refl)

  -- its frames alone changed, by one that came
  pub frame_goes : {X E : Type 0} (r : Result X E) (now : Moment) (c : Connection S) (control : ControlState) (f : Frame) → OnOk r (IsControlTaken now c.control control f) → OnErr r (control.log ≡ c.control.log)
      → GoesOn c (record c { control = control })
  frame_goes (Ok x) now c control f taken same =
      let log = frame_log now c.control control f taken in
      (log.0, quiet_goes log.0 c (record c { control = control }) (record { connected = refl; due = refl; data_due = λ due. due; lost_logged = refl; told = record { lost = refl; drained = refl } }) log.1 log.2)
  frame_goes (Err e) now c control f taken same =
      ([], same_goes c (record c { control = control }) (record { connected = refl; due = refl; data_due = λ due. due; lost_logged = refl; told = record { lost = refl; drained = refl } }) same)

  -- the end of its 1-RTT packets alone went on
  pub core_goes : (c : Connection S) (core : Inner S) → KeepsTold c.core core → LogGoesOn [] c (record c { core = core })
  core_goes c core told = same_goes c (record c { core = core }) (record { connected = refl; due = refl; data_due = λ due. due; lost_logged = refl; told = told }) refl

  -- what it is of stands in the parts of a connection that a datagram's count isn't of
  pub counted_goes : (more : List ConnectionItem) (c : Connection S) (u : UdpStats) (new : Connection S) → LogGoesOn more (record c { udp_rx = u }) new → LogGoesOn more c new
  counted_goes more c u new p = record {
    log_is = p.log_is;
    own = p.own;
    connected = p.connected;
    due = p.due;
    data_due = p.data_due;
    lost_logged = p.lost_logged;
    lost_told = p.lost_told;
    drained_told = p.drained_told;
  }

  pub goes_both : (first later : List ConnectionItem) (old mid new : Connection S) → LogGoesOn first old mid → LogGoesOn later mid new → LogGoesOn (first ++ later) old new
  goes_both first later old mid new p q = record {
    log_is = q.log_is ∙ ap (λ (z : Log). logged z later) p.log_is ∙ logged_both old.control.log first later;
    own = own_both first later ∙ ap (λ (z : List ConnectionItem). z ++ own_items later) p.own ∙ ap (λ (z : List ConnectionItem). told_of (is_connected_since old mid) ++ z) q.own
        ∙ both_since old.is_connected mid.is_connected new.is_connected p.connected q.connected;
    connected = λ is. q.connected (p.connected is);
    due = q.due ∙ ap (λ (z : Bool). is_connected_since mid new || z) p.due ∙ due_since old.is_connected mid.is_connected new.is_connected old.is_connected_due p.connected q.connected;
    data_due = λ is. q.data_due (p.data_due is);
    lost_logged = q.lost_logged ∙ p.lost_logged;
    lost_told = q.lost_told ∙ p.lost_told;
    drained_told = q.drained_told ∙ p.drained_told;
  }

  pub goes_on : (old mid new : Connection S) → GoesOn old mid → GoesOn mid new → GoesOn old new
  goes_on old mid new p q = (p.0 ++ q.0, goes_both p.0 q.0 old mid new p.1 q.1)

  -- ---- what came to the streams is in it

  pub current_by : (old new : Connection S) → (is_some new.control.log ≡ true → is_some old.control.log ≡ true) → new.handshake.peer ≡ old.handshake.peer → new.core.space.log ≡ old.core.space.log
      → IsLogCurrent old → IsLogCurrent new
  current_by old new on peer log current either =
      ap (λ (z : Option (List Item)). streamed z) log ∙ current (elim either [ inl is ↦ inl (on is) | inr none ↦ inr (sym peer ∙ none) ])

  off_current : (c : Connection S) → (c.handshake.peer ≡ None → streamed c.core.space.log ≡ []) → (false ≡ true) ⊎ (c.handshake.peer ≡ None) → streamed c.core.space.log ≡ []
  off_current c ungreeted (inl on) = let z : false ≡ true = on in cc
  off_current c ungreeted (inr none) = ungreeted none

  -- it is then moved into it
  pub noted_current : (log : Log) (more : List ConnectionItem) (c : Connection S) → (c.handshake.peer ≡ None → streamed c.core.space.log ≡ []) → IsLogCurrent (noted_in log more c)
  noted_current None more c ungreeted either = off_current c ungreeted either
  noted_current (Some items) more c ungreeted either = none_left c.core.space.log

  pub taken_current : (log : Log) (c : Connection S) → IsLogCurrent c → IsLogCurrent (record c { core = streams_taken log c.core })
  taken_current None c current either = current either
  taken_current (Some items) c current either = none_left c.core.space.log

  -- frames of its own come
  pub frames_current : (old new : Connection S) → new ≡ record old { core = new.core; control = new.control } → new.core.space ≡ old.core.space → GoesOn old new → IsLogCurrent old → IsLogCurrent new
  frames_current old new is space goes current =
      current_by old new (λ on. sym (logged_on old.control.log goes.0) ∙ (ap is_some (sym goes.1.log_is) ∙ on)) (ap (λ (z : Connection S). z.handshake.peer) is) (ap (λ (z : DataSpace). z.log) space) current

  -- packets go to the id in use, and frames that were lost wait again
  pub followed_goes : (old mid : Connection S) (q : PlainQueue) → mid ≡ record old { core = record old.core { remote_id = old.control.ids.active.id } } → LogGoesOn [] old (record mid { control = record mid.control { queue = q } })
  followed_goes old mid q is =
      let new = record mid { control = record mid.control { queue = q } } in
      same_goes old new (flags_by old new (record old { core = record old.core { remote_id = old.control.ids.active.id }; control = record old.control { queue = q } })
      (ap (λ (z : Connection S). record z { control = record z.control { queue = q } }) is)
      (record { connected = refl; due = refl; data_due = λ due. due; lost_logged = refl; told = record { lost = refl; drained = refl } })) (ap (λ (z : Connection S). z.control.log) is)

  -- the handshake took a datagram, or memory was wanting for it
  pub fed_goes : (old new : Connection S) → new ≡ record old { handshake = new.handshake; core = record old.core { session = new.core.session } } → LogGoesOn [] old new
  fed_goes old new is =
      same_goes old new (flags_by old new _ is (record { connected = refl; due = refl; data_due = λ due. due; lost_logged = refl; told = record { lost = refl; drained = refl } })) (ap (λ (z : Connection S). z.control.log) is)

  pub restarted_goes : (old new : Connection S) → new ≡ record old { core = record old.core { idle = new.core.idle } } → LogGoesOn [] old new
  restarted_goes old new is =
      same_goes old new (flags_by old new _ is (record { connected = refl; due = refl; data_due = λ due. due; lost_logged = refl; told = record { lost = refl; drained = refl } })) (ap (λ (z : Connection S). z.control.log) is)

  pub fed_current : (old new : Connection S) → new ≡ record old { handshake = new.handshake; core = record old.core { session = new.core.session } } → (is_some old.handshake.peer ≡ true → new.handshake.peer ≡ old.handshake.peer)
      → IsLogCurrent old → IsLogCurrent new
  fed_current old new is kept current either =
      ap (λ (z : Connection S). streamed z.core.space.log) is
      ∙ current (elim either [
        | inl on ↦ inl (ap (λ (z : Connection S). is_some z.control.log) (sym is) ∙ on)
        | inr none ↦ inr (unknown_still old.handshake.peer new.handshake.peer kept none)
      ])

  pub restarted_current : (old new : Connection S) → new ≡ record old { core = record old.core { idle = new.core.idle } } → IsLogCurrent old → IsLogCurrent new
  restarted_current old new is current =
      current_by old new (λ on. ap (λ (z : Connection S). is_some z.control.log) (sym is) ∙ on) (ap (λ (z : Connection S). z.handshake.peer) is) (ap (λ (z : Connection S). z.core.space.log) is) current

  -- ---- want of memory

  pub came_current : (c : Connection S) → IsLogCurrent c → came c ≡ c.control.log
  came_current c current = came_on c.control.log (streamed c.core.space.log) (λ on. current (inl on))

  pub log_ended : (more : List ConnectionItem) (before old new : Connection S) → IsLogCurrent before → LogGoesOn more before old → HasSameFlags old new → new.control.log ≡ old.control.log
      → streamed new.core.space.log ≡ [] → new.core.error ≡ Some error.Memory → IsLogEnded more before new
  log_ended more before old new current goes same log none wanting =
      let on = subst (λ (z : List ConnectionItem). LogGoesOn z before new) (append-nil more) (goes_both more [] before old new goes (same_goes old new same log)) in
      record {
        goes_on = on;
        untaken_is =
            ap (λ (z : List ConnectionItem). logged new.control.log (z ++ loss new.is_lost_logged new.core.error)) none
            ∙ ap (λ (z : Bool). logged new.control.log (loss z new.core.error)) on.lost_logged
            ∙ ap (λ (z : Option ConnectionError). logged new.control.log (loss before.is_lost_logged z)) wanting
            ∙ ap (λ (z : Log). logged z (loss before.is_lost_logged (Some error.Memory))) (on.log_is ∙ ap (λ (z : Log). logged z more) (sym (came_current before current)))
            ∙ logged_both (came before) more (loss before.is_lost_logged (Some error.Memory));
      }

  -- the same, by what is answered
  pub ended_by : {E : Type 0} (r s : Result Unit E) (old mid new : Connection S) → s ≡ r → IsLogCurrent old → OnErr r (GoesOn old mid)
      → OnErr r ((before : Connection S) (more : List ConnectionItem) → IsLogCurrent before → LogGoesOn more before mid → IsLogEnded more before new) → OnErr s ((more : List ConnectionItem) × IsLogEnded more old new)
  ended_by (Ok x) s old mid new same current goes ends = subst (λ (z : Result Unit _). OnErr z ((more : List ConnectionItem) × IsLogEnded more old new)) (sym same) tt
  ended_by (Err e) s old mid new same current goes ends =
      subst (λ (z : Result Unit _). OnErr z ((more : List ConnectionItem) × IsLogEnded more old new)) (sym same) (goes.0, ends old goes.0 current goes.1)

  -- the same of a call that added nothing
  pub ended_without : {E : Type 0} (r s : Result Unit E) (old mid new : Connection S) → s ≡ r → IsLogCurrent old → LogGoesOn [] old mid
      → OnErr r ((before : Connection S) (more : List ConnectionItem) → IsLogCurrent before → LogGoesOn more before mid → IsLogEnded more before new) → OnErr s (IsLogEnded [] old new)
  ended_without (Ok x) s old mid new same current goes ends = subst (λ (z : Result Unit _). OnErr z (IsLogEnded [] old new)) (sym same) tt
  ended_without (Err e) s old mid new same current goes ends = subst (λ (z : Result Unit _). OnErr z (IsLogEnded [] old new)) (sym same) (ends old [] current goes)
