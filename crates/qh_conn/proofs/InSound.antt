-- What holds of a connection at every moment holds still as its control frames are taken.
use Rattle.std.proofs.Common.{◌≡◌, ◌<◌, take, length, true, false, Bool, ℕ, List, is_some, inl, inr, refl, [], ◌∷◌, if◌then◌else◌, Option, None, ap, subst, Result, Ok, Err, ◌∙◌, sym}
use Rattle.std.specs.Prelude.{OnOk, OnErr}
use Rattle.qh_conn.proofs.LogKept.{current_by}
use Rattle.qh_conn.specs.Items.{IsLogCurrent}
use Rattle.qh_conn.specs.Whole.{IsSafe, IsSound, IsWhole}
use Rattle.qh_conn.specs.declared.connection.Connection.{Connection}
use Rattle.qh_control.specs.Control.{IsSendable, KeepsSendable, may_announce, with_all_issued, with_issued}
use Rattle.qh_control.specs.declared.event.IssuedCid.{IssuedCid}
use Rattle.qh_control.specs.declared.control.ControlState.{ControlState}
use Rattle.qh_base.specs.declared.time.Moment.{Moment}
use Rattle.qh_core.specs.Inner.{IsSameEnd, is_open}
use Rattle.qh_core.specs.Receiving.{IsClosedHeard, IsDatagramTaken, IsDatagramUnread}
use Rattle.qh_core.specs.declared.config.ConnConfig.{ConnConfig as CoreConfig}
use Rattle.qh_core.specs.declared.inner.Inner.{Inner}
use Rattle.qh_control.specs.Queue.{PlainQueue as ControlQueue, StaySendable}
use Rattle.qh_packet.specs.Session.{AcceptsTag}
use Rattle.qh_spec.specs.declared.sides.Side.{Side}

module _ {S : Type 0} where
  pub sound_control : (c : Connection S) (control : ControlState) → IsSound c → KeepsSendable c.core.side c.control control → length control.ids.active.id ≡ length c.control.ids.active.id
      → IsSound (record c { control = control })
  sound_control c control s keeps long = record {
    handshake = s.handshake;
    side_is = s.side_is;
    id_is = s.id_is;
    as_long = s.as_long ∙ sym long;
    sendable = keeps c.core.config.peer_datagram s.sendable;
    ungreeted = s.ungreeted;
    connected = s.connected;
  }

pub on_ok : {X E : Type 0} (P Q : Type 0) → (P → Q) → (r : Result X E) → OnOk r P → OnOk r Q
on_ok P Q f (Ok x) is = f is
on_ok P Q f (Err e) is = cc

module _ {S : Type 0} where
  -- so it is as the end of the 1-RTT packets goes on, and closes
  pub sound_core : (c : Connection S) (core : Inner S) → IsSound c → IsSameEnd c.core core → (is_open core.state ≡ true → is_open c.core.state ≡ true) → IsSound (record c { core = core })
  sound_core c core s same still = record {
    handshake = s.handshake;
    side_is = same.side ∙ s.side_is;
    id_is = same.local_id ∙ s.id_is;
    as_long = same.remote_length ∙ s.as_long;
    sendable = subst (λ (side : Side). IsSendable side core.config.peer_datagram c.control) (sym same.side)
        (subst (λ (k : CoreConfig). IsSendable c.core.side k.peer_datagram c.control) (sym same.config) s.sendable);
    ungreeted = λ e. ap (λ (k : CoreConfig). k.peer_datagram) same.config ∙ s.ungreeted e;
    connected = s.connected;
  }

  pub shut_core : (c : Connection S) (core : Inner S) → IsSound c → IsLogCurrent c → IsSameEnd c.core core → is_open core.state ≡ false → core.space.log ≡ c.core.space.log → IsWhole (record c { core = core })
  shut_core c core s current same shut log = record {
    sound = sound_core c core s same (λ up. let z : true ≡ false = sym up ∙ shut in cc);
    current = current_by c (record c { core = core }) (λ on. on) refl log current;
    client = λ _ _. inr shut;
  }

  -- and as a datagram is counted
  pub sound_counted : (c : Connection S) (n : ℕ) → IsSound c → IsSound (record c { handshake = record c.handshake { bytes_received = n } })
  sound_counted c n s = record {
    handshake = record {
      space = s.handshake.space;
      token = s.handshake.token;
      server = s.handshake.server;
      source = s.handshake.source;
      origin = s.handshake.origin;
      validated = s.handshake.validated;
      greeted = s.handshake.greeted;
      held = s.handshake.held;
      said = s.handshake.said;
    };
    side_is = s.side_is;
    id_is = s.id_is;
    as_long = s.as_long;
    sendable = s.sendable;
    ungreeted = s.ungreeted;
    connected = s.connected;
  }

  -- an end that closed stays so
  pub shut_heard : (b : Bool) (old new : Inner S) → is_open old.state ≡ false → IsClosedHeard b old new → is_open new.state ≡ false
  shut_heard b old new shut (IsClosedHeard.told_again reason due until was brings e) = ap (λ (c : Inner S). is_open c.state) e
  shut_heard b old new shut (IsClosedHeard.closed_too reason due until was brings e) = ap (λ (c : Inner S). is_open c.state) e
  shut_heard b old new shut (IsClosedHeard.draining until was e) = ap (λ (c : Inner S). is_open c.state) e ∙ shut
  shut_heard b old new shut (IsClosedHeard.drained was e) = ap (λ (c : Inner S). is_open c.state) e ∙ shut

  pub shut_taken : (accepts : AcceptsTag) (now : Moment) (d : List ℕ) (old new : Inner S) → is_open old.state ≡ false → IsDatagramTaken accepts now d old new → is_open new.state ≡ false
  shut_taken accepts now d old new shut (IsDatagramTaken.dropped up none e) = let z : true ≡ false = sym up ∙ shut in cc
  shut_taken accepts now d old new shut (IsDatagramTaken.handled number frames up opened handled) = let z : true ≡ false = sym up ∙ shut in cc
  shut_taken accepts now d old new shut (IsDatagramTaken.told_again reason due until was none e) = ap (λ (c : Inner S). is_open c.state) e
  shut_taken accepts now d old new shut (IsDatagramTaken.closed_too reason due until was brings e) = ap (λ (c : Inner S). is_open c.state) e
  shut_taken accepts now d old new shut (IsDatagramTaken.draining until was e) = ap (λ (c : Inner S). is_open c.state) e ∙ shut
  shut_taken accepts now d old new shut (IsDatagramTaken.drained was e) = ap (λ (c : Inner S). is_open c.state) e ∙ shut

  -- it takes a datagram without memory
  pub taken_anyway : {X E : Type 0} (accepts : AcceptsTag) (now : Moment) (d : List ℕ) (old new : Inner S) (r : Result X E) → is_open old.state ≡ false → OnOk r (IsDatagramTaken accepts now d old new)
      → OnErr r (IsDatagramUnread accepts now d old) → IsDatagramTaken accepts now d old new
  taken_anyway accepts now d old new (Ok x) shut ok err = ok
  taken_anyway accepts now d old new (Err e) shut ok err = let z : true ≡ false = sym err.opened ∙ shut in cc

  pub safe_of : (c : Connection S) → IsSound c → IsSafe c
  safe_of c s = record {
    handshake = s.handshake;
    side_is = s.side_is;
    id_is = s.id_is;
    as_long = s.as_long;
    sendable = s.sendable;
    ungreeted = s.ungreeted;
    connected = λ e. (s.connected e).0;
  }

  pub whole_core : (c : Connection S) (core : Inner S) → IsWhole c → IsSameEnd c.core core → is_open c.core.state ≡ true → core.space.log ≡ c.core.space.log → IsWhole (record c { core = core })
  whole_core c core w same up log = record {
    sound = sound_core c core w.sound same (λ _. up);
    current = current_by c (record c { core = core }) (λ on. on) refl log w.current;
    client = λ side greeted. elim (w.client side greeted) [ inl k ↦ inl k | inr shut ↦ let z : true ≡ false = sym up ∙ shut in cc ];
  }

  pub sound_queue : (c : Connection S) (q : ControlQueue) → IsSound c → StaySendable c.control.queue q → IsSound (record c { control = record c.control { queue = q } })
  sound_queue c q s stays = sound_control c (record c.control { queue = q }) s
      (λ peer_datagram is. record { frames = stays c.core.side peer_datagram is.frames; peer = is.peer; bounded = is.bounded; payloads = is.payloads }) refl

  pub whole_queue : (c : Connection S) (q : ControlQueue) → IsSound c → IsLogCurrent c → c.is_connected ≡ true → StaySendable c.control.queue q → IsWhole (record c { control = record c.control { queue = q } })
  whole_queue c q s current k stays = record { sound = sound_queue c q s stays; current = current; client = λ _ _. inl k }

  pub sound_idle : (c n : Connection S) → IsSound c → n ≡ record c { core = record c.core { idle = n.core.idle } } → IsSound n
  sound_idle c n s e = subst (λ (z : Connection S). IsSound z) (sym e)
      (sound_core c (record c.core { idle = n.core.idle }) s (record { side = refl; local_id = refl; remote_length = refl; config = refl }) (λ up. up))

  not_connected : (c : Connection S) (k : Bool) → c.is_connected ≡ k → IsSound c → c.handshake.peer ≡ None → k ≡ false
  not_connected c false is s none = refl
  not_connected c true is s none = let z : true ≡ false = sym (s.connected is).0 ∙ ap is_some none in cc

  pub unready : (c : Connection S) → IsSound c → c.handshake.peer ≡ None → (c.is_connected ≡ false) × IsSendable c.core.side None c.control
  unready c s none = (not_connected c c.is_connected refl s none, subst (λ (p : Option ℕ). IsSendable c.core.side p c.control) (s.ungreeted none) s.sendable)

  pub whole_control : (c : Connection S) (control : ControlState) → IsWhole c → KeepsSendable c.core.side c.control control → length control.ids.active.id ≡ length c.control.ids.active.id
      → control.log ≡ c.control.log → IsWhole (record c { control = control })
  whole_control c control w keeps long log = record {
    sound = sound_control c control w.sound keeps long;
    current = current_by c (record c { control = control }) (λ on. ap is_some (sym log) ∙ on) refl refl w.current;
    client = w.client;
  }

if_ids : (b : Bool) (x y : ControlState) → x.ids ≡ y.ids → (if b then x else y).ids ≡ y.ids
if_ids true x y same = same
if_ids false x y same = refl

-- ids that are issued leave the peer's as they are
pub issued_ids : (s : ControlState) (cids : List IssuedCid) → (with_all_issued s cids).ids ≡ s.ids
issued_ids s [] = refl
issued_ids s (cid ∷ cids) = issued_ids (with_issued s cid) cids ∙ if_ids (may_announce s cid) _ s refl

pub issued_long : {E : Type 0} (result : Result Unit E) (old new : ControlState) (cids : List IssuedCid) → OnOk result (new ≡ with_all_issued old cids)
    → OnErr result ((count : ℕ) × (count < length cids) × (new ≡ with_all_issued old (take count cids))) → length new.ids.active.id ≡ length old.ids.active.id
issued_long (Ok x) old new cids ok err = ap (λ (s : ControlState). length s.ids.active.id) ok ∙ ap (λ i. length i.active.id) (issued_ids old cids)
issued_long (Err e) old new cids ok err = ap (λ (s : ControlState). length s.ids.active.id) err.2 ∙ ap (λ i. length i.active.id) (issued_ids old (take err.0 cids))

if_log : (b : Bool) (x y : ControlState) → x.log ≡ y.log → (if b then x else y).log ≡ y.log
if_log true x y same = same
if_log false x y same = refl

issued_log : (s : ControlState) (cids : List IssuedCid) → (with_all_issued s cids).log ≡ s.log
issued_log s [] = refl
issued_log s (cid ∷ cids) = issued_log (with_issued s cid) cids ∙ if_log (may_announce s cid) _ s refl

-- nor is anything logged by it
pub issued_unlogged : {E : Type 0} (result : Result Unit E) (old new : ControlState) (cids : List IssuedCid) → OnOk result (new ≡ with_all_issued old cids)
    → OnErr result ((count : ℕ) × (count < length cids) × (new ≡ with_all_issued old (take count cids))) → new.log ≡ old.log
issued_unlogged (Ok x) old new cids ok err = ap (λ (s : ControlState). s.log) ok ∙ issued_log old cids
issued_unlogged (Err e) old new cids ok err = ap (λ (s : ControlState). s.log) err.2 ∙ issued_log old (take err.0 cids)
