-- A turn of the driver stands behind the other entries of a history.
use Rattle.std.proofs.Common.{◌≡◌, ◌⊎◌, ◌+◌, ◌≤◌, ℕ, Bool, true, false, List, [], ◌∷◌, ◌++◌, map, Option, None, Some, Result, Ok, Err, OnOk, is_err, inl, inr, refl, sym, ap, subst, ◌∙◌, arith}
use Rattle.std.proofs.lemmas.Bool.{false≢true}
use Rattle.std.specs.Option.{option_map}
use Rattle.futures.specs.declared.task.Poll.{Poll}
use Rattle.futures.specs.declared.task.Poll.TheVariants.{Ready}
use Rattle.qh_base.specs.declared.time.Moment.{Moment}
use Rattle.qh_book.specs.Book.{Book}
use Rattle.qh_book.specs.History.{PlainEntry}
use Rattle.qh_book.specs.Shown.{Note}
use Rattle.qh_book.specs.declared.call.Call.TheVariants as call
use Rattle.qh_conn.specs.Items.{came}
use Rattle.qh_conn.specs.declared.connection.Connection.{Connection}
use Rattle.qh_control.specs.Items.{logged}
use Rattle.qh_control.specs.declared.items.ConnectionItem.{ConnectionItem}
use Rattle.qh_handles.specs.Turns.{turn_reply}
use Rattle.qh_handles.specs.declared.told.Told.{Told}
use Rattle.qh_handshake.specs.Incoming.{SessionView}
use Rattle.qh_quinn.proofs.Recordings.{behind}
use Rattle.qh_quinn.specs.Kept.{IsLogTaken, IsTurnKeptIn, PlainState, TurnsKept}
use Rattle.qh_quinn.specs.Losses.{lost_items, new_loss}
use Rattle.qh_quinn.specs.Recording.{IsRecorded}
use Rattle.qh_quinn.specs.States.{Shows, ShowsWith}
use Rattle.qh_quinn.specs.Turning.{HasSentAll, IsTurned}
use Rattle.qh_quinn.specs.declared.inner.StateInner.{StateInner}
use Rattle.qh_runtime.specs.Socket.{poll_failed}
use Rattle.qh_runtime.specs.declared.runtime.IoFault.{IoFault}
use Rattle.qh_runtime.specs.declared.runtime.IoFault.TheVariants as faults
use Rattle.qh_runtime.specs.declared.runtime.OutMessage.{OutMessage}
use Rattle.qh_shown.specs.Connections.{ShowsConnection}
use Rattle.qh_shown.specs.Items.{item_of}

module _ {S : Type 0} where
  -- the connection with another log
  abbrev with_log : Option (List ConnectionItem) → Connection S → Connection S
  with_log log c = record c { control = record c.control { log = log } }

  -- a book doesn't have what its log holds
  log_shown : (told : Bool) (log : Option (List ConnectionItem)) (c : Connection S) (notes : ℕ → Note) (b : Book) → ShowsConnection told c notes b → ShowsConnection told (with_log log c) notes b
  log_shown told log c notes b h = record {
    side = h.side;
    addresses = h.addresses;
    connected = h.connected;
    drained = h.drained;
    live = λ calm. let l = h.live calm in record {
      streams = l.streams;
      datagrams = l.datagrams;
      kept = l.kept;
      ungreeted = λ none. let u = l.ungreeted none in record { streams = u.streams; side = u.side; window = u.window; log = u.log; most = u.most };
    };
    emptied = h.emptied;
  }

  pub log_taken_shows : (mid new : StateInner S) (b : Book) → IsLogTaken mid new → Shows mid b → Shows new b
  log_taken_shows mid new b taken h = subst (λ (z : StateInner S). Shows z b) (sym taken)
      (record {
        notes = h.notes;
        shows = record {
          connection = log_shown mid.is_connected (option_map (λ _. []) mid.connection.control.log) mid.connection h.notes b h.shows.connection;
          readers = h.shows.readers;
          untouched = h.shows.untouched;
          stable_id = h.shows.stable_id;
          error = h.shows.error;
          handles = h.shows.handles;
          interests = h.shows.interests;
        };
      })

  pub log_taken_sent : (mid new : StateInner S) → IsLogTaken mid new → HasSentAll mid → HasSentAll new
  log_taken_sent mid new taken h = subst (λ (z : StateInner S). HasSentAll z) (sym taken)
      (record { none_waits = h.none_waits; before = h.before; silent = h.silent; mid = h.mid; still = h.still; was_told = h.was_told; log = h.log; told = h.told })

  -- what the log held is what the turn brought
  pub brought_is : (old mid : Connection S) (items : List ConnectionItem) → came old ≡ Some [] → came mid ≡ logged (came old) items → came mid ≡ Some items
  brought_is old mid items none is = is ∙ ap (λ (l : Option (List ConnectionItem)). logged l items) none

-- what holds of an Ok
pub if_ok : {T E : Type 0} (r : Result T E) (P : Type 0) → is_err r ≡ false → OnOk r P → P
if_ok (Ok x) P is h = h
if_ok (Err e) P is h = absurd (false≢true (sym is))

module _ {S D : Type 0} where
  pub turn_in : (v : SessionView S) (old : StateInner S) (before between after : List (PlainEntry (Told D))) (now : Moment) (is_held : Bool) (out : List OutMessage) (answer : Poll (Result (Unit {0}) IoFault)) (mid new : StateInner S)
      (turned : IsTurned (Told D) v old now is_held out answer mid) → IsRecorded old before → IsLogTaken mid new → between ≡ before
      → ((items : List ConnectionItem) → came mid.connection ≡ Some items
      → after ≡ between ++ record { call = call.Drive now; reply = turn_reply answer; items = map item_of items ++ lost_items (new_loss (poll_failed answer) old mid) } ∷ [])
      → IsTurnKeptIn v old before now is_held out answer new after
  turn_in v old before between after now is_held out answer mid new turned kept taken same entry =
      let e : PlainEntry (Told D) = record { call = call.Drive now; reply = turn_reply answer; items = map item_of turned.items ++ lost_items (new_loss (poll_failed answer) old mid) } in
      record {
        mid = mid;
        turned = turned;
        taken = taken;
        kept = entry turned.items (brought_is old.connection mid.connection turned.items kept.taken turned.logs) ∙ ap (λ (es : List (PlainEntry (Told D))). es ++ e ∷ []) same;
      }

  pub turn_recorded : (v : SessionView S) (old : StateInner S) (before : List (PlainEntry (Told D))) (now : Moment) (is_held : Bool) (out : List OutMessage) (answer : Poll (Result (Unit {0}) IoFault)) (new : StateInner S) (after : List (PlainEntry (Told D)))
      → IsRecorded old before → IsTurnKeptIn v old before now is_held out answer new after → came new.connection ≡ Some [] → IsRecorded new after
  turn_recorded v old before now is_held out answer new after kept turn none =
      let step = turn.turned.each kept.last kept.shows in
      let e : PlainEntry (Told D) = record { call = call.Drive now; reply = turn_reply answer; items = map item_of turn.turned.items ++ lost_items (new_loss (poll_failed answer) old turn.mid) } in
      subst (λ (es : List (PlainEntry (Told D))). IsRecorded new es) (sym turn.kept)
      (record {
        first = kept.first;
        is_first = kept.is_first;
        last = step.after;
        replays = behind before e kept.first kept.last step.after kept.replays step.steps;
        shows = log_taken_shows turn.mid new step.after turn.taken step.shows;
        taken = none;
      })

  -- what a state that keeps its history says of it
  pub turns_kept : (v : SessionView S) (old new : StateInner S) (before after : List (PlainEntry (Told D))) (now : Moment) (is_held : Bool) (out : List OutMessage) (answer : Poll (Result (Unit {0}) IoFault))
      → IsTurnKeptIn v old before now is_held out answer new after ⊎ ((answer ≡ Ready (Err faults.Memory)) × (out ≡ []) × (new ≡ old) × (after ≡ before))
      → TurnsKept v (record { inner = old; history = Some before }) now is_held out answer (record { inner = new; history = Some after })
  turns_kept v old new before after now is_held out answer (inl turn) = inl (record { after = after; is_after = refl; kept = turn })
  turns_kept v old new before after now is_held out answer (inr none) = inr (record {
    answer_is = none.0;
    none = none.1;
    same = ap (λ (z : StateInner S). record { inner = z; history = Some after }) none.2 ∙ ap (λ (es : List (PlainEntry (Told D))). record { inner = old; history = Some es }) none.3;
  })
