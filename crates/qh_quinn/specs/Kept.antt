-- States that may keep their history.
use Rattle.std.specs.Prelude.{◌≡◌, ◌⊎◌, ◌+◌, ◌≤◌, ◌++◌, ◌∷◌, ℕ, Bool, List, [], map, Option, Some, None, Result, Err, MatchOption, vec_len, vec_capacity}
use Rattle.std.specs.Option.{option_map}
use Rattle.futures.specs.declared.task.Poll.{Poll}
use Rattle.futures.specs.declared.task.Poll.TheVariants.{Ready}
use Rattle.qh_base.specs.declared.time.Moment.{Moment}
use Rattle.qh_book.specs.History.{PlainEntry}
use Rattle.qh_book.specs.declared.call.Call.{Call}
use Rattle.qh_book.specs.declared.call.Call.TheVariants as call
use Rattle.qh_book.specs.declared.reply.Reply.TheVariants as reply
use Rattle.qh_conn.specs.Items.{came}
use Rattle.qh_control.specs.declared.items.ConnectionItem.{ConnectionItem}
use Rattle.qh_handles.specs.Turns.{turn_reply}
use Rattle.qh_handles.specs.declared.told.Told.{Told}
use Rattle.qh_handshake.specs.Incoming.{SessionView}
use Rattle.qh_quinn.specs.Acting.{IsFree}
use Rattle.qh_quinn.specs.Losses.{lost_items, new_loss}
use Rattle.qh_quinn.specs.Recording.{EndsOne, IsRecorded}
use Rattle.qh_quinn.specs.Turning.{IsTurned}
use Rattle.qh_quinn.specs.declared.history.History.{History}
use Rattle.qh_quinn.specs.declared.inner.StateInner.{StateInner}
use Rattle.qh_runtime.specs.Socket.{poll_failed}
use Rattle.qh_runtime.specs.declared.runtime.IoFault.{IoFault}
use Rattle.qh_runtime.specs.declared.runtime.OutMessage.{OutMessage}
use Rattle.qh_shown.specs.Items.{item_of}

-- `D` is what the handshake tells
pub record PlainState (S D : Type 0) : Type 0 where
  pub inner : StateInner S
  -- the entries, if they are kept
  pub history : Option (List (PlainEntry (Told D)))

module _ {S : Type 0} where
  -- what the connection's log held is taken out of it
  abbrev pub IsLogTaken : (old new : StateInner S) → Type 0
  IsLogTaken old new = new ≡ record old { connection = record old.connection { control = record old.connection.control { log = option_map (λ _. []) old.connection.control.log } } }

module _ {S D : Type 0} where
  -- the end of each handle that there is can be kept without memory
  abbrev pub HasHistory : StateInner S → Option (History (Told D)) → Type 0
  HasHistory s None = Unit {0}
  HasHistory s (Some h) = IsRecorded s h.entries.items × (vec_len h.entries + s.handles ≤ vec_capacity h.entries)

  -- The call takes no memory. Where the history is kept each call takes that of its entry, but for the end of a handle.
  abbrev pub IsFreeAt : PlainState S D → Call → Type 0
  IsFreeAt s c = MatchOption s.history (IsFree c) (λ history. EndsOne s.inner c)

  -- ---- how a history begins

  -- by a turn that brings what the connection holds
  pub record BeginsHistory (old : StateInner S) (history : Option (List (PlainEntry (Told D)))) : Type 0 where
    pub items : List ConnectionItem
    pub logged : came old.connection ≡ Some items
    pub is : history ≡ Some (record { call = call.Drive old.last_turn; reply = reply.Pending; items = map item_of items ++ lost_items old.error } ∷ [])

  -- ---- turns

  -- a turn was made, and is the history's last entry with what it brought
  pub record IsTurnKeptIn (v : SessionView S) (old : StateInner S) (before : List (PlainEntry (Told D))) (now : Moment) (is_held : Bool) (out : List OutMessage) (answer : Poll (Result (Unit {0}) IoFault)) (new : StateInner S) (after : List (PlainEntry (Told D))) : Type 0 where
    pub mid : StateInner S
    pub turned : IsTurned (Told D) v old now is_held out answer mid
    pub taken : IsLogTaken mid new
    pub kept : after ≡ before ++ record { call = call.Drive now; reply = turn_reply answer; items = map item_of turned.items ++ lost_items (new_loss (poll_failed answer) old mid) } ∷ []

  pub record IsTurnKept (v : SessionView S) (old : StateInner S) (before : List (PlainEntry (Told D))) (now : Moment) (is_held : Bool) (out : List OutMessage) (answer : Poll (Result (Unit {0}) IoFault)) (new : PlainState S D) : Type 0 where
    pub after : List (PlainEntry (Told D))
    pub is_after : new.history ≡ Some after
    pub kept : IsTurnKeptIn v old before now is_held out answer new.inner after

  -- or none was, for want of memory for its entry
  pub record IsUnturned (old : PlainState S D) (out : List OutMessage) (answer : Poll (Result (Unit {0}) IoFault)) (new : PlainState S D) : Type 0 where
    pub answer_is : answer ≡ Ready (Err IoFault.Memory)
    pub none : out ≡ []
    pub same : new ≡ old

  abbrev pub TurnsKept : SessionView S → PlainState S D → Moment → (is_held : Bool) → List OutMessage → Poll (Result (Unit {0}) IoFault) → PlainState S D → Type 0
  TurnsKept v old now is_held out answer new = MatchOption old.history
      (IsTurned (Told D) v old.inner now is_held out answer new.inner × (new.history ≡ None))
      (λ history. IsTurnKept v old.inner history now is_held out answer new ⊎ IsUnturned old out answer new)
