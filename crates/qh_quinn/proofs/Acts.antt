-- A call that a book allows is one step of it, with its interest if it waits.
use Rattle.std.proofs.Common.{◌≡◌, ◌||◌, Bool, true, false, not, List, [], Option, None, Some, Result, Ok, Err, is_some, if◌then◌else◌, refl, sym, ap, subst, ◌∙◌}
use Rattle.std.specs.Prelude.{IfOk}
use Rattle.qh_base.specs.declared.connection_error.ConnectionError.{ConnectionError}
use Rattle.qh_base.specs.declared.memory.Memory.{Memory}
use Rattle.qh_book.specs.Book.{Book}
use Rattle.qh_book.specs.Forms.{IfTold, MayReply as MayReplyBy}
use Rattle.qh_book.specs.Interests.{interest_of, is_same, registered, with_interest}
use Rattle.qh_book.specs.Promises.{IsRegistered}
use Rattle.qh_book.specs.Step.{Steps, StepsWith}
use Rattle.qh_book.specs.declared.call.Call.{Call}
use Rattle.qh_book.specs.declared.call.Call.TheVariants as call
use Rattle.qh_book.specs.declared.interest.Interest.{Interest}
use Rattle.qh_book.specs.declared.item.Item.{Item}
use Rattle.qh_book.specs.declared.reply.Reply.{Reply}
use Rattle.qh_book.specs.declared.reply.Reply.TheVariants as reply
use Rattle.qh_conn.specs.Whole.{IsWhole}
use Rattle.qh_conn.specs.declared.connection.Connection.{Connection}
use Rattle.qh_core.specs.Inner.{is_open}
use Rattle.qh_handles.specs.Told.{IsDrive, IsPolled, MayReply}
use Rattle.qh_handles.specs.declared.told.Told.{Told}
use Rattle.qh_quinn.proofs.StatesKept.{connection_beside, kept, rest_by}
use Rattle.qh_quinn.specs.Acting.{Acts, Answers, IsActed, IsAnswered, IsTelling}
use Rattle.qh_quinn.specs.Readers.{HoldsReader, reader_in}
use Rattle.qh_quinn.specs.States.{IsState, Shows}
use Rattle.qh_quinn.specs.Waiting.{is_among}
use Rattle.qh_quinn.specs.declared.inner.StateInner.{StateInner}
use Rattle.qh_shown.specs.Brings.{IsLogging}
use Rattle.qh_shown.specs.Connections.{ShowsConnection, is_wanting}

-- ---- interests

pub unregistered : {T : Type 0} (c : Call) (r : Reply T) (b : Book) → (r ≡ reply.Pending → ⊥) → registered c r b ≡ b
unregistered c reply.Pending b isnt = absurd (isnt refl)
unregistered c other b isnt = refl

unpolled_send : (wait : Bool) (i : Interest) → (wait ≡ true → ⊥) → (if wait then Some i else None) ≡ None
unpolled_send true i isnt = absurd (isnt refl)
unpolled_send false i isnt = refl

-- a call that never waits has no interest
pub unpolled : (c : Call) → (IsPolled c → ⊥) → interest_of c ≡ None
unpolled call.Connecting isnt = absurd (isnt tt)
unpolled call.HandshakeData isnt = absurd (isnt tt)
unpolled (call.Open dir) isnt = absurd (isnt tt)
unpolled (call.Accept dir) isnt = absurd (isnt tt)
unpolled (call.Read id max_length is_ordered) isnt = absurd (isnt tt)
unpolled (call.Write id payload) isnt = absurd (isnt tt)
unpolled (call.Stopped id) isnt = absurd (isnt tt)
unpolled (call.ReceivedReset id) isnt = absurd (isnt tt)
unpolled call.ReadDatagram isnt = absurd (isnt tt)
unpolled (call.SendDatagram payload wait) isnt = unpolled_send wait _ isnt
unpolled call.Closed isnt = absurd (isnt tt)
unpolled other isnt = refl

some_none : {A : Type 0} (o : Option A) (x : A) → o ≡ Some x → o ≡ None → ⊥
some_none o x is none = let z : Some x ≡ None = sym is ∙ none in absurd (cc)

-- ---- values that are told

any_told : {T : Type 0} (r : Reply T) → IfTold (λ (v : T). true ≡ true) r
any_told (reply.Told v) = refl
any_told other = tt

-- a call that isn't told a value is replied in a form that doesn't depend on values
fits_any : {D : Type 0} (c : Call) (r : Reply (Told D)) → (IsTelling c → MayReply c r) → MayReplyBy (λ d (v : Told D). true ≡ true) c r → MayReply c r
fits_any call.HandshakeData r told h = told tt
fits_any (call.Get g) r told h = told tt
fits_any other r told h = h

steps_with : {T : Type 0} (b after : Book) (c : Call) (r : Reply T) → (IsDrive c → ⊥) → Steps b c r after → StepsWith b c r [] after
steps_with b after (call.Drive now) r no_turn h = absurd (no_turn tt)
steps_with b after other r no_turn h = (refl, h)

-- ---- laws of a book

abbrev pub Registers : (T : Type 0) → Type 0
Registers T = (b after : Book) (c : Call) → Steps {T = T} b c reply.Pending after → IsRegistered c after

abbrev pub Fits : (T : Type 0) → Type 0
Fits T = (is : Call → T → Bool) (b after : Book) (c : Call) (r : Reply T) (items : List Item) → StepsWith b c r items after → IfTold (λ value. is c value ≡ true) r → MayReplyBy (λ d value. is d value ≡ true) c r

registered_by : (T : Type 0) (c : Call) (i : Interest) (b : Book) → interest_of c ≡ Some i → with_interest (Some i) b ≡ registered {T = T} c reply.Pending b
registered_by T c i b is = ap (λ (z : Option Interest). with_interest z b) (sym is)

-- one that doesn't wait needs no context
pub never_armed : {T : Type 0} (result : Result (Reply T) Memory) (armed : Type 0) → IfOk result (λ r. r ≡ reply.Pending → ⊥) → IfOk result (λ r. r ≡ reply.Pending → armed)
never_armed (Ok r) armed h = λ is. absurd (h is)
never_armed (Err e) armed h = tt

module _ {S T : Type 0} where
  -- ---- calls that don't wait

  acted : (old new : StateInner S) (c : Call) (r : Reply T) → ((b : Book) → registered c r b ≡ b) → IsAnswered c r old new → IsActed c r old new
  acted old new c r same h = record {
    each = λ b shown. let a = h.each b shown in record { after = a.after; steps = record { made = a.after; allows = a.allows; is_after = sym (same a.after) }; shows = a.shows };
    state = h.state;
  }

  never_pending : Registers T → (old new : StateInner S) (c : Call) (r : Reply T) → interest_of c ≡ None → IsState old → IsAnswered c r old new → r ≡ reply.Pending → ⊥
  never_pending law old new c r none s h is =
      let k = subst (λ (z : Reply T). IsAnswered c z old new) is h in
      let a = k.each s.book s.shown in
      let its = law s.book (registered {T = T} c reply.Pending a.after) c (record { made = a.after; allows = a.allows; is_after = refl }) in
      some_none (interest_of c) its.interest its.is_its none

  -- what holds between two turns holds still
  pub acts_state : (c : Call) (result : Result (Reply T) Memory) (old new : StateInner S) → Acts c result old new → IsState new
  acts_state c (Ok r) old new h = h.state
  acts_state c (Err e) old new h = h.state

  pub plain_acts : Registers T → (c : Call) (result : Result (Reply T) Memory) (old new : StateInner S) → interest_of c ≡ None → IsState old → Answers c result old new → Acts c result old new
  plain_acts law c (Ok r) old new none s h = acted old new c r (λ b. unregistered c r b (never_pending law old new c r none s h)) h
  plain_acts law c (Err e) old new none s h = h

  pub plain_ready : Registers T → (c : Call) (result : Result (Reply T) Memory) (old new : StateInner S) → interest_of c ≡ None → IsState old → Answers c result old new → IfOk result (λ r. r ≡ reply.Pending → ⊥)
  plain_ready law c (Ok r) old new none s h = never_pending law old new c r none s h
  plain_ready law c (Err e) old new none s h = tt

  -- it has a reply
  pub replied : (c : Call) (r : Reply T) (old new : StateInner S) → (r ≡ reply.Pending → ⊥) → IsAnswered c r old new → IsActed c r old new
  replied c r old new isnt h = acted old new c r (λ b. unregistered c r b isnt) h

  -- ---- room for one that waits is made before

  pub answered_from : (old mid new : StateInner S) (c : Call) (result : Result (Reply T) Memory) → ((b : Book) → Shows old b → Shows mid b) → Answers c result mid new → Answers c result old new
  answered_from old mid new c (Ok r) f h = record { each = λ b shown. h.each b (f b shown); state = h.state }
  answered_from old mid new c (Err e) f h = record { each = λ b shown. h.each b (f b shown); state = h.state }

module _ {S : Type 0} where
  -- room was made for one more that waits
  pub roomy : (old new : StateInner S) → new ≡ record old { waiting = new.waiting } → new.waiting.items ≡ old.waiting.items → (b : Book) → Shows old b → Shows new b
  roomy old new is items = kept old new (rest_by old new (record old { waiting = new.waiting }) is (record { is_connected = refl; readers = λ k. refl; stable_id = refl; error = refl; handles = refl; interests = λ i. ap (λ (z : List _). is_among i z) items }))
      (ap (λ (z : StateInner S). z.connection) is)

  -- ---- calls that wait

  -- one more call waits
  pub record OneWaits (i : Interest) (old new : StateInner S) : Type 0 where
    pub connection : new.connection ≡ old.connection
    pub is_connected : new.is_connected ≡ old.is_connected
    pub readers : new.readers ≡ old.readers
    pub stable_id : new.stable_id ≡ old.stable_id
    pub error : new.error ≡ old.error
    pub handles : new.handles ≡ old.handles
    pub waits : (j : Interest) → is_among j new.waiting.items ≡ (is_among j old.waiting.items || is_same i j)

  waits_shows : (i : Interest) (old new : StateInner S) (b : Book) → OneWaits i old new → Shows old b → Shows new (with_interest (Some i) b)
  waits_shows i old new b is h = record {
    notes = h.notes;
    shows = record {
      connection = subst (λ (z : Connection S). ShowsConnection new.is_connected z h.notes (with_interest (Some i) b)) (sym is.connection)
          (subst (λ (z : Bool). ShowsConnection z old.connection h.notes (with_interest (Some i) b)) (sym is.is_connected) (connection_beside old.is_connected old.connection h.notes b h.shows.connection));
      readers = λ k. subst (λ (z : Connection S). HoldsReader (is_wanting z) (reader_in new.readers k) (b.readers k) (h.notes k) (b.recvs k)) (sym is.connection)
          (subst (λ (z : _). HoldsReader (is_wanting old.connection) (reader_in z k) (b.readers k) (h.notes k) (b.recvs k)) (sym is.readers) (h.shows.readers k));
      untouched = record { unheld = h.shows.untouched.unheld; page = h.shows.untouched.page };
      stable_id = h.shows.stable_id ∙ sym is.stable_id;
      error = h.shows.error ∙ sym is.error;
      handles = h.shows.handles ∙ sym is.handles;
      interests = λ j. ap (λ (z : Bool). z || is_same i j) (h.shows.interests j) ∙ sym (is.waits j);
    };
  }

  waits_state : (i : Interest) (old new : StateInner S) → OneWaits i old new → IsState old → IsState new
  waits_state i old new is h = record {
    whole = subst (λ (z : Connection S). IsWhole z) (sym is.connection) h.whole;
    lost = ap (λ (z : Option ConnectionError). is_some z) is.error ∙ h.lost ∙ ap (λ (z : Connection S). not (is_open z.core.state)) (sym is.connection);
    told = ap (λ (z : Connection S). z.is_connected_due) is.connection ∙ h.told;
    logging = subst (λ (z : Connection S). IsLogging z) (sym is.connection) h.logging;
    book = with_interest (Some i) h.book;
    shown = waits_shows i old new h.book is h.shown;
  }

module _ {S T : Type 0} where
  pub pending_acts : (c : Call) (i : Interest) (old mid new : StateInner S) → interest_of c ≡ Some i → OneWaits i mid new → IsAnswered {T = T} c reply.Pending old mid → IsActed {T = T} c reply.Pending old new
  pending_acts c i old mid new interest is h = record {
    each = λ b shown. let a = h.each b shown in record { after = with_interest (Some i) a.after; steps = record { made = a.after; allows = a.allows; is_after = registered_by T c i a.after interest }; shows = waits_shows i mid new a.after is a.shows };
    state = waits_state i mid new is h.state;
  }

module _ {S D : Type 0} where
  -- the reply has a form that the call may have
  pub fits : Fits (Told D) → (c : Call) (result : Result (Reply (Told D)) Memory) (old new : StateInner S) → (IsDrive c → ⊥) → IsState old → (IsTelling c → IfOk result (λ r. MayReply c r)) → Answers c result old new → IfOk result (λ r. MayReply c r)
  fits law c (Err e) old new no_turn s told h = tt
  fits law c (Ok r) old new no_turn s told h =
      let a = h.each s.book s.shown in
      fits_any c r told (law (λ d v. true) s.book (registered c r a.after) c r [] (steps_with s.book (registered c r a.after) c r no_turn (record { made = a.after; allows = a.allows; is_after = refl })) (any_told r))
