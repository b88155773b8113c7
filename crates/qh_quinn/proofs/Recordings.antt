-- The entries of a history.
use Rattle.std.proofs.Common.{◌≡◌, ◌⊎◌, ℕ, zero, suc, ◌+◌, ◌-◌, ◌≤◌, ◌<◌, Bool, true, false, List, [], ◌∷◌, ◌++◌, length, Option, None, Some, is_some, Result, Ok, Err, refl, sym, ap, subst, ◌∙◌, inl, inr, arith}
use Rattle.std.proofs.lemmas.Bool.{false≢true}
use Rattle.std.proofs.lemmas.Option.{same_Some}
use Rattle.std.specs.Prelude.{IfOk, IfSome, vec_capacity}
use Rattle.qh_base.specs.declared.connection_error.ConnectionError.{ConnectionError}
use Rattle.qh_base.specs.declared.memory.Memory.{Memory}
use Rattle.qh_book.specs.Book.{Book}
use Rattle.qh_book.specs.History.{IsStep, PlainEntry, Replays}
use Rattle.qh_book.specs.Pages.{RecvPage}
use Rattle.qh_book.specs.Shown.{Note}
use Rattle.qh_book.specs.Step.{Allows, Steps, StepsWith}
use Rattle.qh_book.specs.Values.{TellsValue}
use Rattle.qh_book.specs.declared.call.Call.{Call}
use Rattle.qh_book.specs.declared.call.Call.TheVariants as call
use Rattle.qh_book.specs.declared.call.Getter.{Getter}
use Rattle.qh_book.specs.declared.call.Getter.TheVariants as getter
use Rattle.qh_book.specs.declared.item.Item.{Item}
use Rattle.qh_book.specs.declared.reply.Reply.{Reply}
use Rattle.qh_book.specs.declared.reply.Reply.TheVariants as reply
use Rattle.qh_conn.specs.Items.{came}
use Rattle.qh_conn.specs.declared.connection.Connection.{Connection}
use Rattle.qh_handles.specs.Told.{IsDrive, MayReply, is_of_getter, is_there}
use Rattle.qh_handles.specs.declared.told.Told.{Told}
use Rattle.qh_handles.specs.declared.told.Told.TheVariants as told
use Rattle.qh_quinn.proofs.CallLogs.{called, came_by}
use Rattle.qh_quinn.proofs.HandleCounts.{EndsIn, ended_step, stepped}
use Rattle.qh_quinn.specs.Acting.{IsMade, IsUnmade}
use Rattle.qh_quinn.specs.Readers.{HoldsReader, reader_in}
use Rattle.qh_quinn.specs.Recording.{EndsOne, HasTold, IsEntryWith, IsLonger, IsRecorded, again, payload_of}
use Rattle.qh_quinn.specs.States.{IsState, Shows}
use Rattle.qh_quinn.specs.Told.{IsValue, TellsOf}
use Rattle.qh_quinn.specs.declared.history.Room.{Room}
use Rattle.qh_quinn.specs.declared.inner.StateInner.{StateInner}
use Rattle.qh_quinn.specs.declared.readers.Reader.{Reader}
use Rattle.qh_shown.specs.Connections.{is_wanting}

-- a half that is kept is one that a handle holds
held : (is_emptied : Bool) (reader : Option Reader) (is_held : Bool) (note : Note) (page : Option RecvPage) → HoldsReader is_emptied reader is_held note page → is_some reader ≡ true → is_held ≡ true
held is_emptied (Some r) true note page h is = refl
held is_emptied (Some r) false note page h is = absurd h
held is_emptied None is_held note page h is = absurd (false≢true is)

module _ {D : Type 0} where
  -- ---- values that are told again

  of_getter : (g : Getter) (value : Told D) → MayReply (call.Get g) (reply.Told value) → is_of_getter g value ≡ true
  of_getter getter.Rtt value may = may
  of_getter getter.MinRtt value may = may
  of_getter getter.Stats value may = may
  of_getter getter.CongestionState value may = may
  of_getter getter.HandshakeData value may = may
  of_getter getter.MaxDatagramSize value may = absurd may
  of_getter getter.DatagramSendBufferSpace value may = absurd may
  of_getter getter.Side value may = absurd may
  of_getter getter.RemoteAddress value may = absurd may
  of_getter getter.LocalIp value may = absurd may
  of_getter getter.StableId value may = absurd may

  of_data : (value : Told D) → is_there value ≡ true → is_of_getter getter.HandshakeData value ≡ true
  of_data (told.HandshakeData d) is = refl
  of_data (told.Rtt span) is = absurd (false≢true is)
  of_data (told.MinRtt span) is = absurd (false≢true is)
  of_data (told.Stats stats) is = absurd (false≢true is)
  of_data (told.CongestionState state) is = absurd (false≢true is)

  pub get_told : (g : Getter) (r : Reply (Told D)) (again : Option (Told D)) → ((value : Told D) → is_of_getter g value ≡ true → is_some again ≡ true) → MayReply (call.Get g) r → HasTold r again
  get_told g (reply.Told value) again gives may = gives value (of_getter g value may)
  get_told g r again gives may = tt

  pub data_told : (r : Reply (Told D)) (again : Option (Told D)) → ((value : Told D) → is_of_getter getter.HandshakeData value ≡ true → is_some again ≡ true) → MayReply call.HandshakeData r → HasTold r again
  data_told (reply.Told value) again gives may = gives value (of_data value may)
  data_told r again gives may = tt

  -- ---- entries step books as their calls do

  other_value : (b : Book) (g : Getter) (value again : Told D) → TellsValue b g (reply.Told value) → TellsValue b g (reply.Told again)
  other_value b getter.Rtt value again h = tt
  other_value b getter.MinRtt value again h = tt
  other_value b getter.Stats value again h = tt
  other_value b getter.CongestionState value again h = tt
  other_value b getter.HandshakeData value again h = tt
  other_value b getter.MaxDatagramSize value again h = absurd h
  other_value b getter.DatagramSendBufferSpace value again h = absurd h
  other_value b getter.Side value again h = absurd h
  other_value b getter.RemoteAddress value again h = absurd h
  other_value b getter.LocalIp value again h = absurd h
  other_value b getter.StableId value again h = absurd h

  -- the book has no such value
  other_told : (b m : Book) (c : Call) (value again : Told D) → MayReply c (reply.Told value) → Allows b c (reply.Told value) m → Allows b c (reply.Told again) m
  other_told b m call.HandshakeData value again may h = h
  other_told b m (call.Get g) value again may h = (other_value b g value again h.0, h.1)
  other_told b m c value again may h = absurd may

  again_steps : (b after : Book) (c : Call) (r : Reply (Told D)) (told : Option (Told D)) → MayReply c r → Steps b c r after → Steps b c (again r told) after
  again_steps b after c (reply.Told value) (Some other) may h = record { made = h.made; allows = other_told b h.made c value other may h.allows; is_after = h.is_after }
  again_steps b after c r told may h = h

  with_none : (b after : Book) (c : Call) (r : Reply (Told D)) (items : List Item) → (IsDrive c → ⊥) → items ≡ [] → Steps b c r after → StepsWith b c r items after
  with_none b after (call.Drive now) r items isnt none h = absurd (isnt tt)
  with_none b after c r items isnt none h = (none, h)

  entry_steps : (b after : Book) (c : Call) (r : Reply (Told D)) (told : Option (Told D)) (e : PlainEntry (Told D)) → (IsDrive c → ⊥) → MayReply c r → IsEntryWith c r told e → Steps b c r after → IsStep b e after
  entry_steps b after c r told e isnt may is h =
      subst (λ (x : Call). StepsWith b x e.reply e.items after) (sym is.call)
      (with_none b after c e.reply e.items isnt is.items (subst (λ (x : Reply (Told D)). Steps b c x after) (sym is.reply) (again_steps b after c r told may h)))

  pub behind : (history : List (PlainEntry (Told D))) (e : PlainEntry (Told D)) (b m after : Book) → Replays b history m → IsStep m e after → Replays b (history ++ e ∷ []) after
  behind [] e b m after is step = (after, subst (λ (x : Book). IsStep x e after) is step, refl)
  behind (x ∷ history) e b m after is step = (is.0, is.1, behind history e is.0 m after is.2 step)

module _ {S D : Type 0} (knows : S → Bool) (name : S → List ℕ) (name_in : D → List ℕ) where
  -- ---- what is told besides

  told_data : (c : Connection S) (error : Option ConnectionError) (value : Told D) → is_of_getter getter.HandshakeData value ≡ true → IsValue knows name name_in c getter.HandshakeData value
      → TellsOf knows name name_in c error call.HandshakeData (reply.Told value)
  told_data c error (told.HandshakeData d) of is = is
  told_data c error (told.Rtt span) of is = absurd (false≢true of)
  told_data c error (told.MinRtt span) of is = absurd (false≢true of)
  told_data c error (told.Stats stats) of is = absurd (false≢true of)
  told_data c error (told.CongestionState state) of is = absurd (false≢true of)

  pub data_again : (c : Connection S) (error : Option ConnectionError) (r : Reply (Told D)) (told : Option (Told D)) → IfSome told (λ value. (is_of_getter getter.HandshakeData value ≡ true) × IsValue knows name name_in c getter.HandshakeData value)
      → TellsOf knows name name_in c error call.HandshakeData r → TellsOf knows name name_in c error call.HandshakeData (again r told)
  data_again c error (reply.Told old) (Some value) is h = told_data c error value is.0 is.1
  data_again c error r told is h = h

  pub get_again : (c : Connection S) (error : Option ConnectionError) (g : Getter) (r : Reply (Told D)) (told : Option (Told D)) → IfSome told (λ value. (is_of_getter g value ≡ true) × IsValue knows name name_in c g value)
      → TellsOf knows name name_in c error (call.Get g) r → TellsOf knows name name_in c error (call.Get g) (again r told)
  get_again c error g (reply.Told old) (Some value) is h = is.1
  get_again c error g r told is h = h

-- ---- calls that end a handle that is there

above_or_none : (n : ℕ) → (0 < n) ⊎ (0 < n → ⊥)
above_or_none zero = inr (λ (h : 0 < 0). omega arith)
above_or_none (suc n) = inl (omega arith)

both_or_not : (A : Type 0) (x : Bool) → A ⊎ (A → ⊥) → (A × (x ≡ true)) ⊎ (A × (x ≡ true) → ⊥)
both_or_not A x (inr none) = inr (λ h. none h.0)
both_or_not A true (inl a) = inl (a, refl)
both_or_not A false (inl a) = inr (λ h. false≢true h.1)

module _ {S : Type 0} where
  ends_or_not : (s : StateInner S) (c : Call) → EndsOne s c ⊎ (EndsOne s c → ⊥)
  ends_or_not s (call.EndSend id) = above_or_none s.handles
  ends_or_not s (call.EndRecv id) = both_or_not (0 < s.handles) (is_some (reader_in s.readers id.0)) (above_or_none s.handles)
  ends_or_not s call.EndHandle = above_or_none s.handles
  ends_or_not s c = inr (λ h. h)

  ends_in : (s : StateInner S) (b : Book) (c : Call) → Shows s b → EndsOne s c → EndsIn b c
  ends_in s b (call.EndSend id) shows ends = tt
  ends_in s b (call.EndRecv id) shows ends = held (is_wanting s.connection) (reader_in s.readers id.0) (b.readers id.0) (shows.notes id.0) (b.recvs id.0) (shows.shows.readers id.0) ends.1
  ends_in s b call.EndHandle shows ends = tt
  ends_in s b c shows ends = absurd ends

module _ {S D : Type 0} where
  -- a call was made, and its entry stands behind the others
  pub call_recorded : (Tells : Reply (Told D) → Type 0) (c : Call) (r : Reply (Told D)) (old new : StateInner S) (before after : List (PlainEntry (Told D))) → (IsDrive c → ⊥) → IsRecorded old before → IsMade c r old new → IsLonger Tells c r before after → IsRecorded new after
  call_recorded Tells c r old new before after isnt kept made longer =
      let step = made.acted.each kept.last kept.shows in
      subst (λ (es : List (PlainEntry (Told D))). IsRecorded new es) (sym longer.2)
      (record {
        first = kept.first;
        is_first = kept.is_first;
        last = step.after;
        replays = behind before longer.0 kept.first kept.last step.after kept.replays (entry_steps kept.last step.after c r longer.1.told longer.0 isnt made.fits longer.1.is step.steps);
        shows = step.shows;
        taken = came_by old.connection new.connection (called c r old new made.calls.called) ∙ kept.taken;
      })

  -- none was made
  pub unmade_recorded : (old new : StateInner S) (before after : List (PlainEntry (Told D))) → IsRecorded old before → IsUnmade old new → after ≡ before → IsRecorded new after
  unmade_recorded old new before after kept unmade same =
      subst (λ (es : List (PlainEntry (Told D))). IsRecorded new es) (sym same)
      (record {
        first = kept.first;
        is_first = kept.is_first;
        last = kept.last;
        replays = kept.replays;
        shows = unmade.kept kept.last kept.shows;
        taken = ap came unmade.same ∙ kept.taken;
      })

  -- how many handles there are behind a call
  made_handles : (c : Call) (r : Reply (Told D)) (old new : StateInner S) → IsState old → IsMade c r old new → new.handles ≤ old.handles + 2
  made_handles c r old new state made =
      let step = made.acted.each state.book state.shown in
      omega (arith, stepped state.book step.after c r step.steps, sym step.shows.shows.handles, state.shown.shows.handles)

  ended_handles : (c : Call) (r : Reply (Told D)) (old new : StateInner S) → IsState old → EndsOne old c → IsMade c r old new → new.handles ≡ old.handles - 1
  ended_handles c r old new state ends made =
      let step = made.acted.each state.book state.shown in
      sym step.shows.shows.handles ∙ (ended_step state.book step.after c r (ends_in old state.book c state.shown ends) step.steps ∙ ap (λ (n : ℕ). n - 1) state.shown.shows.handles)

  -- the room that was taken for a call's entry is enough, whatever it replies
  handles_within : (c : Call) (r : Reply (Told D)) (old new : StateInner S) (more : ℕ) → IsState old → IsMade c r old new → (EndsOne old c → more ≡ old.handles - 1) → ((EndsOne old c → ⊥) → more ≡ old.handles + 2) → new.handles ≤ more
  handles_within c r old new more state made ends other = at (ends_or_not old c)
    where
      at : EndsOne old c ⊎ (EndsOne old c → ⊥) → new.handles ≤ more
      at (inl e) = omega (arith, ended_handles c r old new state e made, ends e)
      at (inr isnt) = omega (arith, made_handles c r old new state made, other isnt)

  pub room_enough : (c : Call) (old : StateInner S) (o : Result Room Memory) (bytes more len capacity : ℕ) → IsState old → ((r : Reply (Told D)) (new : StateInner S) → IsMade c r old new → length (payload_of r) ≤ bytes)
      → (EndsOne old c → Some more ≡ Some (old.handles - 1)) → ((EndsOne old c → ⊥) → more ≡ old.handles + 2)
      → IfOk o (λ room. (room.payload.items ≡ []) × (bytes ≤ vec_capacity room.payload)) → IfOk o (λ _. len + (1 + more) ≤ capacity)
      → IfOk o (λ room. (r : Reply (Told D)) (new : StateInner S) → IsMade c r old new → (length (payload_of r) ≤ vec_capacity room.payload) × (len + (1 + new.handles) ≤ capacity))
  room_enough c old (Err e) bytes more len capacity state fits ends other payload slots = tt
  room_enough c old (Ok room) bytes more len capacity state fits ends other payload slots = λ r new made.
      (omega (arith, fits r new made, payload.1), omega (arith, slots, handles_within c r old new more state made (λ e. same_Some more (old.handles - 1) (ends e)) other))
