-- What acts on one stream do to a client.
use Rattle.std.proofs.Common.{◌≡◌, ℕ, ◌*◌, true, false, List, [], ◌++◌, drop, Option, Some, None, IfSome, Result, Ok, Err, IsErr, inl, inr, refl, sym, ap, ◌∙◌, subst, append_assoc, append-nil}
use Rattle.std.proofs.lemmas.Bool.{both_ways}
use Rattle.std.proofs.lemmas.List.{take-append-drop}
use Rattle.qh_base.specs.declared.memory.Memory.{Memory as OutOfMemory}
use Rattle.qh_core.specs.declared.inner.Inner.{Inner}
use Rattle.qh_roles.proofs.Acts.{same_written, same_finished, same_pieces, same_read, same_ended, untouched_append, unread_append, on_append, none_on, writing_kept, reading_kept}
use Rattle.qh_roles.specs.Client.{Asks, IsAskedIn, SpellsAsked}
use Rattle.qh_roles.specs.ClientSteps.{Advances, AsksOn, IsAdvanced, IsSent}
use Rattle.qh_roles.specs.Going.{WentFrom}
use Rattle.qh_roles.specs.Streams.{Outgoing, Incoming, IsUntouched, IsUnread, IsFresh, AreOn, IsWriting, HasWritten, IsWrittenTo, IsReading, HasRead, IsReadTo, IsStirred, Writes, ReadsOn}
use Rattle.qh_roles.specs.declared.client.RequestState.{RequestState}
use Rattle.qh_roles.specs.declared.client.RequestState.TheVariants.{Sending, Receiving, Done}
use Rattle.qh_roles.specs.declared.incoming.ReadState.{ReadState}
use Rattle.qh_roles.specs.declared.outgoing.WriteState.{WriteState}
use Rattle.qh_roles.specs.declared.outgoing.WriteState.TheVariants as writing
use Rattle.qh_spec.specs.Lawful.{AreInOrder, ReadsMessage}
use Rattle.qh_spec.specs.Message.{PlainMessage, IsResponse}
use Rattle.qh_spec.specs.Spelling.{Spells}
use Rattle.qh_spec.specs.Transcript.{Act, written, finished, pieces_read, read, ended}

-- ---- what acts leave that don't touch a stream

asks_untouched : (requests : List PlainMessage) (t u : List Act) (stream : ℕ) → IsUntouched u stream → Asks requests t stream → Asks requests (t ++ u) stream
asks_untouched requests t u stream untouched a = record {
  index = a.index;
  asked = a.asked;
  asked_is = a.asked_is;
  stream_is = a.stream_is;
  is_request = a.is_request;
  writes = record {
    bytes = a.writes.bytes;
    spells = a.writes.spells;
    rest = a.writes.rest;
    front = a.writes.front ∙ ap (λ (z : List ℕ). z ++ a.writes.rest) (sym (same_written t u stream untouched.0));
    whole = λ f. a.writes.whole (sym (same_finished t u stream untouched.1) ∙ f);
  };
}

pub asks_kept : (requests : List PlainMessage) (t u : List Act) (stream : ℕ) → IsUntouched u stream → AsksOn requests t stream → AsksOn requests (t ++ u) stream
asks_kept requests t u stream untouched (inl none) = inl (untouched_append t u stream none untouched)
asks_kept requests t u stream untouched (inr a) = inr (asks_untouched requests t u stream untouched a)

pub answer_kept : (t u : List Act) (stream : ℕ) (m : PlainMessage) → IsUnread u stream → ReadsMessage t stream m → ReadsMessage (t ++ u) stream m
answer_kept t u stream m unread r = record {
  in_order = subst (AreInOrder 0) (sym (same_pieces t u stream unread.0)) r.in_order;
  to_the_end = same_ended t u stream unread.1 ∙ r.to_the_end;
  spells = subst (λ (z : List ℕ). Spells z m) (sym (same_read t u stream unread.0)) r.spells;
}

-- a stream whose end wasn't told has given no message
pub no_answer : (t u : List Act) (stream : ℕ) (m : PlainMessage) → ended t stream ≡ false → ReadsMessage t stream m → ReadsMessage (t ++ u) stream m
no_answer t u stream m endless r = absurd (both_ways (ended t stream) endless r.to_the_end)

pub asked_kept : (requests : List PlainMessage) (t u : List Act) (index : ℕ) (state : RequestState) → IsFresh u (4 * index) → IsAskedIn requests t index state → IsAskedIn requests (t ++ u) index state
asked_kept requests t u index (Sending o) fresh is =
    (is.0, is.1, writing_kept t u o (subst (IsUntouched u) (sym is.0) fresh.0) is.2, unread_append t u (4 * index) is.3 fresh.1)
asked_kept requests t u index (Receiving i) fresh is = (is.0, reading_kept t u i (subst (IsUnread u) (sym is.0) fresh.1) is.1)
asked_kept requests t u index Done fresh is = tt

-- ---- one state

pub asks_writing : (requests : List PlainMessage) (t : List Act) (index : ℕ) (o : Outgoing) → o.stream ≡ 4 * index → SpellsAsked requests index o.bytes → IsWriting t o → Asks requests t o.stream
asks_writing requests t index o at s w = record {
  index = index;
  asked = s.asked;
  asked_is = s.asked_is;
  stream_is = at;
  is_request = s.is_request;
  writes = record {
    bytes = o.bytes;
    spells = s.spells;
    rest = drop o.taken o.bytes;
    front = sym (ap (λ (z : List ℕ). z ++ drop o.taken o.bytes) w.written_is ∙ take-append-drop o.taken o.bytes);
    whole = λ f. absurd (both_ways (finished t o.stream) w.unfinished f);
  };
}

pub asks_written : (requests : List PlainMessage) (t : List Act) (index : ℕ) (o : Outgoing) → o.stream ≡ 4 * index → SpellsAsked requests index o.bytes → HasWritten t o → Asks requests t o.stream
asks_written requests t index o at s w = record {
  index = index;
  asked = s.asked;
  asked_is = s.asked_is;
  stream_is = at;
  is_request = s.is_request;
  writes = record {
    bytes = o.bytes;
    spells = s.spells;
    rest = [];
    front = sym (append-nil (written t o.stream) ∙ w.written_is);
    whole = λ f. refl;
  };
}

asks_to : (requests : List PlainMessage) (result : Result WriteState OutOfMemory) (t : List Act) (index : ℕ) (o : Outgoing) → o.stream ≡ 4 * index → SpellsAsked requests index o.bytes
    → IsWrittenTo result t o → Asks requests t o.stream
asks_to requests (Ok writing.Finished) t index o at s w = asks_written requests t index o at s w
asks_to requests (Ok writing.Blocked) t index o at s w = asks_writing requests t index o at s w
asks_to requests (Ok writing.Refused) t index o at s w = asks_writing requests t index o at s w
asks_to requests (Err e) t index o at s w = asks_writing requests t index o at s w

-- the request of a state that sends
abbrev pub SpellsOf : List PlainMessage → (index : ℕ) → Outgoing → Type 0
SpellsOf requests index o = (o.stream ≡ 4 * index) × SpellsAsked requests index o.bytes

pub sent_err : (requests : List PlainMessage) (index : ℕ) (r : Result RequestState OutOfMemory) (t : List Act) → IsErr r → IsSent requests index r t
sent_err requests index (Ok state) t h = absurd (both_ways false refl h)
sent_err requests index (Err e) t h = tt

pub advanced_err : (requests : List PlainMessage) (index : ℕ) (r : Result (RequestState × Option PlainMessage) OutOfMemory) (t : List Act) → IsErr r → IsAdvanced requests index r t
advanced_err requests index (Ok r) t h = absurd (both_ways false refl h)
advanced_err requests index (Err e) t h = tt

module _ {S : Type 0} where
  pub stirred_still : (c : Inner S) → IsStirred c c
  stirred_still c = record { rest_is = refl; counts = record { bi_opened = refl; bi_accepted = refl; uni_opened = refl; uni_accepted = refl } }

module _ {S : Type 0} (start : Inner S) (before : List Act) where
  -- nothing was done
  pub rests : (Is : List Act → Type 0) (requests : List PlainMessage) (index : ℕ) (c : Inner S) (t : List Act) → WentFrom start before c t → Is t → Advances start before Is requests index c t
  rests Is requests index c t follows is = record {
    acts = [];
    on = none_on (4 * index);
    follows = subst (WentFrom start before c) (sym (append-nil t)) follows;
    asks = λ a. subst (λ (u : List Act). AsksOn requests u (4 * index)) (sym (append-nil t)) a;
    answered = λ m a. subst (λ (u : List Act). ReadsMessage u (4 * index) m) (sym (append-nil t)) a;
    is = subst Is (sym (append-nil t)) is;
  }

  -- a state that doesn't send
  pub left_alone : (requests : List PlainMessage) (index : ℕ) (state : RequestState) (c : Inner S) (t : List Act) → WentFrom start before c t → IsAskedIn requests t index state → Advances start before (IsSent requests index (Ok state)) requests index c t
  left_alone requests index state c t follows is = rests (IsSent requests index (Ok state)) requests index c t follows is

  -- one step behind another
  pub advances_after : (Is Was : List Act → Type 0) (requests : List PlainMessage) (index : ℕ) (mid new : Inner S) (t : List Act) → (first : Advances start before Was requests index mid t)
      → Advances start before Is requests index new (t ++ first.acts) → Advances start before Is requests index new t
  advances_after Is Was requests index mid new t first second = record {
    acts = first.acts ++ second.acts;
    on = on_append (4 * index) first.acts second.acts first.on second.on;
    follows = subst (WentFrom start before new) (append_assoc t first.acts second.acts) second.follows;
    asks = λ a. subst (λ (u : List Act). AsksOn requests u (4 * index)) (append_assoc t first.acts second.acts) (second.asks (first.asks a));
    answered = λ m a. subst (λ (u : List Act). ReadsMessage u (4 * index) m) (append_assoc t first.acts second.acts) (second.answered m (first.answered m a));
    is = subst Is (append_assoc t first.acts second.acts) second.is;
  }

  -- the same acts, of which less is said
  pub advances_as : (Is Was : List Act → Type 0) (requests : List PlainMessage) (index : ℕ) (new : Inner S) (t : List Act) → ((u : List Act) → Was u → Is u)
      → Advances start before Was requests index new t → Advances start before Is requests index new t
  advances_as Is Was requests index new t less a = record { acts = a.acts; on = a.on; follows = a.follows; asks = a.asks; answered = a.answered; is = less (t ++ a.acts) a.is }

  -- a write of a request
  pub write_advances : (Is : List Act → Type 0) (requests : List PlainMessage) (index : ℕ) (result : Result WriteState OutOfMemory) (old o : Outgoing) (new : Inner S) (t : List Act)
      → IsAskedIn requests t index (Sending old) → (o.stream ≡ old.stream) × (o.bytes ≡ old.bytes) → Writes start before result o new t
      → ((u : List Act) → SpellsOf requests index o → IsWrittenTo result u o → IsUnread u (4 * index) → Is u) → Advances start before Is requests index new t
  write_advances Is requests index result old o new t is same w f =
      let at : o.stream ≡ 4 * index = same.0 ∙ is.0 in
      let s : SpellsAsked requests index o.bytes = subst (SpellsAsked requests index) (sym same.1) is.1 in
      record {
        acts = w.acts;
        on = subst (λ (k : ℕ). AreOn k w.acts) at w.on;
        follows = w.follows;
        asks = λ a. inr (subst (Asks requests (t ++ w.acts)) at (asks_to requests result (t ++ w.acts) index o at s w.is));
        answered = λ m a. no_answer t w.acts (4 * index) m is.3.1 a;
        is = f (t ++ w.acts) (at, s) w.is (unread_append t w.acts (4 * index) is.3 (subst (IsUnread w.acts) at w.unread));
      }

  -- a stream is given up: what was done before stays
  pub given_up_advances : (requests : List PlainMessage) (index stream : ℕ) (new : Inner S) (t acts : List Act) → stream ≡ 4 * index
      → AreOn stream acts → IsFresh acts stream → WentFrom start before new (t ++ acts) → Advances start before (IsSent requests index (Ok Done)) requests index new t
  given_up_advances requests index stream new t acts at on fresh follows =
      let still : IsFresh acts (4 * index) = subst (IsFresh acts) at fresh in
      record {
        acts = acts;
        on = subst (λ (k : ℕ). AreOn k acts) at on;
        follows = follows;
        asks = asks_kept requests t acts (4 * index) still.0;
        answered = λ m. answer_kept t acts (4 * index) m still.1;
        is = tt;
      }

  -- a read of an answer
  pub read_advances : (Is : List Act → Type 0) (requests : List PlainMessage) (index : ℕ) (result : Result ReadState OutOfMemory) (old i : Incoming) (new : Inner S) (t : List Act)
      → old.stream ≡ 4 * index → IsReading t old → i.stream ≡ old.stream → ReadsOn start before result i new t
      → ((u : List Act) → i.stream ≡ 4 * index → IsReadTo result u i → Is u) → Advances start before Is requests index new t
  read_advances Is requests index result old i new t place is same r f =
      let at : i.stream ≡ 4 * index = same ∙ place in
      let still : IsUntouched r.acts (4 * index) = subst (IsUntouched r.acts) at r.untouched in
      record {
        acts = r.acts;
        on = subst (λ (k : ℕ). AreOn k r.acts) at r.on;
        follows = r.follows;
        asks = asks_kept requests t r.acts (4 * index) still;
        answered = λ m a. no_answer t r.acts (4 * index) m (subst (λ (k : ℕ). ended t k ≡ false) place is.endless) a;
        is = f (t ++ r.acts) at r.is;
      }

-- what was read to the end is the message that its bytes spell
pub answer_read : (t : List Act) (index : ℕ) (i : Incoming) (found : Option PlainMessage) → i.stream ≡ 4 * index → HasRead t i → IfSome found (λ m. Spells i.bytes m × IsResponse m.head)
    → IfSome found (λ m. IsResponse m.head × ReadsMessage t (4 * index) m)
answer_read t index i None at r spelled = tt
answer_read t index i (Some m) at r spelled = (
  spelled.1,
  record {
    in_order = subst (λ (k : ℕ). AreInOrder 0 (pieces_read t k)) at r.in_order;
    to_the_end = subst (λ (k : ℕ). ended t k ≡ true) at r.to_the_end;
    spells = subst (λ (z : List ℕ). Spells z m) (sym (subst (λ (k : ℕ). read t k ≡ i.bytes) at r.bytes_are)) spelled.0;
  },
)
