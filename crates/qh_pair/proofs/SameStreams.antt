-- Acts that no writer and no reader of a stream sees leave each stream as it was.
use Rattle.std.proofs.Common.{◌≡◌, ◌⊎◌, inl, inr, ◌*◌, Bool, true, false, List, [], ◌∷◌, ◌++◌, ℕ, refl, sym, ◌∙◌, ap, subst, append-nil}
use Rattle.std.specs.Prelude.{◌||◌}
use Rattle.qh_roles.specs.Client.{PlainClient, Asking, Asks, IsAskedIn}
use Rattle.qh_roles.specs.Server.{PlainServer, IsHandledIn, Responds, Serving}
use Rattle.qh_roles.specs.Streams.{IsFresh, IsReading, IsUnread, IsUntouched, IsWriting, Outgoing, Incoming}
use Rattle.qh_roles.specs.declared.client.RequestState.{RequestState}
use Rattle.qh_roles.specs.declared.client.RequestState.TheVariants.{Sending, Receiving, Done}
use Rattle.qh_roles.specs.declared.server.HandlerState.{HandlerState}
use Rattle.qh_roles.specs.declared.server.HandlerState.TheVariants as handler
use Rattle.qh_spec.specs.Lawful.{AreInOrder, WritesMessage, ReadsMessage}
use Rattle.qh_spec.specs.Message.{PlainMessage}
use Rattle.qh_spec.specs.Record.{PlainEntry}
use Rattle.qh_spec.specs.Spelling.{Spells}
use Rattle.qh_spec.specs.Transcript.{Act, HandedIn, HandedOut, written, finished, pieces_read, joined, ended}
use Rattle.qh_spec.proofs.TranscriptLaws.{written-append, finished-append, pieces_read-append, ended-append}
use Rattle.qh_pair.specs.Steps.{IsQuiet}

-- ---- quiet acts

pub quiet_nothing : IsQuiet []
quiet_nothing s = ((refl, refl), (refl, refl))

pub quiet_in : (d : List ℕ) → IsQuiet (HandedIn d ∷ [])
quiet_in d s = ((refl, refl), (refl, refl))

pub quiet_out : (d : List ℕ) → IsQuiet (HandedOut d ∷ [])
quiet_out d s = ((refl, refl), (refl, refl))

pub quiet_more : (u v : List Act) → IsQuiet u → IsQuiet v → IsQuiet (u ++ v)
quiet_more u v a b s = (
  (
    written-append u v s ∙ (ap (λ (z : List ℕ). z ++ written v s) (a s).0.0 ∙ (b s).0.0),
    finished-append u v s ∙ (ap (λ (z : Bool). z || finished v s) (a s).0.1 ∙ (b s).0.1),
  ),
  (
    pieces_read-append u v s ∙ (ap (λ (z : List (ℕ × List ℕ)). z ++ pieces_read v s) (a s).1.0 ∙ (b s).1.0),
    ended-append u v s ∙ (ap (λ (z : Bool). z || ended v s) (a s).1.1 ∙ (b s).1.1),
  ),
)

-- ---- streams that are the same

pub record SameStreams (t u : List Act) : Type 0 where
  pub written_is : (s : ℕ) → written u s ≡ written t s
  pub finished_is : (s : ℕ) → finished u s ≡ finished t s
  pub pieces_are : (s : ℕ) → pieces_read u s ≡ pieces_read t s
  pub ended_is : (s : ℕ) → ended u s ≡ ended t s

or_false : (b : Bool) → b || false ≡ b
or_false true = refl
or_false false = refl

pub quiet_same : (t u : List Act) → IsQuiet u → SameStreams t (t ++ u)
quiet_same t u q = record {
  written_is = λ s. written-append t u s ∙ (ap (λ (z : List ℕ). written t s ++ z) (q s).0.0 ∙ append-nil (written t s));
  finished_is = λ s. finished-append t u s ∙ (ap (λ (z : Bool). finished t s || z) (q s).0.1 ∙ or_false (finished t s));
  pieces_are = λ s. pieces_read-append t u s ∙ (ap (λ (z : List (ℕ × List ℕ)). pieces_read t s ++ z) (q s).1.0 ∙ append-nil (pieces_read t s));
  ended_is = λ s. ended-append t u s ∙ (ap (λ (z : Bool). ended t s || z) (q s).1.1 ∙ or_false (ended t s));
}

untouched_same : (t u : List Act) (s : ℕ) → SameStreams t u → IsUntouched t s → IsUntouched u s
untouched_same t u s e n = (e.written_is s ∙ n.0, e.finished_is s ∙ n.1)

unread_same : (t u : List Act) (s : ℕ) → SameStreams t u → IsUnread t s → IsUnread u s
unread_same t u s e n = (e.pieces_are s ∙ n.0, e.ended_is s ∙ n.1)

fresh_same : (t u : List Act) (s : ℕ) → SameStreams t u → IsFresh t s → IsFresh u s
fresh_same t u s e n = (untouched_same t u s e n.0, unread_same t u s e n.1)

writing_same : (t u : List Act) (o : Outgoing) → SameStreams t u → IsWriting t o → IsWriting u o
writing_same t u o e w = record { written_is = e.written_is o.stream ∙ w.written_is; unfinished = e.finished_is o.stream ∙ w.unfinished }

reading_same : (t u : List Act) (i : Incoming) → SameStreams t u → IsReading t i → IsReading u i
reading_same t u i e r = record {
  in_order = subst (λ (z : List (ℕ × List ℕ)). AreInOrder 0 z) (sym (e.pieces_are i.stream)) r.in_order;
  bytes_are = ap joined (e.pieces_are i.stream) ∙ r.bytes_are;
  endless = e.ended_is i.stream ∙ r.endless;
}

writes_same : (t u : List Act) (s : ℕ) (m : PlainMessage) → SameStreams t u → WritesMessage t s m → WritesMessage u s m
writes_same t u s m e w = record {
  bytes = w.bytes;
  spells = w.spells;
  rest = w.rest;
  front = w.front ∙ ap (λ (z : List ℕ). z ++ w.rest) (sym (e.written_is s));
  whole = λ h. w.whole (sym (e.finished_is s) ∙ h);
}

reads_same : (t u : List Act) (s : ℕ) (m : PlainMessage) → SameStreams t u → ReadsMessage t s m → ReadsMessage u s m
reads_same t u s m e r = record {
  in_order = subst (λ (z : List (ℕ × List ℕ)). AreInOrder 0 z) (sym (e.pieces_are s)) r.in_order;
  to_the_end = e.ended_is s ∙ r.to_the_end;
  spells = subst (λ (z : List (ℕ × List ℕ)). Spells (joined z) m) (sym (e.pieces_are s)) r.spells;
}

asks_same : (requests : List PlainMessage) (t u : List Act) (s : ℕ) → SameStreams t u → IsUntouched t s ⊎ Asks requests t s → IsUntouched u s ⊎ Asks requests u s
asks_same requests t u s e (inl n) = inl (untouched_same t u s e n)
asks_same requests t u s e (inr a) =
    inr (record {
      index = a.index;
      asked = a.asked;
      asked_is = a.asked_is;
      stream_is = a.stream_is;
      is_request = a.is_request;
      writes = writes_same t u s a.asked e a.writes;
    })

asked_same : (requests : List PlainMessage) (t u : List Act) (index : ℕ) (s : RequestState) → SameStreams t u → IsAskedIn requests t index s → IsAskedIn requests u index s
asked_same requests t u index (Sending o) e a = (a.0, a.1, writing_same t u o e a.2, unread_same t u (4 * index) e a.3)
asked_same requests t u index (Receiving i) e a = (a.0, reading_same t u i e a.1)
asked_same requests t u index Done e a = tt

pub asking_same : (c : PlainClient) (t u : List Act) → SameStreams t u → Asking c t → Asking c u
asking_same c t u e a = record {
  asks = λ s. asks_same c.requests t u s e (a.asks s);
  answers_are = λ index answer at. let r = a.answers_are index answer at in (r.0, reads_same t u (4 * index) answer e r.1);
  streams = record {
    each = λ r i. asked_same c.requests t u r.index r.state e (a.streams.each r i);
    apart = a.streams.apart;
    fresh = λ k l. fresh_same t u (4 * k) e (a.streams.fresh k l);
  };
}

responds_same : (entries : List PlainEntry) (t u : List Act) (s : ℕ) → SameStreams t u → IsUntouched t s ⊎ Responds entries t s → IsUntouched u s ⊎ Responds entries u s
responds_same entries t u s e (inl n) = inl (untouched_same t u s e n)
responds_same entries t u s e (inr a) =
    inr (record {
      entry = a.entry;
      among = a.among;
      stream_is = a.stream_is;
      is_response = a.is_response;
      writes = writes_same t u s a.entry.response e a.writes;
    })

handled_same : (entries : List PlainEntry) (t u : List Act) (stream : ℕ) (s : HandlerState) → SameStreams t u → IsHandledIn entries t stream s → IsHandledIn entries u stream s
handled_same entries t u stream (handler.Reading i) e a = (a.0, reading_same t u i e a.1, untouched_same t u stream e a.2)
handled_same entries t u stream (handler.Responding o) e a = (a.0, a.1, writing_same t u o e a.2)
handled_same entries t u stream handler.Done e a = tt

pub serving_same : (s : PlainServer) (entries : List PlainEntry) (t u : List Act) → SameStreams t u → Serving s entries t → Serving s entries u
serving_same s entries t u e a = record {
  served = λ x i. let r = a.served x i in (r.0, reads_same t u x.stream x.request e r.1);
  once = a.once;
  responds = λ n. responds_same entries t u n e (a.responds n);
  handlers = record {
    each = λ h i. handled_same entries t u h.stream.0 h.state e (a.handlers.each h i);
    accepted = a.handlers.accepted;
    apart = a.handlers.apart;
    fresh = λ k l. fresh_same t u (4 * k) e (a.handlers.fresh k l);
  };
}

-- quiet acts in front, and the same acts behind
pub quiet_front : (t u : List Act) → IsQuiet u → SameStreams t (u ++ t)
quiet_front t u q = record {
  written_is = λ s. written-append u t s ∙ ap (λ (z : List ℕ). z ++ written t s) (q s).0.0;
  finished_is = λ s. finished-append u t s ∙ ap (λ (z : Bool). z || finished t s) (q s).0.1;
  pieces_are = λ s. pieces_read-append u t s ∙ ap (λ (z : List (ℕ × List ℕ)). z ++ pieces_read t s) (q s).1.0;
  ended_is = λ s. ended-append u t s ∙ ap (λ (z : Bool). z || ended t s) (q s).1.1;
}

pub same_more : (t u acts : List Act) → SameStreams t u → SameStreams (t ++ acts) (u ++ acts)
same_more t u acts e = record {
  written_is = λ s. written-append u acts s ∙ (ap (λ (z : List ℕ). z ++ written acts s) (e.written_is s) ∙ sym (written-append t acts s));
  finished_is = λ s. finished-append u acts s ∙ (ap (λ (z : Bool). z || finished acts s) (e.finished_is s) ∙ sym (finished-append t acts s));
  pieces_are = λ s. pieces_read-append u acts s ∙ (ap (λ (z : List (ℕ × List ℕ)). z ++ pieces_read acts s) (e.pieces_are s) ∙ sym (pieces_read-append t acts s));
  ended_is = λ s. ended-append u acts s ∙ (ap (λ (z : Bool). z || ended acts s) (e.ended_is s) ∙ sym (ended-append t acts s));
}

pub same_back : (t u : List Act) → SameStreams t u → SameStreams u t
same_back t u e = record {
  written_is = λ s. sym (e.written_is s);
  finished_is = λ s. sym (e.finished_is s);
  pieces_are = λ s. sym (e.pieces_are s);
  ended_is = λ s. sym (e.ended_is s);
}
