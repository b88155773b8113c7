-- What one handler's calls on its stream do.
use Rattle.std.proofs.Common.{◌≡◌, ℕ, List, [], ◌++◌, take, drop, Result, Ok, Err, inl, inr, refl, sym, ap, ◌∙◌, subst, append_assoc, append-nil}
use Rattle.std.proofs.lemmas.List.{take-append-drop}
use Rattle.std.proofs.lemmas.Bool.{false≢true}
use Rattle.qh_base.specs.declared.memory.Memory.{Memory as OutOfMemory}
use Rattle.qh_core.specs.declared.inner.Inner.{Inner}
use Rattle.qh_roles.proofs.Acts.{none_on, none_fresh, on_append, unread_append, untouched_append, read_kept, written_to_kept}
use Rattle.qh_roles.specs.Going.{WentFrom}
use Rattle.qh_roles.specs.Handling.{IsAnswering, IsServed, IsFreshOn, IsQuiet, Handles, HandlerStep, state_of}
use Rattle.qh_roles.specs.Server.{IsHandledIn, SpellsResponse, Responds}
use Rattle.qh_roles.specs.Streams.{Outgoing, Incoming, AreOn, IsFresh, IsUnread, IsUntouched, IsWriting, HasWritten, IsWrittenTo, IsReading, HasRead, Writes, ReadsOn}
use Rattle.qh_roles.specs.declared.incoming.ReadState.{ReadState}
use Rattle.qh_roles.specs.declared.incoming.ReadState.TheVariants as reading
use Rattle.qh_roles.specs.declared.outgoing.WriteState.{WriteState}
use Rattle.qh_roles.specs.declared.outgoing.WriteState.TheVariants as writing
use Rattle.qh_roles.specs.declared.server.HandlerState.{HandlerState}
use Rattle.qh_roles.specs.declared.server.HandlerState.TheVariants.{Reading, Responding, Done}
use Rattle.qh_spec.proofs.Members.{in_left, in_right}
use Rattle.qh_spec.specs.Lawful.{AreInOrder}
use Rattle.qh_spec.specs.Lists.{In}
use Rattle.qh_spec.specs.Record.{PlainEntry}
use Rattle.qh_spec.specs.Spelling.{Spells}
use Rattle.qh_spec.specs.Transcript.{Act, written, finished, pieces_read, read, ended}

-- ---- responses

pub spells_left : (xs ys : List PlainEntry) (stream : ℕ) (bytes : List ℕ) → SpellsResponse xs stream bytes → SpellsResponse (xs ++ ys) stream bytes
spells_left xs ys stream bytes s = record {
  entry = s.entry;
  among = in_left s.entry xs ys s.among;
  stream_is = s.stream_is;
  is_response = s.is_response;
  spells = s.spells;
}

pub spells_right : (xs ys : List PlainEntry) (stream : ℕ) (bytes : List ℕ) → SpellsResponse ys stream bytes → SpellsResponse (xs ++ ys) stream bytes
spells_right xs ys stream bytes s = record {
  entry = s.entry;
  among = in_right s.entry xs ys s.among;
  stream_is = s.stream_is;
  is_response = s.is_response;
  spells = s.spells;
}

-- a front of the response is written, and nothing says that it is all
part_responds : (entries : List PlainEntry) (t : List Act) (stream : ℕ) (o : Outgoing) → o.stream ≡ stream → SpellsResponse entries stream o.bytes → IsWriting t o → Responds entries t stream
part_responds entries t stream o same s w = record {
  entry = s.entry;
  among = s.among;
  stream_is = s.stream_is;
  is_response = s.is_response;
  writes = record {
    bytes = o.bytes;
    spells = s.spells;
    rest = drop o.taken o.bytes;
    front = sym (ap (λ (z : List ℕ). z ++ drop o.taken o.bytes) (ap (written t) (sym same) ∙ w.written_is) ∙ take-append-drop o.taken o.bytes);
    whole = λ f. absurd (false≢true (sym w.unfinished ∙ ap (finished t) same ∙ f));
  };
}

-- all of it is
whole_responds : (entries : List PlainEntry) (t : List Act) (stream : ℕ) (o : Outgoing) → o.stream ≡ stream → SpellsResponse entries stream o.bytes → HasWritten t o → Responds entries t stream
whole_responds entries t stream o same s w = record {
  entry = s.entry;
  among = s.among;
  stream_is = s.stream_is;
  is_response = s.is_response;
  writes = record {
    bytes = o.bytes;
    spells = s.spells;
    rest = [];
    front = sym (append-nil (written t stream) ∙ ap (written t) (sym same) ∙ w.written_is);
    whole = λ f. refl;
  };
}

to_responds : (result : Result WriteState OutOfMemory) (entries : List PlainEntry) (t : List Act) (stream : ℕ) (o : Outgoing) → o.stream ≡ stream → SpellsResponse entries stream o.bytes → IsWrittenTo result t o
    → Responds entries t stream
to_responds (Ok writing.Finished) entries t stream o same s w = whole_responds entries t stream o same s w
to_responds (Ok writing.Blocked) entries t stream o same s w = part_responds entries t stream o same s w
to_responds (Ok writing.Refused) entries t stream o same s w = part_responds entries t stream o same s w
to_responds (Err e) entries t stream o same s w = part_responds entries t stream o same s w

-- how a stream goes on that was served just now
answering_handled : (entries fresh : List PlainEntry) (t : List Act) (stream : ℕ) → IsUntouched t stream
    → (state : HandlerState) → IsAnswering fresh stream state → IsHandledIn (entries ++ fresh) t stream state
answering_handled entries fresh t stream untouched (Reading i) a = absurd a
answering_handled entries fresh t stream untouched (Responding o) a = (
  a.0,
  spells_right entries fresh stream o.bytes a.2,
  record {
    written_is = ap (written t) a.0 ∙ untouched.0 ∙ sym (ap (λ (n : ℕ). take n o.bytes) a.1);
    unfinished = ap (finished t) a.0 ∙ untouched.1;
  },
)
answering_handled entries fresh t stream untouched Done a = tt

result_handled : (entries fresh : List PlainEntry) (t : List Act) (stream : ℕ) → IsUntouched t stream → (bytes : List ℕ) (result : Result HandlerState OutOfMemory) (before after : List PlainEntry)
    → (s : IsServed stream bytes result before after) → IsHandledIn (entries ++ s.fresh) t stream (state_of result)
result_handled entries fresh t stream untouched bytes (Ok state) before after s = answering_handled entries s.fresh t stream untouched state s.state
result_handled entries fresh t stream untouched bytes (Err e) before after s = tt

spells_same : (entries : List PlainEntry) (stream : ℕ) (old new : List ℕ) → new ≡ old → SpellsResponse entries stream old → SpellsResponse (entries ++ []) stream new
spells_same entries stream old new same s = spells_left entries [] stream new (subst (λ (bytes : List ℕ). SpellsResponse entries stream bytes) (sym same) s)

module _ {S : Type 0} where
  pub none_quiet : (stream : ℕ) (c start : Inner S) (done t : List Act) → WentFrom start done c t → IsQuiet start done stream c t
  none_quiet stream c start done t follows = record { acts = []; on = none_on stream; fresh = none_fresh stream; follows = subst (WentFrom start done c) (sym (append-nil t)) follows }

  pub acted_quiet : (stream : ℕ) (old new : Inner S) → ((start : Inner S) (done t : List Act) → WentFrom start done old t → (acts : List Act) × AreOn stream acts × IsFresh acts stream × WentFrom start done new (t ++ acts))
      → (start : Inner S) (done t : List Act) → WentFrom start done old t → IsQuiet start done stream new t
  acted_quiet stream old new acted start done t follows = let a = acted start done t follows in record { acts = a.0; on = a.1; fresh = a.2; follows = a.3 }

  -- nothing was done
  pub none_handled : (stream : ℕ) (state : HandlerState) (c : Inner S) (recorded : List PlainEntry) → HandlerStep stream state state c c recorded recorded
  none_handled stream state c recorded = record {
    fresh = [];
    longer = sym (append-nil recorded);
    once = tt;
    does = λ start done t entries follows handled. record {
      acts = [];
      on = none_on stream;
      follows = subst (WentFrom start done c) (sym (append-nil t)) follows;
      reads = inl (none_fresh stream).1;
      writes = inl (none_fresh stream).0;
      each = λ e among. absurd among;
      handled = subst (λ (u : List Act). IsHandledIn (entries ++ []) u stream state) (sym (append-nil t)) (subst (λ (es : List PlainEntry). IsHandledIn es t stream state) (sym (append-nil entries)) handled);
    };
  }

  -- ---- reading

  -- a call of `read` behind which calls did nothing, with what holds of the stream then
  read_goes : (stream : ℕ) (r : Result ReadState OutOfMemory) (i new : Incoming) (state : HandlerState) (mid end_after : Inner S) (entries fresh : List PlainEntry) (start : Inner S) (done t : List Act)
      → i.stream ≡ stream → new.stream ≡ i.stream → IsReading t i → (d : ReadsOn start done r new mid t) → (q : IsQuiet start done stream end_after (t ++ d.acts))
      → ((e : PlainEntry) → In e fresh → IsFreshOn stream t (d.acts ++ q.acts) e)
      → (IsUntouched (d.acts ++ q.acts) stream → IsHandledIn (entries ++ fresh) (t ++ (d.acts ++ q.acts)) stream state)
      → Handles start done stream state end_after entries fresh t
  read_goes stream r i new state mid end_after entries fresh start done t is same was d q each handled =
      let on = subst (λ (s : ℕ). AreOn s d.acts) (same ∙ is) d.on in
      let untouched = subst (λ (s : ℕ). IsUntouched d.acts s) (same ∙ is) d.untouched in
      let whole = untouched_append d.acts q.acts stream untouched q.fresh.0 in
      record {
        acts = d.acts ++ q.acts;
        on = on_append stream d.acts q.acts on q.on;
        follows = subst (WentFrom start done end_after) (append_assoc t d.acts q.acts) q.follows;
        reads = inr (ap (ended t) (sym is) ∙ was.endless);
        writes = inl whole;
        each = each;
        handled = handled whole;
      }

  -- the stream is given up, or memory is wanting
  pub read_gone : (stream : ℕ) (r : Result ReadState OutOfMemory) (i new : Incoming) (end_before mid end_after : Inner S) (recorded : List PlainEntry)
      → new.stream ≡ i.stream → ((start : Inner S) (done t : List Act) → WentFrom start done end_before t → IsReading t i → ReadsOn start done r new mid t)
      → ((start : Inner S) (done t : List Act) → WentFrom start done mid t → IsQuiet start done stream end_after t) → HandlerStep stream (Reading i) Done end_before end_after recorded recorded
  read_gone stream r i new end_before mid end_after recorded same reads quiet = record {
    fresh = [];
    longer = sym (append-nil recorded);
    once = tt;
    does = λ start done t entries follows handled.
        let d = reads start done t follows handled.1 in
        read_goes stream r i new Done mid end_after entries [] start done t handled.0 same handled.1 d (quiet start done (t ++ d.acts) d.follows) (λ e among. absurd among) (λ whole. tt);
  }

  -- more is to come
  pub read_blocked : (stream : ℕ) (i new : Incoming) (end_before end_after : Inner S) (recorded : List PlainEntry)
      → new.stream ≡ i.stream → ((start : Inner S) (done t : List Act) → WentFrom start done end_before t → IsReading t i → ReadsOn start done (Ok reading.Blocked) new end_after t)
      → HandlerStep stream (Reading i) (Reading new) end_before end_after recorded recorded
  read_blocked stream i new end_before end_after recorded same reads = record {
    fresh = [];
    longer = sym (append-nil recorded);
    once = tt;
    does = λ start done t entries follows handled.
        let d = reads start done t follows handled.1 in
        let untouched = subst (λ (s : ℕ). IsUntouched d.acts s) (same ∙ handled.0) d.untouched in
        record {
          acts = d.acts;
          on = subst (λ (s : ℕ). AreOn s d.acts) (same ∙ handled.0) d.on;
          follows = d.follows;
          reads = inr (ap (ended t) (sym handled.0) ∙ handled.1.endless);
          writes = inl untouched;
          each = λ e among. absurd among;
          handled = (same ∙ handled.0, d.is, untouched_append t d.acts stream handled.2 untouched);
        };
  }

  -- all came, and it was served, or refused
  pub read_served : (stream : ℕ) (i new : Incoming) (result : Result HandlerState OutOfMemory) (end_before mid end_after : Inner S) (before after : List PlainEntry)
      → new.stream ≡ i.stream → ((start : Inner S) (done t : List Act) → WentFrom start done end_before t → IsReading t i → ReadsOn start done (Ok reading.Ended) new mid t)
      → ((start : Inner S) (done t : List Act) → WentFrom start done mid t → IsQuiet start done stream end_after t) → IsServed stream new.bytes result before after
      → HandlerStep stream (Reading i) (state_of result) end_before end_after before after
  read_served stream i new result end_before mid end_after before after same reads quiet served = record {
    fresh = served.fresh;
    longer = served.longer;
    once = served.once;
    does = λ start done t entries follows handled.
        let d = reads start done t follows handled.1 in
        let q = quiet start done (t ++ d.acts) d.follows in
        let is = same ∙ handled.0 in
        let has = subst (λ (u : List Act). HasRead u new) (append_assoc t d.acts q.acts) (read_kept (t ++ d.acts) q.acts new (subst (λ (s : ℕ). IsUnread q.acts s) (sym is) q.fresh.1) d.is) in
        read_goes stream (Ok reading.Ended) i new (state_of result) mid end_after entries served.fresh start done t handled.0 same handled.1 d q
        (λ e among. let came = served.each e among in record {
          stream_is = came.stream_is;
          is_request = came.is_request;
          reads = record {
            in_order = subst (λ (s : ℕ). AreInOrder 0 (pieces_read (t ++ (d.acts ++ q.acts)) s)) is has.in_order;
            to_the_end = ap (ended (t ++ (d.acts ++ q.acts))) (sym is) ∙ has.to_the_end;
            spells = subst (λ (bytes : List ℕ). Spells bytes e.request) (sym (ap (read (t ++ (d.acts ++ q.acts))) (sym is) ∙ has.bytes_are)) came.spells;
          };
          first = ap (ended t) (sym handled.0) ∙ handled.1.endless;
        })
        (λ whole. result_handled entries served.fresh (t ++ (d.acts ++ q.acts)) stream (untouched_append t (d.acts ++ q.acts) stream handled.2 whole) new.bytes result before after served);
  }

  -- ---- writing

  -- a call of `write` behind which calls did nothing
  write_goes : (stream : ℕ) (r : Result WriteState OutOfMemory) (new : Outgoing) (state : HandlerState) (mid end_after : Inner S) (entries : List PlainEntry) (start : Inner S) (done t : List Act)
      → new.stream ≡ stream → SpellsResponse (entries ++ []) stream new.bytes → (w : Writes start done r new mid t) → (q : IsQuiet start done stream end_after (t ++ w.acts))
      → (IsWrittenTo r (t ++ (w.acts ++ q.acts)) new → IsHandledIn (entries ++ []) (t ++ (w.acts ++ q.acts)) stream state)
      → Handles start done stream state end_after entries [] t
  write_goes stream r new state mid end_after entries start done t is spells w q handled =
      let on = subst (λ (s : ℕ). AreOn s w.acts) is w.on in
      let unread = subst (λ (s : ℕ). IsUnread w.acts s) is w.unread in
      let to = subst (λ (u : List Act). IsWrittenTo r u new) (append_assoc t w.acts q.acts) (written_to_kept r (t ++ w.acts) q.acts new (subst (λ (s : ℕ). IsUntouched q.acts s) (sym is) q.fresh.0) w.is) in
      record {
        acts = w.acts ++ q.acts;
        on = on_append stream w.acts q.acts on q.on;
        follows = subst (WentFrom start done end_after) (append_assoc t w.acts q.acts) q.follows;
        reads = inl (unread_append w.acts q.acts stream unread q.fresh.1);
        writes = inr (to_responds r (entries ++ []) (t ++ (w.acts ++ q.acts)) stream new is spells to);
        each = λ e among. absurd among;
        handled = handled to;
      }

  -- all was written, or the stream is given up, or memory is wanting
  pub write_gone : (stream : ℕ) (r : Result WriteState OutOfMemory) (o new : Outgoing) (end_before mid end_after : Inner S) (recorded : List PlainEntry)
      → (new.stream ≡ o.stream) × (new.bytes ≡ o.bytes) → ((start : Inner S) (done t : List Act) → WentFrom start done end_before t → IsWriting t o → Writes start done r new mid t)
      → ((start : Inner S) (done t : List Act) → WentFrom start done mid t → IsQuiet start done stream end_after t) → HandlerStep stream (Responding o) Done end_before end_after recorded recorded
  write_gone stream r o new end_before mid end_after recorded same writes quiet = record {
    fresh = [];
    longer = sym (append-nil recorded);
    once = tt;
    does = λ start done t entries follows handled.
        let w = writes start done t follows handled.2 in
        write_goes stream r new Done mid end_after entries start done t (same.0 ∙ handled.0) (spells_same entries stream o.bytes new.bytes same.1 handled.1) w (quiet start done (t ++ w.acts) w.follows) (λ to. tt);
  }

  -- bytes are left
  pub write_blocked : (stream : ℕ) (o new : Outgoing) (end_before end_after : Inner S) (recorded : List PlainEntry)
      → (new.stream ≡ o.stream) × (new.bytes ≡ o.bytes) → ((start : Inner S) (done t : List Act) → WentFrom start done end_before t → IsWriting t o → Writes start done (Ok writing.Blocked) new end_after t)
      → HandlerStep stream (Responding o) (Responding new) end_before end_after recorded recorded
  write_blocked stream o new end_before end_after recorded same writes = record {
    fresh = [];
    longer = sym (append-nil recorded);
    once = tt;
    does = λ start done t entries follows handled.
        let w = writes start done t follows handled.2 in
        let is = same.0 ∙ handled.0 in
        let spells = spells_same entries stream o.bytes new.bytes same.1 handled.1 in
        write_goes stream (Ok writing.Blocked) new (Responding new) end_after end_after entries start done t is spells w (none_quiet stream end_after start done (t ++ w.acts) w.follows) (λ to. (is, spells, to));
  }
