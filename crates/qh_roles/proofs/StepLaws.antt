-- What the steps of a write and of a read add to how far a message is.
use Rattle.std.proofs.Common.{◌≡◌, ℕ, zero, suc, ◌+◌, ◌-◌, ◌<◌, ◌≤◌, Bool, true, List, [], ◌∷◌, ◌++◌, length, take, drop, Result, Ok, Err, refl, sym, ap, ◌∙◌, subst, arith, append_assoc, append-nil, length-drop, zero-add, suc-add}
use Rattle.std.specs.Prelude.{◌||◌}
use Rattle.std.proofs.lemmas.Bool.{eq-eqb}
use Rattle.std.proofs.lemmas.List.{take_all}
use Rattle.std.proofs.Math.Seq.{take-nil}
use Rattle.qh_base.specs.declared.memory.Memory.{Memory as OutOfMemory}
use Rattle.qh_core.specs.Follows.{take_acts, write_acts}
use Rattle.qh_core.specs.declared.fault.TakeFault.{TakeFault}
use Rattle.qh_core.specs.declared.fault.TakeFault.TheVariants.{Readable, Read}
use Rattle.qh_core.specs.declared.inner.Inner.{Inner}
use Rattle.qh_half.specs.declared.fault.ReadFault.TheVariants as waiting
use Rattle.qh_half.specs.declared.fault.WriteFault.{WriteFault}
use Rattle.qh_roles.proofs.Acts.{same_written, same_finished, on_append, none_on, none_fresh, none_unread, none_untouched, unread_append, untouched_append, same_pieces, same_read, same_ended, wrote_on, finished_on, piece_on, end_on, reset_told_on, writing_kept, reading_kept, in_order_append}
use Rattle.qh_roles.specs.Going.{WentFrom}
use Rattle.qh_roles.specs.Steps.{Pushes, pushed}
use Rattle.qh_roles.specs.Streams.{Outgoing, Incoming, IsUntouched, IsFresh, AreOn, IsWriting, IsWrittenTo, IsReading, IsReadTo, Writes, ReadsOn}
use Rattle.qh_roles.specs.declared.incoming.ReadState.{ReadState}
use Rattle.qh_roles.specs.declared.incoming.ReadState.TheVariants as reading
use Rattle.qh_roles.specs.declared.outgoing.WriteState.{WriteState}
use Rattle.qh_roles.specs.declared.outgoing.WriteState.TheVariants as writing
use Rattle.qh_spec.proofs.TranscriptLaws.{written-append, finished-append, pieces_read-append, read-append, ended-append}
use Rattle.qh_spec.specs.Lawful.{AreInOrder}
use Rattle.qh_spec.specs.Transcript.{Act, Wrote, Finished, ReadBytes, ReadEnd, written, finished, pieces_read, joined, read, ended}
use Rattle.qh_transcript.proofs.ReceivingLists.{one_piece}
use Rattle.qh_transcript.specs.Receiving.{piece_acts}

-- ---- lists

take_more : (i n : ℕ) (xs : List ℕ) → take i xs ++ take n (drop i xs) ≡ take (i + n) xs
take_more zero n xs = rw zero-add refl
take_more (suc i) n [] = take-nil n ∙ sym (take-nil (suc i + n))
take_more (suc i) n (x ∷ xs) = rw suc-add (ap (λ (z : List ℕ). x ∷ z) (take_more i n xs))

-- the part of a slice from a place on
pub part_from : (i : ℕ) (xs ys : List ℕ) → xs ≡ ys → take (length xs - i) (drop i xs) ≡ drop i ys
part_from i xs ys same = take_all (length xs - i) (drop i xs) (let size = length-drop i xs in omega (arith, size)) ∙ ap (drop i) same

-- ---- writing

wrote_itself : (stream : ℕ) (bytes : List ℕ) → written (Wrote stream bytes ∷ []) stream ≡ bytes
wrote_itself stream bytes = rw (eq-eqb stream stream refl) (append-nil bytes)

finished_itself : (stream : ℕ) → finished (Finished stream ∷ []) stream ≡ true
finished_itself stream = rw (eq-eqb stream stream refl) refl

module _ {S : Type 0} (start : Inner S) (before : List Act) where
  -- nothing was done
  pub no_push : (stream : ℕ) (c : Inner S) (t : List Act) → WentFrom start before c t → Pushes start before stream [] c t
  no_push stream c t follows = record {
    acts = [];
    on = none_on stream;
    unread = none_unread stream;
    written_is = refl;
    unfinished = refl;
    follows = subst (WentFrom start before c) (sym (append-nil t)) follows;
  }

  pub write_pushes : (stream : ℕ) (bytes : List ℕ) (r : Result ℕ WriteFault) (new : Inner S) (t : List Act) → WentFrom start before new (t ++ write_acts stream bytes r) → Pushes start before stream (pushed bytes r) new t
  write_pushes stream bytes (Ok n) new t follows = record {
    acts = Wrote stream (take n bytes) ∷ [];
    on = wrote_on stream (take n bytes);
    unread = (refl, refl);
    written_is = wrote_itself stream (take n bytes);
    unfinished = refl;
    follows = follows;
  }
  write_pushes stream bytes (Err e) new t follows = record {
    acts = [];
    on = none_on stream;
    unread = none_unread stream;
    written_is = refl;
    unfinished = refl;
    follows = follows;
  }

  -- nothing more is written now
  pub push_refused : (result : Result WriteState OutOfMemory) (o : Outgoing) (new : Inner S) (t : List Act) → ((u : List Act) → IsWriting u o → IsWrittenTo result u o)
      → IsWriting t o → Pushes start before o.stream [] new t → Writes start before result o new t
  push_refused result o new t is was p = record {
    acts = p.acts;
    on = p.on;
    unread = p.unread;
    follows = p.follows;
    is = is (t ++ p.acts) (writing_kept t p.acts o (p.written_is, p.unfinished) was);
  }

  -- so many bytes more were written
  pub push_written : (o : Outgoing) (n : ℕ) (new : Inner S) (t : List Act) → IsWriting t o → (p : Pushes start before o.stream (take n (drop o.taken o.bytes)) new t)
      → IsWriting (t ++ p.acts) (record o { taken = o.taken + n })
  push_written o n new t was p = record {
    written_is = written-append t p.acts o.stream ∙ ap (λ (z : List ℕ). written t o.stream ++ z) p.written_is
        ∙ ap (λ (z : List ℕ). z ++ take n (drop o.taken o.bytes)) was.written_is ∙ take_more o.taken n o.bytes;
    unfinished = same_finished t p.acts o.stream p.unfinished ∙ was.unfinished;
  }

  -- what is written behind what was written before
  pub pushed_writes : (result : Result WriteState OutOfMemory) (o : Outgoing) (bytes : List ℕ) (mid new : Inner S) (t : List Act) → (p : Pushes start before o.stream bytes mid t) → Writes start before result o new (t ++ p.acts)
      → Writes start before result o new t
  pushed_writes result o bytes mid new t p w = record {
    acts = p.acts ++ w.acts;
    on = on_append o.stream p.acts w.acts p.on w.on;
    unread = unread_append p.acts w.acts o.stream p.unread w.unread;
    follows = subst (WentFrom start before new) (append_assoc t p.acts w.acts) w.follows;
    is = subst (λ (u : List Act). IsWrittenTo result u o) (append_assoc t p.acts w.acts) w.is;
  }

  -- nothing was done, and bytes are left
  pub left_writes : (o : Outgoing) (c : Inner S) (t : List Act) → WentFrom start before c t → IsWriting t o → Writes start before (Ok writing.Blocked) o c t
  left_writes o c t follows was = record {
    acts = [];
    on = none_on o.stream;
    unread = none_unread o.stream;
    follows = subst (WentFrom start before c) (sym (append-nil t)) follows;
    is = subst (λ (u : List Act). IsWriting u o) (sym (append-nil t)) was;
  }

  -- all was written, and the stream is finished
  pub finish_writes : (o : Outgoing) (new : Inner S) (t : List Act) → length o.bytes ≤ o.taken → WentFrom start before new (t ++ Finished o.stream ∷ []) → IsWriting t o → Writes start before (Ok writing.Finished) o new t
  finish_writes o new t all follows was = record {
    acts = Finished o.stream ∷ [];
    on = finished_on o.stream;
    unread = (refl, refl);
    follows = follows;
    is = record {
      written_is = same_written t (Finished o.stream ∷ []) o.stream refl ∙ was.written_is ∙ take_all o.taken o.bytes all;
      is_finished = finished-append t (Finished o.stream ∷ []) o.stream ∙ ap (λ (b : Bool). finished t o.stream || b) (finished_itself o.stream) ∙ ap (λ (b : Bool). b || true) was.unfinished;
    };
  }

  -- the stream takes no end
  pub unfinished_writes : (o : Outgoing) (new : Inner S) (t : List Act) → WentFrom start before new (t ++ []) → IsWriting t o → Writes start before (Ok writing.Refused) o new t
  unfinished_writes o new t follows was = record {
    acts = [];
    on = none_on o.stream;
    unread = none_unread o.stream;
    follows = follows;
    is = subst (λ (u : List Act). IsWriting u o) (sym (append-nil t)) was;
  }

-- ---- reading

end_itself : (stream : ℕ) → ended (ReadEnd stream ∷ []) stream ≡ true
end_itself stream = rw (eq-eqb stream stream refl) refl

-- a piece that was read where the bytes before it end
pub piece_reading : (i : Incoming) (offset : ℕ) (bytes : List ℕ) (t : List Act) → (0 < length bytes → offset ≡ length (read t i.stream)) → IsReading t i
    → IsReading (t ++ piece_acts i.stream offset bytes) (record { stream = i.stream; bytes = i.bytes ++ bytes })
piece_reading i offset [] t here was =
    subst (λ (u : List Act). IsReading u (record { stream = i.stream; bytes = i.bytes ++ [] })) (sym (append-nil t))
    (subst (λ (bytes : List ℕ). IsReading t (record { stream = i.stream; bytes = bytes })) (sym (append-nil i.bytes)) was)
piece_reading i offset (b ∷ bytes) t here was =
    let piece = b ∷ bytes in
    let acts : List Act = ReadBytes i.stream offset piece ∷ [] in
    let one : pieces_read acts i.stream ≡ (offset, piece) ∷ [] = one_piece i.stream offset piece in
    let at : offset ≡ length (read t i.stream) = here (omega arith) in
    record {
      in_order = subst (AreInOrder 0) (sym (pieces_read-append t acts i.stream ∙ ap (λ (ps : List (ℕ × List ℕ)). pieces_read t i.stream ++ ps) one))
          (in_order_append 0 (pieces_read t i.stream) offset piece was.in_order (omega (arith, at)));
      bytes_are = read-append t acts i.stream ∙ ap (λ (z : List ℕ). read t i.stream ++ z) (ap joined one ∙ append-nil piece) ∙ ap (λ (z : List ℕ). z ++ piece) was.bytes_are;
      endless = same_ended t acts i.stream refl ∙ was.endless;
    }

piece_acts_on : (stream offset : ℕ) (bytes : List ℕ) → AreOn stream (piece_acts stream offset bytes) × IsUntouched (piece_acts stream offset bytes) stream
piece_acts_on stream offset [] = (none_on stream, none_untouched stream)
piece_acts_on stream offset (b ∷ bytes) = (piece_on stream offset (b ∷ bytes), (refl, refl))

fault_acts_on : (stream : ℕ) (e : TakeFault) → AreOn stream (take_acts stream (Err e)) × IsFresh (take_acts stream (Err e)) stream
fault_acts_on stream (Readable e) = (none_on stream, none_fresh stream)
fault_acts_on stream (Read waiting.Blocked) = (none_on stream, none_fresh stream)
fault_acts_on stream (Read waiting.Memory) = (none_on stream, none_fresh stream)
fault_acts_on stream (Read (waiting.Reset code)) = (reset_told_on stream code, ((refl, refl), (refl, refl)))

module _ {S : Type 0} (start : Inner S) (before : List Act) where
  -- nothing was read
  pub none_reads : (i : Incoming) (c : Inner S) (t : List Act) → WentFrom start before c t → IsReading t i → ReadsOn start before (Ok reading.Blocked) i c t
  none_reads i c t follows was = record {
    acts = [];
    on = none_on i.stream;
    untouched = none_untouched i.stream;
    follows = subst (WentFrom start before c) (sym (append-nil t)) follows;
    is = subst (λ (u : List Act). IsReading u i) (sym (append-nil t)) was;
  }

  pub piece_reads : (i : Incoming) (offset : ℕ) (bytes : List ℕ) (new : Inner S) (t : List Act) → WentFrom start before new (t ++ piece_acts i.stream offset bytes)
      → (0 < length bytes → offset ≡ length (read t i.stream)) → IsReading t i → ReadsOn start before (Ok reading.Blocked) (record { stream = i.stream; bytes = i.bytes ++ bytes }) new t
  piece_reads i offset bytes new t follows here was = record {
    acts = piece_acts i.stream offset bytes;
    on = (piece_acts_on i.stream offset bytes).0;
    untouched = (piece_acts_on i.stream offset bytes).1;
    follows = follows;
    is = piece_reading i offset bytes t here was;
  }

  -- a piece was read that there is no memory for
  pub lost_reads : (e : OutOfMemory) (i : Incoming) (offset : ℕ) (bytes : List ℕ) (new : Inner S) (t : List Act) → WentFrom start before new (t ++ piece_acts i.stream offset bytes) → ReadsOn start before (Err e) i new t
  lost_reads e i offset bytes new t follows = record {
    acts = piece_acts i.stream offset bytes;
    on = (piece_acts_on i.stream offset bytes).0;
    untouched = (piece_acts_on i.stream offset bytes).1;
    follows = follows;
    is = tt;
  }

  -- nothing was given
  pub failed_reads : (result : Result ReadState OutOfMemory) (e : TakeFault) (i : Incoming) (new : Inner S) (t : List Act) → WentFrom start before new (t ++ take_acts i.stream (Err e))
      → ((u : List Act) → IsReading u i → IsReadTo result u i) → IsReading t i → ReadsOn start before result i new t
  failed_reads result e i new t follows is was =
      let acts : List Act = take_acts i.stream (Err e) in
      record {
        acts = acts;
        on = (fault_acts_on i.stream e).0;
        untouched = (fault_acts_on i.stream e).1.0;
        follows = follows;
        is = is (t ++ acts) (reading_kept t acts i (fault_acts_on i.stream e).1.1 was);
      }

  -- the end was told
  pub end_reads : (i : Incoming) (new : Inner S) (t : List Act) → WentFrom start before new (t ++ ReadEnd i.stream ∷ []) → IsReading t i → ReadsOn start before (Ok reading.Ended) i new t
  end_reads i new t follows was =
      let acts : List Act = ReadEnd i.stream ∷ [] in
      record {
        acts = acts;
        on = end_on i.stream;
        untouched = (refl, refl);
        follows = follows;
        is = record {
          in_order = subst (AreInOrder 0) (sym (same_pieces t acts i.stream refl)) was.in_order;
          bytes_are = same_read t acts i.stream refl ∙ was.bytes_are;
          to_the_end = ended-append t acts i.stream ∙ ap (λ (b : Bool). ended t i.stream || b) (end_itself i.stream) ∙ ap (λ (b : Bool). b || true) was.endless;
        };
      }

  -- what is read behind what was read before
  pub then_reads : (result : Result ReadState OutOfMemory) (i j : Incoming) (mid new : Inner S) (t : List Act) → j.stream ≡ i.stream → (p : ReadsOn start before (Ok reading.Blocked) i mid t)
      → ReadsOn start before result j new (t ++ p.acts) → ReadsOn start before result j new t
  then_reads result i j mid new t same p w =
      record {
        acts = p.acts ++ w.acts;
        on = on_append j.stream p.acts w.acts (subst (λ (k : ℕ). AreOn k p.acts) (sym same) p.on) w.on;
        untouched = untouched_append p.acts w.acts j.stream (subst (λ (k : ℕ). IsUntouched p.acts k) (sym same) p.untouched) w.untouched;
        follows = subst (WentFrom start before new) (append_assoc t p.acts w.acts) w.follows;
        is = subst (λ (u : List Act). IsReadTo result u j) (append_assoc t p.acts w.acts) w.is;
      }
