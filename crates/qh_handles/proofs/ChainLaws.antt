-- Chains of calls grow by a call at their end.
use Rattle.std.proofs.Common.{◌≡◌, ◌⊎◌, ℕ, ◌+◌, ◌-◌, ◌<◌, ◌≤◌, true, false, ◌^◌, List, [], ◌∷◌, ◌++◌, length, take, drop, refl, sym, ap, ◌∙◌, subst, append_assoc, append-nil, add_assoc, map, Option, Some, inl, inr, suc, add-one, arith, length-append, drop_of_length-le}
use Rattle.std.specs.List.{concat, slice_get}
use Rattle.std.proofs.Math.Seq.{drop-cons}
use Rattle.std.proofs.lemmas.Bool.{eqb-true, eqb-false}
use Rattle.std.proofs.lemmas.Option.{slice_get-get_or}
use Rattle.std.specs.Prelude.{◌==◌}
use Rattle.std.proofs.Math.ListN.{set, get_or}
use Rattle.std.proofs.lemmas.List.{drop-drop, drop_at, take_at, take_all, set_at, set-get_or, length-set, get_or-set_same, nil_from_length, take-set, drop-set, drop-set-lt, drop-append-le, length-drop, length-take-le, take-append-drop}
use borrow.Rule.Slice.PartMut.{mid_of, post_of, put_mid}
use Rattle.qh_handles.specs.Streams.{IsReadInto}
use Rattle.qh_base.specs.declared.stream_id.StreamId.{StreamId}
use Rattle.qh_book.specs.declared.call.Call.{Call}
use Rattle.qh_book.specs.declared.call.Call.TheVariants as call
use Rattle.qh_book.specs.declared.reply.Reply.{Reply}
use Rattle.qh_book.specs.declared.reply.Reply.TheVariants as reply
use Rattle.qh_buffers.specs.declared.assembler.Chunk.{Chunk}
use Rattle.qh_parts.specs.ReadToEndBuffer.{PlainBuffer, len_of, len_or_zero, widened}
use Rattle.qh_parts.specs.declared.read_to_end.Extent.{Extent}
use Rattle.qh_handles.specs.declared.error.ReadError.TheVariants as read
use Rattle.qh_handles.specs.declared.error.ReadToEndError.{ReadToEndError}
use Rattle.qh_handles.specs.declared.error.ReadToEndError.TheVariants as to_end
use Rattle.qh_handles.specs.Origins.{Origin, replied, wanting, nowhere, IsFrom, write_origin}
use Rattle.qh_handles.specs.declared.error.WriteError.{WriteError}
use Rattle.qh_handles.specs.declared.error.WriteError.TheVariants as write
use Rattle.std.proofs.lemmas.Grind.{take-set_at}
use Rattle.qh_handles.specs.Chains.{EndsWrites, IsPartly, OfChunk, IsGathered, IsPlaced, text_left, IsKeepError, IsToEndError, piece_read, widened_all, Acts, bytes_of, IsBytes, AreReads, all_bytes, IsFilled, count_of, IsWrite, AreWrites, all_counts, IsWritten, IsBehind, AreChunkWrites, IsWrittenBy, IsWrittenOf, IsTooLong}

pub Acts-more : {S C R : Type 0} (acts : S → C → R → S → Type 0) (s m t : S) (es : List (C × R)) (e : C × R) → Acts acts s es m → acts m e.0 e.1 t → Acts acts s (es ++ e ∷ []) t
Acts-more acts s m t [] e made last = (t, subst (λ x. acts x e.0 e.1 t) (sym made) last, refl)
Acts-more acts s m t (d ∷ es) e made last = (made.0, made.1, Acts-more acts made.0 m t es e made.2 last)

-- the part of a buffer behind its front
mid_is : (k f : ℕ) (buf : List ℕ) → k ≡ length buf - f → take k (drop f buf) ≡ drop f buf
mid_is k f buf e = take_all k (drop f buf) (omega (arith, e, length-drop f buf))

-- ---- writes

pub all_counts-more : {T : Type 0} (es : List (Call × Reply T)) (e : Call × Reply T) → all_counts (es ++ e ∷ []) ≡ all_counts es + count_of e.1
all_counts-more [] e = omega arith
all_counts-more (d ∷ es) e = ap (λ n. count_of d.1 + n) (all_counts-more es e) ∙ sym (add_assoc (count_of d.1) (all_counts es) (count_of e.1))

pub AreWrites-more : {T : Type 0} (id : StreamId) (text : List ℕ) (es : List (Call × Reply T)) (e : Call × Reply T) → AreWrites id text es → IsWrite id (drop (all_counts es) text) e → AreWrites id text (es ++ e ∷ [])
AreWrites-more id text [] e are this = (this, tt)
AreWrites-more id text (d ∷ es) e are this =
    (are.0, AreWrites-more id (drop (count_of d.1) text) es e are.1 (subst (λ t. IsWrite id t e) (sym (drop-drop (all_counts es) (count_of d.1) text)) this))

-- before the first write all of the text is left
pub IsWritten-none : {S T : Type 0} (acts : S → Call → Reply T → S → Type 0) (id : StreamId) (text : List ℕ) (s : S) → IsWritten acts id text s text s
IsWritten-none acts id text s = record { writes = []; are = tt; made = refl; left_is = refl }

-- one more write, of all that is left
pub IsWritten-more : {S T : Type 0} (acts : S → Call → Reply T → S → Type 0) (id : StreamId) (text : List ℕ) (s m t : S) (left : List ℕ) (n : ℕ) →
    IsWritten acts id text s left m → 0 < length left → n ≤ length left → acts m (call.Write id left) (reply.Count n) t → IsWritten acts id text s (drop n left) t
IsWritten-more {S} {T} acts id text s m t left n was some few this =
    let e : Call × Reply T = (call.Write id left, reply.Count n) in
    record {
      writes = was.writes ++ e ∷ [];
      are = AreWrites-more id text was.writes e was.are (subst (λ (l : List ℕ). IsWrite id l e) was.left_is (some, refl, refl, few));
      made = Acts-more acts s m t was.writes e was.made this;
      left_is = ap (λ (l : List ℕ). drop n l) was.left_is ∙ drop-drop n (all_counts was.writes) text ∙ ap (λ (k : ℕ). drop k text) (sym (all_counts-more was.writes e));
    }

-- the same as a loop makes it, of all of a buffer that is left
pub IsWritten-part : {S T : Type 0} (acts : S → Call → Reply T → S → Type 0) (id : StreamId) (text : List ℕ) (s m t : S) (buf : List ℕ) (w n : ℕ) →
    IsWritten acts id text s (drop w buf) m → w < length buf → n ≤ length (mid_of w (length buf - w) buf) → acts m (call.Write id (mid_of w (length buf - w) buf)) (reply.Count n) t →
    IsWritten acts id text s (drop (w + n) buf) t
IsWritten-part acts id text s m t buf w n was short few this =
    let whole : mid_of w (length buf - w) buf ≡ drop w buf = mid_is (length buf - w) w buf refl in
    let some : 0 < length (mid_of w (length buf - w) buf) = omega (arith, ap (λ (l : List ℕ). length l) whole, length-drop w buf, short) in
    subst (λ (l : List ℕ). IsWritten acts id text s l t) (ap (λ (l : List ℕ). drop n l) whole ∙ drop-drop n w buf)
    (IsWritten-more acts id text s m t (mid_of w (length buf - w) buf) n (subst (λ (l : List ℕ). IsWritten acts id text s l m) (sym whole) was) some few this)

-- ---- reads

pub all_bytes-more : {T : Type 0} (es : List (Call × Reply T)) (e : Call × Reply T) → all_bytes (es ++ e ∷ []) ≡ all_bytes es ++ bytes_of e.1
all_bytes-more [] e = append-nil (bytes_of e.1)
all_bytes-more (d ∷ es) e = ap (λ (l : List ℕ). bytes_of d.1 ++ l) (all_bytes-more es e) ∙ sym (append_assoc (bytes_of d.1) (all_bytes es) (bytes_of e.1))

-- what is still wanted, less what was given
less : (w a b : ℕ) → (w - a) - b ≡ w - (a + b)
less w a b = omega arith

minus_none : (w : ℕ) → w - 0 ≡ w
minus_none w = omega arith

pub AreReads-more : {T : Type 0} (id : StreamId) (wanted : ℕ) (es : List (Call × Reply T)) (e : Call × Reply T) → AreReads id wanted es → 0 < wanted - length (all_bytes es) →
    e.0 ≡ call.Read id (wanted - length (all_bytes es)) true → IsBytes e.1 → AreReads id wanted (es ++ e ∷ [])
AreReads-more id wanted [] e are some is gives = (subst (λ (k : ℕ). 0 < k) (minus_none wanted) some, is ∙ ap (λ (k : ℕ). call.Read id k true) (minus_none wanted), gives, tt)
AreReads-more id wanted (d ∷ es) e are some is gives =
    let left : wanted - length (all_bytes (d ∷ es)) ≡ (wanted - length (bytes_of d.1)) - length (all_bytes es) =
    ap (λ (k : ℕ). wanted - k) (length-append (bytes_of d.1) (all_bytes es)) ∙ sym (less wanted (length (bytes_of d.1)) (length (all_bytes es))) in
    (are.0, are.1, are.2, AreReads-more id (wanted - length (bytes_of d.1)) es e are.3 (subst (λ (k : ℕ). 0 < k) left some) (is ∙ ap (λ (k : ℕ). call.Read id k true) left) gives)

-- before the first read the buffer is as it was
pub IsFilled-none : {S T : Type 0} (acts : S → Call → Reply T → S → Type 0) (id : StreamId) (old : List ℕ) (filled : ℕ) (s : S) → IsFilled acts id old filled s old filled s
IsFilled-none acts id old filled s = record { reads = []; are = tt; made = refl; counted = omega arith; buffer = sym (ap (λ (l : List ℕ). l ++ drop filled old) (append-nil (take filled old)) ∙ take-append-drop filled old) }

module _ {S T : Type 0} (acts : S → Call → Reply T → S → Type 0) (id : StreamId) where
  -- one more read, of all that is wanted still
  pub IsFilled-more : (old : List ℕ) (filled : ℕ) (s : S) (buf : List ℕ) (f : ℕ) (m : S) (new : List ℕ) (n wanted offset : ℕ) (bytes : List ℕ) (t : S) →
      IsFilled acts id old filled s buf f m → f < length old → wanted ≡ length old - f → acts m (call.Read id wanted true) (reply.Bytes offset bytes) t → n ≡ length bytes →
      new ≡ take f buf ++ (bytes ++ drop n (drop f buf)) → IsFilled acts id old filled s new (f + n) t
  IsFilled-more old filled s buf f m new n wanted offset bytes t was short w this count spliced =
      let e : Call × Reply T = (call.Read id wanted true, reply.Bytes offset bytes) in
      let front : List ℕ = take filled old ++ all_bytes was.reads in
      let sized : length front ≡ f =
      length-append (take filled old) (all_bytes was.reads) ∙ ap (λ (k : ℕ). k + length (all_bytes was.reads)) (length-take-le filled old (omega (arith, was.counted, short))) ∙ sym was.counted in
      let kept : take f buf ≡ front = ap (λ (l : List ℕ). take f l) was.buffer ∙ take_at front (drop f old) f sized in
      let behind : drop f buf ≡ drop f old = ap (λ (l : List ℕ). drop f l) was.buffer ∙ drop_at front (drop f old) f sized in
      let left : drop n (drop f buf) ≡ drop (f + n) old = ap (λ (l : List ℕ). drop n l) behind ∙ drop-drop n f old in
      let grown : all_bytes (was.reads ++ e ∷ []) ≡ all_bytes was.reads ++ bytes = all_bytes-more was.reads e in
      record {
        reads = was.reads ++ e ∷ [];
        are = AreReads-more id (length old - filled) was.reads e was.are (omega (arith, was.counted, short))
            (ap (λ (k : ℕ). call.Read id k true) (w ∙ ap (λ (k : ℕ). length old - k) was.counted ∙ sym (less (length old) filled (length (all_bytes was.reads))))) tt;
        made = Acts-more acts s m t was.reads e was.made this;
        counted = ap (λ (k : ℕ). k + n) was.counted ∙ add_assoc filled (length (all_bytes was.reads)) n
            ∙ ap (λ (k : ℕ). filled + k) (ap (λ (k : ℕ). length (all_bytes was.reads) + k) count ∙ sym (length-append (all_bytes was.reads) bytes) ∙ sym (ap (λ (l : List ℕ). length l) grown));
        buffer = spliced ∙ ap (λ (l : List ℕ). l ++ (bytes ++ drop n (drop f buf))) kept ∙ ap (λ (l : List ℕ). front ++ (bytes ++ l)) left
            ∙ sym (append_assoc front bytes (drop (f + n) old))
            ∙ ap (λ (l : List ℕ). l ++ drop (f + n) old) (append_assoc (take filled old) (all_bytes was.reads) bytes ∙ ap (λ (l : List ℕ). take filled old ++ l) (sym grown));
      }

  -- the same as a loop makes it, in the part of the buffer behind the front
  pub IsFilled-part : (old : List ℕ) (filled : ℕ) (s : S) (buf : List ℕ) (f : ℕ) (m : S) (part : List ℕ) (n : ℕ) (t : S) →
      IsFilled acts id old filled s buf f m → length buf ≡ length old → f < length buf →
      IsReadInto (λ r. acts m (call.Read id (length (mid_of f (length buf - f) buf)) true) r t) (Some n) (mid_of f (length buf - f) buf) part →
      IsFilled acts id old filled s (put_mid f (length buf - f) buf part) (f + n) t
  IsFilled-part old filled s buf f m part n t was same short read =
      let mid : mid_of f (length buf - f) buf ≡ drop f buf = mid_is (length buf - f) f buf refl in
      let none : post_of f (length buf - f) buf ≡ [] = drop_of_length-le (drop f buf) (omega (arith, length-drop f buf)) in
      IsFilled-more old filled s buf f m (put_mid f (length buf - f) buf part) n (length (mid_of f (length buf - f) buf)) read.0 read.1 t was (subst (λ (k : ℕ). f < k) same short)
      (ap (λ (l : List ℕ). length l) mid ∙ length-drop f buf ∙ ap (λ (k : ℕ). k - f) same) read.2 read.3
      (ap (λ (l : List ℕ). take f buf ++ (part ++ l)) none ∙ ap (λ (l : List ℕ). take f buf ++ l) (append-nil part ∙ read.4 ∙ ap (λ (l : List ℕ). read.1 ++ drop n l) mid))

-- ---- all of a stream

widened-more : (extent : Option Extent) (cs : List Chunk) (c : Chunk) → widened_all extent (cs ++ c ∷ []) ≡ Some (widened (widened_all extent cs) c)
widened-more extent [] c = refl
widened-more extent (d ∷ cs) c = widened-more (Some (widened extent d)) cs c

map-more : {A B : Type 0} (f : A → B) (xs : List A) (x : A) → map f (xs ++ x ∷ []) ≡ map f xs ++ f x ∷ []
map-more f [] x = refl
map-more f (y ∷ ys) x = ap (λ l. f y ∷ l) (map-more f ys x)

not_less : (a b : ℕ) → (a < b → ⊥) → b ≤ a
not_less a b never = omega (arith, never)

-- one more piece was read, and is kept
pub IsGathered-more : {S T : Type 0} (acts : S → Call → Reply T → S → Type 0) (id : StreamId) (old : PlainBuffer) (s : S) (b : PlainBuffer) (m : S) (c : Chunk) (new : PlainBuffer) (t : S) →
    IsGathered acts id old s b m → acts m (call.Read id (2 ^ 64 - 1) false) (reply.Bytes c.offset c.bytes) t → (IsTooLong b c → ⊥) →
    new ≡ record { kept = b.kept ++ c ∷ []; extent = Some (widened b.extent c); size_limit = b.size_limit } → IsGathered acts id old s new t
IsGathered-more {S} {T} acts id old s b m c new t was this fits grown =
    let made : Acts acts s (map (piece_read {T = T} id false) was.pieces ++ piece_read id false c ∷ []) t =
    Acts-more acts s m t (map (piece_read id false) was.pieces) (piece_read id false c) was.made this in
    record {
      pieces = was.pieces ++ c ∷ [];
      made = subst (λ es. Acts acts s es t) (sym (map-more (piece_read id false) was.pieces c)) made;
      kept = grown
          ∙ ap (λ (p : PlainBuffer). let q : PlainBuffer = record { kept = p.kept ++ c ∷ []; extent = Some (widened p.extent c); size_limit = p.size_limit } in q) was.kept
          ∙ ap (λ (l : List Chunk). let q : PlainBuffer = record { kept = l; extent = Some (widened (widened_all old.extent was.pieces) c); size_limit = old.size_limit } in q) (append_assoc old.kept was.pieces (c ∷ []))
          ∙ ap (λ (x : Option Extent). let q : PlainBuffer = record { kept = old.kept ++ (was.pieces ++ c ∷ []); extent = x; size_limit = old.size_limit } in q) (sym (widened-more old.extent was.pieces c));
      within = λ _. subst (λ (p : PlainBuffer). len_or_zero p.extent ≤ p.size_limit) (sym grown) (not_less b.size_limit (len_of (widened b.extent c)) (λ long. fits (inl long)));
    }

pub IsGathered-none : {S T : Type 0} (acts : S → Call → Reply T → S → Type 0) (id : StreamId) (old : PlainBuffer) (s : S) → IsGathered acts id old s old s
IsGathered-none acts id old s = record {
  pieces = [];
  made = refl;
  kept = ap (λ (l : List Chunk). let q : PlainBuffer = record { kept = l; extent = old.extent; size_limit = old.size_limit } in q) (sym (append-nil old.kept));
  within = λ short. short;
}

-- a piece that isn't kept
pub keep_failed : {T : Type 0} (e : ReadToEndError) (b : PlainBuffer) (c : Chunk) (P : Reply T → Type 0) (Q : Type 0) → IsKeepError e b c → P (reply.Bytes c.offset c.bytes) → IsToEndError e b P Q
keep_failed to_end.TooLong b c P Q long this = inl (c, this, long)
keep_failed (to_end.Read read.Memory) b c P Q fits this = inr (c, this, fits)
keep_failed (to_end.Read (read.Reset code)) b c P Q never this = absurd never
keep_failed (to_end.Read (read.ConnectionLost e)) b c P Q never this = absurd never
keep_failed (to_end.Read read.ClosedStream) b c P Q never this = absurd never
keep_failed (to_end.Read read.IllegalOrderedRead) b c P Q never this = absurd never
keep_failed (to_end.Read read.ZeroRttRejected) b c P Q never this = absurd never

-- ---- chunks

drop_next : {A : Type 0} (l : List A) (j : ℕ) (d : A) → j < length l → drop j l ≡ get_or l j d ∷ drop (j + 1) l
drop_next l j d short = drop-cons l j d short ∙ ap (λ (k : ℕ). get_or l j d ∷ drop k l) (sym (add-one j))

chunks_are : (bufs : List (List ℕ)) (i : ℕ) (d : List ℕ) → i < length bufs → drop i bufs ≡ get_or bufs i d ∷ drop (i + 1) bufs
chunks_are bufs i d short = drop_next bufs i d short

-- what is left behind a write of the first chunk
behind_text : (n : ℕ) (x : List ℕ) (rest next : List (List ℕ)) → IsBehind n x rest next → concat next ≡ drop n (x ++ concat rest)
behind_text n x rest next (inl h) = ap (λ (l : List (List ℕ)). concat l) h.1 ∙ sym (drop_at x (concat rest) n (sym h.0))
behind_text n x rest next (inr h) = ap (λ (l : List (List ℕ)). concat l) h.1 ∙ sym (drop-append-le n x (concat rest) (omega (arith, h.0)))

pub AreChunkWrites-more : {T : Type 0} (id : StreamId) (old : List (List ℕ)) (es : List (Call × Reply T)) (left : List (List ℕ)) (e : Call × Reply T) (x : List ℕ) (rest next : List (List ℕ)) →
    AreChunkWrites id old es left → left ≡ x ∷ rest → e.0 ≡ call.Write id x → e.1 ≡ reply.Count (count_of e.1) → IsBehind (count_of e.1) x rest next → AreChunkWrites id old (es ++ e ∷ []) next
AreChunkWrites-more id old [] left e x rest next are front is counts behind = (x, rest, next, are ∙ front, is, counts, behind, refl)
AreChunkWrites-more id old (d ∷ es) left e x rest next are front is counts behind =
    (are.0, are.1, are.2, are.3, are.4, are.5, are.6, AreChunkWrites-more id are.2 es left e x rest next are.7 front is counts behind)

-- before the first write all chunks are left
pub IsWrittenOf-none : {S T : Type 0} (acts : S → Call → Reply T → S → Type 0) (id : StreamId) (bufs : List (List ℕ)) (s : S) → IsWrittenOf acts id bufs s bufs s
IsWrittenOf-none acts id bufs s = record { writes = []; written = record { are = refl; made = refl; left_is = refl } }

-- setting what is there changes nothing
pub set_same : (bufs : List (List ℕ)) (i : ℕ) (d y : List ℕ) → y ≡ get_or bufs i d → set bufs i y ≡ bufs
set_same bufs i d y same = ap (λ (z : List ℕ). set bufs i z) same ∙ set-get_or bufs i d

-- a chunk that was found empty
pub empty_is : (bufs : List (List ℕ)) (i : ℕ) (d y : List ℕ) → i < length bufs → true ≡ (length (get_or (set bufs i y) i d) == 0) → y ≡ []
empty_is bufs i d y short e =
    nil_from_length y (ap (λ (l : List ℕ). length l) (sym (get_or-set_same bufs i y d short)) ∙ eqb-true (length (get_or (set bufs i y) i d)) 0 (sym e))

-- one that wasn't
pub some_is : (bufs : List (List ℕ)) (i : ℕ) (d y : List ℕ) → i < length bufs → false ≡ (length (get_or (set bufs i y) i d) == 0) → 0 < length y
some_is bufs i d y short e =
    let here : length (get_or (set bufs i y) i d) ≡ length y = ap (λ (l : List ℕ). length l) (get_or-set_same bufs i y d short) in
    let other : length (get_or (set bufs i y) i d) ≡ 0 → ⊥ = eqb-false (length (get_or (set bufs i y) i d)) 0 (sym e) in
    omega (arith, here, other)

map_length : {A B : Type 0} (f : A → B) (xs : List A) → length (map f xs) ≡ length xs
map_length f [] = refl
map_length f (x ∷ xs) = ap (λ (k : ℕ). suc k) (map_length f xs)

pub IsFrom-map : {T : Type 0} (o : Origin T) (P R : Reply T → Type 0) (Q U : Type 0) → ((r : Reply T) → P r → R r) → (Q → U) → IsFrom o P Q → IsFrom o R U
IsFrom-map (replied r) P R Q U on_reply on_want h = on_reply r h
IsFrom-map wanting P R Q U on_reply on_want h = on_want h
IsFrom-map nowhere P R Q U on_reply on_want h = h

-- an empty chunk has no text
text_passed : (bufs : List (List ℕ)) (i : ℕ) (y : List ℕ) → i < length bufs → y ≡ [] → text_left (set bufs i y) i ≡ text_left (set bufs i y) (i + 1)
text_passed bufs i y short none =
    ap (λ (l : List (List ℕ)). concat l) (drop-set bufs i y short) ∙ ap (λ (l : List ℕ). l ++ concat (drop (i + 1) bufs)) none
    ∙ sym (ap (λ (l : List (List ℕ)). concat l) (drop-set-lt (i + 1) bufs i y (omega arith)))

-- a chunk that is set is there
pub set_is_there : (bufs : List (List ℕ)) (i : ℕ) (y : List ℕ) → i < length bufs → slice_get (set bufs i y) i ≡ Some y
set_is_there bufs i y short =
    slice_get-get_or (set bufs i y) i y (subst (λ (k : ℕ). i < k) (sym (length-set bufs i y)) short) ∙ ap (λ (z : List ℕ). let o : Option (List ℕ) = Some z in o) (get_or-set_same bufs i y y short)

-- how long the text is that is left: behind a chunk, and behind one that was set
pub text_length : (bufs : List (List ℕ)) (i : ℕ) (d : List ℕ) → i < length bufs → length (text_left bufs i) ≡ length (get_or bufs i d) + length (concat (drop (i + 1) bufs))
text_length bufs i d short = ap (λ (l : List (List ℕ)). length (concat l)) (chunks_are bufs i d short) ∙ length-append (get_or bufs i d) (concat (drop (i + 1) bufs))

pub text_length-set : (bufs : List (List ℕ)) (i : ℕ) (y : List ℕ) → i < length bufs → length (text_left (set bufs i y) i) ≡ length y + length (concat (drop (i + 1) bufs))
text_length-set bufs i y short = ap (λ (l : List (List ℕ)). length (concat l)) (drop-set bufs i y short) ∙ length-append y (concat (drop (i + 1) bufs))

pub text_length-passed : (bufs : List (List ℕ)) (i : ℕ) (y : List ℕ) → length (text_left (set bufs i y) (i + 1)) ≡ length (concat (drop (i + 1) bufs))
text_length-passed bufs i y = ap (λ (l : List (List ℕ)). length (concat l)) (drop-set-lt (i + 1) bufs i y (omega arith))

left_length : (x y : List ℕ) (n : ℕ) → y ≡ drop n x → length y ≡ length x - n
left_length x y n left = ap (λ (l : List ℕ). length l) left ∙ length-drop n x

-- a chunk of which nothing is left was written whole, and one of which some is wasn't
pub whole_is : (x y : List ℕ) (n : ℕ) → n ≤ length x → y ≡ drop n x → y ≡ [] → n ≡ length x
whole_is x y n few left none = omega (arith, few, left_length x y n left, ap (λ (l : List ℕ). length l) none)

pub part_is : (x y : List ℕ) (n : ℕ) → y ≡ drop n x → 0 < length y → n < length x
part_is x y n left some = omega (arith, left_length x y n left, some)

module _ {S T : Type 0} (acts : S → Call → Reply T → S → Type 0) (id : StreamId) where
  -- one more write, of the first chunk that is left
  pub IsWrittenBy-more : (writes : List (Call × Reply T)) (old : List (List ℕ)) (s m t : S) (left : List (List ℕ)) (x : List ℕ) (rest next : List (List ℕ)) (n : ℕ) →
      IsWrittenBy acts id writes old s left m → left ≡ x ∷ rest → IsBehind n x rest next → acts m (call.Write id x) (reply.Count n) t →
      IsWrittenBy acts id (writes ++ (call.Write id x, reply.Count n) ∷ []) old s next t
  IsWrittenBy-more writes old s m t left x rest next n was front behind this =
      let e : Call × Reply T = (call.Write id x, reply.Count n) in
      record {
        are = AreChunkWrites-more id old writes left e x rest next was.are front refl refl behind;
        made = Acts-more acts s m t writes e was.made this;
        left_is = behind_text n x rest next behind ∙ ap (λ (l : List ℕ). drop n l) (sym (ap (λ (l : List (List ℕ)). concat l) front) ∙ was.left_is)
            ∙ drop-drop n (all_counts writes) (concat old) ∙ ap (λ (k : ℕ). drop k (concat old)) (sym (all_counts-more writes e));
      }

  -- the front of a chunk was written, and the rest of it is left
  pub part_written : (writes : List (Call × Reply T)) (old : List (List ℕ)) (s m t : S) (bufs : List (List ℕ)) (i n : ℕ) (d y : List ℕ) →
      IsWrittenBy acts id writes old s (drop i bufs) m → i < length bufs → n < length (get_or bufs i d) → acts m (call.Write id (get_or bufs i d)) (reply.Count n) t → y ≡ drop n (get_or bufs i d) →
      IsWrittenBy acts id (writes ++ (call.Write id (get_or bufs i d), reply.Count n) ∷ []) old s (drop i (set bufs i y)) t
  part_written writes old s m t bufs i n d y was short fewer this left =
      IsWrittenBy-more writes old s m t (drop i bufs) (get_or bufs i d) (drop (i + 1) bufs) (drop i (set bufs i y)) n was (chunks_are bufs i d short)
      (inr (fewer, drop-set bufs i y short ∙ ap (λ (z : List ℕ). z ∷ drop (i + 1) bufs) left)) this

  -- all of a chunk was written
  pub whole_written : (writes : List (Call × Reply T)) (old : List (List ℕ)) (s m t : S) (bufs : List (List ℕ)) (i n : ℕ) (d y : List ℕ) →
      IsWrittenBy acts id writes old s (drop i bufs) m → i < length bufs → n ≡ length (get_or bufs i d) → acts m (call.Write id (get_or bufs i d)) (reply.Count n) t →
      IsWrittenBy acts id (writes ++ (call.Write id (get_or bufs i d), reply.Count n) ∷ []) old s (drop (i + 1) (set bufs i y)) t
  whole_written writes old s m t bufs i n d y was short all this =
      IsWrittenBy-more writes old s m t (drop i bufs) (get_or bufs i d) (drop (i + 1) bufs) (drop (i + 1) (set bufs i y)) n was (chunks_are bufs i d short)
      (inl (all, drop-set-lt (i + 1) bufs i y (omega arith))) this

  -- the same with no word of which writes they were
  pub chunk_part : (old : List (List ℕ)) (s m t : S) (bufs : List (List ℕ)) (i n : ℕ) (d y : List ℕ) →
      IsWrittenOf acts id old s (drop i bufs) m → i < length bufs → n < length (get_or bufs i d) → acts m (call.Write id (get_or bufs i d)) (reply.Count n) t → y ≡ drop n (get_or bufs i d) →
      IsWrittenOf acts id old s (drop i (set bufs i y)) t
  chunk_part old s m t bufs i n d y was short fewer this left =
      record { writes = was.writes ++ (call.Write id (get_or bufs i d), reply.Count n) ∷ []; written = part_written was.writes old s m t bufs i n d y was.written short fewer this left }

  pub chunk_whole : (old : List (List ℕ)) (s m t : S) (bufs : List (List ℕ)) (i n : ℕ) (d y : List ℕ) →
      IsWrittenOf acts id old s (drop i bufs) m → i < length bufs → n ≡ length (get_or bufs i d) → acts m (call.Write id (get_or bufs i d)) (reply.Count n) t →
      IsWrittenOf acts id old s (drop (i + 1) (set bufs i y)) t
  chunk_whole old s m t bufs i n d y was short all this =
      record { writes = was.writes ++ (call.Write id (get_or bufs i d), reply.Count n) ∷ []; written = whole_written was.writes old s m t bufs i n d y was.written short all this }

  -- a chunk that is left as it was: the call with it was made, and replied so
  pub chunk_kept : (old : List (List ℕ)) (s m t : S) (bufs : List (List ℕ)) (i : ℕ) (d y : List ℕ) (r : Reply T) →
      IsWrittenOf acts id old s (drop i bufs) m → i < length bufs → acts m (call.Write id (get_or bufs i d)) r t → y ≡ get_or bufs i d →
      (x : S) × IsWrittenOf acts id old s (drop i (set bufs i y)) x × OfChunk (set bufs i y) i (λ chunk. acts x (call.Write id chunk) r t)
  chunk_kept old s m t bufs i d y r was short this same = (
    m,
    subst (λ (l : List (List ℕ)). IsWrittenOf acts id old s (drop i l) m) (sym (set_same bufs i d y same)) was,
    (y, set_is_there bufs i y short, subst (λ (l : List ℕ). acts m (call.Write id l) r t) (sym same) this),
  )

  pub chunk_failed : (stays : S → S → Type 0) (e : WriteError) (old : List (List ℕ)) (s m t : S) (bufs : List (List ℕ)) (i : ℕ) (d y : List ℕ) →
      IsWrittenOf acts id old s (drop i bufs) m → i < length bufs → IsFrom (write_origin e) (λ (r : Reply T). acts m (call.Write id (get_or bufs i d)) r t) (stays m t ⊎ (t ≡ m)) → y ≡ get_or bufs i d →
      (x : S) × IsWrittenOf acts id old s (drop i (set bufs i y)) x
      × ((i < length (set bufs i y)) × IsFrom (write_origin e) (λ (r : Reply T). OfChunk (set bufs i y) i (λ chunk. acts x (call.Write id chunk) r t)) (stays x t ⊎ (t ≡ x)))
  chunk_failed stays e old s m t bufs i d y was short this same = (
    m,
    subst (λ (l : List (List ℕ)). IsWrittenOf acts id old s (drop i l) m) (sym (set_same bufs i d y same)) was,
    (
      subst (λ (k : ℕ). i < k) (sym (length-set bufs i y)) short,
      IsFrom-map (write_origin e) (λ (r : Reply T). acts m (call.Write id (get_or bufs i d)) r t) (λ (r : Reply T). OfChunk (set bufs i y) i (λ chunk. acts m (call.Write id chunk) r t))
          (stays m t ⊎ (t ≡ m)) (stays m t ⊎ (t ≡ m)) (λ r made. (y, set_is_there bufs i y short, subst (λ (l : List ℕ). acts m (call.Write id l) r t) (sym same) made)) (λ q. q) this,
    ),
  )

  -- one more piece is placed
  pub IsPlaced-more : (old : List (List ℕ)) (s : S) (bufs : List (List ℕ)) (m : S) (count : ℕ) (c : Chunk) (t : S) →
      IsPlaced acts id old s bufs m count → count < length bufs → length bufs ≡ length old → acts m (call.Read id (2 ^ 64 - 1) true) (reply.Bytes c.offset c.bytes) t →
      IsPlaced acts id old s (set bufs count c.bytes) t (count + 1)
  IsPlaced-more old s bufs m count c t was short same this =
      let front : List (List ℕ) = map (λ (d : Chunk). d.bytes) was.pieces in
      let sized : length front ≡ count = map_length (λ (d : Chunk). d.bytes) was.pieces ∙ sym was.counted in
      let next : drop count old ≡ get_or old count [] ∷ drop (count + 1) old = drop_next old count [] (subst (λ (k : ℕ). count < k) same short) in
      let made : Acts acts s (map (piece_read {T = T} id true) was.pieces ++ piece_read id true c ∷ []) t =
      Acts-more acts s m t (map (piece_read id true) was.pieces) (piece_read id true c) was.made this in
      record {
        pieces = was.pieces ++ c ∷ [];
        made = subst (λ es. Acts acts s es t) (sym (map-more (piece_read id true) was.pieces c)) made;
        counted = ap (λ (k : ℕ). k + 1) was.counted ∙ sym (length-append was.pieces (c ∷ []));
        placed = ap (λ (l : List (List ℕ)). set l count c.bytes) (was.placed ∙ ap (λ (l : List (List ℕ)). front ++ l) next)
            ∙ set_at front (get_or old count []) (drop (count + 1) old) c.bytes count sized
            ∙ sym (append_assoc front (c.bytes ∷ []) (drop (count + 1) old))
            ∙ ap (λ (l : List (List ℕ)). l ++ drop (count + 1) old) (sym (map-more (λ (d : Chunk). d.bytes) was.pieces c));
      }

-- an error that comes behind others has a reply that ends writes, or memory was wanting
quiet_write : {T : Type 0} (e : WriteError) (P : Reply T → Type 0) (Q : Type 0) → IsFrom (write_origin e) P Q → Q ⊎ ((r : Reply T) × P r × EndsWrites r)
quiet_write (write.Stopped code) P Q this = inr (reply.Stopped code, this, tt)
quiet_write (write.ConnectionLost e) P Q this = inr (reply.ConnectionLost e, this, tt)
quiet_write write.ClosedStream P Q this = inr (reply.ClosedStream, this, tt)
quiet_write write.ZeroRttRejected P Q this = absurd this
quiet_write write.Memory P Q this = inl this

-- chunks in front of one that is set
pub front_kept : (bufs : List (List ℕ)) (i : ℕ) (y : List ℕ) → concat (take i bufs) ≡ [] → concat (take i (set bufs i y)) ≡ []
front_kept bufs i y none = ap (λ (l : List (List ℕ)). concat l) (take-set bufs i y) ∙ none

concat-more : (xs : List (List ℕ)) (y : List ℕ) → concat (xs ++ y ∷ []) ≡ concat xs ++ y
concat-more [] y = append-nil y
concat-more (x ∷ xs) y = ap (λ (l : List ℕ). x ++ l) (concat-more xs y) ∙ sym (append_assoc x (concat xs) y)

pub front_grown : (bufs : List (List ℕ)) (i : ℕ) (y : List ℕ) → i < length bufs → y ≡ [] → concat (take i bufs) ≡ [] → concat (take (i + 1) (set bufs i y)) ≡ []
front_grown bufs i y short empty none =
    ap (λ (l : List (List ℕ)). concat l) (take-set_at bufs i (i + 1) y refl short) ∙ concat-more (take i bufs) y ∙ ap (λ (l : List ℕ). l ++ y) none ∙ empty

-- nothing is left of a chunk that was written whole
pub all_taken : (x y : List ℕ) (n size : ℕ) → y ≡ drop n x → size ≡ length x → size ≤ n → y ≡ []
all_taken x y n size left is all = left ∙ drop_of_length-le x (omega (arith, is, all))

sums : (all b n x y rest before after : ℕ) → all ≡ b + before → before ≡ x + rest → after ≡ y + rest → y ≡ x - n → n ≤ x → all ≡ (b + n) + after
sums all b n x y rest before after e was now left few = omega (arith, e, was, now, left, few)

-- so many bytes were written of a chunk, and so many altogether
pub counted_on : (all b n : ℕ) (bufs : List (List ℕ)) (i : ℕ) (d y : List ℕ) → all ≡ b + length (text_left bufs i) → i < length bufs → n ≤ length (get_or bufs i d) → y ≡ drop n (get_or bufs i d) →
    all ≡ (b + n) + length (text_left (set bufs i y) i)
counted_on all b n bufs i d y was short few left =
    sums all b n (length (get_or bufs i d)) (length y) (length (concat (drop (i + 1) bufs))) (length (text_left bufs i)) (length (text_left (set bufs i y) i)) was
    (text_length bufs i d short) (text_length-set bufs i y short) (left_length (get_or bufs i d) y n left) few

pub counted_whole : (all b n : ℕ) (bufs : List (List ℕ)) (i : ℕ) (d y : List ℕ) → all ≡ b + length (text_left bufs i) → i < length bufs → n ≤ length (get_or bufs i d) → y ≡ drop n (get_or bufs i d) → y ≡ [] →
    all ≡ (b + n) + length (text_left (set bufs i y) (i + 1))
counted_whole all b n bufs i d y was short few left empty =
    counted_on all b n bufs i d y was short few left ∙ ap (λ (l : List ℕ). (b + n) + length l) (text_passed bufs i y short empty)

module _ {S T : Type 0} (acts : S → Call → Reply T → S → Type 0) (stays : S → S → Type 0) (id : StreamId) where
  -- the last write took less than its chunk
  pub partly_written : (old : List (List ℕ)) (s m t : S) (bufs : List (List ℕ)) (i n b : ℕ) (d y : List ℕ) →
      IsWrittenOf acts id old s (drop i bufs) m → concat (take i bufs) ≡ [] → length (concat old) ≡ b + length (text_left bufs i) → i < length bufs →
      n < length (get_or bufs i d) → acts m (call.Write id (get_or bufs i d)) (reply.Count n) t → y ≡ drop n (get_or bufs i d) →
      IsPartly acts stays id old s (set bufs i y) t (b + n) i
  partly_written old s m t bufs i n b d y was none counted short fewer this left =
      let few : n ≤ length (get_or bufs i d) = omega (arith, fewer) in
      record {
        mid = t;
        writes = was.writes ++ (call.Write id (get_or bufs i d), reply.Count n) ∷ [];
        written = part_written acts id was.writes old s m t bufs i n d y was.written short fewer this left;
        emptied = front_kept bufs i y none;
        counted = counted_on (length (concat old)) b n bufs i d y counted short few left;
        stopped = inr (inl ((y, set_is_there bufs i y short, (was.writes, get_or bufs i d, n, refl, fewer, left)), refl));
      }

  -- with the next chunk it would be more than can be counted
  pub partly_counted : (old : List (List ℕ)) (s m : S) (bufs : List (List ℕ)) (i b : ℕ) (d : List ℕ) →
      IsWrittenOf acts id old s (drop i bufs) m → concat (take i bufs) ≡ [] → length (concat old) ≡ b + length (text_left bufs i) → i < length bufs → 0 < b → 2 ^ 64 ≤ b + length (get_or bufs i d) →
      IsPartly acts stays id old s bufs m b i
  partly_counted old s m bufs i b d was none counted short some long = record {
    mid = m;
    writes = was.writes;
    written = was.written;
    emptied = none;
    counted = counted;
    stopped = inr (inr (inl (some, (get_or bufs i d, slice_get-get_or bufs i d short, long), refl)));
  }

  -- the last write wrote nothing, or wasn't made
  pub partly_kept : (old : List (List ℕ)) (s m t : S) (bufs : List (List ℕ)) (i b : ℕ) (d y : List ℕ) →
      IsWrittenOf acts id old s (drop i bufs) m → concat (take i bufs) ≡ [] → length (concat old) ≡ b + length (text_left bufs i) → i < length bufs → 0 < i →
      ((stays m t ⊎ (t ≡ m)) ⊎ ((r : Reply T) × acts m (call.Write id (get_or bufs i d)) r t × EndsWrites r)) → y ≡ get_or bufs i d →
      IsPartly acts stays id old s (set bufs i y) t b i
  partly_kept old s m t bufs i b d y was none counted short some last same =
      let whole : bufs ≡ set bufs i y = sym (set_same bufs i d y same) in
      record {
        mid = m;
        writes = was.writes;
        written = subst (λ (l : List (List ℕ)). IsWrittenBy acts id was.writes old s (drop i l) m) whole was.written;
        emptied = front_kept bufs i y none;
        counted = subst (λ (l : List (List ℕ)). length (concat old) ≡ b + length (text_left l i)) whole counted;
        stopped = inr (inr (inr (some, subst (λ (k : ℕ). i < k) (sym (length-set bufs i y)) short, last_of m t bufs i d y short same last)));
      } where
        last_of : (m t : S) (bufs : List (List ℕ)) (i : ℕ) (d y : List ℕ) → i < length bufs → y ≡ get_or bufs i d →
            ((stays m t ⊎ (t ≡ m)) ⊎ ((r : Reply T) × acts m (call.Write id (get_or bufs i d)) r t × EndsWrites r)) →
            (stays m t ⊎ (t ≡ m)) ⊎ ((r : Reply T) × OfChunk (set bufs i y) i (λ chunk. acts m (call.Write id chunk) r t) × EndsWrites r)
        last_of m t bufs i d y short same (inl h) = inl h
        last_of m t bufs i d y short same (inr h) = inr (h.0, (y, set_is_there bufs i y short, subst (λ (l : List ℕ). acts m (call.Write id l) h.0 t) (sym same) h.1), h.2)

  pub partly_failed : (old : List (List ℕ)) (s m t : S) (bufs : List (List ℕ)) (i b : ℕ) (d y : List ℕ) (e : WriteError) →
      IsWrittenOf acts id old s (drop i bufs) m → concat (take i bufs) ≡ [] → length (concat old) ≡ b + length (text_left bufs i) → i < length bufs → 0 < i →
      IsFrom (write_origin e) (λ (r : Reply T). acts m (call.Write id (get_or bufs i d)) r t) (stays m t ⊎ (t ≡ m)) → y ≡ get_or bufs i d →
      IsPartly acts stays id old s (set bufs i y) t b i
  partly_failed old s m t bufs i b d y e was none counted short some this same =
      partly_kept old s m t bufs i b d y was none counted short some (quiet_write e (λ (r : Reply T). acts m (call.Write id (get_or bufs i d)) r t) (stays m t ⊎ (t ≡ m)) this) same

  -- nothing was written yet, and the write failed
  pub first_failed : (old : List (List ℕ)) (s m t : S) (bufs : List (List ℕ)) (i : ℕ) (d y : List ℕ) (e : WriteError) →
      (i ≡ 0 → (m ≡ s) × (bufs ≡ old)) → i < length bufs → i ≡ 0 →
      IsFrom (write_origin e) (λ (r : Reply T). acts m (call.Write id (get_or bufs i d)) r t) (stays m t ⊎ (t ≡ m)) → y ≡ get_or bufs i d →
      (set bufs i y ≡ old) × ((0 < length old) × IsFrom (write_origin e) (λ (r : Reply T). OfChunk old 0 (λ chunk. acts s (call.Write id chunk) r t)) (stays s t ⊎ (t ≡ s)))
  first_failed old s m t bufs i d y e first short none this same =
      let at_first = first none in
      let there : slice_get old 0 ≡ Some (get_or bufs i d) =
      subst (λ (k : ℕ). slice_get old k ≡ Some (get_or bufs i d)) none (subst (λ (l : List (List ℕ)). slice_get l i ≡ Some (get_or bufs i d)) at_first.1 (slice_get-get_or bufs i d short)) in (
        set_same bufs i d y same ∙ at_first.1,
        (
          subst (λ (k : ℕ). k < length old) none (subst (λ (l : List (List ℕ)). i < length l) at_first.1 short),
          IsFrom-map (write_origin e) (λ (r : Reply T). acts m (call.Write id (get_or bufs i d)) r t) (λ (r : Reply T). OfChunk old 0 (λ chunk. acts s (call.Write id chunk) r t))
              (stays m t ⊎ (t ≡ m)) (stays s t ⊎ (t ≡ s)) (λ r made. (get_or bufs i d, there, subst (λ x. acts x (call.Write id (get_or bufs i d)) r t) at_first.0 made))
              (λ q. subst (λ x. stays x t ⊎ (t ≡ x)) at_first.0 q) this,
        ),
      )

pub not_none : (n : ℕ) → n + 1 ≡ 0 → ⊥
not_none n e = omega (arith, e)
