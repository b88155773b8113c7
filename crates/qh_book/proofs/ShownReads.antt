-- Reads of a connection are steps of the book.
use Rattle.std.proofs.Common.{◌≡◌, ◌⊎◌, ℕ, zero, suc, ◌+◌, ◌<◌, ◌≤◌, ◌==◌, nat_lt, Bool, true, false, ◌&&◌, ◌||◌, not, List, [], ◌∷◌, length, Option, Some, None, Ok, Err, is_some, if◌then◌else◌, refl, sym, ap, ◌∙◌, arith, inl, inr, subst, eq-eqb}
use Rattle.std.proofs.lemmas.Bool.{and_from, cases_Bool, cases_order, false≢true, le-leb, lt-ltb, ltb-true}
use Rattle.std.proofs.lemmas.Option.{none-some, same_Some}
use Rattle.qh_base.specs.declared.connection_error.ConnectionError.{ConnectionError}
use Rattle.qh_base.specs.declared.stream_id.StreamId.{StreamId}
use Rattle.qh_book.proofs.ShownRecvs.{RecvAlone, at_end_is, dry_is, next_is, no_reset_at_end, noted_same, reading_there, recv_closed, shown_recv}
use Rattle.qh_book.proofs.ShownStops.{shown_noted, shown_put}
use Rattle.qh_book.specs.Book.{Book, with_recv}
use Rattle.qh_book.specs.Interests.{has_next, has_unread_below, is_at_end as end_reached, is_blocked, is_out_of_order}
use Rattle.qh_book.specs.Pages.{RecvPage, EndGiven, ResetGiven, is_open, open_recv, unread_at, with_read}
use Rattle.qh_book.specs.Receiving.{IsPiece, ReadsPage, in_mode, with_error}
use Rattle.qh_book.specs.Shown.{IsNoted, IsShut, IsStreamStep, Note, ShowsHalf, ShowsReading, ShowsRecv, ShowsStreams, noted}
use Rattle.qh_book.specs.declared.call.Call.TheVariants as call
use Rattle.qh_book.specs.declared.reply.Reply.{Reply}
use Rattle.qh_book.specs.declared.reply.Reply.TheVariants as reply
use Rattle.qh_buffers.specs.Assembler.{is_over, read_to, to_give, was_given}
use Rattle.qh_buffers.specs.declared.assembler.Chunk.{Chunk}
use Rattle.qh_halves.specs.RecvHalves.{Begins, IsRecvStep, PlainRecvHalves, Reads as HalfReads, half_readable_fault, readable_fault_at, recv_at, unless_done}
use Rattle.qh_streams.specs.Streams.{PlainStreams, counted_closed}
use Rattle.qh_half.specs.Recv.{IsRead, IsReadAnswer, PlainRecv, WaitsForMore, bytes_read, final_size, is_at_end, is_closed, is_done, readable_fault, reset_code, with_order}
use Rattle.qh_half.specs.Recv.IsReadAnswer.{bytes as gives_bytes, nothing as gives_nothing, end as gives_end, reset as gives_reset, blocked as gives_none}
use Rattle.qh_half.specs.declared.fault.ReadFault.TheVariants as read_fault
use Rattle.qh_half.specs.declared.fault.ReadableFault.{ReadableFault}
use Rattle.qh_half.specs.declared.fault.ReadableFault.TheVariants as readable

-- ---- pieces

-- an offset of a piece that begins at the next offset, and those before it, are the offsets before its end
over_next : (c : Chunk) (k : ℕ) → (is_over c k || nat_lt k c.offset) ≡ nat_lt k (c.offset + length c.bytes)
over_next c k = elim (cases_Bool (nat_lt k c.offset)) [
  | inl low ↦ let below : k < c.offset + length c.bytes = (let l = ltb-true k c.offset low in omega (arith, l)) in rw (low, lt-ltb k (c.offset + length c.bytes) below) (or_true _)
  | inr high ↦ rw high (rest (not_below k c.offset high))
]
  where
    or_true : (b : Bool) → (b || true) ≡ true
    or_true true = refl
    or_true false = refl

    or_false : (b : Bool) → (b || false) ≡ b
    or_false true = refl
    or_false false = refl

    and_true : (b : Bool) → (true && b) ≡ b
    and_true true = refl
    and_true false = refl

    not_below : (m n : ℕ) → nat_lt m n ≡ false → n ≤ m
    not_below m n h = elim (cases_order m n) [ inl same ↦ omega (arith, same) | inr (inl under) ↦ absurd (false≢true (sym h ∙ lt-ltb m n under)) | inr (inr over) ↦ omega (arith, over) ]

    rest : c.offset ≤ k → (is_over c k || false) ≡ nat_lt k (c.offset + length c.bytes)
    rest low = or_false (is_over c k) ∙ (ap (λ (b : Bool). b && nat_lt k (c.offset + length c.bytes)) (le-leb c.offset k low) ∙ and_true _)

unread_after : (low over : Bool) (o : Option ℕ) → (if low then (if over then None else o) else None) ≡ (if over then None else (if low then o else None))
unread_after true true o = refl
unread_after true false o = refl
unread_after false true o = refl
unread_after false false o = refl

first_over : (c : Chunk) → 0 < length c.bytes → is_over c c.offset ≡ true
first_over c some = and_from _ _ (le-leb c.offset c.offset (omega arith)) (lt-ltb c.offset (c.offset + length c.bytes) (omega (arith, some)))

or_parts : (x y : Bool) → (x || y) ≡ false → (x ≡ false) × (y ≡ false)
or_parts true y h = absurd (false≢true (sym h))
or_parts false y h = (refl, h)

not_not : (x : Bool) → not x ≡ false → x ≡ true
not_not true h = refl
not_not false h = absurd (false≢true (sym h))

-- ---- a read of one half

module _ (h : PlainRecv) (p : RecvPage) (is_ordered : Bool) (shown : ShowsReading h p) (can : is_out_of_order p is_ordered ≡ false) where
  -- the mode of the half then
  pub mode_is : (h.is_unordered || not is_ordered) ≡ not is_ordered
  mode_is = cases is_ordered (sym (ap (λ (b : Bool). is_ordered && b) shown.is_unordered) ∙ can)
    where
      cases : (o : Bool) → (is_ordered && h.is_unordered) ≡ false → (h.is_unordered || not is_ordered) ≡ not is_ordered
      cases o e = both is_ordered h.is_unordered e
        where
          both : (x y : Bool) → (x && y) ≡ false → (y || not x) ≡ not x
          both true true e = absurd (false≢true (sym e))
          both true false e = refl
          both false true e = refl
          both false false e = refl

  -- the half in its mode is shown by the page in its mode
  pub shown_in_mode : ShowsReading (with_order h is_ordered) (in_mode is_ordered p)
  shown_in_mode = record {
    state = shown.state;
    unread = shown.unread;
    next = λ ordered. shown.next (or_parts h.is_unordered (not is_ordered) ordered).0;
    was_read = shown.was_read;
    read = shown.read;
    end = shown.end;
    reset_code = shown.reset_code;
    dry = shown.dry;
    is_unordered = ap (λ (b : Bool). b || not is_ordered) shown.is_unordered;
  }

module _ (r next : PlainRecv) (p : RecvPage) (max_length : ℕ) (is_ordered : Bool) (c : Chunk) (shown : ShowsReading r p) (mode : r.is_unordered ≡ not is_ordered) (read : IsRead r next max_length c) where
  fresh_next : is_ordered ≡ true → was_given r.assembler (read_to r.assembler) ≡ false
  fresh_next ordered =
      let first = read.given.new_ones c.offset (first_over c read.given.some) in
      let front = read.front (mode ∙ ap not ordered) in
      subst (λ (k : ℕ). was_given r.assembler k ≡ false) front.offset_is first

  from_next : is_ordered ≡ true → c.offset ≡ p.next
  from_next ordered = (read.front (mode ∙ ap not ordered)).offset_is ∙ sym (next_is r p shown (mode ∙ ap not ordered) (fresh_next ordered))

  pub piece_is : IsPiece p max_length is_ordered c
  piece_is = record {
    some = read.given.some;
    few = read.given.few;
    unread = λ k over. shown.unread k ∙ read.given.waited k over;
    next = from_next;
    longest = longest;
  }
    where
      longest : is_ordered ≡ true → (length c.bytes ≡ max_length) ⊎ (unread_at p (c.offset + length c.bytes) ≡ None)
      longest ordered = elim (read.front (mode ∙ ap not ordered)).longest [ inl e ↦ inl e | inr none ↦ inr (shown.unread (c.offset + length c.bytes) ∙ none) ]

  pub shown_read : ShowsReading next (with_read c is_ordered p)
  shown_read = record {
    state = shown.state;
    unread = unread;
    next = ordered_next;
    was_read = λ k. ap (λ (b : Bool). is_over c k || b) (shown.was_read k) ∙ sym (read.given.given_are k);
    read = ap (λ (n : ℕ). n + length c.bytes) shown.read ∙ sym read.counted;
    end = shown.end ∙ sym (ap (λ (x : PlainRecv). final_size x.state) read.rest_is);
    reset_code = shown.reset_code ∙ sym (ap (λ (x : PlainRecv). reset_code x.state) read.rest_is);
    dry = λ has. absurd (false≢true (sym (ap is_some (shown.reset_code ∙ read.not_reset)) ∙ has));
    is_unordered = shown.is_unordered ∙ sym (ap (λ (x : PlainRecv). x.is_unordered) read.rest_is);
  }
    where
      unread : (k : ℕ) → unread_at (with_read c is_ordered p) k ≡ to_give next.assembler k
      unread k = unread_after (nat_lt k p.unread_to) (is_over c k) (p.unread k) ∙ (ap (λ (o : Option ℕ). if is_over c k then None else o) (shown.unread k) ∙ sym (read.given.bytes_are k))

      in_order : next.is_unordered ≡ false → is_ordered ≡ true
      in_order off = not_not is_ordered (sym mode ∙ (sym (ap (λ (x : PlainRecv). x.is_unordered) read.rest_is) ∙ off))

      ordered_next : next.is_unordered ≡ false → (k : ℕ) → (is_over c k || p.was_read k) ≡ nat_lt k (if is_ordered then c.offset + length c.bytes else p.next)
      ordered_next off k =
          let ordered = in_order off in
          let before : p.was_read k ≡ nat_lt k c.offset = shown.next (mode ∙ ap not ordered) k ∙ ap (nat_lt k) (sym (from_next ordered)) in
          ap (λ (b : Bool). is_over c k || b) before ∙ (over_next c k ∙ ap (λ (o : Bool). nat_lt k (if o then c.offset + length c.bytes else p.next)) (sym ordered))

-- ---- a read of a stream: a half is read in a mode

same_half : (o : Option PlainRecv) (g h : PlainRecv) → o ≡ Some g → o ≡ Some h → g ≡ h
same_half o g h is that = same_Some g h (sym is ∙ that)

not_closed : (r : PlainRecv) (is_ordered : Bool) → readable_fault r is_ordered ≡ None → (is_closed r ≡ false) × ((is_ordered && r.is_unordered) ≡ false)
not_closed r is_ordered none = cases (is_closed r) (is_ordered && r.is_unordered) none
  where
    cases : (c o : Bool) → (if c then Some readable.ClosedStream else if o then Some readable.IllegalOrderedRead else None) ≡ None → (c ≡ false) × (o ≡ false)
    cases true o n = absurd (none-some _ (sym n))
    cases false true n = absurd (none-some _ (sym n))
    cases false false n = (refl, refl)

-- what is known of the half that is read, and of its page
pub record IsBegun (note : Note) (b : Book) (id : ℕ) (is_ordered : Bool) (mid : PlainRecvHalves) (r : PlainRecv) : Type 0 where
  pub page : RecvPage
  pub is_page : open_recv (b.recvs id) ≡ Some page
  pub can : is_out_of_order page is_ordered ≡ false
  pub reading : ShowsReading r (in_mode is_ordered page)
  pub is_noted : IsNoted note page
  pub mode : r.is_unordered ≡ not is_ordered
  pub on : is_done r ≡ false
  pub off : r.is_stopped ≡ false
  pub there : recv_at mid id ≡ Some r

same_id : (k : ℕ) → (k == k) ≡ true
same_id k = eq-eqb k k refl

module _ {notes : ℕ → Note} (old : PlainStreams) (mid : PlainRecvHalves) (b : Book) (id : ℕ) (is_ordered : Bool) (shown : ShowsStreams old notes b) where
  pub begun : readable_fault_at old.recv id is_ordered ≡ None → (s : IsRecvStep (Begins is_ordered) old.recv mid id 0) → IsBegun (notes id) b id is_ordered mid (with_order s.half is_ordered)
  begun none s =
      let fault : readable_fault s.half is_ordered ≡ None = subst (λ (o : Option PlainRecv). half_readable_fault o is_ordered ≡ None) s.was none in
      let may = not_closed s.half is_ordered fault in
      let off = or_parts s.half.is_stopped s.half.is_given may.0 in
      let p = reading_there (notes id) (b.recvs id) s.half (subst (λ (o : Option PlainRecv). ShowsRecv (notes id) o (b.recvs id)) s.was (shown.recvs id)) off.0 in
      let can : is_out_of_order p.0 is_ordered ≡ false = ap (λ (u : Bool). is_ordered && u) p.3.is_unordered ∙ may.1 in
      record {
        page = p.0;
        is_page = p.1;
        can = can;
        reading = shown_in_mode s.half p.0 is_ordered p.3 can;
        is_noted = p.4;
        mode = mode_is s.half p.0 is_ordered p.3 can;
        on = p.2;
        off = off.0;
        there = s.halves_are id ∙ (ap (λ (here : Bool). if here then unless_done s.next else recv_at old.recv id) (same_id id) ∙ (ap unless_done s.step ∙ ap (λ (done : Bool). if done then None else Some (with_order s.half is_ordered)) p.2));
      }

-- the halves once a half was begun to be read, and is another one then
twice_put : (k_is : Bool) (n m o next r : Option PlainRecv) → n ≡ (if k_is then next else m) → m ≡ (if k_is then r else o) → n ≡ (if k_is then next else o)
twice_put true n m o next r is before = is
twice_put false n m o next r is before = is ∙ before

-- that a read gave an error isn't seen in the half
with_an_error : (r : PlainRecv) (p : RecvPage) → ShowsReading r p → ShowsReading r (with_error p)
with_an_error r p x = record { state = x.state; unread = x.unread; next = x.next; was_read = x.was_read; read = x.read; end = x.end; reset_code = x.reset_code; dry = x.dry; is_unordered = x.is_unordered }

module _ {notes : ℕ → Note} (old mid new : PlainStreams) (b : Book) (id : StreamId) (max_length : ℕ) (is_ordered : Bool) (live : Bool) (shown : ShowsStreams old notes b) (held : b.readers id.0 ≡ true) (can : readable_fault_at old.recv id.0 is_ordered ≡ None)
    (begins : IsRecvStep (Begins is_ordered) old.recv mid.recv id.0 0) (mid_is : mid ≡ record old { recv = mid.recv }) (new_is : new ≡ counted_closed (record mid { recv = new.recv }) id.0 live) where
  alone : RecvAlone old new
  alone = recv_closed old new new.recv id.0 live (new_is ∙ ap (λ (s : PlainStreams). counted_closed (record s { recv = new.recv }) id.0 live) mid_is)

  -- the page once the half is this one
  page_put : (next : Option PlainRecv) (q : RecvPage) (note : Note) → ((k : ℕ) → recv_at new.recv k ≡ (if k == id.0 then next else recv_at mid.recv k)) → ShowsRecv note next (Some q) → ShowsStreams new (noted notes id.0 note) (with_recv b id.0 q)
  page_put next q note are after = shown_recv old new b id.0 next q note shown alone (λ k. twice_put (k == id.0) _ _ _ next (unless_done begins.next) (are k) (begins.halves_are k))
      (ap is_some begins.was) after

  still_on : (next : PlainRecv) (q : RecvPage) (note : Note) → is_done next ≡ false → next.is_stopped ≡ false → ShowsReading next q → IsNoted note q → ShowsRecv note (unless_done next) (Some q)
  still_on next q note on off reading is_noted = subst (λ (o : Option PlainRecv). ShowsRecv note o (Some q)) (sym (ap (λ (done : Bool). if done then None else Some next) on)) (on, subst (λ (stopped : Bool). ShowsHalf stopped note next q) (sym off) (reading, is_noted))

  half_is : (r : PlainRecv) → recv_at mid.recv id.0 ≡ Some r → r ≡ with_order begins.half is_ordered
  half_is r is = same_Some r (with_order begins.half is_ordered) (sym is ∙ (begun old mid.recv b id.0 is_ordered shown can begins).there)

  start : (r : PlainRecv) → recv_at mid.recv id.0 ≡ Some r → IsBegun (notes id.0) b id.0 is_ordered mid.recv r
  start r is = subst (λ (x : PlainRecv). IsBegun (notes id.0) b id.0 is_ordered mid.recv x) (sym (half_is r is)) (begun old mid.recv b id.0 is_ordered shown can begins)

  page_stepped : (T : Type 0) (r : Reply T) (p q : RecvPage) (note : Note) → open_recv (b.recvs id.0) ≡ Some p → ReadsPage b.error p max_length is_ordered r q → ShowsStreams new (noted notes id.0 note) (with_recv b id.0 q)
      → IsStreamStep {T = T} b (call.Read id max_length is_ordered) r new (noted notes id.0 note)
  page_stepped T r p q note is reads shows = record { after = with_recv b id.0 q; allows = rw held (inr (record { page = p; is_page = is; left = q; reads = reads; after = refl })); shows = shows; rest = refl }

  -- what is noted stays
  kept_stepped : (T : Type 0) (r : Reply T) (p q : RecvPage) → open_recv (b.recvs id.0) ≡ Some p → ReadsPage b.error p max_length is_ordered r q → ShowsStreams new (noted notes id.0 (notes id.0)) (with_recv b id.0 q)
      → IsStreamStep {T = T} b (call.Read id max_length is_ordered) r new notes
  kept_stepped T r p q is reads shows = subst (λ (m : ℕ → Note). IsStreamStep {T = T} b (call.Read id max_length is_ordered) r new m) (noted_same notes id.0) (page_stepped T r p q (notes id.0) is reads shows)

  in_mode_noted : (note : Note) (p : RecvPage) → IsNoted note p → IsNoted note (in_mode is_ordered p)
  in_mode_noted note p x = record { none = x.none; untold = x.untold; gave_error = x.gave_error }

  same_piece : (p : RecvPage) (c : Chunk) → IsPiece (in_mode is_ordered p) max_length is_ordered c → IsPiece p max_length is_ordered c
  same_piece p c x = record { some = x.some; few = x.few; unread = x.unread; next = x.next; longest = x.longest }

  no_bytes : (bytes : List ℕ) → length bytes ≡ 0 → bytes ≡ []
  no_bytes [] h = refl
  no_bytes (x ∷ xs) h = absurd (omega (arith, h))

  pub bytes_read_stepped : (T : Type 0) (c : Chunk) → IsRecvStep (HalfReads max_length (Ok (Some c))) mid.recv new.recv id.0 0 → IsStreamStep {T = T} b (call.Read id max_length is_ordered) (reply.Bytes c.offset c.bytes) new notes
  bytes_read_stepped T c s = answer s.half s.next (start s.half s.was) s.halves_are s.step
    where
      answer : (r next : PlainRecv) → IsBegun (notes id.0) b id.0 is_ordered mid.recv r → ((k : ℕ) → recv_at new.recv k ≡ (if k == id.0 then unless_done next else recv_at mid.recv k)) → IsReadAnswer r next max_length (Ok (Some c))
          → IsStreamStep {T = T} b (call.Read id max_length is_ordered) (reply.Bytes c.offset c.bytes) new notes
      answer r next g are (gives_bytes c some read) =
          kept_stepped T _ g.page (with_read c is_ordered (in_mode is_ordered g.page)) g.is_page
          (inr (g.can, some, g.reading.reset_code ∙ read.not_reset, same_piece g.page c (piece_is r next (in_mode is_ordered g.page) max_length is_ordered c g.reading g.mode read), refl))
          (page_put (unless_done next) _ (notes id.0) are (still_on next _ (notes id.0) (ap is_done read.rest_is ∙ g.on) (ap (λ (x : PlainRecv). x.is_stopped) read.rest_is ∙ g.off)
          (shown_read r next (in_mode is_ordered g.page) max_length is_ordered c g.reading g.mode read) (record { none = g.is_noted.none; untold = g.is_noted.untold; gave_error = g.is_noted.gave_error })))
      answer r next g are (gives_nothing none same c few) =
          kept_stepped T _ g.page (in_mode is_ordered g.page) g.is_page (inl (none, no_bytes c.bytes few, refl))
          (page_put (unless_done next) _ (notes id.0) are (still_on next _ (notes id.0) (ap is_done same ∙ g.on) (ap (λ (x : PlainRecv). x.is_stopped) same ∙ g.off) (subst (λ (x : PlainRecv). ShowsReading x (in_mode is_ordered g.page)) (sym same) g.reading) (in_mode_noted (notes id.0) g.page g.is_noted)))

  -- the half goes
  gone_by : (r next : PlainRecv) (q : RecvPage) (note : Note) → next ≡ record r { is_given = true } → IsShut note q → ShowsRecv note (unless_done next) (Some q)
  gone_by r next q note is shut = subst (λ (o : Option PlainRecv). ShowsRecv note o (Some q)) (sym (ap unless_done is)) shut

  pub end_stepped : (T : Type 0) → IsRecvStep (HalfReads max_length (Ok None)) mid.recv new.recv id.0 0 → IsStreamStep {T = T} b (call.Read id max_length is_ordered) reply.Ended new notes
  end_stepped T s = answer s.half s.next (start s.half s.was) s.halves_are s.step
    where
      answer : (r next : PlainRecv) → IsBegun (notes id.0) b id.0 is_ordered mid.recv r → ((k : ℕ) → recv_at new.recv k ≡ (if k == id.0 then unless_done next else recv_at mid.recv k)) → IsReadAnswer r next max_length (Ok None)
          → IsStreamStep {T = T} b (call.Read id max_length is_ordered) reply.Ended new notes
      answer r next g are (gives_end some waits end is) =
          let no_reset = no_reset_at_end r.state (bytes_read r) end in
          kept_stepped T _ g.page (record (in_mode is_ordered g.page) { state = EndGiven }) g.is_page
          (g.can, some, g.reading.reset_code ∙ no_reset, dry_is r (in_mode is_ordered g.page) is_ordered g.reading g.mode waits, at_end_is r (in_mode is_ordered g.page) g.reading no_reset ∙ end, refl)
          (page_put (unless_done next) _ (notes id.0) are (gone_by r next _ (notes id.0) is (record { shut = refl; code = g.reading.reset_code ∙ (no_reset ∙ sym g.is_noted.none); told = sym g.is_noted.untold })))

  pub reset_stepped : (T : Type 0) (code : ℕ) → IsRecvStep (HalfReads max_length (Err (read_fault.Reset code))) mid.recv new.recv id.0 0
      → IsStreamStep {T = T} b (call.Read id max_length is_ordered) (reply.Reset code) new (noted notes id.0 (record { code = Some code; is_told = true; gave_error = true }))
  reset_stepped T code s = answer s.half s.next (start s.half s.was) s.halves_are s.step
    where
      answer : (r next : PlainRecv) → IsBegun (notes id.0) b id.0 is_ordered mid.recv r → ((k : ℕ) → recv_at new.recv k ≡ (if k == id.0 then unless_done next else recv_at mid.recv k)) → IsReadAnswer r next max_length (Err (read_fault.Reset code))
          → IsStreamStep {T = T} b (call.Read id max_length is_ordered) (reply.Reset code) new (noted notes id.0 (record { code = Some code; is_told = true; gave_error = true }))
      answer r next g are (gives_reset code some was is) =
          page_stepped T _ g.page (record (with_error (in_mode is_ordered g.page)) { state = ResetGiven }) (record { code = Some code; is_told = true; gave_error = true }) g.is_page (g.can, some, g.reading.reset_code ∙ was, refl)
          (page_put (unless_done next) _ (record { code = Some code; is_told = true; gave_error = true }) are (gone_by r next _ (record { code = Some code; is_told = true; gave_error = true }) is (record { shut = refl; code = g.reading.reset_code ∙ was; told = refl })))

  blocked_is : (r : PlainRecv) (p : RecvPage) → ShowsReading r (in_mode is_ordered p) → r.is_unordered ≡ not is_ordered → WaitsForMore r → is_at_end r ≡ false → reset_code r.state ≡ None → is_blocked p is_ordered ≡ true
  blocked_is r p reading mode waits more no_reset =
      let none : p.reset_code ≡ None = reading.reset_code ∙ no_reset in
      let dry : has_next p is_ordered ≡ false = same_next is_ordered p ∙ dry_is r (in_mode is_ordered p) is_ordered reading mode waits in
      let on : end_reached p ≡ false = at_end_is r (in_mode is_ordered p) reading no_reset ∙ more in
      rw none (rw dry (rw on refl))
    where
      same_below : (o : Bool) (p : RecvPage) (end : ℕ) → has_unread_below p end ≡ has_unread_below (in_mode o p) end
      same_below o p zero = refl
      same_below o p (suc k) = ap (λ (x : Bool). is_some (unread_at p k) || x) (same_below o p k)

      same_next : (o : Bool) (p : RecvPage) → has_next p o ≡ has_next (in_mode o p) o
      same_next true p = refl
      same_next false p = same_below false p p.unread_to

  pub blocked_stepped : (T : Type 0) → IsRecvStep (HalfReads max_length (Err read_fault.Blocked)) mid.recv new.recv id.0 0 → b.error ≡ None → IsStreamStep {T = T} b (call.Read id max_length is_ordered) reply.Pending new notes
  blocked_stepped T s open_still = answer s.half s.next (start s.half s.was) s.halves_are s.step
    where
      answer : (r next : PlainRecv) → IsBegun (notes id.0) b id.0 is_ordered mid.recv r → ((k : ℕ) → recv_at new.recv k ≡ (if k == id.0 then unless_done next else recv_at mid.recv k)) → IsReadAnswer r next max_length (Err read_fault.Blocked)
          → IsStreamStep {T = T} b (call.Read id max_length is_ordered) reply.Pending new notes
      answer r next g are (gives_none some waits more no_reset same) =
          kept_stepped T _ g.page (in_mode is_ordered g.page) g.is_page (g.can, some, blocked_is r g.page g.reading g.mode waits more no_reset, open_still, refl)
          (page_put (unless_done next) _ (notes id.0) are (still_on next _ (notes id.0) (ap is_done same ∙ g.on) (ap (λ (x : PlainRecv). x.is_stopped) same ∙ g.off) (subst (λ (x : PlainRecv). ShowsReading x (in_mode is_ordered g.page)) (sym same) g.reading) (in_mode_noted (notes id.0) g.page g.is_noted)))

  -- the same once an error is kept
  pub lost_stepped : (T : Type 0) (e : ConnectionError) → IsRecvStep (HalfReads max_length (Err read_fault.Blocked)) mid.recv new.recv id.0 0 → b.error ≡ Some e
      → IsStreamStep {T = T} b (call.Read id max_length is_ordered) (reply.ConnectionLost e) new (noted notes id.0 (record (notes id.0) { gave_error = true }))
  lost_stepped T e s is = answer s.half s.next (start s.half s.was) s.halves_are s.step
    where
      answer : (r next : PlainRecv) → IsBegun (notes id.0) b id.0 is_ordered mid.recv r → ((k : ℕ) → recv_at new.recv k ≡ (if k == id.0 then unless_done next else recv_at mid.recv k)) → IsReadAnswer r next max_length (Err read_fault.Blocked)
          → IsStreamStep {T = T} b (call.Read id max_length is_ordered) (reply.ConnectionLost e) new (noted notes id.0 (record (notes id.0) { gave_error = true }))
      answer r next g are (gives_none some waits more no_reset same) =
          page_stepped T _ g.page (with_error (in_mode is_ordered g.page)) (record (notes id.0) { gave_error = true }) g.is_page (g.can, some, blocked_is r g.page g.reading g.mode waits more no_reset, is, refl)
          (page_put (unless_done next) _ (record (notes id.0) { gave_error = true }) are (still_on next _ (record (notes id.0) { gave_error = true }) (ap is_done same ∙ g.on) (ap (λ (x : PlainRecv). x.is_stopped) same ∙ g.off)
          (with_an_error next (in_mode is_ordered g.page) (subst (λ (x : PlainRecv). ShowsReading x (in_mode is_ordered g.page)) (sym same) g.reading)) (record { none = g.is_noted.none; untold = g.is_noted.untold; gave_error = refl })))

-- ---- reads that are refused for their order

module _ {notes : ℕ → Note} (T : Type 0) (s : PlainStreams) (b : Book) (id : StreamId) (is_ordered : Bool) (shown : ShowsStreams s notes b) (held : b.readers id.0 ≡ true) (refused : readable_fault_at s.recv id.0 is_ordered ≡ Some readable.IllegalOrderedRead) where
  open_half : (r : PlainRecv) → recv_at s.recv id.0 ≡ Some r → readable_fault r is_ordered ≡ Some readable.IllegalOrderedRead
      → (p : RecvPage) × (open_recv (b.recvs id.0) ≡ Some p) × (b.recvs id.0 ≡ Some p) × (is_out_of_order p is_ordered ≡ true) × (is_done r ≡ false) × (r.is_stopped ≡ false) × ShowsReading r p × IsNoted (notes id.0) p
  open_half r is fault =
      let may = out_of_order r is_ordered fault in
      let off = or_parts r.is_stopped r.is_given may.0 in
      let before : ShowsRecv (notes id.0) (Some r) (b.recvs id.0) = subst (λ (o : Option PlainRecv). ShowsRecv (notes id.0) o (b.recvs id.0)) is (shown.recvs id.0) in
      let p = reading_there (notes id.0) (b.recvs id.0) r before off.0 in
      (p.0, p.1, page_is (b.recvs id.0) p.0 p.1, ap (λ (u : Bool). is_ordered && u) p.3.is_unordered ∙ may.1, p.2, off.0, p.3, p.4)
    where
      out_of_order : (r : PlainRecv) (is_ordered : Bool) → readable_fault r is_ordered ≡ Some readable.IllegalOrderedRead → (is_closed r ≡ false) × ((is_ordered && r.is_unordered) ≡ true)
      out_of_order r is_ordered fault = cases (is_closed r) (is_ordered && r.is_unordered) fault
        where
          is_illegal : ReadableFault → Bool
          is_illegal readable.IllegalOrderedRead = true
          is_illegal readable.ClosedStream = false

          cases : (c o : Bool) → (if c then Some readable.ClosedStream else if o then Some readable.IllegalOrderedRead else None) ≡ Some readable.IllegalOrderedRead → (c ≡ false) × (o ≡ true)
          cases true o e = absurd (false≢true (ap is_illegal (same_Some _ _ e)))
          cases false true e = (refl, refl)
          cases false false e = absurd (none-some _ e)

      page_is : (o : Option RecvPage) (p : RecvPage) → open_recv o ≡ Some p → o ≡ Some p
      page_is None p e = absurd (none-some p e)
      page_is (Some q) p e = cases (is_open q.state) e
        where
          cases : (on : Bool) → (if on then Some q else None) ≡ Some p → Some q ≡ Some p
          cases true e = e
          cases false e = absurd (none-some p e)

  by_half : {P : Type 0} → ((r : PlainRecv) → recv_at s.recv id.0 ≡ Some r → readable_fault r is_ordered ≡ Some readable.IllegalOrderedRead → P) → P
  by_half {P = P} of_half = at (recv_at s.recv id.0) refl refused
    where
      is_closed_fault : ReadableFault → Bool
      is_closed_fault readable.IllegalOrderedRead = false
      is_closed_fault readable.ClosedStream = true

      at : (o : Option PlainRecv) → recv_at s.recv id.0 ≡ o → half_readable_fault o is_ordered ≡ Some readable.IllegalOrderedRead → P
      at None is e = absurd (false≢true (sym (ap is_closed_fault (same_Some _ _ e))))
      at (Some r) is e = of_half r is e

  pub illegal_stepped : (max_length : ℕ) → 0 < max_length → IsStreamStep {T = T} b (call.Read id max_length is_ordered) reply.IllegalOrderedRead s (noted notes id.0 (record (notes id.0) { gave_error = true }))
  illegal_stepped max_length some = by_half λ r is fault.
      let h = open_half r is fault in
      record {
        after = with_recv b id.0 (with_error h.0);
        allows = rw held (inr (record { page = h.0; is_page = h.1; left = with_error h.0; reads = (h.3, some, refl); after = refl }));
        shows = shown_noted s b id.0 h.0 (with_error h.0) (record (notes id.0) { gave_error = true }) shown h.2
            (subst (λ (o : Option PlainRecv). ShowsRecv (record (notes id.0) { gave_error = true }) o (Some (with_error h.0))) (sym is)
            (h.4, subst (λ (stopped : Bool). ShowsHalf stopped (record (notes id.0) { gave_error = true }) r (with_error h.0)) (sym h.5) (with_an_error r h.0 h.6, record { none = h.7.none; untold = h.7.untold; gave_error = refl })));
        rest = refl;
      }

  -- one of no bytes gives none
  pub nothing_stepped : (offset : ℕ) → IsStreamStep {T = T} b (call.Read id 0 is_ordered) (reply.Bytes offset []) s notes
  nothing_stepped offset = by_half λ r is fault.
      let h = open_half r is fault in
      record {
        after = with_recv b id.0 (in_mode is_ordered h.0);
        allows = rw held (inr (record { page = h.0; is_page = h.1; left = in_mode is_ordered h.0; reads = inl (refl, refl, refl); after = refl }));
        shows = shown_put s b id.0 h.0 (in_mode is_ordered h.0) shown h.2
            (subst (λ (o : Option PlainRecv). ShowsRecv (notes id.0) o (Some (in_mode is_ordered h.0))) (sym is)
            (h.4, subst (λ (stopped : Bool). ShowsHalf stopped (notes id.0) r (in_mode is_ordered h.0)) (sym h.5) (same_mode r h.0 h.3 h.6, record { none = h.7.none; untold = h.7.untold; gave_error = h.7.gave_error })));
        rest = refl;
      }
    where
      no_change : (o u : Bool) → (o && u) ≡ true → (u || not o) ≡ u
      no_change true u e = or_false u
        where
          or_false : (x : Bool) → (x || false) ≡ x
          or_false true = refl
          or_false false = refl
      no_change false u e = absurd (false≢true e)

      same_mode : (r : PlainRecv) (p : RecvPage) → is_out_of_order p is_ordered ≡ true → ShowsReading r p → ShowsReading r (in_mode is_ordered p)
      same_mode r p out x = record {
        state = x.state;
        unread = x.unread;
        next = x.next;
        was_read = x.was_read;
        read = x.read;
        end = x.end;
        reset_code = x.reset_code;
        dry = x.dry;
        is_unordered = no_change is_ordered p.is_unordered out ∙ x.is_unordered;
      }
