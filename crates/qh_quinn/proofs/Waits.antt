-- Which calls wait of a connection that isn't lost: what its streams and datagrams say, and what the book says of its pages.
use Rattle.std.proofs.Common.{◌≡◌, ℕ, zero, suc, ◌+◌, ◌<◌, ◌≤◌, ◌==◌, nat_lt, nat_le, Bool, true, false, ◌&&◌, ◌||◌, not, List, [], ◌∷◌, length, map, fold, sum, Option, Some, None, is_some, if◌then◌else◌, refl, sym, ap, ◌∙◌, subst, arith, inl, inr}
use Rattle.std.proofs.lemmas.Bool.{cases_lt, cases_order, eqb-true, false≢true, le-leb, le-ltb, lt-leb, lt-ltb, ne_eqb}
use Rattle.std.specs.Prelude.{IfSome, IsSomeAnd, MatchBool}
use Rattle.qh_book.specs.Book.{Book, room}
use Rattle.qh_book.specs.Interests.{has_next, has_room_for, has_unread_below, is_at_end, is_blocked, is_out_of_order, is_size, read_waits, reset_waits, stop_waits, write_waits}
use Rattle.qh_book.specs.Pages.{Finished, RecvPage, SendPage, SendState, WasReset, Writing, is_done_in as is_page_done_in, is_empty, is_open as is_page_open, is_send_done, is_writing, live_send, open_recv, open_send, unread_at}
use Rattle.qh_book.specs.Shown.{DatagramBounds, Note, ShowsDatagrams, ShowsHalf, ShowsReading, ShowsRecv, ShowsSend, ShowsStreams, is_mark_acked, send_page, state_of}
use Rattle.qh_buffers.specs.Assembler.{HasNothing, read_to, to_give, was_given}
use Rattle.qh_buffers.specs.Ranges.{PlainRange, front_of, has, is_in}
use Rattle.qh_buffers.specs.declared.send_buffer.Mark.TheVariants.{Sent, Queued, Acked}
use Rattle.qh_datagrams.specs.Datagrams.{PlainDatagrams, bytes_of}
use Rattle.qh_half.specs.Recv.{IsBlocked, PlainRecv, WaitsForMore, awaits_reset, bytes_read, ends_at, final_size, is_at_end as is_half_at_end, is_closed, reset_code, with_order}
use Rattle.qh_half.specs.Send.{PlainSend, credit, is_blocked_fault, is_done, is_done_in, is_ready, is_reset, stopped_or_blocked}
use Rattle.qh_half.specs.declared.fault.ReadableFault.TheVariants as readable
use Rattle.qh_half.specs.declared.fault.WriteFault.TheVariants as write
use Rattle.qh_half.specs.declared.recv.RecvState.{RecvState as RecvHalfState}
use Rattle.qh_half.specs.declared.recv.RecvState.TheVariants.{Recv, ResetRecvd}
use Rattle.qh_half.specs.declared.send.SendState.{SendState as HalfState}
use Rattle.qh_half.specs.declared.send.SendState.TheVariants.{Ready, DataSent, ResetSent}
use Rattle.qh_halves.specs.RecvHalves.{half_awaits_reset}
use Rattle.qh_halves.specs.SendHalves.{half_write_fault, write_limit}
use Rattle.qh_streams.specs.Streams.{PlainStreams}

-- ---- tests

pub not_below : (m n : ℕ) → not (nat_lt m n) ≡ nat_le n m
not_below m n = elim (cases_lt m n) [ inl low ↦ rw (lt-ltb m n low, lt-leb n m low) refl | inr high ↦ rw (le-ltb m n high, le-leb n m high) refl ]

pub or_off : (x y : Bool) → y ≡ false → (x || y) ≡ x
or_off true y off = refl
or_off false y off = off

or_parts : (x y : Bool) → (x || y) ≡ false → (x ≡ false) × (y ≡ false)
or_parts true y h = absurd (false≢true (sym h))
or_parts false y h = (refl, h)

or_none : (x y : Bool) → x ≡ false → y ≡ false → (x || y) ≡ false
or_none x y off none = rw off none

and_parts : (x y : Bool) → (x && y) ≡ true → (x ≡ true) × (y ≡ true)
and_parts true y h = (refl, h)
and_parts false y h = absurd (false≢true h)

not_on : (x : Bool) → not x ≡ true → x ≡ false
not_on true h = absurd (false≢true h)
not_on false h = refl

none_by : {X : Type 0} (o : Option X) → is_some o ≡ false → o ≡ None
none_by None e = refl
none_by (Some x) e = absurd (false≢true (sym e))

never : (x : Bool) → (x ≡ true → ⊥) → x ≡ false
never true off = absurd (off refl)
never false off = refl

-- ---- sending halves

none_left : (bytes : List ℕ) → is_empty bytes ≡ (length bytes == 0)
none_left [] = refl
none_left (x ∷ xs) = sym (ne_eqb (suc (length xs)) 0 (λ e. omega (arith, e)))

done_in : (state : HalfState) (bytes : List ℕ) → is_page_done_in (state_of state) (is_mark_acked state) (is_empty (if is_reset state then [] else bytes)) ≡ is_done_in state (length bytes)
done_in Ready bytes = refl
done_in (DataSent Acked) bytes = none_left bytes
done_in (DataSent Sent) bytes = refl
done_in (DataSent Queued) bytes = refl
done_in (ResetSent code Acked) bytes = refl
done_in (ResetSent code Sent) bytes = refl
done_in (ResetSent code Queued) bytes = refl

done_is : (h : PlainSend) → is_send_done (send_page h) ≡ is_done h
done_is h = done_in h.state h.buffer.bytes

writing_is : (state : HalfState) → is_writing (state_of state) ≡ is_ready state
writing_is Ready = refl
writing_is (DataSent mark) = refl
writing_is (ResetSent code mark) = refl

not_writing : (state : SendState) (is_confirmed is_all : Bool) → is_page_done_in state is_confirmed is_all ≡ true → is_writing state ≡ false
not_writing Writing is_confirmed is_all done = absurd (false≢true done)
not_writing Finished is_confirmed is_all done = refl
not_writing (WasReset code) is_confirmed is_all done = refl

blocked_by : (z : Bool) → is_blocked_fault (if z then Some write.Blocked else None) ≡ z
blocked_by true = refl
blocked_by false = refl

write_by : (b : Book) (p : SendPage) (ready : Bool) (stop : Option ℕ) (space : ℕ) → p.stop_code ≡ stop → room b p ≡ space
    → is_blocked_fault (if ready then stopped_or_blocked stop space else Some write.ClosedStream) ≡ write_waits b (if ready then Some p else None)
write_by b p false stop space stop_is room_is = refl
write_by b p true (Some code) space stop_is room_is = rw stop_is refl
write_by b p true None space stop_is room_is = rw (stop_is, room_is) (blocked_by (space == 0))

write_is : (b : Book) (o : Option PlainSend) (q : Option SendPage) (limit : ℕ) → ((h : PlainSend) (p : SendPage) → p ≡ send_page h → room b p ≡ credit h limit) → ShowsSend o q
    → is_blocked_fault (half_write_fault o limit) ≡ write_waits b (open_send q)
write_is b None None limit room_is s = refl
write_is b None (Some p) limit room_is s = rw (not_writing p.state p.is_confirmed (is_empty p.unconfirmed) s) refl
write_is b (Some h) None limit room_is s = absurd s
write_is b (Some h) (Some p) limit room_is s =
    let writing : is_writing p.state ≡ is_ready h.state = ap (λ (x : SendPage). is_writing x.state) s.1 ∙ writing_is h.state in
    rw writing (write_by b p (is_ready h.state) h.stop_reason (credit h limit) (ap (λ (x : SendPage). x.stop_code) s.1) (room_is h p s.1))

room_is : (notes : ℕ → Note) (s : PlainStreams) (b : Book) (h : PlainSend) (p : SendPage) → ShowsStreams s notes b → p ≡ send_page h → room b p ≡ credit h (write_limit s.send)
room_is notes s b h p shown page = rw (page, shown.credit_to, shown.taken, shown.send_window, shown.unconfirmed) (omega arith)

-- a write waits
pub write_at : (notes : ℕ → Note) (s : PlainStreams) (b : Book) (k : ℕ) (o : Option PlainSend) → ShowsStreams s notes b → ShowsSend o (b.sends k) → is_blocked_fault (half_write_fault o (write_limit s.send)) ≡ write_waits b (open_send (b.sends k))
write_at notes s b k o shown half = write_is b o (b.sends k) (write_limit s.send) (λ h p page. room_is notes s b h p shown page) half

pub stop_is : (o : Option PlainSend) (q : Option SendPage) (h : PlainSend) → o ≡ Some h → ShowsSend o q → stop_waits (live_send q) ≡ not (is_some h.stop_reason)
stop_is o None h is s = absurd (subst (λ (x : Option PlainSend). ShowsSend x None) is s)
stop_is o (Some p) h is s =
    let t : ShowsSend (Some h) (Some p) = subst (λ (x : Option PlainSend). ShowsSend x (Some p)) is s in
    let live : is_send_done p ≡ false = ap is_send_done t.1 ∙ (done_is h ∙ t.0) in
    rw live (ap (λ (x : SendPage). not (is_some x.stop_code)) t.1)

pub stop_gone : (o : Option PlainSend) (q : Option SendPage) → o ≡ None → ShowsSend o q → stop_waits (live_send q) ≡ false
stop_gone o None is s = refl
stop_gone o (Some p) is s = let t : is_send_done p ≡ true = subst (λ (x : Option PlainSend). ShowsSend x (Some p)) is s in rw t refl

-- ---- receiving halves

-- the peer's reset is waited for
pub reset_is : (note : Note) (o : Option PlainRecv) (q : Option RecvPage) → ShowsRecv note o q → half_awaits_reset o ≡ reset_waits (open_recv q)
reset_is note None None s = refl
reset_is note None (Some p) s = rw s.shut refl
reset_is note (Some r) None s = absurd s
reset_is note (Some r) (Some p) s = at r.is_stopped refl s.1
  where
    at : (stopped : Bool) → r.is_stopped ≡ stopped → ShowsHalf stopped note r p → awaits_reset r ≡ reset_waits (if is_page_open p.state then Some p else None)
    at true is half = rw (is, half.shut) refl
    at false is half =
        let given : r.is_given ≡ false = (or_parts r.is_given _ s.0).0 in
        rw (is, given, half.0.state) (ap (λ (x : Option ℕ). not (is_some x)) (sym half.0.reset_code))

-- ---- reads

none_below : (p : RecvPage) (end : ℕ) → ((k : ℕ) → unread_at p k ≡ None) → has_unread_below p end ≡ false
none_below p zero none = refl
none_below p (suc k) none = rw (none k) (none_below p k none)

below_none : (p : RecvPage) (end : ℕ) → has_unread_below p end ≡ false → (k : ℕ) → k < end → unread_at p k ≡ None
below_none p zero none k low = absurd (omega (arith, low))
below_none p (suc n) none k low =
    let parts = or_parts (is_some (unread_at p n)) (has_unread_below p n) none in
    elim (cases_order k n) [
      | inl same ↦ subst (λ (x : ℕ). unread_at p x ≡ None) (sym same) (none_by (unread_at p n) parts.0)
      | inr (inl under) ↦ below_none p n parts.1 k under
      | inr (inr over) ↦ absurd (omega (arith, over, low))
    ]

all_none : (p : RecvPage) → has_unread_below p p.unread_to ≡ false → (k : ℕ) → unread_at p k ≡ None
all_none p none k = elim (cases_lt k p.unread_to) [ inl low ↦ below_none p p.unread_to none k low | inr high ↦ rw (le-ltb k p.unread_to high) refl ]

inside : (r : PlainRange) (k : ℕ) → r.start ≤ k → k < r.end → is_in r k ≡ true
inside r k from to = rw (le-leb r.start k from, lt-ltb k r.end to) refl

-- the offsets before the first gap were given
front_has : (rs : List PlainRange) (k : ℕ) → k < front_of rs → has rs k ≡ true
front_has [] k low = absurd (omega (arith, low))
front_has (r ∷ rs) k low = at (r.start == 0) (eqb-true r.start 0) low
  where
    at : (first : Bool) → (first ≡ true → r.start ≡ 0) → k < (if first then r.end else 0) → (is_in r k || has rs k) ≡ true
    at true start low = let from = start refl in rw (inside r k (omega (arith, from)) low) refl
    at false start low = absurd (omega (arith, low))

-- in order the next offset is that from which the half gives bytes
next_is : (r : PlainRecv) (p : RecvPage) → ShowsReading r p → r.is_unordered ≡ false → was_given r.assembler (read_to r.assembler) ≡ false → p.next ≡ read_to r.assembler
next_is r p s ordered fresh = elim (cases_order p.next (read_to r.assembler)) [
  | inl same ↦ same
  | inr (inl under) ↦ absurd (false≢true (sym (s.next ordered p.next ∙ le-ltb p.next p.next (omega arith)) ∙ (s.was_read p.next ∙ front_has r.assembler.given p.next under)))
  | inr (inr over) ↦ absurd (false≢true (sym fresh ∙ (sym (s.was_read (read_to r.assembler)) ∙ (s.next ordered (read_to r.assembler) ∙ lt-ltb (read_to r.assembler) p.next over))))
]

-- whether nothing waits that a read in this order gives
dry_is : (r : PlainRecv) (p : RecvPage) (is_ordered : Bool) → ShowsReading r p → (is_ordered && r.is_unordered) ≡ false → WaitsForMore (with_order r is_ordered) → has_next p is_ordered ≡ false
dry_is r p true s ordered waits =
    let w : (to_give r.assembler (read_to r.assembler) ≡ None) × (was_given r.assembler (read_to r.assembler) ≡ false) =
    subst (λ (x : Bool). MatchBool x (HasNothing r.assembler) ((to_give r.assembler (read_to r.assembler) ≡ None) × (was_given r.assembler (read_to r.assembler) ≡ false))) (or_off r.is_unordered false refl ∙ ordered) waits in
    ap is_some (ap (unread_at p) (next_is r p s ordered w.1) ∙ (s.unread (read_to r.assembler) ∙ w.0))
dry_is r p false s ordered waits =
    let w : HasNothing r.assembler =
    subst (λ (x : Bool). MatchBool x (HasNothing r.assembler) ((to_give r.assembler (read_to r.assembler) ≡ None) × (was_given r.assembler (read_to r.assembler) ≡ false))) (or_on r.is_unordered) waits in
    none_below p p.unread_to (λ k. s.unread k ∙ w k)
  where
    or_on : (x : Bool) → (x || true) ≡ true
    or_on true = refl
    or_on false = refl

waits_if_dry : (r : PlainRecv) (p : RecvPage) (is_ordered : Bool) → ShowsReading r p → (is_ordered && r.is_unordered) ≡ false → was_given r.assembler (read_to r.assembler) ≡ false → has_next p is_ordered ≡ false → WaitsForMore (with_order r is_ordered)
waits_if_dry r p true s ordered fresh dry =
    subst (λ (x : Bool). MatchBool x (HasNothing r.assembler) ((to_give r.assembler (read_to r.assembler) ≡ None) × (was_given r.assembler (read_to r.assembler) ≡ false))) (sym (or_off r.is_unordered false refl ∙ ordered))
    (sym (s.unread (read_to r.assembler)) ∙ (ap (unread_at p) (sym (next_is r p s ordered fresh)) ∙ none_by (unread_at p p.next) dry), fresh)
waits_if_dry r p false s ordered fresh dry =
    subst (λ (x : Bool). MatchBool x (HasNothing r.assembler) ((to_give r.assembler (read_to r.assembler) ≡ None) × (was_given r.assembler (read_to r.assembler) ≡ false))) (sym (or_on r.is_unordered))
    (λ k. sym (s.unread k) ∙ all_none p dry k)
  where
    or_on : (x : Bool) → (x || true) ≡ true
    or_on true = refl
    or_on false = refl

at_end_by : (state : RecvHalfState) (read : ℕ) → reset_code state ≡ None → is_size (final_size state) read ≡ ends_at state read
at_end_by (Recv None) read none = refl
at_end_by (Recv (Some size)) read none = refl
at_end_by (ResetRecvd size code) read none = absurd (false≢true (sym (ap is_some none)))

at_end_is : (r : PlainRecv) (p : RecvPage) → ShowsReading r p → reset_code r.state ≡ None → is_at_end p ≡ is_half_at_end r
at_end_is r p s none = ap (λ (o : Option ℕ). is_size o p.read) s.end ∙ (ap (is_size (final_size r.state)) s.read ∙ at_end_by r.state (bytes_read r) none)

-- a read of a half that is read waits, and so by its page
half_blocked : (r : PlainRecv) (p : RecvPage) (is_ordered : Bool) → ShowsReading r p → (is_ordered && r.is_unordered) ≡ false → IsBlocked r is_ordered → (not (is_out_of_order p is_ordered) && is_blocked p is_ordered) ≡ true
half_blocked r p is_ordered s ordered h =
    let in_order : is_out_of_order p is_ordered ≡ false = ap (λ (u : Bool). is_ordered && u) s.is_unordered ∙ ordered in
    let none : p.reset_code ≡ None = s.reset_code ∙ h.no_reset in
    let dry : has_next p is_ordered ≡ false = dry_is r p is_ordered s ordered h.waits in
    let on : is_at_end p ≡ false = at_end_is r p s h.no_reset ∙ h.no_end in
    rw (in_order, none, dry, on) refl

page_blocked : (r : PlainRecv) (p : RecvPage) (is_ordered : Bool) → ShowsReading r p → is_closed r ≡ false → was_given r.assembler (read_to r.assembler) ≡ false → (not (is_out_of_order p is_ordered) && is_blocked p is_ordered) ≡ true → IsBlocked r is_ordered
page_blocked r p is_ordered s opened fresh h =
    let one = and_parts (not (is_out_of_order p is_ordered)) (is_blocked p is_ordered) h in
    let two = and_parts (not (is_some p.reset_code)) (not (has_next p is_ordered) && not (is_at_end p)) one.1 in
    let three = and_parts (not (has_next p is_ordered)) (not (is_at_end p)) two.1 in
    let ordered : (is_ordered && r.is_unordered) ≡ false = sym (ap (λ (u : Bool). is_ordered && u) s.is_unordered) ∙ not_on (is_out_of_order p is_ordered) one.0 in
    let none : reset_code r.state ≡ None = sym s.reset_code ∙ none_by p.reset_code (not_on (is_some p.reset_code) two.0) in
    record {
      readable = readable_by (is_closed r) (is_ordered && r.is_unordered) opened ordered;
      waits = waits_if_dry r p is_ordered s ordered fresh (not_on (has_next p is_ordered) three.0);
      no_end = sym (at_end_is r p s none) ∙ not_on (is_at_end p) three.1;
      no_reset = none;
    }
  where
    readable_by : (x y : Bool) → x ≡ false → y ≡ false → (if x then Some readable.ClosedStream else if y then Some readable.IllegalOrderedRead else None) ≡ None
    readable_by true y off none = absurd (false≢true (sym off))
    readable_by false true off none = absurd (false≢true (sym none))
    readable_by false false off none = refl

not_refused : (x y : Bool) → (if x then Some readable.ClosedStream else if y then Some readable.IllegalOrderedRead else None) ≡ None → (x ≡ false) × (y ≡ false)
not_refused true y none = absurd (false≢true (sym (ap is_some none)))
not_refused false true none = absurd (false≢true (sym (ap is_some none)))
not_refused false false none = (refl, refl)

-- a read that waits
pub read_blocked : (note : Note) (o : Option PlainRecv) (q : Option RecvPage) (is_ordered : Bool) → ShowsRecv note o q → IsSomeAnd o (λ r. IsBlocked r is_ordered) → read_waits is_ordered (open_recv q) ≡ true
read_blocked note None q is_ordered s h = absurd h
read_blocked note (Some r) None is_ordered s h = absurd s
read_blocked note (Some r) (Some p) is_ordered s h =
    let may = not_refused (is_closed r) (is_ordered && r.is_unordered) h.readable in
    at r.is_stopped (or_parts r.is_stopped r.is_given may.0).0 s.1 may.1
  where
    at : (stopped : Bool) → stopped ≡ false → ShowsHalf stopped note r p → (is_ordered && r.is_unordered) ≡ false → read_waits is_ordered (if is_page_open p.state then Some p else None) ≡ true
    at true is half ordered = absurd (false≢true (sym is))
    at false is half ordered = rw half.0.state (half_blocked r p is_ordered half.0 ordered h)

-- one that doesn't wait
pub read_free : (note : Note) (o : Option PlainRecv) (q : Option RecvPage) (is_ordered : Bool) → ShowsRecv note o q → IfSome o (λ r. was_given r.assembler (read_to r.assembler) ≡ false) → (IsSomeAnd o (λ r. IsBlocked r is_ordered) → ⊥) → read_waits is_ordered (open_recv q) ≡ false
read_free note None None is_ordered s fresh off = refl
read_free note None (Some p) is_ordered s fresh off = rw s.shut refl
read_free note (Some r) None is_ordered s fresh off = absurd s
read_free note (Some r) (Some p) is_ordered s fresh off = at r.is_stopped refl s.1
  where
    at : (stopped : Bool) → r.is_stopped ≡ stopped → ShowsHalf stopped note r p → read_waits is_ordered (if is_page_open p.state then Some p else None) ≡ false
    at true is half = rw half.shut refl
    at false is half =
        let opened : is_closed r ≡ false = or_none r.is_stopped r.is_given is (or_parts r.is_given _ s.0).0 in
        rw half.0.state (never (not (is_out_of_order p is_ordered) && is_blocked p is_ordered) (λ h. off (page_blocked r p is_ordered half.0 opened fresh h)))

-- ---- datagrams

pub none_to_read : (xs : List (List ℕ)) → not (not (length xs == 0)) ≡ is_empty xs
none_to_read [] = refl
none_to_read (x ∷ xs) = rw (ne_eqb (suc (length xs)) 0 (λ e. omega (arith, e))) refl

bytes_from : (n : ℕ) (xs : List (List ℕ)) → fold (λ a x. a + x) n (map (λ (payload : List ℕ). length payload) xs) ≡ fold (λ a (x : List ℕ). a + length x) n xs
bytes_from n [] = refl
bytes_from n (x ∷ xs) = bytes_from (n + length x) xs

all_bytes : (xs : List (List ℕ)) → sum (map (λ (payload : List ℕ). length payload) xs) ≡ bytes_of xs
all_bytes xs = bytes_from 0 xs

pub has_room_is : (d : PlainDatagrams) (l : DatagramBounds) (b : Book) (size : ℕ) → ShowsDatagrams d l b → has_room_for b size ≡ nat_le (bytes_of d.outgoing + size) l.send
has_room_is d l b size shown = ap (λ (n : ℕ). nat_le (n + size) b.datagram_send) (ap sum shown.queued ∙ all_bytes d.outgoing) ∙ ap (nat_le (bytes_of d.outgoing + size)) shown.send
