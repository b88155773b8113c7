-- A call that waits has no other reply than Pending.
use Rattle.std.proofs.Common.{◌≡◌, ◌⊎◌, ℕ, zero, suc, ◌+◌, ◌-◌, ◌<◌, ◌==◌, nat_lt, Bool, true, false, not, List, [], ◌∷◌, length, Option, Some, None, is_some, slice_get, refl, sym, ap, ◌∙◌, arith, inl, inr, subst}
use Rattle.std.proofs.lemmas.Bool.{and_parts, cases_Bool, eqb-false, eqb-true, false≢true, leb-true, le-leb, lt-ltb, le-ltb, ltb-true, not-true, and_from}
use Rattle.std.proofs.lemmas.Option.{none-some, same_Some}
use Rattle.qh_base.specs.declared.connection_error.ConnectionError.{ConnectionError}
use Rattle.qh_base.specs.declared.stream_id.StreamId.{StreamId}
use Rattle.qh_book.proofs.Runs.{unread_below}
use Rattle.qh_book.specs.Book.{Book, room, tally}
use Rattle.qh_book.specs.Closing.{IsLost}
use Rattle.qh_book.specs.Datagrams.{ReadsDatagram, SendsDatagram}
use Rattle.qh_book.specs.Interests.{has_next, has_room_for, interest_of, is_at_end, is_out_of_order, is_within, read_waits, reset_waits, waits, waits_open}
use Rattle.qh_book.specs.Opening.{Accepts, Connects, Opens}
use Rattle.qh_book.specs.Pages.{RecvPage, is_open, open_recv, unread_at, with_read}
use Rattle.qh_book.specs.Promises.{MayStay}
use Rattle.qh_book.specs.Receiving.{IsPiece, Reads, ReadsPage, TellsReset, in_mode}
use Rattle.qh_book.specs.Sending.{TellsStop, Writes}
use Rattle.qh_book.specs.Step.{Allows}
use Rattle.qh_book.specs.declared.call.Call.{Call}
use Rattle.qh_book.specs.declared.call.Call.TheVariants as call
use Rattle.qh_book.specs.declared.interest.Interest.{Interest}
use Rattle.qh_book.specs.declared.interest.Interest.TheVariants as waiting
use Rattle.qh_book.specs.declared.reply.Reply.{Reply}
use Rattle.qh_book.specs.declared.reply.Reply.TheVariants as reply
use Rattle.qh_buffers.specs.Assembler.{byte_of, is_over}
use Rattle.qh_buffers.specs.declared.assembler.Chunk.{Chunk}
use Rattle.qh_spec.specs.declared.sides.Dir.{Dir}

-- ---- options

not_some : {X : Type 0} (o : Option X) → not (is_some o) ≡ true → o ≡ None
not_some None h = refl
not_some (Some x) h = absurd (false≢true h)

some_none : {X : Type 0} (o : Option X) (x : X) → o ≡ Some x → o ≡ None → ⊥
some_none o x is none = none-some x (sym none ∙ is)

no_error : (b : Book) (i : Interest) → waits b i ≡ true → b.error ≡ None
no_error b i w = not_some b.error (and_parts _ _ w).0

open_still : (b : Book) (i : Interest) → waits b i ≡ true → waits_open b i ≡ true
open_still b i w = (and_parts _ _ w).1

lost_not : {P : Type 0} (b : Book) (i : Interest) (e : ConnectionError) → waits b i ≡ true → b.error ≡ Some e → P
lost_not b i e w is = absurd (some_none b.error e is (no_error b i w))

-- ---- reads

-- the first byte of a piece
first_byte : (c : Chunk) → 0 < length c.bytes → is_some (byte_of c c.offset) ≡ true
first_byte c some = rw (le-ltb c.offset c.offset (omega arith)) (first c.bytes some)
  where
    first : (bytes : List ℕ) → 0 < length bytes → is_some (slice_get bytes (c.offset - c.offset)) ≡ true
    first [] some = absurd (omega (arith, some))
    first (x ∷ xs) some = let e : c.offset - c.offset ≡ 0 = omega arith in rw e refl

over_first : (c : Chunk) → 0 < length c.bytes → is_over c c.offset ≡ true
over_first c some = and_from _ _ (le-leb c.offset c.offset (omega arith)) (lt-ltb c.offset (c.offset + length c.bytes) (omega (arith, some)))

below_end : (p : RecvPage) (k : ℕ) → is_some (unread_at p k) ≡ true → k < p.unread_to
below_end p k h = cases (cases_Bool (nat_lt k p.unread_to))
  where
    cases : (nat_lt k p.unread_to ≡ true) ⊎ (nat_lt k p.unread_to ≡ false) → k < p.unread_to
    cases (inl low) = ltb-true k p.unread_to low
    cases (inr high) = absurd (false≢true (rw high at h))

piece_next : (p : RecvPage) (max_length : ℕ) (is_ordered : Bool) (c : Chunk) → IsPiece p max_length is_ordered c → has_next p is_ordered ≡ true
piece_next p max_length is_ordered c piece = by_order is_ordered refl
  where
    here : is_some (unread_at p c.offset) ≡ true
    here = rw (piece.unread c.offset (over_first c piece.some)) (first_byte c piece.some)

    by_order : (o : Bool) → is_ordered ≡ o → has_next p o ≡ true
    by_order true is = rw (← piece.next is) here
    by_order false is = unread_below p p.unread_to c.offset (below_end p c.offset here) here

-- what holds of the page of a reader that waits
record IsWaitingPage (p : RecvPage) (is_ordered : Bool) : Type 0 where
  can : is_out_of_order p is_ordered ≡ false
  no_reset : p.reset_code ≡ None
  dry : has_next p is_ordered ≡ false
  more : is_at_end p ≡ false

waiting_page : (p : RecvPage) (is_ordered : Bool) → read_waits is_ordered (Some p) ≡ true → IsWaitingPage p is_ordered
waiting_page p is_ordered w = let h = and_parts _ _ w in let g = and_parts _ _ h.1 in let f = and_parts _ _ g.1 in
    record { can = not-true _ h.0; no_reset = not_some p.reset_code g.0; dry = not-true _ f.0; more = not-true _ f.1 }

no_room : (n : ℕ) → 0 < n → (n == 0) ≡ true → ⊥
no_room n some none = let e : n ≡ 0 = eqb-true n 0 none in omega (arith, some, e)

clash : {P : Type 0} {b : Bool} → b ≡ true → b ≡ false → P
clash up down = absurd (false≢true (sym down ∙ up))

open_page : (o : Option RecvPage) (p : RecvPage) → o ≡ Some p → reset_waits (open_recv o) ≡ true → p.reset_code ≡ None
open_page o p is w = cases (cases_Bool (is_open p.state))
  where
    cases : (is_open p.state ≡ true) ⊎ (is_open p.state ≡ false) → p.reset_code ≡ None
    cases (inl on) = not_some p.reset_code (rw on at (rw is at w))
    cases (inr off) = absurd (false≢true (rw off at (rw is at w)))

-- what holds of a book in which a datagram waits for room
record WaitsForRoom (b : Book) (size : ℕ) : Type 0 where
  is_on : is_some b.datagram_receive ≡ true
  fits : is_within size b.max_datagram_size ≡ true
  full : has_room_for b size ≡ false

waits_for_room : (b : Book) (size : ℕ) → waits b (waiting.SendDatagram size) ≡ true → WaitsForRoom b size
waits_for_room b size w = let h = and_parts _ _ (open_still b (waiting.SendDatagram size) w) in let g = and_parts _ _ h.1 in record { is_on = h.0; fits = g.0; full = not-true _ g.1 }

waiting_as : (b : Book) (i j : Interest) → Some i ≡ Some j → waits b j ≡ true → waits b i ≡ true
waiting_as b i j is w = subst (λ (k : Interest). waits b k ≡ true) (sym (same_Some i j is)) w

abbrev is_handshake_data : Interest → Bool
is_handshake_data waiting.HandshakeData = true
is_handshake_data i = false

module _ {T : Type 0} where
  page_waits : (error : Option ConnectionError) (p q : RecvPage) (max_length : ℕ) (is_ordered : Bool) (r : Reply T) → error ≡ None → 0 < max_length → IsWaitingPage p is_ordered
      → ReadsPage error p max_length is_ordered r q → r ≡ reply.Pending
  page_waits error p q max_length is_ordered reply.Pending none some w h = refl
  page_waits error p q max_length is_ordered reply.IllegalOrderedRead none some w h = clash h.0 w.can
  page_waits error p q max_length is_ordered (reply.Bytes offset bytes) none some w h = absurd (pieces h)
    where
      pieces : ((max_length ≡ 0) × (bytes ≡ []) × (q ≡ in_mode is_ordered p))
          ⊎ ((is_out_of_order p is_ordered ≡ false) × (0 < max_length) × (p.reset_code ≡ None) × IsPiece p max_length is_ordered (record { offset = offset; bytes = bytes })
          × (q ≡ with_read (record { offset = offset; bytes = bytes }) is_ordered (in_mode is_ordered p))) → ⊥
      pieces (inl nothing) = absurd (omega (arith, some, nothing.0))
      pieces (inr piece) = clash (piece_next p max_length is_ordered _ piece.3) w.dry
  page_waits error p q max_length is_ordered (reply.Reset code) none some w h = absurd (some_none p.reset_code code h.2 w.no_reset)
  page_waits error p q max_length is_ordered reply.Ended none some w h = clash h.4 w.more
  page_waits error p q max_length is_ordered (reply.ConnectionLost e) none some w h = absurd (some_none error e h.3 none)
  page_waits error p q max_length is_ordered r none some w h = absurd h

  held_reads_wait : (b c : Book) (id : StreamId) (max_length : ℕ) (is_ordered : Bool) (r : Reply T) → 0 < max_length → b.error ≡ None → read_waits is_ordered (open_recv (b.recvs id.0)) ≡ true → Reads b id max_length is_ordered r c → r ≡ reply.Pending
  held_reads_wait b c id max_length is_ordered r some none w (inl closed) = absurd (false≢true (rw closed.0 at w))
  held_reads_wait b c id max_length is_ordered r some none w (inr h) = page_waits b.error h.page h.left max_length is_ordered r none some (waiting_page h.page is_ordered (rw h.is_page at w)) h.reads

  reads_wait : (b c : Book) (id : StreamId) (max_length : ℕ) (is_ordered : Bool) (r : Reply T) → 0 < max_length → waits b (waiting.Read id is_ordered) ≡ true → Allows b (call.Read id max_length is_ordered) r c → r ≡ reply.Pending
  reads_wait b c id max_length is_ordered r some w h =
      let on = and_parts (b.readers id.0) _ (open_still b (waiting.Read id is_ordered) w) in
      held_reads_wait b c id max_length is_ordered r some (no_error b (waiting.Read id is_ordered) w) on.1 (rw on.0 at h)

  -- ---- the other calls

  connects_wait : (b c : Book) (r : Reply T) → waits b waiting.Connecting ≡ true → Connects b r c → r ≡ reply.Pending
  connects_wait b c reply.Pending w h = refl
  connects_wait b c reply.Done w h = clash h.0 (not-true _ (open_still b waiting.Connecting w))
  connects_wait b c (reply.ConnectionLost e) w h = lost_not b waiting.Connecting e w h.1
  connects_wait b c r w h = absurd h

  opens_wait : (b c : Book) (dir : Dir) (r : Reply T) → waits b (waiting.Open dir) ≡ true → Opens b dir r c → r ≡ reply.Pending
  opens_wait b c dir reply.Pending w h = refl
  opens_wait b c dir (reply.Opened id) w h = let full = leb-true (tally b dir).permitted (tally b dir).opened (open_still b (waiting.Open dir) w) in absurd (omega (arith, full, h.1))
  opens_wait b c dir (reply.ConnectionLost e) w h = lost_not b (waiting.Open dir) e w h.0
  opens_wait b c dir r w h = absurd h

  accepts_wait : (b c : Book) (dir : Dir) (r : Reply T) → waits b (waiting.Accept dir) ≡ true → Accepts b dir r c → r ≡ reply.Pending
  accepts_wait b c dir reply.Pending w h = refl
  accepts_wait b c dir (reply.Opened id) w h = let all = leb-true (tally b dir).arrived (tally b dir).accepted (open_still b (waiting.Accept dir) w) in absurd (omega (arith, all, h.0))
  accepts_wait b c dir (reply.ConnectionLost e) w h = lost_not b (waiting.Accept dir) e w h.1
  accepts_wait b c dir r w h = absurd h

  writes_wait : (b c : Book) (id : StreamId) (payload : List ℕ) (r : Reply T) → waits b (waiting.Write id) ≡ true → Writes b id payload r c → r ≡ reply.Pending
  writes_wait b c id payload reply.Pending w h = refl
  writes_wait b c id payload (reply.ConnectionLost e) w h = lost_not b (waiting.Write id) e w h.0
  writes_wait b c id payload reply.ClosedStream w h = absurd (false≢true (rw h.1 at (open_still b (waiting.Write id) w)))
  writes_wait b c id payload (reply.Stopped code) w h = absurd (some_none h.0.stop_code code h.3 (not_some h.0.stop_code (and_parts _ _ (rw h.2 at (open_still b (waiting.Write id) w))).0))
  writes_wait b c id payload (reply.Count n) w h = absurd (no_room (room b h.0) h.4 (and_parts _ _ (rw h.2 at (open_still b (waiting.Write id) w))).1)
  writes_wait b c id payload r w h = absurd h

  stop_waits_still : (b c : Book) (id : StreamId) (r : Reply T) → waits b (waiting.Stopped id) ≡ true → TellsStop b id r c → r ≡ reply.Pending
  stop_waits_still b c id reply.Pending w h = refl
  stop_waits_still b c id (reply.Code None) w h = absurd (false≢true (rw h.0 at (open_still b (waiting.Stopped id) w)))
  stop_waits_still b c id (reply.Code (Some code)) w h = absurd (some_none h.0.stop_code code h.2 (not_some h.0.stop_code (rw h.1 at (open_still b (waiting.Stopped id) w))))
  stop_waits_still b c id (reply.ConnectionLost e) w h = lost_not b (waiting.Stopped id) e w h.1
  stop_waits_still b c id r w h = absurd h

  held_reset_waits : (b c : Book) (id : StreamId) (r : Reply T) → b.error ≡ None → reset_waits (open_recv (b.recvs id.0)) ≡ true → TellsReset b id r c → r ≡ reply.Pending
  held_reset_waits b c id reply.Pending none w h = refl
  held_reset_waits b c id (reply.Code None) none w h = absurd (false≢true (rw h.1 at w))
  held_reset_waits b c id (reply.Code (Some code)) none w h = absurd (some_none h.0.reset_code code h.2 (open_page (b.recvs id.0) h.0 h.1 w))
  held_reset_waits b c id (reply.ConnectionLost e) none w h = absurd (some_none b.error e h.3 none)
  held_reset_waits b c id r none w h = absurd h

  reset_waits_still : (b c : Book) (id : StreamId) (r : Reply T) → waits b (waiting.ReceivedReset id) ≡ true → Allows b (call.ReceivedReset id) r c → r ≡ reply.Pending
  reset_waits_still b c id r w h =
      let on = and_parts (b.readers id.0) _ (open_still b (waiting.ReceivedReset id) w) in
      held_reset_waits b c id r (no_error b (waiting.ReceivedReset id) w) on.1 (rw on.0 at h)

  datagram_waits : (b c : Book) (r : Reply T) → waits b waiting.ReadDatagram ≡ true → ReadsDatagram b r c → r ≡ reply.Pending
  datagram_waits b c reply.Pending w h = refl
  datagram_waits b c (reply.Datagram payload) w h = absurd (false≢true (rw h.0 at (open_still b waiting.ReadDatagram w)))
  datagram_waits b c (reply.ConnectionLost e) w h = lost_not b waiting.ReadDatagram e w h.1
  datagram_waits b c r w h = absurd h

  sending_waits : (b c : Book) (payload : List ℕ) (r : Reply T) → waits b (waiting.SendDatagram (length payload)) ≡ true → SendsDatagram b payload true r c → r ≡ reply.Pending
  sending_waits b c payload reply.Pending w h = refl
  sending_waits b c payload (reply.ConnectionLost e) w h = lost_not b (waiting.SendDatagram (length payload)) e w h.0
  sending_waits b c payload reply.Disabled w h = absurd (false≢true (rw h.1 at (waits_for_room b (length payload) w).is_on))
  sending_waits b c payload reply.UnsupportedByPeer w h = absurd (false≢true (rw h.2 at (waits_for_room b (length payload) w).fits))
  sending_waits b c payload reply.TooLarge w h = let fits = leb-true (length payload) h.0 (rw h.3 at (waits_for_room b (length payload) w).fits) in absurd (omega (arith, fits, h.4))
  sending_waits b c payload reply.Done w h = clash h.1.0 (waits_for_room b (length payload) w).full
  sending_waits b c payload r w h = absurd h

  closed_waits : (b c : Book) (r : Reply T) → waits b waiting.Closed ≡ true → IsLost b r c → r ≡ reply.Pending
  closed_waits b c reply.Pending w h = refl
  closed_waits b c (reply.ConnectionLost e) w h = lost_not b waiting.Closed e w h.0
  closed_waits b c r w h = absurd h

  -- ---- all of them

  read_as : (b c : Book) (id : StreamId) (max_length : ℕ) (is_ordered : Bool) (i : Interest) (r : Reply T) → interest_of (call.Read id max_length is_ordered) ≡ Some i → waits b i ≡ true → Allows b (call.Read id max_length is_ordered) r c → r ≡ reply.Pending
  read_as b c id max_length is_ordered i r is w h = cases (cases_Bool (max_length == 0))
    where
      positive : (n : ℕ) → (n == 0) ≡ false → 0 < n
      positive zero h = absurd (eqb-false 0 0 h refl)
      positive (suc n) h = omega arith

      cases : ((max_length == 0) ≡ true) ⊎ ((max_length == 0) ≡ false) → r ≡ reply.Pending
      cases (inl none) = absurd (none-some i (rw none at is))
      cases (inr some) = reads_wait b c id max_length is_ordered r (positive max_length some) (waiting_as b (waiting.Read id is_ordered) i (rw some at is) w) h

  sending_as : (b c : Book) (payload : List ℕ) (wait : Bool) (i : Interest) (r : Reply T) → interest_of (call.SendDatagram payload wait) ≡ Some i → waits b i ≡ true → SendsDatagram b payload wait r c → r ≡ reply.Pending
  sending_as b c payload true i r is w h = sending_waits b c payload r (waiting_as b (waiting.SendDatagram (length payload)) i is w) h
  sending_as b c payload false i r is w h = absurd (none-some i is)

  only_pending : (b m : Book) (c : Call) (i : Interest) (r : Reply T) → interest_of c ≡ Some i → waits b i ≡ true → is_handshake_data i ≡ false → Allows b c r m → r ≡ reply.Pending
  only_pending b m call.Connecting i r is w other h = connects_wait b m r (waiting_as b waiting.Connecting i is w) h
  only_pending b m call.HandshakeData i r is w other h = absurd (false≢true (sym other ∙ ap is_handshake_data (sym (same_Some waiting.HandshakeData i is))))
  only_pending b m (call.Open dir) i r is w other h = opens_wait b m dir r (waiting_as b (waiting.Open dir) i is w) h
  only_pending b m (call.Accept dir) i r is w other h = accepts_wait b m dir r (waiting_as b (waiting.Accept dir) i is w) h
  only_pending b m (call.Read id max_length is_ordered) i r is w other h = read_as b m id max_length is_ordered i r is w h
  only_pending b m (call.Write id payload) i r is w other h = writes_wait b m id payload r (waiting_as b (waiting.Write id) i is w) h
  only_pending b m (call.Stopped id) i r is w other h = stop_waits_still b m id r (waiting_as b (waiting.Stopped id) i is w) h
  only_pending b m (call.ReceivedReset id) i r is w other h = reset_waits_still b m id r (waiting_as b (waiting.ReceivedReset id) i is w) h
  only_pending b m call.ReadDatagram i r is w other h = datagram_waits b m r (waiting_as b waiting.ReadDatagram i is w) h
  only_pending b m (call.SendDatagram payload wait) i r is w other h = sending_as b m payload wait i r is w h
  only_pending b m call.Closed i r is w other h = closed_waits b m r (waiting_as b waiting.Closed i is w) h
  only_pending b m c i r is w other h = absurd (none-some i is)

pub may_stay : (T : Type 0) (b : Book) (i : Interest) → waits b i ≡ true → MayStay T b i
may_stay T b waiting.HandshakeData w = (not-true _ (open_still b waiting.HandshakeData w), no_error b waiting.HandshakeData w)
may_stay T b waiting.Connecting w = λ c is r after s. only_pending b s.made c waiting.Connecting r is w refl s.allows
may_stay T b (waiting.Open dir) w = λ c is r after s. only_pending b s.made c (waiting.Open dir) r is w refl s.allows
may_stay T b (waiting.Accept dir) w = λ c is r after s. only_pending b s.made c (waiting.Accept dir) r is w refl s.allows
may_stay T b (waiting.Read id is_ordered) w = λ c is r after s. only_pending b s.made c (waiting.Read id is_ordered) r is w refl s.allows
may_stay T b (waiting.Write id) w = λ c is r after s. only_pending b s.made c (waiting.Write id) r is w refl s.allows
may_stay T b (waiting.Stopped id) w = λ c is r after s. only_pending b s.made c (waiting.Stopped id) r is w refl s.allows
may_stay T b (waiting.ReceivedReset id) w = λ c is r after s. only_pending b s.made c (waiting.ReceivedReset id) r is w refl s.allows
may_stay T b waiting.ReadDatagram w = λ c is r after s. only_pending b s.made c waiting.ReadDatagram r is w refl s.allows
may_stay T b (waiting.SendDatagram size) w = λ c is r after s. only_pending b s.made c (waiting.SendDatagram size) r is w refl s.allows
may_stay T b waiting.Closed w = λ c is r after s. only_pending b s.made c waiting.Closed r is w refl s.allows
