-- Each call has an allowed reply in each book.
use Rattle.std.proofs.Common.{◌≡◌, ◌⊎◌, ℕ, ℤ, zero, suc, ◌+◌, ◌<◌, ◌==◌, nat_le, min, Bool, true, false, ◌&&◌, MatchBool, List, [], ◌∷◌, length, take, Option, Some, None, is_some, refl, sym, arith, inl, inr, zero-lt-suc}
use Rattle.std.proofs.lemmas.Bool.{cases_Bool, eqb-false, false≢true, leb-false, leb-true}
use Rattle.qh_base.specs.declared.connection_error.ConnectionError.{ConnectionError}
use Rattle.qh_base.specs.declared.stream_id.StreamId.{StreamId}
use Rattle.qh_book.proofs.Runs.{run, run_is_piece, some_unread}
use Rattle.qh_book.specs.Book.{Book, datagram_room, room, tally, with_close, with_recv, with_send, with_stream_reset, without_handle}
use Rattle.qh_book.specs.Closing.{IsLost, TellsCloseReason}
use Rattle.qh_book.specs.Datagrams.{ReadsDatagram, SendsDatagram}
use Rattle.qh_book.specs.Interests.{has_next, has_room_for, is_at_end, is_blocked, is_out_of_order, registered, waits, waits_open}
use Rattle.qh_book.specs.Opening.{Accepts, Connects, Opens, with_accepted, with_opened}
use Rattle.qh_book.specs.Pages.{RecvPage, Finished, is_open, is_reset, is_writing, live_send, open_recv, open_send, unread_at}
use Rattle.qh_book.specs.Promises.{HasReply}
use Rattle.qh_book.specs.Receiving.{EndsRecv, Reads, ReadsPage, Stops, TellsReset, in_mode, with_error, with_recv_ended, with_stopped, without_reader}
use Rattle.qh_book.specs.Sending.{Finishes, Resets, SetsPriority, TellsPriority, TellsStop, Writes, is_gone, with_send_ended, with_written}
use Rattle.qh_book.specs.Step.{Allows, Steps, StepsWith, driven}
use Rattle.qh_book.specs.Values.{Gets, with_setting}
use Rattle.qh_book.specs.declared.call.Call.{Call}
use Rattle.qh_book.specs.declared.call.Call.TheVariants as call
use Rattle.qh_book.specs.declared.call.Getter.{Getter}
use Rattle.qh_book.specs.declared.call.Getter.TheVariants as getter
use Rattle.qh_book.specs.declared.interest.Interest.{Interest}
use Rattle.qh_book.specs.declared.interest.Interest.TheVariants as waiting
use Rattle.qh_book.specs.declared.item.Item.{Item}
use Rattle.qh_book.specs.declared.reply.Reply.{Reply}
use Rattle.qh_book.specs.declared.reply.Reply.TheVariants as reply
use Rattle.qh_spec.specs.Link.{other}
use Rattle.qh_spec.specs.StreamId.{stream_id}
use Rattle.qh_spec.specs.declared.sides.Dir.{Dir}

abbrev pub Found : {T : Type 0} → (Reply T → Book → Type 0) → Type 0
Found {T} P = (r : Reply T) × (c : Book) × P r c

made : {T : Type 0} (b : Book) (c : Call) → ((r : Reply T) (after : Book) → (◌≡◌ {A = List Item} [] []) × Steps b c r after → StepsWith b c r [] after) → Found (Allows {T = T} b c) → HasReply T b c
made b c lift f = record { reply = f.0; items = []; after = registered c f.0 f.1; steps = lift f.0 (registered c f.0 f.1) (refl, record { made = f.1; allows = f.2; is_after = refl }) }

pub is_waiting : (b : Book) (i : Interest) → b.error ≡ None → waits_open b i ≡ true → waits b i ≡ true
is_waiting b i none h = rw none (rw h refl)

-- a kept error, or none
by_error : {P : Type 0} (b : Book) → ((e : ConnectionError) → b.error ≡ Some e → P) → (b.error ≡ None → P) → P
by_error {P = P} b lost kept = cases b.error refl
  where
    cases : (o : Option ConnectionError) → b.error ≡ o → P
    cases (Some e) is = lost e is
    cases None is = kept is

by_option : {X P : Type 0} (o : Option X) → ((x : X) → o ≡ Some x → P) → (o ≡ None → P) → P
by_option None some none = none refl
by_option (Some x) some none = some x refl

-- the book is gone once want of memory ended the connection
kept_still : (b : Book) → (b.is_emptied ≡ false) ⊎ (b.error ≡ None) → is_gone b ≡ false
kept_still b (inl kept) = rw kept refl
kept_still b (inr none) = rw none (off b.is_emptied)
  where
    off : (x : Bool) → (x && false) ≡ false
    off true = refl
    off false = refl

module _ {T : Type 0} where
  -- of a half that no handle holds this is the reply
  or_unheld : (P : Reply T → Book → Type 0) (held : Bool) (b : Book) (s : Reply T) → (held ≡ true → Found P) → Found (λ r c. MatchBool held (P r c) ((r ≡ s) × (c ≡ b)))
  or_unheld P true b s f = f refl
  or_unheld P false b s f = (s, b, (refl, refl))

  connects : (b : Book) → Found (Connects {T = T} b)
  connects b = elim (cases_Bool b.is_connected) [
    | inl up ↦ (reply.Done, b, (up, refl))
    | inr down ↦ by_error b (λ e is. (reply.ConnectionLost e, b, (down, is, refl))) (λ none. (reply.Pending, b, (is_waiting b waiting.Connecting none (rw down refl), refl)))
  ]

  opens : (b : Book) (dir : Dir) → Found (Opens {T = T} b dir)
  opens b dir = by_error b (λ e is. (reply.ConnectionLost e, b, (is, refl))) λ none. elim (cases_Bool (nat_le (tally b dir).permitted (tally b dir).opened)) [
    | inl full ↦ (reply.Pending, b, (is_waiting b (waiting.Open dir) none full, refl))
    | inr free ↦ (reply.Opened (record { 0 = stream_id b.side dir (tally b dir).opened }), with_opened dir (stream_id b.side dir (tally b dir).opened) b, (none, leb-false _ _ free, refl, refl))
  ]

  accepts : (b : Book) (dir : Dir) → Found (Accepts {T = T} b dir)
  accepts b dir = elim (cases_Bool (nat_le (tally b dir).arrived (tally b dir).accepted)) [
    | inr some ↦ (reply.Opened (record { 0 = stream_id (other b.side) dir (tally b dir).accepted }), with_accepted dir b, (leb-false _ _ some, refl, refl))
    | inl all ↦ by_error b (λ e is. (reply.ConnectionLost e, b, (leb-true _ _ all, is, refl))) (λ none. (reply.Pending, b, (is_waiting b (waiting.Accept dir) none all, refl)))
  ]

  writes : (b : Book) (id : StreamId) (payload : List ℕ) → Found (Writes {T = T} b id payload)
  writes b id payload = by_error b (λ e is. (reply.ConnectionLost e, b, (is, refl))) λ none. by_option (open_send (b.sends id.0))
      (λ p is. by_option p.stop_code
      (λ code stop. (reply.Stopped code, b, (p, none, is, stop, refl)))
      (λ free. elim (cases_Bool (room b p == 0)) [
        | inl full ↦ (reply.Pending, b, (is_waiting b (waiting.Write id) none (rw is (rw free (rw full refl))), refl))
        | inr some ↦ (reply.Count (min (length payload) (room b p)), with_written b id.0 (take (min (length payload) (room b p)) payload) p, (p, none, is, free, above_zero (room b p) some, refl, refl))
      ]))
      (λ closed. (reply.ClosedStream, b, (none, closed, refl)))
    where
      above_zero : (n : ℕ) → (n == 0) ≡ false → 0 < n
      above_zero zero h = absurd (eqb-false 0 0 h refl)
      above_zero (suc n) h = zero-lt-suc n

  finishes : (b : Book) (id : StreamId) → Found (Finishes {T = T} b id)
  finishes b id = by_option (live_send (b.sends id.0))
      (λ p is. by_option p.stop_code
      (λ code stop. (reply.Done, b, (p, is, inl (rw stop refl, refl))))
      (λ free. elim (cases_Bool (is_writing p.state)) [
        | inl on ↦ (reply.Done, with_send b id.0 (record p { state = Finished }), (p, is, inr (free, on, refl)))
        | inr off ↦ (reply.ClosedStream, b, (rw is (rw free (rw off refl)), refl))
      ]))
      (λ gone. (reply.ClosedStream, b, (rw gone refl, refl)))

  resets : (b : Book) (id : StreamId) (code : ℕ) → Found (Resets {T = T} b id code)
  resets b id code = by_option (live_send (b.sends id.0))
      (λ p is. elim (cases_Bool (is_reset p.state)) [
        | inl before ↦ (reply.ClosedStream, b, (rw is before, refl))
        | inr first ↦ (reply.Done, with_stream_reset b id.0 code p, (p, is, first, refl))
      ])
      (λ gone. (reply.ClosedStream, b, (rw gone refl, refl)))

  tells_stop : (b : Book) (id : StreamId) → Found (TellsStop {T = T} b id)
  tells_stop b id = by_option (live_send (b.sends id.0))
      (λ p is. by_option p.stop_code
      (λ code stop. (reply.Code (Some code), b, (p, is, stop, refl)))
      (λ free. by_error b (λ e lost. (reply.ConnectionLost e, b, (inl (p, is, free), lost, refl))) (λ none. (reply.Pending, b, (is_waiting b (waiting.Stopped id) none (rw is (rw free refl)), refl)))))
      (λ gone. by_error b
      (λ e lost. elim (cases_Bool b.is_emptied) [
        | inl up ↦ (reply.ConnectionLost e, b, (inr (gone, rw up (rw lost refl)), lost, refl))
        | inr kept ↦ (reply.Code None, b, (gone, kept_still b (inl kept), refl))
      ])
      (λ none. (reply.Code None, b, (gone, kept_still b (inr none), refl))))

  sets_priority : (b : Book) (id : StreamId) (priority : ℤ) → Found (SetsPriority {T = T} b id priority)
  sets_priority b id priority = by_option (live_send (b.sends id.0)) (λ p is. (reply.Done, with_send b id.0 (record p { priority = priority }), (p, is, refl))) (λ gone. (reply.ClosedStream, b, (gone, refl)))

  tells_priority : (b : Book) (id : StreamId) → Found (TellsPriority {T = T} b id)
  tells_priority b id = by_option (live_send (b.sends id.0)) (λ p is. (reply.Priority p.priority, b, (p, is, refl, refl))) (λ gone. (reply.ClosedStream, b, (gone, refl)))

  -- ---- reads

  reads_blocked : (b : Book) (p : RecvPage) (n : ℕ) (is_ordered : Bool) → is_out_of_order p is_ordered ≡ false → is_blocked p is_ordered ≡ true → (r : Reply T) × (q : RecvPage) × ReadsPage b.error p (suc n) is_ordered r q
  reads_blocked b p n is_ordered can blocked = by_error b
      (λ e is. (reply.ConnectionLost e, with_error (in_mode is_ordered p), (can, zero-lt-suc n, blocked, is, refl)))
      (λ none. (reply.Pending, in_mode is_ordered p, (can, zero-lt-suc n, blocked, none, refl)))

  piece_found : (b : Book) (p : RecvPage) (n : ℕ) (is_ordered : Bool) → is_out_of_order p is_ordered ≡ false → p.reset_code ≡ None → has_next p is_ordered ≡ true
      → (r : Reply T) × (q : RecvPage) × ReadsPage b.error p (suc n) is_ordered r q
  piece_found b p n true can open_still next = (reply.Bytes p.next (run (unread_at p) p.next (suc n)), _, inr (can, zero-lt-suc n, open_still, run_is_piece p p.next n (suc n) true next (omega arith) (λ _. (refl, refl)), refl))
  piece_found b p n false can open_still next = let some = some_unread p p.unread_to next in
      (reply.Bytes some.0 (run (unread_at p) some.0 1), _, inr (can, zero-lt-suc n, open_still, run_is_piece p some.0 0 (suc n) false some.1 (omega arith) (λ ordered. absurd (false≢true ordered)), refl))

  reads_some : (b : Book) (p : RecvPage) (n : ℕ) (is_ordered : Bool) → is_out_of_order p is_ordered ≡ false → (r : Reply T) × (q : RecvPage) × ReadsPage b.error p (suc n) is_ordered r q
  reads_some b p n is_ordered can = by_option p.reset_code
      (λ code is. (reply.Reset code, _, (can, zero-lt-suc n, is, refl)))
      (λ open_still. elim (cases_Bool (has_next p is_ordered)) [
        | inl next ↦ piece_found b p n is_ordered can open_still next
        | inr dry ↦ elim (cases_Bool (is_at_end p)) [
          | inl end ↦ (reply.Ended, _, (can, zero-lt-suc n, open_still, dry, end, refl))
          | inr more ↦ reads_blocked b p n is_ordered can (rw open_still (rw dry (rw more refl)))
        ]
      ])

  reads_page : (b : Book) (p : RecvPage) (max_length : ℕ) (is_ordered : Bool) → (r : Reply T) × (q : RecvPage) × ReadsPage b.error p max_length is_ordered r q
  reads_page b p zero is_ordered = (reply.Bytes 0 [], in_mode is_ordered p, inl (refl, refl, refl))
  reads_page b p (suc n) is_ordered = elim (cases_Bool (is_out_of_order p is_ordered)) [
    | inl out ↦ (reply.IllegalOrderedRead, with_error p, (out, zero-lt-suc n, refl))
    | inr can ↦ reads_some b p n is_ordered can
  ]

  reads_closed : (b : Book) (id : StreamId) (max_length : ℕ) (is_ordered : Bool) → open_recv (b.recvs id.0) ≡ None → Found (Reads {T = T} b id max_length is_ordered)
  reads_closed b id zero is_ordered closed = (reply.Bytes 0 [], b, inl (closed, (refl, refl), refl))
  reads_closed b id (suc n) is_ordered closed = by_option (b.recvs id.0)
      (λ p is. (reply.Ended, b, inl (closed, (zero-lt-suc n, rw is refl), refl)))
      (λ gone. by_error b
      (λ e is. (reply.ConnectionLost e, b, inl (closed, (zero-lt-suc n, gone, is), refl)))
      (λ none. (reply.ClosedStream, b, inl (closed, (zero-lt-suc n, gone, none), refl))))

  reads : (b : Book) (id : StreamId) (max_length : ℕ) (is_ordered : Bool) → Found (Reads {T = T} b id max_length is_ordered)
  reads b id max_length is_ordered = by_option (open_recv (b.recvs id.0))
      (λ p is. let f = reads_page b p max_length is_ordered in (f.0, with_recv b id.0 f.1, inr (record { page = p; is_page = is; left = f.1; reads = f.2; after = refl })))
      (λ closed. reads_closed b id max_length is_ordered closed)

  stops : (b : Book) (id : StreamId) → Found (Stops {T = T} b id)
  stops b id = by_option (open_recv (b.recvs id.0)) (λ p is. (reply.Done, with_recv b id.0 (with_stopped p), (p, is, refl))) (λ gone. (reply.ClosedStream, b, (gone, refl)))

  tells_reset : (b : Book) (id : StreamId) → b.readers id.0 ≡ true → Found (TellsReset {T = T} b id)
  tells_reset b id held = by_option (b.recvs id.0) there (λ gone. (reply.Code None, b, (rw gone refl, rw gone refl, refl)))
    where
      closed : (p : RecvPage) → b.recvs id.0 ≡ Some p → p.reset_code ≡ None → Found (TellsReset {T = T} b id)
      closed p is free = elim (cases_Bool (is_open p.state)) [
        | inr off ↦ (reply.Code None, b, (rw is free, rw is (rw off refl), refl))
        | inl on ↦ by_error b
            (λ e lost. (reply.ConnectionLost e, b, (p, rw is (rw on refl), free, lost, refl)))
            (λ none. (reply.Pending, b, (is_waiting b (waiting.ReceivedReset id) none (rw held (rw is (rw on (rw free refl)))), refl)))
      ]

      there : (p : RecvPage) → b.recvs id.0 ≡ Some p → Found (TellsReset {T = T} b id)
      there p is = by_option p.reset_code (λ code has. (reply.Code (Some code), _, (p, is, has, refl))) (λ free. closed p is free)

  -- ---- datagrams and the rest

  reads_datagram : (b : Book) → Found (ReadsDatagram {T = T} b)
  reads_datagram b = cases b.datagrams refl
    where
      cases : (ds : List (List ℕ)) → b.datagrams ≡ ds → Found (ReadsDatagram {T = T} b)
      cases (d ∷ ds) is = (reply.Datagram d, record b { datagrams = ds }, (is, refl))
      cases [] is = by_error b (λ e lost. (reply.ConnectionLost e, b, (is, lost, refl))) (λ none. (reply.Pending, b, (is_waiting b waiting.ReadDatagram none (rw is refl), refl)))

  sends_datagram : (b : Book) (payload : List ℕ) (wait : Bool) → Found (SendsDatagram {T = T} b payload wait)
  sends_datagram b payload wait = by_error b (λ e is. (reply.ConnectionLost e, b, (is, refl))) λ none. elim (cases_Bool (is_some b.datagram_receive)) [
    | inr off ↦ (reply.Disabled, b, (none, is_none b.datagram_receive off, refl))
    | inl on ↦ by_option b.max_datagram_size
        (λ most is. elim (cases_Bool (nat_le (length payload) most)) [
          | inr long ↦ (reply.TooLarge, b, (most, none, on, is, leb-false _ _ long, refl))
          | inl fits ↦ queues wait none on most is fits
        ])
        (λ unknown. (reply.UnsupportedByPeer, b, (none, on, unknown, refl)))
  ]
    where
      is_none : {X : Type 0} (o : Option X) → is_some o ≡ false → o ≡ None
      is_none None h = refl
      is_none (Some x) h = absurd (false≢true (sym h))

      queues : (wait : Bool) → b.error ≡ None → is_some b.datagram_receive ≡ true → (most : ℕ) → b.max_datagram_size ≡ Some most → nat_le (length payload) most ≡ true → Found (SendsDatagram {T = T} b payload wait)
      queues false none on most is fits = (reply.Done, _, (record { open_still = none; is_on = on; most = most; is_most = is; fits = leb-true _ _ fits }, refl))
      queues true none on most is fits = elim (cases_Bool (has_room_for b (length payload))) [
        | inl free ↦ (reply.Done, _, (record { open_still = none; is_on = on; most = most; is_most = is; fits = leb-true _ _ fits }, (free, refl)))
        | inr full ↦ (reply.Pending, b, (refl, is_waiting b (waiting.SendDatagram (length payload)) none (rw on (rw is (rw fits (rw full refl)))), refl))
      ]

  tells_close_reason : (b : Book) → Found (TellsCloseReason {T = T} b)
  tells_close_reason b = by_error b (λ e is. (reply.ConnectionLost e, b, (is, refl))) (λ none. (reply.Done, b, (none, refl)))

  is_lost : (b : Book) → Found (IsLost {T = T} b)
  is_lost b = by_error b (λ e is. (reply.ConnectionLost e, b, (is, refl))) (λ none. (reply.Pending, b, (is_waiting b waiting.Closed none refl, refl)))

  gets : (told : T) (b : Book) (g : Getter) → Found (Gets {T = T} b g)
  gets told b getter.MaxDatagramSize = (reply.MaxDatagramSize b.max_datagram_size, b, (refl, refl))
  gets told b getter.DatagramSendBufferSpace = (reply.Number (datagram_room b), b, (refl, refl))
  gets told b getter.Side = (reply.Side b.side, b, (refl, refl))
  gets told b getter.RemoteAddress = (reply.RemoteAddress b.addresses.remote, b, (refl, refl))
  gets told b getter.LocalIp = (reply.LocalIp b.addresses.local_ip, b, (refl, refl))
  gets told b getter.StableId = (reply.Number b.stable_id, b, (refl, refl))
  gets told b getter.Rtt = (reply.Told told, b, (tt, refl))
  gets told b getter.MinRtt = (reply.Told told, b, (tt, refl))
  gets told b getter.Stats = (reply.Told told, b, (tt, refl))
  gets told b getter.CongestionState = (reply.Told told, b, (tt, refl))
  gets told b getter.HandshakeData = (reply.Told told, b, (tt, refl))

  pub has_reply : (told : T) (b : Book) (c : Call) → HasReply T b c
  has_reply told b call.Connecting = made b call.Connecting (λ r a h. h) (connects b)
  has_reply told b call.HandshakeData = made b call.HandshakeData (λ r a h. h) (reply.Pending, b, refl)
  has_reply told b (call.Open dir) = made b (call.Open dir) (λ r a h. h) (opens b dir)
  has_reply told b (call.Accept dir) = made b (call.Accept dir) (λ r a h. h) (accepts b dir)
  has_reply told b (call.Read id max_length is_ordered) = made b (call.Read id max_length is_ordered) (λ r a h. h) (or_unheld (Reads b id max_length is_ordered) (b.readers id.0) b reply.ClosedStream (λ held. reads b id max_length is_ordered))
  has_reply told b (call.Write id payload) = made b (call.Write id payload) (λ r a h. h) (writes b id payload)
  has_reply told b (call.Finish id) = made b (call.Finish id) (λ r a h. h) (finishes b id)
  has_reply told b (call.Reset id code) = made b (call.Reset id code) (λ r a h. h) (resets b id code)
  has_reply told b (call.Stop id code) = made b (call.Stop id code) (λ r a h. h) (or_unheld (Stops b id) (b.readers id.0) b reply.ClosedStream (λ held. stops b id))
  has_reply told b (call.Stopped id) = made b (call.Stopped id) (λ r a h. h) (tells_stop b id)
  has_reply told b (call.ReceivedReset id) = made b (call.ReceivedReset id) (λ r a h. h) (or_unheld (TellsReset b id) (b.readers id.0) b (reply.Code None) (λ held. tells_reset b id held))
  has_reply told b (call.SetPriority id priority) = made b (call.SetPriority id priority) (λ r a h. h) (sets_priority b id priority)
  has_reply told b (call.Priority id) = made b (call.Priority id) (λ r a h. h) (tells_priority b id)
  has_reply told b call.ReadDatagram = made b call.ReadDatagram (λ r a h. h) (reads_datagram b)
  has_reply told b (call.SendDatagram payload wait) = made b (call.SendDatagram payload wait) (λ r a h. h) (sends_datagram b payload wait)
  has_reply told b call.CloseReason = made b call.CloseReason (λ r a h. h) (tells_close_reason b)
  has_reply told b call.Closed = made b call.Closed (λ r a h. h) (is_lost b)
  has_reply told b (call.Close now code reason) = made b (call.Close now code reason) (λ r a h. h) (reply.Done, with_close b, refl)
  has_reply told b (call.EndSend id) = made b (call.EndSend id) (λ r a h. h) (reply.Done, without_handle (with_send_ended b id.0), refl)
  has_reply told b (call.EndRecv id) = made b (call.EndRecv id) (λ r a h. h)
      (or_unheld (EndsRecv b id) (b.readers id.0) b reply.Done (λ held. (reply.Done, without_handle (without_reader id.0 (with_recv_ended b id.0)), refl)))
  has_reply told b call.CloneHandle = made b call.CloneHandle (λ r a h. h) (reply.Done, record b { handles = b.handles + 1 }, refl)
  has_reply told b call.EndHandle = made b call.EndHandle (λ r a h. h) (reply.Done, without_handle b, refl)
  has_reply told b (call.Get g) = made b (call.Get g) (λ r a h. h) (gets told b g)
  has_reply told b (call.Set s) = made b (call.Set s) (λ r a h. h) (reply.Done, with_setting s b, refl)
  has_reply told b (call.Drive now) = record { reply = reply.Pending; items = []; after = driven [] b; steps = refl }
