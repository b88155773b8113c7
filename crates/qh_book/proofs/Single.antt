-- An entry leaves at most one book, and so does a history.
use Rattle.std.proofs.Common.{◌≡◌, ◌⊎◌, ℕ, ℤ, ◌<◌, Bool, true, false, List, [], ◌∷◌, ◌++◌, length, take, Option, Some, None, refl, sym, ap, ◌∙◌, arith, inl, inr, subst}
use Rattle.std.proofs.lemmas.Bool.{false≢true}
use Rattle.std.proofs.lemmas.Option.{none-some, same_Some}
use Rattle.qh_base.specs.declared.connection_error.ConnectionError.{ConnectionError}
use Rattle.qh_base.specs.declared.stream_id.StreamId.{StreamId}
use Rattle.qh_book.proofs.Held.{both_by_held}
use Rattle.qh_book.specs.Book.{Book, with_recv, with_send, with_stream_reset}
use Rattle.qh_book.specs.Closing.{ClonesHandle, Closes, EndsHandle, IsLost, TellsCloseReason}
use Rattle.qh_book.specs.Datagrams.{IsQueued, ReadsDatagram, SendsDatagram}
use Rattle.qh_book.specs.History.{PlainEntry, Replays}
use Rattle.qh_book.specs.Interests.{is_out_of_order, registered}
use Rattle.qh_book.specs.Opening.{Accepts, Connects, Opens, TellsHandshake}
use Rattle.qh_book.specs.Pages.{SendPage, RecvPage, live_send, open_recv, open_send, with_read}
use Rattle.qh_book.specs.Receiving.{EndsRecv, IsPiece, Reads, ReadsPage, Stops, TellsReset, in_mode, with_reset_told, with_stopped}
use Rattle.qh_book.specs.Sending.{EndsSend, Finishes, IsFinished, Resets, SetsPriority, TellsPriority, TellsStop, Writes, with_written}
use Rattle.qh_book.specs.Step.{Allows, Drives, Steps, StepsWith}
use Rattle.qh_book.specs.Values.{Sets}
use Rattle.qh_book.specs.declared.call.Call.{Call}
use Rattle.qh_book.specs.declared.call.Call.TheVariants as call
use Rattle.qh_book.specs.declared.call.Setting.{Setting}
use Rattle.qh_book.specs.declared.item.Item.{Item}
use Rattle.qh_book.specs.declared.reply.Reply.{Reply}
use Rattle.qh_book.specs.declared.reply.Reply.TheVariants as reply
use Rattle.qh_spec.specs.declared.sides.Dir.{Dir}

-- two books that are one
one : {X : Type 0} {a b c : X} → a ≡ c → b ≡ c → a ≡ b
one e f = e ∙ sym f

-- two that are made of the page at one place
of_page : {X : Type 0} (o : Option X) (f : X → Book) (p q : X) (b c : Book) → o ≡ Some p → o ≡ Some q → b ≡ f p → c ≡ f q → b ≡ c
of_page o f p q b c is that e g = e ∙ (ap f (same_Some p q (sym is ∙ that)) ∙ sym g)

abbrev IsPieceRead : (p : RecvPage) (max_length offset : ℕ) (is_ordered : Bool) (bytes : List ℕ) → RecvPage → Type 0
IsPieceRead p max_length offset is_ordered bytes q = ((max_length ≡ 0) × (bytes ≡ []) × (q ≡ in_mode is_ordered p))
    ⊎ ((is_out_of_order p is_ordered ≡ false) × (0 < max_length) × (p.reset_code ≡ None) × IsPiece p max_length is_ordered (record { offset = offset; bytes = bytes })
    × (q ≡ with_read (record { offset = offset; bytes = bytes }) is_ordered (in_mode is_ordered p)))

one_piece : (p q s : RecvPage) (max_length offset : ℕ) (is_ordered : Bool) (bytes : List ℕ) → IsPieceRead p max_length offset is_ordered bytes q → IsPieceRead p max_length offset is_ordered bytes s → q ≡ s
one_piece p q s max_length offset is_ordered bytes (inl x) (inl y) = one x.2 y.2
one_piece p q s max_length offset is_ordered bytes (inr x) (inr y) = one x.4 y.4
one_piece p q s max_length offset is_ordered bytes (inl x) (inr y) = absurd (omega (arith, x.0, y.1))
one_piece p q s max_length offset is_ordered bytes (inr x) (inl y) = absurd (omega (arith, x.1, y.0))

abbrev tail_of : List (List ℕ) → List (List ℕ)
tail_of [] = []
tail_of (x ∷ xs) = xs

one_queued : (b m n : Book) (size : ℕ) (wait : Bool) → IsQueued b size wait m → IsQueued b size wait n → m ≡ n
one_queued b m n size true g h = one g.1 h.1
one_queued b m n size false g h = one g h

module _ {T : Type 0} where
  one_connects : (b m n : Book) (r : Reply T) → Connects b r m → Connects b r n → m ≡ n
  one_connects b m n reply.Pending g h = one g.1 h.1
  one_connects b m n reply.Done g h = one g.1 h.1
  one_connects b m n (reply.ConnectionLost e) g h = one g.2 h.2
  one_connects b m n r g h = absurd g

  one_handshake : (b m n : Book) (r : Reply T) → TellsHandshake b r m → TellsHandshake b r n → m ≡ n
  one_handshake b m n reply.Pending g h = one g h
  one_handshake b m n (reply.Told value) g h = one g h
  one_handshake b m n (reply.ConnectionLost e) g h = one g.1 h.1
  one_handshake b m n r g h = absurd g

  one_opens : (b m n : Book) (dir : Dir) (r : Reply T) → Opens b dir r m → Opens b dir r n → m ≡ n
  one_opens b m n dir reply.Pending g h = one g.1 h.1
  one_opens b m n dir (reply.Opened id) g h = one g.3 h.3
  one_opens b m n dir (reply.ConnectionLost e) g h = one g.1 h.1
  one_opens b m n dir r g h = absurd g

  one_accepts : (b m n : Book) (dir : Dir) (r : Reply T) → Accepts b dir r m → Accepts b dir r n → m ≡ n
  one_accepts b m n dir reply.Pending g h = one g.1 h.1
  one_accepts b m n dir (reply.Opened id) g h = one g.2 h.2
  one_accepts b m n dir (reply.ConnectionLost e) g h = one g.2 h.2
  one_accepts b m n dir r g h = absurd g

  one_writes : (b m n : Book) (id : StreamId) (payload : List ℕ) (r : Reply T) → Writes b id payload r m → Writes b id payload r n → m ≡ n
  one_writes b m n id payload reply.Pending g h = one g.1 h.1
  one_writes b m n id payload (reply.ConnectionLost e) g h = one g.1 h.1
  one_writes b m n id payload reply.ClosedStream g h = one g.2 h.2
  one_writes b m n id payload (reply.Stopped code) g h = one g.4 h.4
  one_writes b m n id payload (reply.Count k) g h = of_page (open_send (b.sends id.0)) (with_written b id.0 (take k payload)) g.0 h.0 m n g.2 h.2 g.6 h.6
  one_writes b m n id payload r g h = absurd g

  one_finishes : (b m n : Book) (id : StreamId) (r : Reply T) → Finishes b id r m → Finishes b id r n → m ≡ n
  one_finishes b m n id reply.Done g h = finished g.2 (subst (λ (p : SendPage). IsFinished b id.0 p n) (same_Some h.0 g.0 (sym h.1 ∙ g.1)) h.2)
    where
      finished : IsFinished b id.0 g.0 m → IsFinished b id.0 g.0 n → m ≡ n
      finished (inl x) (inl y) = one x.1 y.1
      finished (inr x) (inr y) = one x.2 y.2
      finished (inl x) (inr y) = absurd (false≢true (rw y.0 at x.0))
      finished (inr x) (inl y) = absurd (false≢true (rw x.0 at y.0))
  one_finishes b m n id reply.ClosedStream g h = one g.1 h.1
  one_finishes b m n id r g h = absurd g

  one_resets : (b m n : Book) (id : StreamId) (code : ℕ) (r : Reply T) → Resets b id code r m → Resets b id code r n → m ≡ n
  one_resets b m n id code reply.Done g h = of_page (live_send (b.sends id.0)) (with_stream_reset b id.0 code) g.0 h.0 m n g.1 h.1 g.3 h.3
  one_resets b m n id code reply.ClosedStream g h = one g.1 h.1
  one_resets b m n id code r g h = absurd g

  one_stop : (b m n : Book) (id : StreamId) (r : Reply T) → TellsStop b id r m → TellsStop b id r n → m ≡ n
  one_stop b m n id reply.Pending g h = one g.1 h.1
  one_stop b m n id (reply.Code None) g h = one g.2 h.2
  one_stop b m n id (reply.Code (Some code)) g h = one g.3 h.3
  one_stop b m n id (reply.ConnectionLost e) g h = one g.2 h.2
  one_stop b m n id r g h = absurd g

  one_set_priority : (b m n : Book) (id : StreamId) (priority : ℤ) (r : Reply T) → SetsPriority b id priority r m → SetsPriority b id priority r n → m ≡ n
  one_set_priority b m n id priority reply.Done g h = of_page (live_send (b.sends id.0)) (λ p. with_send b id.0 (record p { priority = priority })) g.0 h.0 m n g.1 h.1 g.2 h.2
  one_set_priority b m n id priority reply.ClosedStream g h = one g.1 h.1
  one_set_priority b m n id priority r g h = absurd g

  one_priority : (b m n : Book) (id : StreamId) (r : Reply T) → TellsPriority b id r m → TellsPriority b id r n → m ≡ n
  one_priority b m n id (reply.Priority priority) g h = one g.3 h.3
  one_priority b m n id reply.ClosedStream g h = one g.1 h.1
  one_priority b m n id r g h = absurd g

  -- ---- reads

  one_page : (error : Option ConnectionError) (p q s : RecvPage) (max_length : ℕ) (is_ordered : Bool) (r : Reply T) → ReadsPage error p max_length is_ordered r q → ReadsPage error p max_length is_ordered r s → q ≡ s
  one_page error p q s max_length is_ordered reply.Pending g h = one g.4 h.4
  one_page error p q s max_length is_ordered reply.IllegalOrderedRead g h = one g.2 h.2
  one_page error p q s max_length is_ordered (reply.Bytes offset bytes) g h = one_piece p q s max_length offset is_ordered bytes g h
  one_page error p q s max_length is_ordered (reply.Reset code) g h = one g.3 h.3
  one_page error p q s max_length is_ordered reply.Ended g h = one g.5 h.5
  one_page error p q s max_length is_ordered (reply.ConnectionLost e) g h = one g.4 h.4
  one_page error p q s max_length is_ordered r g h = absurd g

  one_reads : (b m n : Book) (id : StreamId) (max_length : ℕ) (is_ordered : Bool) (r : Reply T) → Reads b id max_length is_ordered r m → Reads b id max_length is_ordered r n → m ≡ n
  one_reads b m n id max_length is_ordered r (inl g) (inl h) = one g.2 h.2
  one_reads b m n id max_length is_ordered r (inl g) (inr h) = absurd (none-some h.page (sym g.0 ∙ h.is_page))
  one_reads b m n id max_length is_ordered r (inr g) (inl h) = absurd (none-some g.page (sym h.0 ∙ g.is_page))
  one_reads b m n id max_length is_ordered r (inr g) (inr h) = g.after ∙ (ap (with_recv b id.0) left ∙ sym h.after)
    where
      left : g.left ≡ h.left
      left = one_page b.error g.page g.left h.left max_length is_ordered r g.reads
          (subst (λ (p : RecvPage). ReadsPage b.error p max_length is_ordered r h.left) (same_Some h.page g.page (sym h.is_page ∙ g.is_page)) h.reads)

  one_stops : (b m n : Book) (id : StreamId) (r : Reply T) → Stops b id r m → Stops b id r n → m ≡ n
  one_stops b m n id reply.Done g h = of_page (open_recv (b.recvs id.0)) (λ p. with_recv b id.0 (with_stopped p)) g.0 h.0 m n g.1 h.1 g.2 h.2
  one_stops b m n id reply.ClosedStream g h = one g.1 h.1
  one_stops b m n id r g h = absurd g

  one_reset : (b m n : Book) (id : StreamId) (r : Reply T) → TellsReset b id r m → TellsReset b id r n → m ≡ n
  one_reset b m n id reply.Pending g h = one g.1 h.1
  one_reset b m n id (reply.Code None) g h = one g.2 h.2
  one_reset b m n id (reply.Code (Some code)) g h = of_page (b.recvs id.0) (with_reset_told b id.0) g.0 h.0 m n g.1 h.1 g.3 h.3
  one_reset b m n id (reply.ConnectionLost e) g h = one g.4 h.4
  one_reset b m n id r g h = absurd g

  -- ---- datagrams and the rest

  one_datagram : (b m n : Book) (r : Reply T) → ReadsDatagram b r m → ReadsDatagram b r n → m ≡ n
  one_datagram b m n reply.Pending g h = one g.1 h.1
  one_datagram b m n (reply.Datagram payload) g h = g.1 ∙ (ap (λ (ds : List (List ℕ)). record b { datagrams = ds }) (ap tail_of (sym g.0 ∙ h.0)) ∙ sym h.1)
  one_datagram b m n (reply.ConnectionLost e) g h = one g.2 h.2
  one_datagram b m n r g h = absurd g

  one_sends : (b m n : Book) (payload : List ℕ) (wait : Bool) (r : Reply T) → SendsDatagram b payload wait r m → SendsDatagram b payload wait r n → m ≡ n
  one_sends b m n payload wait reply.Pending g h = one g.2 h.2
  one_sends b m n payload wait (reply.ConnectionLost e) g h = one g.1 h.1
  one_sends b m n payload wait reply.Disabled g h = one g.2 h.2
  one_sends b m n payload wait reply.UnsupportedByPeer g h = one g.3 h.3
  one_sends b m n payload wait reply.TooLarge g h = one g.5 h.5
  one_sends b m n payload wait reply.Done g h = one_queued b m n (length payload) wait g.1 h.1
  one_sends b m n payload wait r g h = absurd g

  one_reason : (b m n : Book) (r : Reply T) → TellsCloseReason b r m → TellsCloseReason b r n → m ≡ n
  one_reason b m n reply.Done g h = one g.1 h.1
  one_reason b m n (reply.ConnectionLost e) g h = one g.1 h.1
  one_reason b m n r g h = absurd g

  one_lost : (b m n : Book) (r : Reply T) → IsLost b r m → IsLost b r n → m ≡ n
  one_lost b m n reply.Pending g h = one g.1 h.1
  one_lost b m n (reply.ConnectionLost e) g h = one g.1 h.1
  one_lost b m n r g h = absurd g

  one_closes : (b m n : Book) (r : Reply T) → Closes b r m → Closes b r n → m ≡ n
  one_closes b m n reply.Done g h = one g h
  one_closes b m n r g h = absurd g

  one_clones : (b m n : Book) (r : Reply T) → ClonesHandle b r m → ClonesHandle b r n → m ≡ n
  one_clones b m n reply.Done g h = one g h
  one_clones b m n r g h = absurd g

  one_ends : (b m n : Book) (r : Reply T) → EndsHandle b r m → EndsHandle b r n → m ≡ n
  one_ends b m n reply.Done g h = one g h
  one_ends b m n r g h = absurd g

  one_ends_send : (b m n : Book) (id : StreamId) (r : Reply T) → EndsSend b id r m → EndsSend b id r n → m ≡ n
  one_ends_send b m n id reply.Done g h = one g h
  one_ends_send b m n id r g h = absurd g

  one_ends_recv : (b m n : Book) (id : StreamId) (r : Reply T) → EndsRecv b id r m → EndsRecv b id r n → m ≡ n
  one_ends_recv b m n id reply.Done g h = one g h
  one_ends_recv b m n id r g h = absurd g

  one_sets : (b m n : Book) (s : Setting) (r : Reply T) → Sets b s r m → Sets b s r n → m ≡ n
  one_sets b m n s reply.Done g h = one g h
  one_sets b m n s r g h = absurd g

  -- nothing of a half that no handle holds changes
  one_unheld : (b m n : Book) (r s : Reply T) → (r ≡ s) × (m ≡ b) → (r ≡ s) × (n ≡ b) → m ≡ n
  one_unheld b m n r s g h = one g.1 h.1

  one_allowed : (b m n : Book) (c : Call) (r : Reply T) → Allows b c r m → Allows b c r n → m ≡ n
  one_allowed b m n call.Connecting r g h = one_connects b m n r g h
  one_allowed b m n call.HandshakeData r g h = one_handshake b m n r g h
  one_allowed b m n (call.Open dir) r g h = one_opens b m n dir r g h
  one_allowed b m n (call.Accept dir) r g h = one_accepts b m n dir r g h
  one_allowed b m n (call.Read id max_length is_ordered) r g h = both_by_held (b.readers id.0) (one_reads b m n id max_length is_ordered r) (one_unheld b m n r reply.ClosedStream) g h
  one_allowed b m n (call.Write id payload) r g h = one_writes b m n id payload r g h
  one_allowed b m n (call.Finish id) r g h = one_finishes b m n id r g h
  one_allowed b m n (call.Reset id code) r g h = one_resets b m n id code r g h
  one_allowed b m n (call.Stop id code) r g h = both_by_held (b.readers id.0) (one_stops b m n id r) (one_unheld b m n r reply.ClosedStream) g h
  one_allowed b m n (call.Stopped id) r g h = one_stop b m n id r g h
  one_allowed b m n (call.ReceivedReset id) r g h = both_by_held (b.readers id.0) (one_reset b m n id r) (one_unheld b m n r (reply.Code None)) g h
  one_allowed b m n (call.SetPriority id priority) r g h = one_set_priority b m n id priority r g h
  one_allowed b m n (call.Priority id) r g h = one_priority b m n id r g h
  one_allowed b m n call.ReadDatagram r g h = one_datagram b m n r g h
  one_allowed b m n (call.SendDatagram payload wait) r g h = one_sends b m n payload wait r g h
  one_allowed b m n call.CloseReason r g h = one_reason b m n r g h
  one_allowed b m n call.Closed r g h = one_lost b m n r g h
  one_allowed b m n (call.Close now code reason) r g h = one_closes b m n r g h
  one_allowed b m n (call.EndSend id) r g h = one_ends_send b m n id r g h
  one_allowed b m n (call.EndRecv id) r g h = both_by_held (b.readers id.0) (one_ends_recv b m n id r) (one_unheld b m n r reply.Done) g h
  one_allowed b m n call.CloneHandle r g h = one_clones b m n r g h
  one_allowed b m n call.EndHandle r g h = one_ends b m n r g h
  one_allowed b m n (call.Get getter) r g h = one g.1 h.1
  one_allowed b m n (call.Set setting) r g h = one_sets b m n setting r g h
  one_allowed b m n (call.Drive now) r g h = absurd g

  one_step : (b m n : Book) (c : Call) (r : Reply T) → Steps b c r m → Steps b c r n → m ≡ n
  one_step b m n c r g h = g.is_after ∙ (ap (registered c r) (one_allowed b g.made h.made c r g.allows h.allows) ∙ sym h.is_after)

  one_drive : (b m n : Book) (items : List Item) (r : Reply T) → Drives b items r m → Drives b items r n → m ≡ n
  one_drive b m n items reply.Pending g h = one g h
  one_drive b m n items reply.Done g h = one g.1 h.1
  one_drive b m n items reply.Failed g h = one g.3 h.3
  one_drive b m n items reply.Memory g h = one g h
  one_drive b m n items r g h = absurd g

  pub one_with : (b m n : Book) (c : Call) (r : Reply T) (items : List Item) → StepsWith b c r items m → StepsWith b c r items n → m ≡ n
  one_with b m n (call.Drive now) r items g h = one_drive b m n items r g h
  one_with b m n c r items g h = one_step b m n c r g.1 h.1

  -- ---- histories

  pub one_replayed : (b m n : Book) (es : List (PlainEntry T)) → Replays b es m → Replays b es n → m ≡ n
  one_replayed b m n [] g h = one g h
  one_replayed b m n (e ∷ es) g h = one_replayed g.0 m n es g.2 (subst (λ (k : Book). Replays k es n) (one_with b h.0 g.0 e.call e.reply e.items h.1 g.1) h.2)

  pub replayed_joined : (b m n : Book) (es fs : List (PlainEntry T)) → Replays b es m → Replays m fs n → Replays b (es ++ fs) n
  replayed_joined b m n [] fs g h = subst (λ (k : Book). Replays k fs n) g h
  replayed_joined b m n (e ∷ es) fs g h = (g.0, g.1, replayed_joined g.0 m n es fs g.2 h)

  pub replayed_prefix : (b n : Book) (es fs : List (PlainEntry T)) → Replays b (es ++ fs) n → (m : Book) × Replays b es m × Replays m fs n
  replayed_prefix b n [] fs h = (b, refl, h)
  replayed_prefix b n (e ∷ es) fs h = let r = replayed_prefix h.0 n es fs h.2 in (r.0, (h.0, h.1, r.1), r.2)
