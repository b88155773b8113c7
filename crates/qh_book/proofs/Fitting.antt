-- An allowed reply has a form that the call may have.
use Rattle.std.proofs.Common.{◌≡◌, ◌⊎◌, ℕ, ℤ, ◌<◌, min, Bool, List, [], ◌∷◌, length, Option, Some, None, refl, sym, arith, inl, inr, subst}
use Rattle.qh_base.specs.declared.stream_id.StreamId.{StreamId}
use Rattle.qh_base.specs.declared.connection_error.ConnectionError.{ConnectionError}
use Rattle.qh_book.proofs.Held.{by_held}
use Rattle.qh_book.specs.Book.{Book, room}
use Rattle.qh_book.specs.Closing.{ClonesHandle, Closes, EndsHandle, IsLost, TellsCloseReason}
use Rattle.qh_book.specs.Datagrams.{ReadsDatagram, SendsDatagram}
use Rattle.qh_book.specs.Forms.{IfTold, IsDone, MayBeLost, MayClose, MayConnect, MayDrive, MayGet, MayOpen, MayRead, MayReadDatagram, MayReply, MaySendDatagram, MayTell, MayTellCode, MayTellPriority, MayTellReason, MayWrite}
use Rattle.qh_book.specs.Opening.{Accepts, Connects, Opens, TellsHandshake}
use Rattle.qh_book.specs.Pages.{RecvPage}
use Rattle.qh_book.specs.Receiving.{EndsRecv, Reads, ReadsClosed, ReadsPage, Stops, TellsReset}
use Rattle.qh_book.specs.Sending.{EndsSend, Finishes, Resets, SetsPriority, TellsPriority, TellsStop, Writes}
use Rattle.qh_book.specs.Step.{Allows, Drives, StepsWith}
use Rattle.qh_book.specs.Values.{Sets, TellsLocalIp, TellsMaxDatagramSize, TellsNumber, TellsOther, TellsRemoteAddress, TellsSide, TellsValue}
use Rattle.qh_book.specs.declared.call.Call.{Call}
use Rattle.qh_book.specs.declared.call.Call.TheVariants as call
use Rattle.qh_book.specs.declared.call.Getter.{Getter}
use Rattle.qh_book.specs.declared.call.Getter.TheVariants as getter
use Rattle.qh_book.specs.declared.call.Setting.{Setting}
use Rattle.qh_book.specs.declared.item.Item.{Item}
use Rattle.qh_book.specs.declared.reply.Reply.{Reply}
use Rattle.qh_book.specs.declared.reply.Reply.TheVariants as reply
use Rattle.qh_book.specs.Forms.{IsLocalIp, IsMaxDatagramSize, IsNumber, IsRemoteAddress, IsSide, IsTold}
use Rattle.qh_spec.specs.declared.sides.Dir.{Dir}

some_written : (payload : List ℕ) (space n : ℕ) → 0 < space → n ≡ min (length payload) space → (payload ≡ []) ⊎ (0 < n)
some_written [] space n some is = inl refl
some_written (x ∷ xs) space n some is = inr (omega (arith, some, is))

module _ {T : Type 0} where
  connects_form : (b m : Book) (r : Reply T) → Connects b r m → MayConnect r
  connects_form b m reply.Done h = tt
  connects_form b m (reply.ConnectionLost e) h = tt
  connects_form b m reply.Pending h = tt
  connects_form b m r h = absurd h

  handshake_form : (Is : Call → T → Type 0) (b m : Book) (r : Reply T) → TellsHandshake b r m → IfTold (Is call.HandshakeData) r → MayTell Is r
  handshake_form Is b m (reply.Told value) h told = told
  handshake_form Is b m (reply.ConnectionLost e) h told = tt
  handshake_form Is b m reply.Pending h told = tt
  handshake_form Is b m r h told = absurd h

  opens_form : (b m : Book) (dir : Dir) (r : Reply T) → Opens b dir r m → MayOpen r
  opens_form b m dir (reply.Opened id) h = tt
  opens_form b m dir (reply.ConnectionLost e) h = tt
  opens_form b m dir reply.Pending h = tt
  opens_form b m dir r h = absurd h

  accepts_form : (b m : Book) (dir : Dir) (r : Reply T) → Accepts b dir r m → MayOpen r
  accepts_form b m dir (reply.Opened id) h = tt
  accepts_form b m dir (reply.ConnectionLost e) h = tt
  accepts_form b m dir reply.Pending h = tt
  accepts_form b m dir r h = absurd h

  writes_form : (b m : Book) (id : StreamId) (payload : List ℕ) (r : Reply T) → Writes b id payload r m → MayWrite payload r
  writes_form b m id payload (reply.Stopped code) h = tt
  writes_form b m id payload reply.ClosedStream h = tt
  writes_form b m id payload (reply.ConnectionLost e) h = tt
  writes_form b m id payload reply.Pending h = tt
  writes_form b m id payload (reply.Count n) h = let e : n ≡ min (length payload) (room b h.0) = h.5 in (omega (arith, e), some_written payload (room b h.0) n h.4 e)
  writes_form b m id payload r h = absurd h

  finishes_form : (b m : Book) (id : StreamId) (r : Reply T) → Finishes b id r m → MayClose r
  finishes_form b m id reply.Done h = tt
  finishes_form b m id reply.ClosedStream h = tt
  finishes_form b m id r h = absurd h

  resets_form : (b m : Book) (id : StreamId) (code : ℕ) (r : Reply T) → Resets b id code r m → MayClose r
  resets_form b m id code reply.Done h = tt
  resets_form b m id code reply.ClosedStream h = tt
  resets_form b m id code r h = absurd h

  stops_form : (b m : Book) (id : StreamId) (r : Reply T) → Stops b id r m → MayClose r
  stops_form b m id reply.Done h = tt
  stops_form b m id reply.ClosedStream h = tt
  stops_form b m id r h = absurd h

  stop_form : (b m : Book) (id : StreamId) (r : Reply T) → TellsStop b id r m → MayTellCode r
  stop_form b m id (reply.Code None) h = tt
  stop_form b m id (reply.Code (Some code)) h = tt
  stop_form b m id (reply.ConnectionLost e) h = tt
  stop_form b m id reply.Pending h = tt
  stop_form b m id r h = absurd h

  reset_form : (b m : Book) (id : StreamId) (r : Reply T) → TellsReset b id r m → MayTellCode r
  reset_form b m id (reply.Code None) h = tt
  reset_form b m id (reply.Code (Some code)) h = tt
  reset_form b m id (reply.ConnectionLost e) h = tt
  reset_form b m id reply.Pending h = tt
  reset_form b m id r h = absurd h

  set_priority_form : (b m : Book) (id : StreamId) (priority : ℤ) (r : Reply T) → SetsPriority b id priority r m → MayClose r
  set_priority_form b m id priority reply.Done h = tt
  set_priority_form b m id priority reply.ClosedStream h = tt
  set_priority_form b m id priority r h = absurd h

  priority_form : (b m : Book) (id : StreamId) (r : Reply T) → TellsPriority b id r m → MayTellPriority r
  priority_form b m id (reply.Priority priority) h = tt
  priority_form b m id reply.ClosedStream h = tt
  priority_form b m id r h = absurd h

  datagram_form : (b m : Book) (r : Reply T) → ReadsDatagram b r m → MayReadDatagram r
  datagram_form b m (reply.Datagram datagram) h = tt
  datagram_form b m (reply.ConnectionLost e) h = tt
  datagram_form b m reply.Pending h = tt
  datagram_form b m r h = absurd h

  sends_form : (b m : Book) (payload : List ℕ) (wait : Bool) (r : Reply T) → SendsDatagram b payload wait r m → MaySendDatagram wait r
  sends_form b m payload wait reply.Done h = tt
  sends_form b m payload wait (reply.ConnectionLost e) h = tt
  sends_form b m payload wait reply.Disabled h = tt
  sends_form b m payload wait reply.UnsupportedByPeer h = tt
  sends_form b m payload wait reply.TooLarge h = tt
  sends_form b m payload wait reply.Pending h = h.0
  sends_form b m payload wait r h = absurd h

  reason_form : (b m : Book) (r : Reply T) → TellsCloseReason b r m → MayTellReason r
  reason_form b m (reply.ConnectionLost e) h = tt
  reason_form b m reply.Done h = tt
  reason_form b m r h = absurd h

  lost_form : (b m : Book) (r : Reply T) → IsLost b r m → MayBeLost r
  lost_form b m (reply.ConnectionLost e) h = tt
  lost_form b m reply.Pending h = tt
  lost_form b m r h = absurd h

  closes_form : (b m : Book) (r : Reply T) → Closes b r m → IsDone r
  closes_form b m reply.Done h = tt
  closes_form b m r h = absurd h

  clones_form : (b m : Book) (r : Reply T) → ClonesHandle b r m → IsDone r
  clones_form b m reply.Done h = tt
  clones_form b m r h = absurd h

  ends_form : (b m : Book) (r : Reply T) → EndsHandle b r m → IsDone r
  ends_form b m reply.Done h = tt
  ends_form b m r h = absurd h

  ends_send_form : (b m : Book) (id : StreamId) (r : Reply T) → EndsSend b id r m → IsDone r
  ends_send_form b m id reply.Done h = tt
  ends_send_form b m id r h = absurd h

  ends_recv_form : (b m : Book) (id : StreamId) (r : Reply T) → EndsRecv b id r m → IsDone r
  ends_recv_form b m id reply.Done h = tt
  ends_recv_form b m id r h = absurd h

  sets_form : (b m : Book) (s : Setting) (r : Reply T) → Sets b s r m → IsDone r
  sets_form b m s reply.Done h = tt
  sets_form b m s r h = absurd h

  drives_form : (b m : Book) (items : List Item) (r : Reply T) → Drives b items r m → MayDrive r
  drives_form b m items reply.Pending h = tt
  drives_form b m items reply.Done h = tt
  drives_form b m items reply.Failed h = tt
  drives_form b m items reply.Memory h = tt
  drives_form b m items r h = absurd h

  size_form : (b : Book) (r : Reply T) → TellsMaxDatagramSize b r → IsMaxDatagramSize r
  size_form b (reply.MaxDatagramSize x) h = tt
  size_form b r h = absurd h

  side_form : (b : Book) (r : Reply T) → TellsSide b r → IsSide r
  side_form b (reply.Side x) h = tt
  side_form b r h = absurd h

  address_form : (b : Book) (r : Reply T) → TellsRemoteAddress b r → IsRemoteAddress r
  address_form b (reply.RemoteAddress x) h = tt
  address_form b r h = absurd h

  ip_form : (b : Book) (r : Reply T) → TellsLocalIp b r → IsLocalIp r
  ip_form b (reply.LocalIp x) h = tt
  ip_form b r h = absurd h

  number_form : (n : ℕ) (r : Reply T) → TellsNumber n r → IsNumber r
  number_form n (reply.Number x) h = tt
  number_form n r h = absurd h

  told_form : (Is : T → Type 0) (r : Reply T) → TellsOther r → IfTold Is r → IsTold Is r
  told_form Is (reply.Told x) h told = told
  told_form Is r h told = absurd h

  gets_form : (Is : Call → T → Type 0) (b : Book) (g : Getter) (r : Reply T) → TellsValue b g r → IfTold (Is (call.Get g)) r → MayGet Is g r
  gets_form Is b getter.MaxDatagramSize r h told = size_form b r h
  gets_form Is b getter.DatagramSendBufferSpace r h told = number_form _ r h
  gets_form Is b getter.Side r h told = side_form b r h
  gets_form Is b getter.RemoteAddress r h told = address_form b r h
  gets_form Is b getter.LocalIp r h told = ip_form b r h
  gets_form Is b getter.StableId r h told = number_form _ r h
  gets_form Is b getter.Rtt r h told = told_form (Is (call.Get getter.Rtt)) r h told
  gets_form Is b getter.MinRtt r h told = told_form (Is (call.Get getter.MinRtt)) r h told
  gets_form Is b getter.Stats r h told = told_form (Is (call.Get getter.Stats)) r h told
  gets_form Is b getter.CongestionState r h told = told_form (Is (call.Get getter.CongestionState)) r h told
  gets_form Is b getter.HandshakeData r h told = told_form (Is (call.Get getter.HandshakeData)) r h told

  page_form : (error : Option ConnectionError) (p q : RecvPage) (max_length : ℕ) (is_ordered : Bool) (r : Reply T) → ReadsPage error p max_length is_ordered r q → MayRead max_length r
  page_form error p q max_length is_ordered (reply.Bytes offset bytes) h = elim h [ inl none ↦ (rw none.1 (omega arith), inl none.0) | inr piece ↦ (piece.3.few, inr piece.3.some) ]
  page_form error p q max_length is_ordered reply.Ended h = h.1
  page_form error p q max_length is_ordered (reply.Reset code) h = h.1
  page_form error p q max_length is_ordered reply.IllegalOrderedRead h = h.1
  page_form error p q max_length is_ordered (reply.ConnectionLost e) h = h.1
  page_form error p q max_length is_ordered reply.Pending h = h.1
  page_form error p q max_length is_ordered r h = absurd h

  closed_form : (error : Option ConnectionError) (page : Option RecvPage) (max_length : ℕ) (r : Reply T) → ReadsClosed error page max_length r → MayRead max_length r
  closed_form error page max_length (reply.Bytes offset bytes) h = (rw h.1 (omega arith), inl h.0)
  closed_form error page max_length reply.Ended h = h.0
  closed_form error page max_length reply.ClosedStream h = tt
  closed_form error page max_length (reply.ConnectionLost e) h = h.0
  closed_form error page max_length r h = absurd h

  reads_form : (b m : Book) (id : StreamId) (max_length : ℕ) (is_ordered : Bool) (r : Reply T) → Reads b id max_length is_ordered r m → MayRead max_length r
  reads_form b m id max_length is_ordered r (inl h) = closed_form b.error (b.recvs id.0) max_length r h.1
  reads_form b m id max_length is_ordered r (inr h) = page_form b.error h.page h.left max_length is_ordered r h.reads

  -- the reply of a half that no handle holds
  unheld_form : (P : Reply T → Type 0) (b m : Book) (r s : Reply T) → P s → (r ≡ s) × (m ≡ b) → P r
  unheld_form P b m r s form h = subst (λ (x : Reply T). P x) (sym h.0) form

  allowed_form : (Is : Call → T → Type 0) (b m : Book) (c : Call) (r : Reply T) → Allows b c r m → IfTold (Is c) r → MayReply Is c r
  allowed_form Is b m call.Connecting r h told = connects_form b m r h
  allowed_form Is b m call.HandshakeData r h told = handshake_form Is b m r h told
  allowed_form Is b m (call.Open dir) r h told = opens_form b m dir r h
  allowed_form Is b m (call.Accept dir) r h told = accepts_form b m dir r h
  allowed_form Is b m (call.Read id max_length is_ordered) r h told = by_held (b.readers id.0) (reads_form b m id max_length is_ordered r) (unheld_form (MayRead max_length) b m r reply.ClosedStream tt) h
  allowed_form Is b m (call.Write id payload) r h told = writes_form b m id payload r h
  allowed_form Is b m (call.Finish id) r h told = finishes_form b m id r h
  allowed_form Is b m (call.Reset id code) r h told = resets_form b m id code r h
  allowed_form Is b m (call.Stop id code) r h told = by_held (b.readers id.0) (stops_form b m id r) (unheld_form MayClose b m r reply.ClosedStream tt) h
  allowed_form Is b m (call.Stopped id) r h told = stop_form b m id r h
  allowed_form Is b m (call.ReceivedReset id) r h told = by_held (b.readers id.0) (reset_form b m id r) (unheld_form MayTellCode b m r (reply.Code None) tt) h
  allowed_form Is b m (call.SetPriority id priority) r h told = set_priority_form b m id priority r h
  allowed_form Is b m (call.Priority id) r h told = priority_form b m id r h
  allowed_form Is b m call.ReadDatagram r h told = datagram_form b m r h
  allowed_form Is b m (call.SendDatagram payload wait) r h told = sends_form b m payload wait r h
  allowed_form Is b m call.CloseReason r h told = reason_form b m r h
  allowed_form Is b m call.Closed r h told = lost_form b m r h
  allowed_form Is b m (call.Close now code reason) r h told = closes_form b m r h
  allowed_form Is b m (call.EndSend id) r h told = ends_send_form b m id r h
  allowed_form Is b m (call.EndRecv id) r h told = by_held (b.readers id.0) (ends_recv_form b m id r) (unheld_form IsDone b m r reply.Done tt) h
  allowed_form Is b m call.CloneHandle r h told = clones_form b m r h
  allowed_form Is b m call.EndHandle r h told = ends_form b m r h
  allowed_form Is b m (call.Get g) r h told = gets_form Is b g r h.0 told
  allowed_form Is b m (call.Set setting) r h told = sets_form b m setting r h
  allowed_form Is b m (call.Drive now) r h told = absurd h

  pub step_form : (Is : Call → T → Type 0) (b after : Book) (c : Call) (r : Reply T) (items : List Item) → StepsWith b c r items after → IfTold (Is c) r → MayReply Is c r
  step_form Is b after (call.Drive now) r items s told = drives_form b after items r s
  step_form Is b after c r items s told = allowed_form Is b s.1.made c r s.1.allows told
