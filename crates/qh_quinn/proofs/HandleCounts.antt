-- How many handles there are behind a call.
use Rattle.std.proofs.Common.{◌≡◌, ℕ, ℤ, ◌+◌, ◌-◌, ◌≤◌, ◌==◌, ◌&&◌, Bool, true, false, not, List, [], ◌∷◌, ◌++◌, length, take, Option, Some, None, is_some, if◌then◌else◌, MatchBool, refl, ap, arith, inl, inr, ◌∙◌}
use Rattle.std.proofs.lemmas.Bool.{false≢true}
use Rattle.qh_base.specs.declared.stream_id.StreamId.{StreamId}
use Rattle.qh_book.specs.Book.{Book, with_close, with_recv, with_send, with_stream_reset, without_handle}
use Rattle.qh_book.specs.Closing.{ClonesHandle, Closes, EndsHandle, IsLost, TellsCloseReason}
use Rattle.qh_book.specs.Datagrams.{IsQueued, ReadsDatagram, SendsDatagram, made_room}
use Rattle.qh_book.specs.Interests.{interest_of, registered, with_interest}
use Rattle.qh_book.specs.Opening.{Accepts, Connects, Opens, TellsHandshake, with_accepted, with_opened}
use Rattle.qh_book.specs.Pages.{Finished, RecvPage, SendPage, is_reset, is_writing, live_send, open_recv}
use Rattle.qh_book.specs.Receiving.{EndsRecv, Reads, Stops, TellsReset, recv_ended, with_recv_ended, with_reset_told, with_stopped, without_reader}
use Rattle.qh_book.specs.Sending.{EndsSend, Finishes, IsFinished, Resets, SetsPriority, TellsPriority, TellsStop, Writes, send_ended, send_ended_by, with_send_ended, with_written}
use Rattle.qh_book.specs.Step.{Allows, Steps}
use Rattle.qh_book.specs.Values.{Sets, with_setting}
use Rattle.qh_book.specs.declared.call.Call.{Call}
use Rattle.qh_book.specs.declared.call.Call.TheVariants as call
use Rattle.qh_book.specs.declared.call.Setting.{Setting}
use Rattle.qh_book.specs.declared.call.Setting.TheVariants as setting
use Rattle.qh_book.specs.declared.interest.Interest.{Interest}
use Rattle.qh_book.specs.declared.reply.Reply.{Reply}
use Rattle.qh_book.specs.declared.reply.Reply.TheVariants as reply
use Rattle.qh_spec.specs.declared.sides.Dir.{Dir}
use Rattle.qh_spec.specs.declared.sides.Dir.TheVariants.{Bi, Uni}

-- the call ends a handle that is there
abbrev pub EndsIn : Book → Call → Type 0
EndsIn b (call.EndSend id) = Unit {0}
EndsIn b (call.EndRecv id) = b.readers id.0 ≡ true
EndsIn b call.EndHandle = Unit {0}
EndsIn b other = ⊥

-- as many as before
same : (b c : Book) → c ≡ b → c.handles ≡ b.handles
same b c is = ap (λ (z : Book). z.handles) is

-- ---- the ends of handles

closed_count : (b : Book) (last : Bool) → (if last then with_close b else b).handles ≡ b.handles
closed_count b true = refl
closed_count b false = refl

less_one : (b : Book) → (without_handle b).handles ≡ b.handles - 1
less_one b = closed_count (record b { handles = b.handles - 1 }) ((b.handles - 1) == 0 && not (is_some b.error))

kept_if : (b x : Book) (keeps : Bool) → x.handles ≡ b.handles → (if keeps then b else x).handles ≡ b.handles
kept_if b x true is = refl
kept_if b x false is = is

made_if : (b x : Book) (makes : Bool) → x.handles ≡ b.handles → (if makes then x else b).handles ≡ b.handles
made_if b x true is = is
made_if b x false is = refl

ended_by_count : (code : Option ℕ) (b : Book) (id : ℕ) (p : SendPage) → (send_ended_by code b id p).handles ≡ b.handles
ended_by_count (Some code) b id p = kept_if b (with_stream_reset b id code p) (is_reset p.state) refl
ended_by_count None b id p = made_if b (with_send b id (record p { state = Finished })) (is_writing p.state) refl

send_ended_count : (page : Option SendPage) (b : Book) (id : ℕ) → (send_ended page b id).handles ≡ b.handles
send_ended_count None b id = refl
send_ended_count (Some p) b id = ended_by_count p.stop_code b id p

recv_ended_count : (page : Option RecvPage) (b : Book) (id : ℕ) → (recv_ended page b id).handles ≡ b.handles
recv_ended_count None b id = refl
recv_ended_count (Some p) b id = kept_if b (with_recv b id (with_stopped p)) p.gave_error refl

with_send_count : (b : Book) (id : ℕ) → (with_send_ended b id).handles ≡ b.handles
with_send_count b id = kept_if b (send_ended (live_send (b.sends id)) b id) (is_some b.error) (send_ended_count (live_send (b.sends id)) b id)

with_recv_count : (b : Book) (id : ℕ) → (with_recv_ended b id).handles ≡ b.handles
with_recv_count b id = kept_if b (recv_ended (open_recv (b.recvs id)) b id) (is_some b.error) (recv_ended_count (open_recv (b.recvs id)) b id)

less_by : (b x : Book) → x.handles ≡ b.handles → (without_handle x).handles ≡ b.handles - 1
less_by b x is = less_one x ∙ ap (λ (n : ℕ). n - 1) is

-- ---- streams

opened_count : (b : Book) (dir : Dir) (id : ℕ) → (with_opened dir id b).handles ≤ b.handles + 2
opened_count b Bi id = omega arith
opened_count b Uni id = omega arith

accepted_count : (b : Book) (dir : Dir) → (with_accepted dir b).handles ≤ b.handles + 2
accepted_count b Bi = omega arith
accepted_count b Uni = omega arith

setting_count : (b : Book) (s : Setting) → (with_setting s b).handles ≡ b.handles
setting_count b (setting.SendWindow bytes) = refl
setting_count b (setting.MaxConcurrentUniStreams count) = refl
setting_count b (setting.MaxConcurrentBiStreams count) = refl
setting_count b (setting.ReceiveWindow bytes) = refl

finished : (b m : Book) (id : ℕ) (p : SendPage) → IsFinished b id p m → m.handles ≡ b.handles
finished b m id p (inl h) = same b m h.1
finished b m id p (inr h) = same (with_send b id (record p { state = Finished })) m h.2

queued : (b m : Book) (size : ℕ) (wait : Bool) → IsQueued b size wait m → m.handles ≡ b.handles
queued b m size true h = same (record b { queued = b.queued ++ size ∷ [] }) m h.1
queued b m size false h = same (record b { queued = made_room size b.datagram_send b.queued ++ size ∷ [] }) m h

-- if a handle holds the half, and if none does
held_or : (held : Bool) (A B C : Type 0) → MatchBool held A B → (A → C) → (B → C) → C
held_or true A B C h f g = f h
held_or false A B C h f g = g h

held_one : (held : Bool) (A B : Type 0) → held ≡ true → MatchBool held A B → A
held_one true A B is h = h
held_one false A B is h = absurd (false≢true is)

interest_count : (i : Option Interest) (b : Book) → (with_interest i b).handles ≡ b.handles
interest_count None b = refl
interest_count (Some i) b = refl

module _ {T : Type 0} where
  connects : (b m : Book) (r : Reply T) → Connects b r m → m.handles ≡ b.handles
  connects b m reply.Done h = same b m h.1
  connects b m (reply.ConnectionLost e) h = same b m h.2
  connects b m reply.Pending h = same b m h.1
  connects b m r h = absurd h

  handshake : (b m : Book) (r : Reply T) → TellsHandshake b r m → m.handles ≡ b.handles
  handshake b m (reply.Told value) h = same b m h
  handshake b m (reply.ConnectionLost e) h = same b m h.1
  handshake b m reply.Pending h = same b m h
  handshake b m r h = absurd h

  opens : (b m : Book) (dir : Dir) (r : Reply T) → Opens b dir r m → m.handles ≤ b.handles + 2
  opens b m dir (reply.Opened id) h = omega (arith, same (with_opened dir id.0 b) m h.3, opened_count b dir id.0)
  opens b m dir (reply.ConnectionLost e) h = omega (arith, same b m h.1)
  opens b m dir reply.Pending h = omega (arith, same b m h.1)
  opens b m dir r h = absurd h

  accepts : (b m : Book) (dir : Dir) (r : Reply T) → Accepts b dir r m → m.handles ≤ b.handles + 2
  accepts b m dir (reply.Opened id) h = omega (arith, same (with_accepted dir b) m h.2, accepted_count b dir)
  accepts b m dir (reply.ConnectionLost e) h = omega (arith, same b m h.2)
  accepts b m dir reply.Pending h = omega (arith, same b m h.1)
  accepts b m dir r h = absurd h

  reads : (b m : Book) (id : StreamId) (max_length : ℕ) (is_ordered : Bool) (r : Reply T) → Reads b id max_length is_ordered r m → m.handles ≡ b.handles
  reads b m id max_length is_ordered r (inl h) = same b m h.2
  reads b m id max_length is_ordered r (inr h) = same (with_recv b id.0 h.left) m h.after

  writes : (b m : Book) (id : StreamId) (payload : List ℕ) (r : Reply T) → Writes b id payload r m → m.handles ≡ b.handles
  writes b m id payload (reply.ConnectionLost e) h = same b m h.1
  writes b m id payload reply.ClosedStream h = same b m h.2
  writes b m id payload (reply.Stopped code) h = same b m h.4
  writes b m id payload (reply.Count n) h = same (with_written b id.0 (take n payload) h.0) m h.6
  writes b m id payload reply.Pending h = same b m h.1
  writes b m id payload r h = absurd h

  finishes : (b m : Book) (id : StreamId) (r : Reply T) → Finishes b id r m → m.handles ≡ b.handles
  finishes b m id reply.Done h = finished b m id.0 h.0 h.2
  finishes b m id reply.ClosedStream h = same b m h.1
  finishes b m id r h = absurd h

  resets : (b m : Book) (id : StreamId) (code : ℕ) (r : Reply T) → Resets b id code r m → m.handles ≡ b.handles
  resets b m id code reply.Done h = same (with_stream_reset b id.0 code h.0) m h.3
  resets b m id code reply.ClosedStream h = same b m h.1
  resets b m id code r h = absurd h

  stops : (b m : Book) (id : StreamId) (r : Reply T) → Stops b id r m → m.handles ≡ b.handles
  stops b m id reply.Done h = same (with_recv b id.0 (with_stopped h.0)) m h.2
  stops b m id reply.ClosedStream h = same b m h.1
  stops b m id r h = absurd h

  tells_stop : (b m : Book) (id : StreamId) (r : Reply T) → TellsStop b id r m → m.handles ≡ b.handles
  tells_stop b m id (reply.Code None) h = same b m h.2
  tells_stop b m id (reply.Code (Some code)) h = same b m h.3
  tells_stop b m id (reply.ConnectionLost e) h = same b m h.2
  tells_stop b m id reply.Pending h = same b m h.1
  tells_stop b m id r h = absurd h

  tells_reset : (b m : Book) (id : StreamId) (r : Reply T) → TellsReset b id r m → m.handles ≡ b.handles
  tells_reset b m id (reply.Code (Some code)) h = same (with_reset_told b id.0 h.0) m h.3
  tells_reset b m id (reply.Code None) h = same b m h.2
  tells_reset b m id (reply.ConnectionLost e) h = same b m h.4
  tells_reset b m id reply.Pending h = same b m h.1
  tells_reset b m id r h = absurd h

  sets_priority : (b m : Book) (id : StreamId) (priority : ℤ) (r : Reply T) → SetsPriority b id priority r m → m.handles ≡ b.handles
  sets_priority b m id priority reply.Done h = same (with_send b id.0 (record h.0 { priority = priority })) m h.2
  sets_priority b m id priority reply.ClosedStream h = same b m h.1
  sets_priority b m id priority r h = absurd h

  tells_priority : (b m : Book) (id : StreamId) (r : Reply T) → TellsPriority b id r m → m.handles ≡ b.handles
  tells_priority b m id (reply.Priority priority) h = same b m h.3
  tells_priority b m id reply.ClosedStream h = same b m h.1
  tells_priority b m id r h = absurd h

  reads_datagram : (b m : Book) (r : Reply T) → ReadsDatagram b r m → m.handles ≡ b.handles
  reads_datagram b m (reply.Datagram payload) h = same (record b { datagrams = m.datagrams }) m h.1
  reads_datagram b m (reply.ConnectionLost e) h = same b m h.2
  reads_datagram b m reply.Pending h = same b m h.1
  reads_datagram b m r h = absurd h

  sends_datagram : (b m : Book) (payload : List ℕ) (wait : Bool) (r : Reply T) → SendsDatagram b payload wait r m → m.handles ≡ b.handles
  sends_datagram b m payload wait (reply.ConnectionLost e) h = same b m h.1
  sends_datagram b m payload wait reply.Disabled h = same b m h.2
  sends_datagram b m payload wait reply.UnsupportedByPeer h = same b m h.3
  sends_datagram b m payload wait reply.TooLarge h = same b m h.5
  sends_datagram b m payload wait reply.Done h = queued b m (length payload) wait h.1
  sends_datagram b m payload wait reply.Pending h = same b m h.2
  sends_datagram b m payload wait r h = absurd h

  tells_reason : (b m : Book) (r : Reply T) → TellsCloseReason b r m → m.handles ≡ b.handles
  tells_reason b m (reply.ConnectionLost e) h = same b m h.1
  tells_reason b m reply.Done h = same b m h.1
  tells_reason b m r h = absurd h

  is_lost : (b m : Book) (r : Reply T) → IsLost b r m → m.handles ≡ b.handles
  is_lost b m (reply.ConnectionLost e) h = same b m h.1
  is_lost b m reply.Pending h = same b m h.1
  is_lost b m r h = absurd h

  closes : (b m : Book) (r : Reply T) → Closes b r m → m.handles ≡ b.handles
  closes b m reply.Done h = same (with_close b) m h
  closes b m r h = absurd h

  clones : (b m : Book) (r : Reply T) → ClonesHandle b r m → m.handles ≡ b.handles + 1
  clones b m reply.Done h = same (record b { handles = b.handles + 1 }) m h
  clones b m r h = absurd h

  ends_handle : (b m : Book) (r : Reply T) → EndsHandle b r m → m.handles ≡ b.handles - 1
  ends_handle b m reply.Done h = same (without_handle b) m h ∙ less_one b
  ends_handle b m r h = absurd h

  ends_send : (b m : Book) (id : StreamId) (r : Reply T) → EndsSend b id r m → m.handles ≡ b.handles - 1
  ends_send b m id reply.Done h = same (without_handle (with_send_ended b id.0)) m h ∙ less_by b (with_send_ended b id.0) (with_send_count b id.0)
  ends_send b m id r h = absurd h

  ends_recv : (b m : Book) (id : StreamId) (r : Reply T) → EndsRecv b id r m → m.handles ≡ b.handles - 1
  ends_recv b m id reply.Done h = same (without_handle (without_reader id.0 (with_recv_ended b id.0))) m h ∙ less_by b (without_reader id.0 (with_recv_ended b id.0)) (with_recv_count b id.0)
  ends_recv b m id r h = absurd h

  sets : (b m : Book) (s : Setting) (r : Reply T) → Sets b s r m → m.handles ≡ b.handles
  sets b m s reply.Done h = same (with_setting s b) m h ∙ setting_count b s
  sets b m s r h = absurd h

  -- at most two more
  allowed : (b m : Book) (c : Call) (r : Reply T) → Allows b c r m → m.handles ≤ b.handles + 2
  allowed b m call.Connecting r h = omega (arith, connects b m r h)
  allowed b m call.HandshakeData r h = omega (arith, handshake b m r h)
  allowed b m (call.Open dir) r h = opens b m dir r h
  allowed b m (call.Accept dir) r h = accepts b m dir r h
  allowed b m (call.Read id max_length is_ordered) r h = held_or (b.readers id.0) _ _ (m.handles ≤ b.handles + 2) h (λ x. omega (arith, reads b m id max_length is_ordered r x)) (λ x. omega (arith, same b m x.1))
  allowed b m (call.Write id payload) r h = omega (arith, writes b m id payload r h)
  allowed b m (call.Finish id) r h = omega (arith, finishes b m id r h)
  allowed b m (call.Reset id code) r h = omega (arith, resets b m id code r h)
  allowed b m (call.Stop id code) r h = held_or (b.readers id.0) _ _ (m.handles ≤ b.handles + 2) h (λ x. omega (arith, stops b m id r x)) (λ x. omega (arith, same b m x.1))
  allowed b m (call.Stopped id) r h = omega (arith, tells_stop b m id r h)
  allowed b m (call.ReceivedReset id) r h = held_or (b.readers id.0) _ _ (m.handles ≤ b.handles + 2) h (λ x. omega (arith, tells_reset b m id r x)) (λ x. omega (arith, same b m x.1))
  allowed b m (call.SetPriority id priority) r h = omega (arith, sets_priority b m id priority r h)
  allowed b m (call.Priority id) r h = omega (arith, tells_priority b m id r h)
  allowed b m call.ReadDatagram r h = omega (arith, reads_datagram b m r h)
  allowed b m (call.SendDatagram payload wait) r h = omega (arith, sends_datagram b m payload wait r h)
  allowed b m call.CloseReason r h = omega (arith, tells_reason b m r h)
  allowed b m call.Closed r h = omega (arith, is_lost b m r h)
  allowed b m (call.Close now code reason) r h = omega (arith, closes b m r h)
  allowed b m (call.EndSend id) r h = omega (arith, ends_send b m id r h)
  allowed b m (call.EndRecv id) r h = held_or (b.readers id.0) _ _ (m.handles ≤ b.handles + 2) h (λ x. omega (arith, ends_recv b m id r x)) (λ x. omega (arith, same b m x.1))
  allowed b m call.CloneHandle r h = omega (arith, clones b m r h)
  allowed b m call.EndHandle r h = omega (arith, ends_handle b m r h)
  allowed b m (call.Get getter) r h = omega (arith, same b m h.1)
  allowed b m (call.Set setting) r h = omega (arith, sets b m setting r h)
  allowed b m (call.Drive now) r h = absurd h

  registered_count : (c : Call) (r : Reply T) (b : Book) → (registered c r b).handles ≡ b.handles
  registered_count c reply.Pending b = interest_count (interest_of c) b
  registered_count c r b = refl

  pub stepped : (b after : Book) (c : Call) (r : Reply T) → Steps b c r after → after.handles ≤ b.handles + 2
  stepped b after c r h = omega (arith, same (registered c r h.made) after h.is_after, registered_count c r h.made, allowed b h.made c r h.allows)

  -- one fewer, behind a call that ends a handle which is there
  ended : (b m : Book) (c : Call) (r : Reply T) → EndsIn b c → Allows b c r m → m.handles ≡ b.handles - 1
  ended b m (call.EndSend id) r is h = ends_send b m id r h
  ended b m (call.EndRecv id) r is h = ends_recv b m id r (held_one (b.readers id.0) _ _ is h)
  ended b m call.EndHandle r is h = ends_handle b m r h
  ended b m c r is h = absurd is

  pub ended_step : (b after : Book) (c : Call) (r : Reply T) → EndsIn b c → Steps b c r after → after.handles ≡ b.handles - 1
  ended_step b after c r is h = same (registered c r h.made) after h.is_after ∙ (registered_count c r h.made ∙ ended b h.made c r is h.allows)
