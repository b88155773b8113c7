-- A close takes away all calls that wait, and so does the last handle that ends.
use Rattle.std.proofs.Common.{◌≡◌, ℕ, ◌-◌, ◌≤◌, Bool, true, false, List, Option, Some, None, is_some, if◌then◌else◌, refl, ◌∙◌, arith}
use Rattle.qh_base.specs.declared.stream_id.StreamId.{StreamId}
use Rattle.qh_base.specs.declared.time.Moment.{Moment}
use Rattle.qh_book.specs.Book.{Book, with_recv, with_send, with_stream_reset, without_handle}
use Rattle.qh_book.specs.Closing.{Closes, EndsHandle}
use Rattle.qh_book.specs.Interests.{registered}
use Rattle.qh_book.specs.Pages.{SendPage, RecvPage, Finished, is_reset, is_writing, live_send, open_recv}
use Rattle.qh_book.specs.Receiving.{EndsRecv, recv_ended, with_recv_ended, with_stopped, without_reader}
use Rattle.qh_book.specs.Sending.{EndsSend, send_ended, send_ended_by, with_send_ended}
use Rattle.qh_book.specs.Step.{StepsWith}
use Rattle.qh_book.specs.declared.call.Call.TheVariants as call
use Rattle.qh_book.specs.declared.item.Item.{Item}
use Rattle.qh_book.specs.declared.reply.Reply.{Reply}
use Rattle.qh_book.specs.declared.reply.Reply.TheVariants as reply
use Rattle.qh_book.specs.Promises.{IsClosed}

-- ---- what the end of a stream's handle leaves as it is

record Leaves (b c : Book) : Type 0 where
  handles : c.handles ≡ b.handles
  error : c.error ≡ b.error

leaves_same : (b : Book) → Leaves b b
leaves_same b = record { handles = refl; error = refl }

either : (test : Bool) (b c d : Book) → Leaves d b → Leaves d c → Leaves d (if test then b else c)
either true b c d left right = left
either false b c d left right = right

send_leaves : (o : Option SendPage) (b : Book) (id : ℕ) → Leaves b (send_ended o b id)
send_leaves None b id = leaves_same b
send_leaves (Some p) b id = by_stop p.stop_code
  where
    by_stop : (stop : Option ℕ) → Leaves b (send_ended_by stop b id p)
    by_stop (Some code) = either (is_reset p.state) b (with_stream_reset b id code p) b (leaves_same b) (record { handles = refl; error = refl })
    by_stop None = either (is_writing p.state) (with_send b id (record p { state = Finished })) b b (record { handles = refl; error = refl }) (leaves_same b)

recv_leaves : (o : Option RecvPage) (b : Book) (id : ℕ) → Leaves b (recv_ended o b id)
recv_leaves None b id = leaves_same b
recv_leaves (Some p) b id = either p.gave_error b (with_recv b id (with_stopped p)) b (leaves_same b) (record { handles = refl; error = refl })

reader_leaves : (b c : Book) (id : ℕ) → Leaves b c → Leaves b (without_reader id c)
reader_leaves b c id l = record { handles = l.handles; error = l.error }

-- ---- the last handle

last_closes : (b c : Book) → Leaves b c → b.handles ≤ 1 → b.error ≡ None → IsClosed (without_handle c)
last_closes b c leaves few none = let last : c.handles - 1 ≡ 0 = omega (arith, leaves.handles, few) in rw last (rw (leaves.error ∙ none) ((λ i. refl), refl))

module _ {T : Type 0} where
  close_closes : (b m c : Book) (now : Moment) (code : ℕ) (reason : List ℕ) (r : Reply T) → Closes b r m → c ≡ registered (call.Close now code reason) r m → IsClosed c
  close_closes b m c now code reason reply.Done h is = rw (is ∙ h) ((λ i. refl), refl)
  close_closes b m c now code reason r h is = absurd h

  pub closes : (b c : Book) (now : Moment) (code : ℕ) (reason : List ℕ) (r : Reply T) (items : List Item) → StepsWith b (call.Close now code reason) r items c → IsClosed c
  closes b c now code reason r items s = close_closes b s.1.made c now code reason r s.1.allows s.1.is_after

  handle_closes : (b m c : Book) (r : Reply T) → b.handles ≤ 1 → b.error ≡ None → EndsHandle b r m → c ≡ registered call.EndHandle r m → IsClosed c
  handle_closes b m c reply.Done few none h is = rw (is ∙ h) (last_closes b b (leaves_same b) few none)
  handle_closes b m c r few none h is = absurd h

  pub last_handle : (b c : Book) (r : Reply T) (items : List Item) → StepsWith b call.EndHandle r items c → b.handles ≤ 1 → b.error ≡ None → IsClosed c
  last_handle b c r items s few none = handle_closes b s.1.made c r few none s.1.allows s.1.is_after

  send_closes : (b m c : Book) (id : StreamId) (r : Reply T) → b.handles ≤ 1 → b.error ≡ None → EndsSend b id r m → c ≡ registered (call.EndSend id) r m → IsClosed c
  send_closes b m c id reply.Done few none h is = rw (is ∙ h) (last_closes b (with_send_ended b id.0) (either (is_some b.error) b (send_ended (live_send (b.sends id.0)) b id.0) b (leaves_same b) (send_leaves (live_send (b.sends id.0)) b id.0)) few none)
  send_closes b m c id r few none h is = absurd h

  pub last_send : (b c : Book) (id : StreamId) (r : Reply T) (items : List Item) → StepsWith b (call.EndSend id) r items c → b.handles ≤ 1 → b.error ≡ None → IsClosed c
  last_send b c id r items s few none = send_closes b s.1.made c id r few none s.1.allows s.1.is_after

  recv_closes : (b m c : Book) (id : StreamId) (r : Reply T) → b.handles ≤ 1 → b.error ≡ None → EndsRecv b id r m → c ≡ registered (call.EndRecv id) r m → IsClosed c
  recv_closes b m c id reply.Done few none h is = rw (is ∙ h) (last_closes b (without_reader id.0 (with_recv_ended b id.0))
      (reader_leaves b (with_recv_ended b id.0) id.0 (either (is_some b.error) b (recv_ended (open_recv (b.recvs id.0)) b id.0) b (leaves_same b) (recv_leaves (open_recv (b.recvs id.0)) b id.0))) few none)
  recv_closes b m c id r few none h is = absurd h

  pub last_recv : (b c : Book) (id : StreamId) (r : Reply T) (items : List Item) → b.readers id.0 ≡ true → StepsWith b (call.EndRecv id) r items c → b.handles ≤ 1 → b.error ≡ None → IsClosed c
  last_recv b c id r items held s few none = recv_closes b s.1.made c id r few none (rw held at s.1.allows) s.1.is_after
