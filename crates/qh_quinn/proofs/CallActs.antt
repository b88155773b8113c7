-- A call as it is answered: what it does to the connection depends on none of those that wait.
use Rattle.std.proofs.Common.{ℕ, List, Result, Ok, Err, refl}
use Rattle.std.specs.Prelude.{IfOk, MatchResult}
use Rattle.qh_base.specs.declared.memory.Memory.{Memory}
use Rattle.qh_base.specs.declared.stream_id.StreamId.{StreamId}
use Rattle.qh_base.specs.declared.time.Moment.{Moment}
use Rattle.qh_book.specs.Book.{Book}
use Rattle.qh_book.specs.declared.call.Call.{Call}
use Rattle.qh_book.specs.declared.call.Call.TheVariants as call
use Rattle.qh_book.specs.declared.call.Getter.{Getter}
use Rattle.qh_book.specs.declared.call.Setting.{Setting}
use Rattle.qh_book.specs.declared.reply.Reply.{Reply}
use Rattle.qh_book.specs.declared.reply.Reply.TheVariants as reply
use Rattle.qh_handles.specs.Told.{MayReply}
use Rattle.qh_handles.specs.declared.told.Told.{Told}
use Rattle.qh_quinn.proofs.CallParts.{undone}
use Rattle.qh_quinn.specs.Acting.{Acts, IsMade, IsUnmade}
use Rattle.qh_quinn.specs.Calls.{CallsOf, IsCallOf, IsCalled}
use Rattle.qh_quinn.specs.States.{Shows}
use Rattle.qh_quinn.specs.declared.inner.StateInner.{StateInner}

module _ {S T : Type 0} where
  -- what it makes of the connection is the same whoever waits, before and after
  called_beside : (c : Call) (r : Reply T) (old from new to : StateInner S) → IsCalled c r (record old { waiting = from.waiting }) new → IsCalled c r old (record new { waiting = to.waiting })
  called_beside (call.Close now code reason) r old from new to h = h
  called_beside (call.EndSend id) r old from new to h = h
  called_beside (call.EndRecv id) r old from new to h = h
  called_beside call.EndHandle r old from new to h = h
  called_beside (call.Set setting) r old from new to h = h
  called_beside (call.SendDatagram payload wait) r old from new to h = h
  called_beside call.ReadDatagram r old from new to h = h
  called_beside call.Connecting r old from new to h = h
  called_beside call.HandshakeData r old from new to h = h
  called_beside (call.Stopped id) r old from new to h = h
  called_beside (call.Priority id) r old from new to h = h
  called_beside call.CloseReason r old from new to h = h
  called_beside call.Closed r old from new to h = h
  called_beside call.CloneHandle r old from new to h = h
  called_beside (call.Get getter) r old from new to h = h
  called_beside other r old from new to h = h

  pub call_beside : (c : Call) (r : Reply T) (old from new to : StateInner S) → ((b : Book) → Shows old b → Shows (record old { waiting = from.waiting }) b) → IsCallOf c r (record old { waiting = from.waiting }) new
      → IsCallOf c r old (record new { waiting = to.waiting })
  call_beside c r old from new to shows h = record { carries = λ b shown. h.carries b (shows b shown); called = called_beside c r old from new to h.called; wakes = h.wakes }

  pub calls_beside : (c : Call) (result : Result (Reply T) Memory) (old from new : StateInner S) → ((b : Book) → Shows old b → Shows (record old { waiting = from.waiting }) b) → CallsOf c result (record old { waiting = from.waiting }) new → CallsOf c result old new
  calls_beside c (Ok r) old from new shows h = call_beside c r old from new new shows h
  calls_beside c (Err e) old from new shows h = h

  -- ---- calls that are told something, and no more

  pub connecting : (r : Reply T) (s : StateInner S) → IsCallOf call.Connecting r s s
  connecting r s = undone call.Connecting r s s refl (λ b shown. refl) refl

  pub handshake_data : (r : Reply T) (s : StateInner S) → IsCallOf call.HandshakeData r s s
  handshake_data r s = undone call.HandshakeData r s s refl (λ b shown. refl) refl

  pub close_reason : (r : Reply T) (s : StateInner S) → IsCallOf call.CloseReason r s s
  close_reason r s = undone call.CloseReason r s s refl (λ b shown. refl) refl

  pub closed : (r : Reply T) (s : StateInner S) → IsCallOf call.Closed r s s
  closed r s = undone call.Closed r s s refl (λ b shown. refl) refl

  pub got : (getter : Getter) (r : Reply T) (s : StateInner S) → IsCallOf (call.Get getter) r s s
  got getter r s = undone (call.Get getter) r s s refl (λ b shown. refl) refl

  pub stopped : (id : StreamId) (r : Reply T) (s : StateInner S) → IsCallOf (call.Stopped id) r s s
  stopped id r s = undone (call.Stopped id) r s s refl (λ b shown. refl) refl

  pub priority : (id : StreamId) (r : Reply T) (s : StateInner S) → IsCallOf (call.Priority id) r s s
  priority id r s = undone (call.Priority id) r s s refl (λ b shown. refl) refl

  -- ---- calls that are replied no more than that they were made

  pub close_done : (now : Moment) (code : ℕ) (reason : List ℕ) (old new : StateInner S) → IsCallOf {T = Unit {0}} (call.Close now code reason) reply.Done old new → IsCallOf {T = T} (call.Close now code reason) reply.Done old new
  close_done now code reason old new h = record { carries = h.carries; called = h.called; wakes = h.wakes }

  pub set_done : (setting : Setting) (old new : StateInner S) → IsCallOf {T = Unit {0}} (call.Set setting) reply.Done old new → IsCallOf {T = T} (call.Set setting) reply.Done old new
  set_done setting old new h = record { carries = h.carries; called = h.called; wakes = h.wakes }

  pub handle_done : (old new : StateInner S) → IsCallOf {T = Unit {0}} call.EndHandle reply.Done old new → IsCallOf {T = T} call.EndHandle reply.Done old new
  handle_done old new h = record { carries = h.carries; called = h.called; wakes = h.wakes }

  pub send_done : (id : StreamId) (old new : StateInner S) → IsCallOf {T = Unit {0}} (call.EndSend id) reply.Done old new → IsCallOf {T = T} (call.EndSend id) reply.Done old new
  send_done id old new h = record { carries = h.carries; called = h.called; wakes = h.wakes }

  pub recv_done : (id : StreamId) (old new : StateInner S) → IsCallOf {T = Unit {0}} (call.EndRecv id) reply.Done old new → IsCallOf {T = T} (call.EndRecv id) reply.Done old new
  recv_done id old new h = record { carries = h.carries; called = h.called; wakes = h.wakes }

module _ {S D : Type 0} where
  -- it was made, or nothing was done
  pub made : (c : Call) (result : Result (Reply (Told D)) Memory) (old new : StateInner S) → Acts c result old new → CallsOf c result old new → IfOk result (λ r. MayReply c r) → MatchResult result (λ r. IsMade c r old new) (λ _. IsUnmade old new)
  made c (Ok r) old new acted calls fits = record { acted = acted; calls = calls; fits = fits }
  made c (Err e) old new acted calls fits = record { kept = acted.each; same = calls }
