-- Calls on streams, and what is told of a connection, lose nothing of what came.
use Rattle.std.proofs.Common.{◌≡◌, ℕ, Bool, true, false, List, [], ◌∷◌, Option, Some, None, Result, Ok, Err, refl, sym, ap, ◌∙◌, inl, inr}
use Rattle.std.specs.Prelude.{IfErr, IfOk, ◌==◌}
use Rattle.std.proofs.lemmas.Bool.{cases_Bool}
use Rattle.qh_buffers.specs.declared.assembler.Chunk.{Chunk}
use Rattle.qh_core.specs.Follows.{take_acts}
use Rattle.qh_core.specs.Inner.{with_streams}
use Rattle.qh_core.specs.Made.{IsStreamCall}
use Rattle.qh_core.specs.Made.IsStreamCall.{unchanged, opened, accepted, wrote, unwritten, finished, reset, prioritized, read, stopped, took_reset, concurrent, send_window, receive_window}
use Rattle.qh_core.specs.Streams.{IsRead, IsReadFault, IsWriteRefused}
use Rattle.qh_core.specs.Streams.IsWriteRefused.{closed as closed_to_writes, wanting, refused as refused_write}
use Rattle.qh_core.specs.declared.fault.TakeFault.{TakeFault}
use Rattle.qh_core.specs.declared.fault.TakeFault.TheVariants.{Readable, Read}
use Rattle.qh_core.specs.declared.inner.Inner.{Inner}
use Rattle.qh_half.specs.declared.fault.ReadFault.{ReadFault}
use Rattle.qh_half.specs.declared.fault.ReadFault.TheVariants as fault
use Rattle.qh_half.specs.declared.fault.WriteFault.{WriteFault}
use Rattle.qh_half.specs.declared.fault.WriteFault.TheVariants.{Blocked, Stopped, ClosedStream as StreamClosed, Memory}
use Rattle.qh_halves.specs.SendHalves.{write_limit}
use Rattle.qh_halves.specs.declared.counts.StreamCounts.{StreamCounts}
use Rattle.qh_spec.specs.QuicFrame.{StreamFrame as Run}
use Rattle.qh_spec.specs.Transcript.{Act, handed_in, handed_out}
use Rattle.qh_streams.proofs.StreamsTracked.{recv_goes}
use Rattle.qh_streams.specs.Streams.{PlainStreams, IsPolled, is_live, is_two_way, was_opened, with_blocked, with_counts}
use Rattle.qh_streams.specs.Streams.IsPolled.{writable, queued, none as nothing_polled}
use Rattle.qh_streams.specs.declared.frames.StreamEvent.{StreamEvent}
use Rattle.qh_transcript.proofs.ReceivingOpened.{opened_new}
use Rattle.qh_transcript.proofs.ReceivingSteps.{closed_opened, counts_opened}
use Rattle.qh_transcript.proofs.WaitingFrames as frame
use Rattle.qh_transcript.proofs.WaitingSteps as step
use Rattle.qh_transcript.specs.Receiving.{piece_acts, read_acts, reset_acts}
use Rattle.qh_transcript.specs.Waiting.{KeepsWhatCame}

-- what came is kept from the one to the other
abbrev pub KeepCame : (old new : PlainStreams) → Type 0
KeepCame old new = (came : List Run) → KeepsWhatCame old came → KeepsWhatCame new came

-- the receiving halves are the same, and as many streams were opened
beside : (old new s : PlainStreams) → new ≡ s → s.recv.halves ≡ old.recv.halves → ((k : ℕ) → was_opened s k ≡ was_opened old k) → KeepCame old new
beside old new s is halves same = λ came p.
    frame.same_keeps old new came (ap (λ (z : PlainStreams). z.recv.halves) is ∙ halves) (λ k. ap (λ (z : PlainStreams). was_opened z k) is ∙ same k) p

counts_recv : (s : PlainStreams) (two_way : Bool) (c : StreamCounts) → (with_counts s two_way c).recv.halves ≡ s.recv.halves
counts_recv s true c = refl
counts_recv s false c = refl

blocked_recv : (s : PlainStreams) (id : ℕ) (e : WriteFault) → (with_blocked s id e).recv.halves ≡ s.recv.halves
blocked_recv s id Blocked = elim (cases_Bool (write_limit s.send == 0)) [ inl e ↦ rw e refl | inr e ↦ rw e refl ]
blocked_recv s id (Stopped code) = refl
blocked_recv s id StreamClosed = refl
blocked_recv s id Memory = refl

blocked_opened : (s : PlainStreams) (id : ℕ) (e : WriteFault) (k : ℕ) → was_opened (with_blocked s id e) k ≡ was_opened s k
blocked_opened s id Blocked k = elim (cases_Bool (write_limit s.send == 0)) [ inl e ↦ rw e refl | inr e ↦ rw e refl ]
blocked_opened s id (Stopped code) k = refl
blocked_opened s id StreamClosed k = refl
blocked_opened s id Memory k = refl

-- a read that begins, and then answers
read_keeps : (max_length : ℕ) (ordered : Bool) (id : ℕ) (answer : Result (Option Chunk) ReadFault) (old new : PlainStreams) → IsRead max_length ordered id answer old new → KeepCame old new
read_keeps max_length ordered id answer old new r = λ came p.
    let begun = frame.half_keeps old r.mid came (recv_goes r.begun) (step.begun_holds _) (λ k. ap (λ (s : PlainStreams). was_opened s k) r.mid_is) p in
    frame.half_keeps r.mid new came (recv_goes r.reads) (step.read_holds max_length answer)
    (λ k. ap (λ (s : PlainStreams). was_opened s k) r.new_is ∙ closed_opened (record r.mid { recv = new.recv }) id (is_live r.mid id) k) begun

answered_keeps : (max_length : ℕ) (ordered : Bool) (id : ℕ) (answer : Result (Option Chunk) TakeFault) (old new : PlainStreams)
    → IfOk answer (λ o. IsRead max_length ordered id (Ok o) old new) → IfErr answer (λ e. IsReadFault max_length ordered id e old new) → KeepCame old new
answered_keeps max_length ordered id (Ok o) old new ok err = read_keeps max_length ordered id (Ok o) old new ok
answered_keeps max_length ordered id (Err (Read why)) old new ok err = read_keeps max_length ordered id (Err why) old new err
answered_keeps max_length ordered id (Err (Readable why)) old new ok err = beside old new old err.1 refl (λ k. refl)

pub polled_keeps : (old new : PlainStreams) (told : Option StreamEvent) → IsPolled old new told → KeepCame old new
polled_keeps old new _ (writable id front rest _ _ _ _ is) = beside old new _ is refl (λ k. refl)
polled_keeps old new _ (queued e es _ _ is) = beside old new _ is refl (λ k. refl)
polled_keeps old new _ (nothing_polled _ _ is) = beside old new _ is refl (λ k. refl)

-- ---- acts of readers

piece_hands_none : (id offset : ℕ) (bytes : List ℕ) → (handed_in (piece_acts id offset bytes) ≡ []) × (handed_out (piece_acts id offset bytes) ≡ [])
piece_hands_none id offset [] = (refl, refl)
piece_hands_none id offset (b ∷ bytes) = (refl, refl)

answer_hands_none : (id : ℕ) (answer : Result (Option Chunk) ReadFault) → (handed_in (read_acts id answer) ≡ []) × (handed_out (read_acts id answer) ≡ [])
answer_hands_none id (Ok (Some c)) = piece_hands_none id c.offset c.bytes
answer_hands_none id (Ok None) = (refl, refl)
answer_hands_none id (Err (fault.Reset code)) = (refl, refl)
answer_hands_none id (Err fault.Blocked) = (refl, refl)
answer_hands_none id (Err fault.Memory) = (refl, refl)

taking : (id : ℕ) (answer : Result (Option Chunk) TakeFault) → (handed_in (take_acts id answer) ≡ []) × (handed_out (take_acts id answer) ≡ [])
taking id (Ok o) = answer_hands_none id (Ok o)
taking id (Err (Read why)) = answer_hands_none id (Err why)
taking id (Err (Readable why)) = (refl, refl)

resetting : (id : ℕ) (code : Option ℕ) → (handed_in (reset_acts id code) ≡ []) × (handed_out (reset_acts id code) ≡ [])
resetting id None = (refl, refl)
resetting id (Some code) = (refl, refl)

module _ {S : Type 0} where
  streams_of : (b c : Inner S) (s : PlainStreams) → c ≡ with_streams b s → c.space.streams ≡ s
  streams_of b c s is = ap (λ (z : Inner S). z.space.streams) is

  own_streams : (b c : Inner S) (s : PlainStreams) → c ≡ with_streams b s → c ≡ with_streams b c.space.streams
  own_streams b c s is = is ∙ ap (λ (z : PlainStreams). with_streams b z) (sym (streams_of b c s is))

  refused_streams : (id : ℕ) (e : WriteFault) (b c : Inner S) → IsWriteRefused id e b c → c ≡ with_streams b c.space.streams
  refused_streams id e b c (closed_to_writes _ _ is) = own_streams b c b.space.streams is
  refused_streams id e b c (wanting _ _ _ is) = own_streams b c b.space.streams is
  refused_streams id e b c (refused_write _ _ is) = own_streams b c _ is

  refused_keeps : (id : ℕ) (e : WriteFault) (b c : Inner S) → IsWriteRefused id e b c → KeepCame b.space.streams c.space.streams
  refused_keeps id e b c (closed_to_writes _ _ is) = beside b.space.streams c.space.streams b.space.streams (ap (λ (z : Inner S). z.space.streams) is) refl (λ k. refl)
  refused_keeps id e b c (wanting _ _ _ is) = beside b.space.streams c.space.streams b.space.streams (ap (λ (z : Inner S). z.space.streams) is) refl (λ k. refl)
  refused_keeps id e b c (refused_write _ _ is) =
      beside b.space.streams c.space.streams (with_blocked b.space.streams id e) (streams_of b c _ is) (blocked_recv b.space.streams id e) (blocked_opened b.space.streams id e)

  pub call_keeps : (b c : Inner S) (u : List Act) → IsStreamCall b c u → KeepCame b.space.streams c.space.streams
  call_keeps b c u (unchanged is) = beside b.space.streams c.space.streams b.space.streams (ap (λ (z : Inner S). z.space.streams) is) refl (λ k. refl)
  call_keeps b c u (opened dir id _ id_is _ o rest) = λ came p. frame.new_keeps b.space.streams c.space.streams _ came (opened_new b.space.streams c.space.streams id dir id_is o) p
  call_keeps b c u (accepted dir _ is) =
      beside b.space.streams c.space.streams _ (streams_of b c _ is) (counts_recv b.space.streams (is_two_way dir) _) (counts_opened b.space.streams (is_two_way dir) _ refl refl)
  call_keeps b c u (wrote id count bytes _ _ step is) = beside b.space.streams c.space.streams _ (streams_of b c _ is) refl (λ k. refl)
  call_keeps b c u (unwritten id fault denied) = refused_keeps id fault b c denied
  call_keeps b c u (finished id step is) = beside b.space.streams c.space.streams _ (streams_of b c _ is) refl (λ k. refl)
  call_keeps b c u (reset id code step is) = beside b.space.streams c.space.streams _ (streams_of b c _ is) refl (λ k. refl)
  call_keeps b c u (prioritized id priority step is) = beside b.space.streams c.space.streams _ (streams_of b c _ is) refl (λ k. refl)
  call_keeps b c u (read max_length ordered id answer ok err rest) = answered_keeps max_length ordered id answer b.space.streams c.space.streams ok err
  call_keeps b c u (stopped id code half is) = λ came p.
      frame.half_keeps b.space.streams c.space.streams came (recv_goes half) (step.stopped_holds code)
      (λ k. ap (λ (s : PlainStreams). was_opened s k) (streams_of b c _ is) ∙ closed_opened (record b.space.streams { recv = c.space.streams.recv }) id (is_live b.space.streams id) k) p
  call_keeps b c u (took_reset id code half is) = λ came p.
      frame.half_keeps b.space.streams c.space.streams came (recv_goes half) (step.told_holds code)
      (λ k. ap (λ (s : PlainStreams). was_opened s k) (streams_of b c _ is) ∙ closed_opened (record b.space.streams { recv = c.space.streams.recv }) id (is_live b.space.streams id) k) p
  call_keeps b c u (concurrent dir count is) =
      beside b.space.streams c.space.streams _ (streams_of b c _ is) (counts_recv b.space.streams (is_two_way dir) _) (counts_opened b.space.streams (is_two_way dir) _ refl refl)
  call_keeps b c u (send_window bytes is) = beside b.space.streams c.space.streams _ (streams_of b c _ is) refl (λ k. refl)
  call_keeps b c u (receive_window bytes is) = beside b.space.streams c.space.streams _ (streams_of b c _ is) refl (λ k. refl)

  -- nothing but the streams changed
  pub only_streams : (b c : Inner S) (u : List Act) → IsStreamCall b c u → c ≡ with_streams b c.space.streams
  only_streams b c u (unchanged is) = own_streams b c b.space.streams is
  only_streams b c u (opened dir id _ id_is _ o rest) = rest
  only_streams b c u (accepted dir _ is) = own_streams b c _ is
  only_streams b c u (wrote id count bytes _ _ step is) = own_streams b c _ is
  only_streams b c u (unwritten id fault denied) = refused_streams id fault b c denied
  only_streams b c u (finished id step is) = own_streams b c _ is
  only_streams b c u (reset id code step is) = own_streams b c _ is
  only_streams b c u (prioritized id priority step is) = own_streams b c _ is
  only_streams b c u (read max_length ordered id answer ok err rest) = rest
  only_streams b c u (stopped id code half is) = own_streams b c _ is
  only_streams b c u (took_reset id code half is) = own_streams b c _ is
  only_streams b c u (concurrent dir count is) = own_streams b c _ is
  only_streams b c u (send_window bytes is) = own_streams b c _ is
  only_streams b c u (receive_window bytes is) = own_streams b c _ is

  -- no datagram is handed over
  pub hands_none : (b c : Inner S) (u : List Act) → IsStreamCall b c u → (handed_in u ≡ []) × (handed_out u ≡ [])
  hands_none b c u (unchanged is) = (refl, refl)
  hands_none b c u (opened dir id _ id_is _ o rest) = (refl, refl)
  hands_none b c u (accepted dir _ is) = (refl, refl)
  hands_none b c u (wrote id count bytes _ _ step is) = (refl, refl)
  hands_none b c u (unwritten id fault denied) = (refl, refl)
  hands_none b c u (finished id step is) = (refl, refl)
  hands_none b c u (reset id code step is) = (refl, refl)
  hands_none b c u (prioritized id priority step is) = (refl, refl)
  hands_none b c u (read max_length ordered id answer ok err rest) = taking id answer
  hands_none b c u (stopped id code half is) = (refl, refl)
  hands_none b c u (took_reset id code half is) = resetting id code
  hands_none b c u (concurrent dir count is) = (refl, refl)
  hands_none b c u (send_window bytes is) = (refl, refl)
  hands_none b c u (receive_window bytes is) = (refl, refl)
