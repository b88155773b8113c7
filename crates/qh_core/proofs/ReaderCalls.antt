-- Calls of readers.
use Rattle.std.proofs.Common.{◌≡◌, ℕ, ◌<◌, Bool, true, false, ◌&&◌, ◌||◌, not, List, [], ◌∷◌, ◌++◌, length, Option, Some, None, Result, Ok, Err, IfOk, IfSome, OnOk, OnErr, refl, sym, ap, subst, ◌∙◌, inl, inr}
use Rattle.std.proofs.lemmas.Bool.{cases_Bool, eq-eqb}
use Rattle.std.specs.Prelude.{is_some}
use Rattle.qh_buffers.specs.declared.assembler.Chunk.{Chunk}
use Rattle.qh_core.specs.Follows.{Follows, stop_acts, received_reset_acts}
use Rattle.qh_core.specs.Inner.{HasNoHalf, IsConnection}
use Rattle.qh_core.specs.declared.inner.Inner.{Inner}
use Rattle.qh_core.proofs.Handed.{HandNothing}
use Rattle.qh_core.proofs.QuietCalls.{same_call, send_set}
use Rattle.qh_core.proofs.StreamsGo.{StreamsGo, IsCall, stands_now}
use Rattle.qh_core.specs.Streams.{IsRead}
use Rattle.qh_core.specs.declared.fault.TakeFault.{TakeFault}
use Rattle.qh_core.specs.declared.fault.TakeFault.TheVariants.{Readable, Read}
use Rattle.qh_half.specs.Recv.{PlainRecv, is_closed, readable_fault}
use Rattle.qh_half.specs.declared.fault.ClosedStream.{ClosedStream}
use Rattle.qh_half.specs.declared.fault.ReadFault.{ReadFault}
use Rattle.qh_half.specs.declared.fault.ReadFault.TheVariants.{Blocked, Reset as PeerReset, Memory}
use Rattle.qh_halves.specs.Counts.{is_own, is_bi}
use Rattle.qh_halves.specs.RecvHalves.{recv_at, half_is_closed, half_readable_fault, is_closed_at, readable_fault_at, IsRecvStep, IsBegunRead, is_wanting, Begins, Stops, TakesReset}
use Rattle.qh_halves.specs.SendHalves.{PlainSendHalves, send_at}
use Rattle.qh_spec.specs.QuicFrame.{StreamFrame as Run}
use Rattle.qh_spec.specs.Transcript.{Act, Stopped, read}
use Rattle.qh_streams.proofs.StreamsTracked.{keeps_tracked, recv_goes}
use Rattle.qh_streams.proofs.StreamsTrackedCalls.{receiving_keeps}
use Rattle.qh_streams.proofs.StreamsTrackedSteps.{closed_counts}
use Rattle.qh_streams.specs.Streams.{PlainStreams, KeepsOut, counted_closed, counts_of, is_live, is_two_way, was_opened}
use Rattle.qh_streams.specs.Tracked.{AreTracked, SameCounts}
use Rattle.qh_streams.specs.Tracked.IsReceivingStep.{reads, begins, stops, takes_reset}
use Rattle.qh_streams.specs.declared.frames.SentFrame.{SentFrame}
use Rattle.qh_transcript.proofs.ReceivingLists.{others_stand, stop_reads, told_reads}
use Rattle.qh_transcript.proofs.ReceivingReads.{answer_stands, in_order_stands}
use Rattle.qh_transcript.proofs.ReceivingSteps.{closed_opened, like_stand, begun_like, stopped_like, told_like}
use Rattle.qh_transcript.proofs.SendingSteps as sending
use Rattle.qh_transcript.proofs.WithinFrames.{closed_set}
use Rattle.qh_transcript.proofs.WithinKept as within
use Rattle.qh_transcript.specs.Receiving.{StandsIn, piece_acts, read_acts, reset_acts}
use Rattle.qh_transcript.specs.Sending.{WriteNothing}

abbrev fault_of : TakeFault → ReadFault
fault_of (Read fault) = fault
fault_of (Readable fault) = Blocked

-- two faults of a read of a connection are those of the streams
pub read_fault : {a b : ReadFault} → Read a ≡ Read b → a ≡ b
read_fault e = ap fault_of e

-- ---- the receiving halves alone change, and how many streams of the peer's are closed

record IsReadAlone (old new : PlainStreams) : Type 0 where
  send : new.send ≡ old.send
  counts : within.KeepsCounts old new
  opened : (id : ℕ) → was_opened new id ≡ was_opened old id
  announced : SameCounts old new

closed_send : (s : PlainStreams) (id : ℕ) (live : Bool) → (counted_closed s id live).send ≡ s.send
closed_send s id live = elim (cases_Bool (not (is_own s.side id) && (live && not (is_live s id)))) [
  | inl e ↦ rw e (send_set s (is_bi id) _)
  | inr e ↦ rw e refl
]

abbrev IsCounted : (old new : PlainStreams) → (id : ℕ) → Type 0
IsCounted old new id = new ≡ counted_closed (record old { recv = new.recv }) id (is_live old id)

alone : (old new : PlainStreams) (id : ℕ) → IsCounted old new id → IsReadAlone old new
alone old new id rest =
    let mid : PlainStreams = record old { recv = new.recv } in
    record {
      send = ap (λ (s : PlainStreams). s.send) rest ∙ closed_send mid id (is_live old id);
      counts = closed_set old new mid id (is_live old id) rest (record { side = refl; peer = refl; opened = λ b. refl; max_opened = λ b. refl });
      opened = λ k. ap (λ (s : PlainStreams). was_opened s k) rest ∙ closed_opened mid id (is_live old id) k;
      announced = λ dir. ap (λ (s : PlainStreams). (counts_of s (is_two_way dir)).announced) rest ∙ closed_counts mid id (is_live old id) dir;
    }

-- acts of a reader
record IsReading (u : List Act) : Type 0 where
  handed : HandNothing u
  unwritten : WriteNothing u

reading : (old new : PlainStreams) (u : List Act) → IsReadAlone old new → ((frames : List SentFrame) → AreTracked old frames → AreTracked new frames) → KeepsOut old new → IsReading u
    → ((came : List Run) (t : List Act) → StandsIn old came t → StandsIn new came (t ++ u)) → StreamsGo old new u
reading old new u a tracked keeps acts into = record {
  side = a.counts.side;
  peer = a.counts.peer;
  tracked = tracked;
  keeps = keeps;
  out = λ sent t p. sending.others new sent t u acts.unwritten (sending.kept old new sent t (ap (λ (h : PlainSendHalves). h.halves) a.send) a.opened p);
  into = into;
  within = λ sent given t _ p. within.others new given t u acts.unwritten (within.kept old new given t a.counts a.send p);
  handed = acts.handed;
}

no_reader : {X : Type 0} {P : PlainRecv → PlainRecv → Type 0} {n : ℕ} (old new : PlainStreams) (id : ℕ) → IsRecvStep P old.recv new.recv id n → HasNoHalf old → X
no_reader old new id step none = let was = step.was in let missing = rw none.recv at was in absurd (cc)

-- ---- stops, and the peer's reset

stop_reading : (id code : ℕ) → IsReading (Stopped id code ∷ [])
stop_reading id code = record { handed = record { into = refl; out = refl }; unwritten = record { bytes = λ k. refl; ends = λ k. refl } }

pub stop_call : (old new : PlainStreams) (id code : ℕ) (r : Result Unit ClosedStream) → OnOk r (IsRecvStep (Stops code) old.recv new.recv id 0 × IsCounted old new id)
    → OnErr r ((is_closed_at old.recv id ≡ true) × (new ≡ old)) → KeepsOut old new → IsCall old new (stop_acts id code r)
stop_call old new id code (Ok _) ok fault keeps =
    let a = alone old new id ok.1 in
    record {
      go = reading old new (Stopped id code ∷ []) a (λ frames. keeps_tracked (receiving_keeps old new id (stops code ok.0) a.send a.announced)) keeps (stop_reading id code)
          (λ came t s. others_stand new came t _ (stop_reads id code) (like_stand old new came t (recv_goes ok.0) (stopped_like came id code) a.opened s));
      still = no_reader old new id ok.0;
    }
stop_call old new id code (Err e) ok fault keeps = same_call old new fault.1 keeps

told_reading : (id : ℕ) (code : Option ℕ) → IsReading (reset_acts id code)
told_reading id None = record { handed = record { into = refl; out = refl }; unwritten = record { bytes = λ k. refl; ends = λ k. refl } }
told_reading id (Some code) = record { handed = record { into = refl; out = refl }; unwritten = record { bytes = λ k. refl; ends = λ k. refl } }

pub told_call : (old new : PlainStreams) (id : ℕ) (r : Result (Option ℕ) ClosedStream) → IfOk r (λ code. IsRecvStep (TakesReset code) old.recv new.recv id 0 × IsCounted old new id)
    → OnErr r ((is_closed_at old.recv id ≡ true) × (new ≡ old)) → KeepsOut old new → IsCall old new (received_reset_acts id r)
told_call old new id (Ok code) ok fault keeps =
    let a = alone old new id ok.1 in
    record {
      go = reading old new (reset_acts id code) a (λ frames. keeps_tracked (receiving_keeps old new id (takes_reset code ok.0) a.send a.announced)) keeps (told_reading id code)
          (λ came t s. others_stand new came t _ (told_reads id code) (like_stand old new came t (recv_goes ok.0) (told_like came id code) a.opened s));
      still = no_reader old new id ok.0;
    }
told_call old new id (Err e) ok fault keeps = same_call old new fault.1 keeps

-- ---- reads

piece_reading : (id offset : ℕ) (bytes : List ℕ) → IsReading (piece_acts id offset bytes)
piece_reading id offset [] = record { handed = record { into = refl; out = refl }; unwritten = record { bytes = λ k. refl; ends = λ k. refl } }
piece_reading id offset (b ∷ bytes) = record { handed = record { into = refl; out = refl }; unwritten = record { bytes = λ k. refl; ends = λ k. refl } }

read_reading : (id : ℕ) (answer : Result (Option Chunk) ReadFault) → IsReading (read_acts id answer)
read_reading id (Ok (Some c)) = piece_reading id c.offset c.bytes
read_reading id (Ok None) = record { handed = record { into = refl; out = refl }; unwritten = record { bytes = λ k. refl; ends = λ k. refl } }
read_reading id (Err (PeerReset code)) = record { handed = record { into = refl; out = refl }; unwritten = record { bytes = λ k. refl; ends = λ k. refl } }
read_reading id (Err Blocked) = record { handed = record { into = refl; out = refl }; unwritten = record { bytes = λ k. refl; ends = λ k. refl } }
read_reading id (Err Memory) = record { handed = record { into = refl; out = refl }; unwritten = record { bytes = λ k. refl; ends = λ k. refl } }

-- a read was begun
abbrev IsBegun : (old mid : PlainStreams) → (id : ℕ) → (ordered wanting : Bool) → Type 0
IsBegun old mid id ordered wanting = (readable_fault_at old.recv id ordered ≡ None) × IsRecvStep (Begins (ordered || wanting)) old.recv mid.recv id 0 × (mid ≡ record old { recv = mid.recv })

not_closed : (r : PlainRecv) (ordered : Bool) → readable_fault r ordered ≡ None → is_closed r ≡ false
not_closed r ordered can = elim (cases_Bool (is_closed r)) [
  | inl closed ↦ let fault = rw closed at can in absurd (cc)
  | inr live ↦ live
]

in_turn : (r : PlainRecv) → readable_fault r true ≡ None → r.is_unordered ≡ false
in_turn r can = elim (cases_Bool r.is_unordered) [
  | inl apart ↦ let live = not_closed r true can in let fault = rw (live, apart) at can in absurd (cc)
  | inr turn ↦ turn
]

-- the half that is read then
record IsReader (ordered : Bool) (r : PlainRecv) : Type 0 where
  live : is_closed r ≡ false
  turn : ordered ≡ true → r.is_unordered ≡ false

with_turn : (b ordered wanting : Bool) → ordered ≡ true → b ≡ false → (b || not (ordered || wanting)) ≡ false
with_turn b ordered wanting is turn = rw (is, turn) refl

reader : (old mid : PlainStreams) (id : ℕ) (ordered wanting : Bool) (r : PlainRecv) → IsBegun old mid id ordered wanting → recv_at mid.recv id ≡ Some r → IsReader ordered r
reader old mid id ordered wanting r begun is =
    let b = (recv_goes begun.1).here id r (eq-eqb id id refl) is in
    let can : readable_fault b.half ordered ≡ None = sym (ap (λ (o : Option PlainRecv). half_readable_fault o ordered) b.was) ∙ begun.0 in
    record {
      live = ap is_closed b.step ∙ not_closed b.half ordered can;
      turn = λ in_order. ap (λ (r : PlainRecv). r.is_unordered) b.step
          ∙ with_turn b.half.is_unordered ordered wanting in_order (in_turn b.half (subst (λ (o : Bool). readable_fault b.half o ≡ None) in_order can));
    }

begun_alone : (old mid : PlainStreams) → mid ≡ record old { recv = mid.recv } → IsReadAlone old mid
begun_alone old mid rest = record {
  send = ap (λ (s : PlainStreams). s.send) rest;
  counts = record {
    side = ap (λ (s : PlainStreams). s.side) rest;
    peer = ap (λ (s : PlainStreams). s.peer) rest;
    opened = λ b. ap (λ (s : PlainStreams). (counts_of s b).opened) rest;
    max_opened = λ b. ap (λ (s : PlainStreams). (counts_of s b).max_opened) rest;
  };
  opened = λ id. ap (λ (s : PlainStreams). was_opened s id) rest;
  announced = λ dir. ap (λ (s : PlainStreams). (counts_of s (is_two_way dir)).announced) rest;
}

both_alone : (old mid new : PlainStreams) → IsReadAlone old mid → IsReadAlone mid new → IsReadAlone old new
both_alone old mid new a b = record {
  send = b.send ∙ a.send;
  counts = record {
    side = b.counts.side ∙ a.counts.side;
    peer = b.counts.peer ∙ a.counts.peer;
    opened = λ w. b.counts.opened w ∙ a.counts.opened w;
    max_opened = λ w. b.counts.max_opened w ∙ a.counts.max_opened w;
  };
  opened = λ id. b.opened id ∙ a.opened id;
  announced = λ dir. b.announced dir ∙ a.announced dir;
}

begun_stands : (old mid : PlainStreams) (id : ℕ) (ordered wanting : Bool) (came : List Run) (t : List Act) → IsBegun old mid id ordered wanting → StandsIn old came t → StandsIn mid came t
begun_stands old mid id ordered wanting came t begun s = like_stand old mid came t (recv_goes begun.1) (begun_like came id (ordered || wanting)) (begun_alone old mid begun.2).opened s

pub read_call : (old new : PlainStreams) (id max : ℕ) (ordered : Bool) (answer : Result (Option Chunk) ReadFault) → IsRead max ordered id answer old new → KeepsOut old new → IsCall old new (read_acts id answer)
read_call old new id max ordered answer r keeps =
    let mid = r.mid in
    let wanting = is_wanting answer in
    let begun : IsBegun old mid id ordered wanting = (r.readable, r.begun, r.mid_is) in
    let a = begun_alone old mid r.mid_is in
    let b = alone mid new id r.new_is in
    let live : is_closed_at mid.recv id ≡ false = ap half_is_closed r.reads.was ∙ (reader old mid id ordered wanting r.reads.half begun r.reads.was).live in
    record {
      go = reading old new (read_acts id answer) (both_alone old mid new a b)
          (λ frames p. keeps_tracked {old = mid} (receiving_keeps mid new id (reads max answer r.reads) b.send b.announced)
          (keeps_tracked (receiving_keeps old mid id (begins (ordered || wanting) r.begun) a.send a.announced) p))
          keeps (read_reading id answer)
          (λ came t s. answer_stands mid new came t id max answer live r.reads b.opened (begun_stands old mid id ordered wanting came t begun s));
      still = no_reader old mid id r.begun;
    }

-- a read that begins and gives is one
pub read_is : (old new : PlainStreams) (id max : ℕ) (ordered : Bool) (answer : Result (Option Chunk) ReadFault) → readable_fault_at old.recv id ordered ≡ None
    → IsBegunRead max (ordered || is_wanting answer) answer old.recv new.recv id → IsCounted old new id → IsRead max ordered id answer old new
read_is old new id max ordered answer can b rest =
    let lives = λ (o : Option PlainRecv). is_some (send_at old.send id) || is_some o in
    record {
      mid = record old { recv = b.mid };
      readable = can;
      begun = b.begun;
      mid_is = refl;
      reads = b.reads;
      new_is = rest ∙ ap (λ (live : Bool). counted_closed (record old { recv = new.recv }) id live) (ap lives b.begun.was ∙ sym (ap lives b.reads.was));
    }

-- an ordered read begins where what was read ends
read_in_order : (old new : PlainStreams) (id max : ℕ) (ordered : Bool) (chunk : Chunk) (came : List Run) (t : List Act) → IsRead max ordered id (Ok (Some chunk)) old new
    → ordered ≡ true → 0 < length chunk.bytes → StandsIn old came t → chunk.offset ≡ length (read t id)
read_in_order old new id max ordered chunk came t r in_order more s =
    let begun : IsBegun old r.mid id ordered false = (r.readable, r.begun, r.mid_is) in
    in_order_stands r.mid new came t id max chunk r.reads.half r.reads r.reads.was ((reader old r.mid id ordered false r.reads.half begun r.reads.was).turn in_order) more (begun_stands old r.mid id ordered false came t begun s)

module _ {S : Type 0} where
  pub reads_in_order : (c : Inner S) (new : PlainStreams) (id max : ℕ) (ordered : Bool) (o : Option Chunk) → IsRead max ordered id (Ok o) c.space.streams new → IsConnection c
      → IfSome o (λ chunk. (t : List Act) → Follows c t → ordered ≡ true → 0 < length chunk.bytes → chunk.offset ≡ length (read t id))
  reads_in_order c new id max ordered None r p = tt
  reads_in_order c new id max ordered (Some chunk) r p = λ t f in_order more.
      let now = stands_now c t f (λ failed. no_reader c.space.streams r.mid id r.begun (p.no_half failed)) in
      read_in_order c.space.streams new id max ordered chunk now.came t r in_order more now.stands.into
