-- What a frame that came changes of all that the streams keep.
use Rattle.std.proofs.Common.{◌≡◌, ◌⊎◌, ℕ, ◌+◌, ◌-◌, ◌<◌, ◌≤◌, ◌^◌, ◌==◌, nat_lt, nat_le, min, Bool, true, false, ◌&&◌, ◌||◌, not, List, [], ◌∷◌, ◌++◌, length, Option, Some, None, is_some, Result, Ok, Err, is_err, OnOk, if◌then◌else◌, refl, sym, ap, subst, ◌∙◌, arith, inl, inr}
use Rattle.std.proofs.lemmas.Bool.{false≢true, cases_Bool, eq-eqb, or_right}
use Rattle.std.proofs.lemmas.Bool.Decides.{when_true}
use Rattle.std.proofs.lemmas.List.{append-nil}
use Rattle.qh_base.specs.declared.stream_id.StreamId.{StreamId}
use Rattle.qh_buffers.specs.declared.assembler.Chunk.{Chunk}
use Rattle.qh_streams.specs.declared.fault.StreamFault.{StreamFault}
use Rattle.qh_half.specs.declared.recv.IngestFault.{IngestFault}
use Rattle.qh_half.specs.declared.recv.IngestFault.TheVariants.{FlowControl, FinalSize, Memory as NoMemory}
use Rattle.qh_streams.specs.declared.frames.StreamEvent.{StreamEvent}
use Rattle.qh_streams.specs.declared.frames.StreamEvent.TheVariants.{Readable}
use Rattle.qh_halves.specs.Counts.{is_own, is_bi, has_recv}
use Rattle.qh_half.specs.Recv.{PlainRecv, new_recv, is_done, ingest_fault, passes_limit, contradicts_size, IsFaultOf, IsIngested, IsResetBy}
use Rattle.qh_halves.specs.RecvHalves.{PlainRecvHalves, recv_at, unless_done, half_ingest_fault, ingest_fault_at, half_is_wanted, IsRecvStep, IsRecvAbsent, IsPieceTaken, IsResetTaken}
use Rattle.qh_streams.specs.Streams.{PlainStreams, was_opened, is_live, counted_closed, arrives_with, counts_of, new_recv_half, recv_or_new, readable_events, HasArrived, IsWithinCount, IsRefusal, IsRefusedBy, ingest_refusal, size_refusal, IsPieceReceived, IsResetReceived, IsReceived, HasUnblocked, KeepsOut}
use Rattle.qh_halves.specs.SendHalves.{PlainSendHalves, IsStep, IsAbsent, HasLimit, KeepsSpans}
use Rattle.qh_streams.specs.declared.frames.StreamFrame.TheVariants.{Stream, Reset, MaxStreamData}
use Rattle.qh_streams.specs.Streams.IsReceived.{stream, reset, max_stream_data}
use Rattle.qh_streams.proofs.StreamsKept.{out_kept, later_same, AreRecvKept, recv_same, recv_step}
use Rattle.qh_streams.proofs.StreamsSettled.{closed_alone}

pub at_ok : {T E P : Type 0} (r : Result T E) → is_err r ≡ false → OnOk r P → P
at_ok (Ok x) e p = p
at_ok (Err d) e p = absurd (false≢true (sym e))

pub piece_kept : {old new : PlainRecvHalves} {id : ℕ} {c : Chunk} {fin : Bool} → IsPieceTaken old new id c fin ⊎ IsRecvAbsent old new id → AreRecvKept old new
piece_kept (inl taken) = recv_step taken.step
piece_kept (inr none) = recv_same none.same

pub reset_kept : {old new : PlainRecvHalves} {id code size : ℕ} → IsResetTaken old new id code size ⊎ IsRecvAbsent old new id → AreRecvKept old new
reset_kept (inl taken) = recv_step taken.step
reset_kept (inr none) = recv_same none.same

pub less_is : (a b : ℕ) → a < b → nat_lt a b ≡ true
less_is a b less = grind (arith, less)

pub not_less : (a b : ℕ) → b ≤ a → nat_lt a b ≡ false
not_less a b more = grind (arith, more)

-- nothing but halves, events and blocked writers changed
pub stepped_out : (s t new : PlainStreams) → new ≡ t → t.side ≡ s.side → t.bi ≡ s.bi → t.uni ≡ s.uni → KeepsSpans s.send t.send → KeepsOut s new
stepped_out s t new is side_is bi_is uni_is spans f out = rw is (out_kept (later_same s t side_is bi_is uni_is) spans f out)

-- ---- faults

pub refused_so : (fault : IngestFault) (answer : StreamFault) (frame : ℕ) (refusal : Option IngestFault) → IsRefusedBy answer (ingest_refusal (Some fault) frame)
    → IsFaultOf fault refusal → IsRefusedBy answer (ingest_refusal refusal frame)
refused_so fault answer frame refusal so (inl wanting) = let so_wanting = rw wanting.0 at so in rw wanting.1 so_wanting
refused_so fault answer frame refusal so (inr is) = rw is so

no_memory : (passes contradicts : Bool) → (if passes then Some FlowControl else if contradicts then Some FinalSize else None) ≡ Some NoMemory → ⊥
no_memory true contradicts e = cc
no_memory false true e = cc
no_memory false false e = cc

-- bytes aren't refused for want of memory
never_wanting : (o : Option PlainRecv) (to : ℕ) (is_end : Bool) (received max_data : ℕ) → half_ingest_fault o to is_end received max_data ≡ Some NoMemory → ⊥
never_wanting None to is_end received max_data e = cc
never_wanting (Some r) to is_end received max_data e = no_memory (passes_limit r received max_data to) (contradicts_size r to is_end) e

some_refusal : (fault : IngestFault) (answer : StreamFault) (frame : ℕ) → (fault ≡ NoMemory → ⊥) → IsRefusedBy answer (ingest_refusal (Some fault) frame) → IsRefusal answer (ingest_refusal (Some fault) frame)
some_refusal FlowControl answer frame other (inl wanting) = let none = wanting.1 in absurd (cc)
some_refusal FlowControl answer frame other (inr so) = so
some_refusal FinalSize answer frame other (inl wanting) = let none = wanting.1 in absurd (cc)
some_refusal FinalSize answer frame other (inr so) = so
some_refusal NoMemory answer frame other so = absurd (other refl)

module _ (s : PlainStreams) (id to : ℕ) (is_end : Bool) where
  abbrev size_fault : Option IngestFault
  size_fault = half_ingest_fault (recv_or_new s id) to is_end s.recv.received s.recv.announced.value

  pub fault_there : was_opened s id ≡ true → ingest_fault_at s.recv id to is_end ≡ size_fault
  fault_there opened = rw opened refl

  pub fault_of_new : was_opened s id ≡ false → has_recv s.side id ≡ true
      → ingest_fault (new_recv (min s.recv.stream_window (2 ^ 62 - 1))) to is_end s.recv.received s.recv.announced.value ≡ size_fault
  fault_of_new fresh reads = rw (fresh, reads) refl

  pub size_refused : (fault : IngestFault) (answer : StreamFault) (frame : ℕ) → Some fault ≡ size_fault → IsRefusedBy answer (ingest_refusal (Some fault) frame) → IsRefusal answer (size_refusal s id to is_end frame)
  size_refused fault answer frame is so =
      let never = never_wanting (recv_or_new s id) to is_end s.recv.received s.recv.announced.value in
      rw (sym is) (some_refusal fault answer frame (λ wanting. never (sym is ∙ ap Some wanting)) so)

-- ---- a stream that was there

pub there_already : (s : PlainStreams) (id : ℕ) → was_opened s id ≡ true → HasArrived s s id
there_already s id opened = record {
  known = λ _. refl;
  halves = λ new. absurd (false≢true (sym new ∙ opened));
  rest_is = λ new. absurd (false≢true (sym new ∙ opened));
}

pub readable_are : (s : PlainStreams) (id : StreamId) (told : Bool) → was_opened s id.0 ≡ true → told ≡ half_is_wanted (recv_at s.recv id.0)
    → readable_events s id ≡ (if told then Readable id ∷ [] else [])
readable_are s id told opened is = rw (opened, is) refl

-- the streams before one more is counted as closed
abbrev pub with_news : PlainStreams → PlainRecvHalves → StreamId → PlainStreams
with_news s recv id = record s { recv = recv; events = s.events ++ readable_events s id }

module _ (old : PlainStreams) (recv : PlainRecvHalves) (new : PlainStreams) (id : StreamId) (opened : was_opened old id.0 ≡ true) (is : new ≡ counted_closed (with_news old recv id) id.0 (is_live old id.0)) where
  recv_is : new.recv ≡ recv
  recv_is = ap (λ (s : PlainStreams). s.recv) is ∙ (closed_alone (with_news old recv id) id.0 (is_live old id.0)).recv_is

  again : new ≡ counted_closed (with_news old new.recv id) id.0 (is_live old id.0)
  again = is ∙ ap (λ (x : PlainRecvHalves). counted_closed (with_news old x id) id.0 (is_live old id.0)) (sym recv_is)

  pub is_piece_received : (piece : Chunk) (fin : Bool) → IsPieceTaken old.recv recv id.0 piece fin ⊎ IsRecvAbsent old.recv recv id.0 → IsPieceReceived old new id piece fin
  is_piece_received piece fin taken = record { mid = old; arrived = there_already old id.0 opened; taken = rw recv_is taken; rest_is = again }

  pub is_reset_received : (code size : ℕ) → IsResetTaken old.recv recv id.0 code size ⊎ IsRecvAbsent old.recv recv id.0 → IsResetReceived old new id code size
  is_reset_received code size taken = record { mid = old; arrived = there_already old id.0 opened; taken = rw recv_is taken; rest_is = again }

-- ---- a stream that came with the frame

-- it came, and nothing else of the receiving halves changed
pub arrived_still : (old mid s : PlainStreams) (recv : PlainRecvHalves) (id : ℕ) → HasArrived old mid id → s ≡ mid → recv ≡ s.recv → HasArrived old (record s { recv = recv }) id
arrived_still old mid s recv id arrived is same =
    let e : record s { recv = recv } ≡ mid = ap (λ (x : PlainRecvHalves). record s { recv = x }) same ∙ is in
    subst (λ (x : PlainStreams). HasArrived old x id) (sym e) arrived

pub arrived_at : (old mid s : PlainStreams) (id : ℕ) → HasArrived old mid id → s ≡ mid → HasArrived old s id
arrived_at old mid s id arrived is = subst (λ (x : PlainStreams). HasArrived old x id) (sym is) arrived

-- a limit of a stream came
pub is_limit_received : (old mid told : PlainStreams) (send : PlainSendHalves) (id : StreamId) (limit : ℕ) → HasArrived old mid id.0 → HasUnblocked mid told id.0 limit
    → told ≡ record mid { blocked = told.blocked } → IsStep (HasLimit limit) told.send send id.0 0 ⊎ IsAbsent told.send send id.0
    → IsReceived old (record told { send = send }) (MaxStreamData id limit)
is_limit_received old mid told send id limit arrived unblocked is step =
    let step_is = rw (ap (λ (s : PlainStreams). s.send) is) at step in
    max_stream_data mid id limit arrived step_is unblocked (ap (λ (s : PlainStreams). record s { send = send }) is)

arrives_itself : (i a r : ℕ) → nat_lt i a ≡ false → (r == r && (nat_le a i && nat_le i i)) ≡ true
arrives_itself i a r e = grind (arith, e)

none_goes : (a b : Bool) → (a && (b && false)) ≡ false
none_goes true true = refl
none_goes true false = refl
none_goes false b = refl

-- if a half is left no stream is closed
not_closed : (s : PlainStreams) (id : ℕ) (was_live : Bool) → is_live s id ≡ true → counted_closed s id was_live ≡ s
not_closed s id was_live live =
    let none : (not (is_own s.side id) && (was_live && not (is_live s id))) ≡ false = rw live (none_goes (not (is_own s.side id)) was_live) in
    rw none refl

-- a half that was new isn't done by what came
still_there : (P : PlainRecv → PlainRecv → Type 0) (old new : PlainRecvHalves) (id fresh limit : ℕ) → recv_at old id ≡ Some (new_recv limit) → (step : IsRecvStep P old new id fresh)
    → step.next.is_given ≡ step.half.is_given → step.next.is_stopped ≡ step.half.is_stopped → is_some (recv_at new id) ≡ true
still_there P old new id fresh limit there step given stopped =
    let was = step.was in
    let half_is : step.half ≡ new_recv limit = cc in
    let not_given : step.next.is_given ≡ false = given ∙ ap (λ (r : PlainRecv). r.is_given) half_is in
    let not_stopped : step.next.is_stopped ≡ false = stopped ∙ ap (λ (r : PlainRecv). r.is_stopped) half_is in
    let here : recv_at new id ≡ unless_done step.next = step.halves_are id ∙ ap (λ (b : Bool). if b then unless_done step.next else recv_at old id) (eq-eqb id id refl) in
    rw here (rw (not_given, not_stopped) refl)

module _ (old mid : PlainStreams) (id : StreamId) (arrived : HasArrived old mid id.0) (fresh : was_opened old id.0 ≡ false) (within : IsWithinCount old id.0) where
  not_own : is_own old.side id.0 ≡ false
  not_own = elim (cases_Bool (is_own old.side id.0)) [
    | inl own ↦ absurd (false≢true (sym fresh ∙ when_true _ _ own within))
    | inr apart ↦ apart
  ]

  arrives : arrives_with old id.0 id.0 ≡ true
  arrives = let behind = rw not_own at fresh in arrives_itself _ _ _ behind

  recv_there : recv_at mid.recv id.0 ≡ new_recv_half old id.0
  recv_there = (arrived.halves fresh).recv_is id.0 ∙ ap (λ (b : Bool). if b then new_recv_half old id.0 else recv_at old.recv id.0) arrives

  -- what comes is refused for the same reasons as of the half that is to be
  pub refused_alike : (to : ℕ) (is_end : Bool) → half_ingest_fault (recv_at mid.recv id.0) to is_end mid.recv.received mid.recv.announced.value
      ≡ half_ingest_fault (recv_or_new old id.0) to is_end old.recv.received old.recv.announced.value
  refused_alike to is_end =
      let rest = (arrived.halves fresh).recv_rest in
      let received : mid.recv.received ≡ old.recv.received = ap (λ (r : PlainRecvHalves). r.received) rest in
      let announced : mid.recv.announced ≡ old.recv.announced = ap (λ (r : PlainRecvHalves). r.announced) rest in
      rw (received, announced, recv_there, fresh) refl

  module _ (recv : PlainRecvHalves) (reads : has_recv old.side id.0 ≡ true) where
    new_there : recv_at mid.recv id.0 ≡ Some (new_recv (min old.recv.stream_window (2 ^ 62 - 1)))
    new_there = recv_there ∙ rw reads refl

    first_rest : is_some (recv_at recv id.0) ≡ true
        → record mid { recv = recv } ≡ counted_closed (record mid { recv = recv; events = mid.events ++ readable_events old id }) id.0 (is_live mid id.0)
    first_rest there =
        let live : is_live (record mid { recv = recv }) id.0 ≡ true = or_right _ _ there in
        let told : mid.events ++ readable_events old id ≡ mid.events = rw fresh (append-nil mid.events) in
        sym
        (ap (λ (es : List StreamEvent). counted_closed (record mid { recv = recv; events = es }) id.0 (is_live mid id.0)) told
        ∙ not_closed (record mid { recv = recv }) id.0 (is_live mid id.0) live)

    pub is_first_piece : (piece : Chunk) (fin : Bool) → IsPieceTaken mid.recv recv id.0 piece fin ⊎ IsRecvAbsent mid.recv recv id.0 → IsPieceReceived old (record mid { recv = recv }) id piece fin
    is_first_piece piece fin (inl taken) =
        let step = taken.step in
        let there = still_there _ mid.recv recv id.0 taken.fresh _ new_there step (ap (λ (r : PlainRecv). r.is_given) step.step.rest_is) (ap (λ (r : PlainRecv). r.is_stopped) step.step.rest_is) in
        record { mid = mid; arrived = arrived; taken = inl taken; rest_is = first_rest there }
    is_first_piece piece fin (inr none) = let none_there = none.none in let there = new_there in absurd (cc)

    pub is_first_reset : (code size : ℕ) → IsResetTaken mid.recv recv id.0 code size ⊎ IsRecvAbsent mid.recv recv id.0 → IsResetReceived old (record mid { recv = recv }) id code size
    is_first_reset code size (inl taken) =
        let step = taken.step in
        let there = still_there _ mid.recv recv id.0 taken.fresh _ new_there step (ap (λ (r : PlainRecv). r.is_given) step.step.rest_is) (ap (λ (r : PlainRecv). r.is_stopped) step.step.rest_is) in
        record { mid = mid; arrived = arrived; taken = inl taken; rest_is = first_rest there }
    is_first_reset code size (inr none) = let none_there = none.none in let there = new_there in absurd (cc)

-- ---- what a frame did

pub stream_received : {T E : Type 0} (result : Result T E) (old new : PlainStreams) (id : StreamId) (at offset : ℕ) (payload : List ℕ) (fin : Bool) → at ≡ offset
    → OnOk result (IsPieceReceived old new id (record { offset = at; bytes = payload }) fin) → OnOk result (IsReceived old new (Stream id offset payload fin))
stream_received (Ok x) old new id at offset payload fin e received = stream id offset payload fin (rw e at received)
stream_received (Err d) old new id at offset payload fin e received = tt

pub reset_received : {T E : Type 0} (result : Result T E) (old new : PlainStreams) (id : StreamId) (code size : ℕ)
    → OnOk result (IsResetReceived old new id code size) → OnOk result (IsReceived old new (Reset id code size))
reset_received (Ok x) old new id code size received = reset id code size received
reset_received (Err d) old new id code size received = tt
