-- What came is kept by each frame and each call.
use Rattle.std.proofs.Common.{◌≡◌, ◌⊎◌, ℕ, ◌+◌, ◌%◌, ◌==◌, nat_lt, Bool, true, false, ◌&&◌, ◌||◌, List, [], ◌∷◌, ◌++◌, append-nil, length, Option, Some, None, if◌then◌else◌, refl, sym, ap, subst, ◌∙◌, arith, inl, inr}
use Rattle.std.proofs.lemmas.Bool.{false≢true, cases_Bool, and_from, eq-eqb, le-leb, ltb-false}
use Rattle.std.proofs.lemmas.Bool.Decides.{eqb_tells}
use Rattle.qh_half.specs.Recv.{PlainRecv, contradicts, contradicts_size, final_size, ingest_fault, passes_limit}
use Rattle.qh_half.specs.declared.recv.IngestFault.TheVariants.{FlowControl, FinalSize}
use Rattle.qh_half.specs.declared.recv.RecvState.{RecvState}
use Rattle.qh_half.specs.declared.recv.RecvState.TheVariants.{Recv}
use Rattle.qh_halves.specs.Counts.{has_send, has_recv, index_of, is_bi, is_own}
use Rattle.qh_halves.specs.RecvHalves.{PlainRecvHalves, recv_at, recv_half_in, half_ingest_fault, IsPieceTaken, IsRecvAbsent, IsResetTaken}
use Rattle.qh_spec.proofs.Members.{in_more}
use Rattle.qh_spec.specs.Lists.{In}
use Rattle.qh_spec.specs.QuicFrame.{StreamFrame as Run}
use Rattle.qh_streams.proofs.StreamsKept.{still_opened}
use Rattle.qh_streams.proofs.StreamsOpened.{opened_is}
use Rattle.qh_streams.proofs.StreamsTracked.{Goes, recv_goes}
use Rattle.qh_streams.specs.Streams.{PlainStreams, Refusal, counts_of, is_two_way, is_live, was_opened, arrives_with, available_events, readable_events, recv_or_new, refusal_of, ingest_refusal, or_refusal, size_refusal, HasArrived, IsReceived}
use Rattle.qh_streams.specs.Streams.IsReceived.{stream as stream_received, reset as reset_received, stop as stop_received, stopped_before, max_data as max_data_received, max_stream_data as max_stream_data_received, max_streams as max_streams_received}
use Rattle.qh_streams.specs.Tracked.{IsFresh}
use Rattle.qh_streams.specs.declared.frames.StreamFrame.{StreamFrame}
use Rattle.qh_transcript.proofs.ReceivingKept.{KeepsHalves, counts_kept}
use Rattle.qh_transcript.proofs.ReceivingLists.{none_some}
use Rattle.qh_transcript.proofs.ReceivingOpened.{AddsNew, arrived_new, first_refusal, not_own}
use Rattle.qh_transcript.proofs.ReceivingSteps.{closed_opened}
use Rattle.qh_transcript.proofs.WaitingSteps.{Holds, holds_on, half_holds, reset_holds, come_before, end_before, ingested_has}
use Rattle.qh_transcript.specs.Receiving.{HasEndCome}
use Rattle.qh_transcript.specs.Waiting.{HasWhatCame, KeepsWhatCame, runs_in}

-- ---- no run yet

no_half : (s : PlainStreams) (id : ℕ) (r : PlainRecv) → IsFresh s → recv_at s.recv id ≡ Some r → ⊥
no_half s id r fresh is = none_some ⊥ (recv_at s.recv id) r (ap (λ (hs : List (ℕ × PlainRecv)). recv_half_in hs id) fresh.no_recv) is

pub fresh_keeps : (s : PlainStreams) → IsFresh s → KeepsWhatCame s []
fresh_keeps s fresh = record { halves = λ id r is. absurd (no_half s id r fresh is); opened = λ run none. absurd none }

-- ---- the halves stay, or one goes on

pub kept_keeps : (old new : PlainStreams) (came : List Run) → KeepsHalves old new → KeepsWhatCame old came → KeepsWhatCame new came
kept_keeps old new came kept p = record {
  halves = λ k next is. let b = kept.halves k next is in holds_on came k b.half next (half_holds b.half next b.step) (p.halves k b.half b.was);
  opened = λ run there. kept.opened run.id ∙ p.opened run there;
}

pub half_keeps : {P : PlainRecv → PlainRecv → Type 0} {id : ℕ} (old new : PlainStreams) (came : List Run) → Goes P (recv_at old.recv) (recv_at new.recv) id
    → ((r next : PlainRecv) → P r next → Holds r next) → ((k : ℕ) → was_opened new k ≡ was_opened old k) → KeepsWhatCame old came → KeepsWhatCame new came
half_keeps {id = id} old new came goes holds opened p = record {
  halves = λ k next is. elim (eqb_tells k id) [
    | inl same ↦ let b = goes.here k next same.0 is in rw same.1 (holds_on came id b.half next (holds b.half next b.step) (p.halves id b.half b.was))
    | inr apart ↦ p.halves k next (sym (goes.apart k apart.0) ∙ is)
  ];
  opened = λ run there. opened run.id ∙ p.opened run there;
}

pub same_keeps : (old new : PlainStreams) (came : List Run) → new.recv.halves ≡ old.recv.halves → ((k : ℕ) → was_opened new k ≡ was_opened old k) → KeepsWhatCame old came → KeepsWhatCame new came
same_keeps old new came halves_are opened p = record {
  halves = λ k r is. p.halves k r (ap (λ (hs : List (ℕ × PlainRecv)). recv_half_in hs k) (sym halves_are) ∙ is);
  opened = λ run there. opened run.id ∙ p.opened run there;
}

-- ---- streams that are new: nothing of them came

nothing_came : (came : List Run) (id : ℕ) (r : PlainRecv) → ((run : Run) → In run came → run.id ≡ id → ⊥) → HasWhatCame came id r
nothing_came came id r none = record {
  bytes = λ k byte come keeps. absurd (none come.run come.is come.stream_is);
  end = λ n come live. absurd (none come.run come.is come.stream_is);
}

-- a run that came is none of a stream that wasn't opened
not_closed : (s : PlainStreams) (came : List Run) (id : ℕ) → KeepsWhatCame s came → was_opened s id ≡ false → (run : Run) → In run came → run.id ≡ id → ⊥
not_closed s came id p closed run there same = false≢true (sym closed ∙ ap (λ (k : ℕ). was_opened s k) (sym same) ∙ p.opened run there)

pub new_keeps : (old new : PlainStreams) (are_new : ℕ → Bool) (came : List Run) → AddsNew old new are_new → KeepsWhatCame old came → KeepsWhatCame new came
new_keeps old new are_new came a p = record {
  halves = λ k r is. elim (cases_Bool (are_new k)) [
    | inl among ↦ nothing_came came k r (not_closed old came k p (a.before k among))
    | inr apart ↦ p.halves k r (sym (rw apart at (a.are_opened.recv_is k)) ∙ is)
  ];
  opened = λ run there. still_opened a.later run.id (p.opened run there);
}

arrived_keeps : (old new : PlainStreams) (came : List Run) (id : ℕ) → (was_opened old id ≡ false → is_own old.side id ≡ false) → HasArrived old new id → KeepsWhatCame old came → KeepsWhatCame new came
arrived_keeps old new came id peers a p = elim (cases_Bool (was_opened old id)) [
  | inl known ↦ rw (a.known known) p
  | inr fresh ↦ new_keeps old new (arrives_with old id) came (arrived_new old new id (peers fresh) fresh a) p
]

-- a stream that a frame names is there
is_there : (old new : PlainStreams) (id : ℕ) → (was_opened old id ≡ false → is_own old.side id ≡ false) → HasArrived old new id → was_opened new id ≡ true
is_there old new id peers a = elim (cases_Bool (was_opened old id)) [
  | inl known ↦ rw (a.known known) known
  | inr fresh ↦
      let own = peers fresh in
      let below = ltb-false (index_of id) (counts_of old (is_bi id)).arrived (sym (opened_is old id false (is_bi id) own refl) ∙ fresh) in
      (arrived_new old new id own fresh a).after id
      (and_from _ _ (eq-eqb (id % 4) (id % 4) refl) (and_from _ _ (le-leb (counts_of old (is_bi id)).arrived (index_of id) below) (le-leb (index_of id) (index_of id) (omega arith))))
]

-- ---- a piece that comes

-- of another stream the run brings nothing
other_has : (came : List Run) (run : Run) (id : ℕ) (r : PlainRecv) → (id == run.id) ≡ false → HasWhatCame came id r → HasWhatCame (came ++ run ∷ []) id r
other_has came run id r apart p = record {
  bytes = λ k byte come keeps. elim (come_before came run id k byte come) [
    | inl before ↦ p.bytes k byte before keeps
    | inr now ↦ absurd (false≢true (sym apart ∙ eq-eqb id run.id (sym now.0)))
  ];
  end = λ n come live. elim (end_before came run id n come) [
    | inl before ↦ p.end n before live
    | inr now ↦ absurd (false≢true (sym apart ∙ eq-eqb id run.id (sym now.0)))
  ];
}

-- an end that came before is that of the run
abbrev Agrees : (s : PlainStreams) (came : List Run) (run : Run) → Type 0
Agrees s came run = (r : PlainRecv) → recv_at s.recv run.id ≡ Some r → (n : ℕ) → HasEndCome came run.id n → run.fin ≡ true → r.state ≡ Recv (Some n) → n ≡ run.offset + length run.payload

piece_has : (old new : PlainStreams) (came : List Run) (run : Run) → IsPieceTaken old.recv new.recv run.id (record { offset = run.offset; bytes = run.payload }) run.fin ⊎ IsRecvAbsent old.recv new.recv run.id
    → Agrees old came run → KeepsWhatCame old came → (k : ℕ) (next : PlainRecv) → recv_at new.recv k ≡ Some next → HasWhatCame (came ++ run ∷ []) k next
piece_has old new came run (inl taken) agrees p k next is =
    let goes = recv_goes taken.step in elim (eqb_tells k run.id) [
      | inl same ↦ let b = goes.here k next same.0 is in rw same.1 (ingested_has came run taken.fresh b.half next b.step (agrees b.half b.was) (p.halves run.id b.half b.was))
      | inr apart ↦ other_has came run k next apart.0 (p.halves k next (sym (goes.apart k apart.0) ∙ is))
    ]
piece_has old new came run (inr none) agrees p k next is =
    let was : recv_at old.recv k ≡ Some next = sym (ap (λ (r : PlainRecvHalves). recv_at r k) none.same) ∙ is in elim (eqb_tells k run.id) [
      | inl same ↦ none_some _ (recv_at old.recv k) next (ap (λ (i : ℕ). recv_at old.recv i) same.1 ∙ none.none) was
      | inr apart ↦ other_has came run k next apart.0 (p.halves k next was)
    ]

piece_keeps : (old new : PlainStreams) (came : List Run) (run : Run) → IsPieceTaken old.recv new.recv run.id (record { offset = run.offset; bytes = run.payload }) run.fin ⊎ IsRecvAbsent old.recv new.recv run.id
    → Agrees old came run → ((k : ℕ) → was_opened new k ≡ was_opened old k) → was_opened old run.id ≡ true → KeepsWhatCame old came → KeepsWhatCame new (came ++ run ∷ [])
piece_keeps old new came run taken agrees opened there p = record {
  halves = piece_has old new came run taken agrees p;
  opened = λ one among. opened one.id ∙ elim (in_more one run came among) [
    | inl before ↦ p.opened one before
    | inr same ↦ ap (λ (r : Run). was_opened old r.id) (sym same) ∙ there
  ];
}

-- ---- a frame that isn't refused doesn't contradict the end that came

second_refusal : (a b : Option Refusal) → or_refusal a b ≡ None → b ≡ None
second_refusal None b ok = ok
second_refusal (Some r) b ok = cc

no_fault : (passes contradicted : Bool) (frame : ℕ) → ingest_refusal (if passes then Some FlowControl else if contradicted then Some FinalSize else None) frame ≡ None → contradicted ≡ false
no_fault true contradicted frame ok = cc
no_fault false true frame ok = cc
no_fault false false frame ok = refl

same_size : (n to : ℕ) → (nat_lt n to || (true && nat_lt to n)) ≡ false → n ≡ to
same_size n to e = grind (arith, e)

known_agrees : (s : PlainStreams) (id to n frame : ℕ) (fin : Bool) (r : PlainRecv) → was_opened s id ≡ true → recv_at s.recv id ≡ Some r → size_refusal s id to fin frame ≡ None
    → fin ≡ true → r.state ≡ Recv (Some n) → n ≡ to
known_agrees s id to n frame fin r known is ok end state =
    let half_is : recv_or_new s id ≡ Some r = rw known is in
    let checked : ingest_refusal (ingest_fault r to fin s.recv.received s.recv.announced.value) frame ≡ None =
    ap (λ (o : Option PlainRecv). ingest_refusal (half_ingest_fault o to fin s.recv.received s.recv.announced.value) frame) (sym half_is) ∙ ok in
    let fits = no_fault (passes_limit r s.recv.received s.recv.announced.value to) (contradicts_size r to fin) frame checked in
    same_size n to (ap (λ (s : RecvState). contradicts (final_size s) r.end to true) (sym state) ∙ ap (λ (b : Bool). contradicts_size r to b) (sym end) ∙ fits)

stream_agrees : (old mid : PlainStreams) (came : List Run) (run : Run) → HasArrived old mid run.id → size_refusal old run.id (run.offset + length run.payload) run.fin 8 ≡ None → KeepsWhatCame old came → Agrees mid came run
stream_agrees old mid came run arrived ok p r is n come end state = elim (cases_Bool (was_opened old run.id)) [
  | inl known ↦ known_agrees old run.id (run.offset + length run.payload) n 8 run.fin r known (ap (λ (s : PlainStreams). recv_at s.recv run.id) (sym (arrived.known known)) ∙ is) ok end state
  | inr fresh ↦ absurd (not_closed old came run.id p fresh come.run come.is come.stream_is)
]

-- ---- frames that come

reset_keeps : (old new : PlainStreams) (came : List Run) (id code size : ℕ) → IsResetTaken old.recv new.recv id code size ⊎ IsRecvAbsent old.recv new.recv id
    → ((k : ℕ) → was_opened new k ≡ was_opened old k) → KeepsWhatCame old came → KeepsWhatCame new came
reset_keeps old new came id code size (inl taken) = half_keeps old new came (recv_goes taken.step) (λ r next p. reset_holds code size taken.fresh r next p)
reset_keeps old new came id code size (inr none) = same_keeps old new came (ap (λ (r : PlainRecvHalves). r.halves) none.same)

-- the frame brings no run
no_run : (s : PlainStreams) (came : List Run) → KeepsWhatCame s came → KeepsWhatCame s (came ++ [])
no_run s came p = subst (λ (z : List Run). KeepsWhatCame s z) (sym (append-nil came)) p

pub received_keeps : (old new : PlainStreams) (came : List Run) (f : StreamFrame) → refusal_of old f ≡ None → IsReceived old new f → KeepsWhatCame old came → KeepsWhatCame new (came ++ runs_in f)
received_keeps old new came f ok (stream_received id offset payload fin r) p =
    let run : Run = record { id = id.0; offset = offset; payload = payload; fin = fin } in
    let peers = not_own old id.0 (has_recv old.side id.0) 8 (first_refusal _ _ ok) in
    piece_keeps r.mid new came run r.taken (stream_agrees old r.mid came run r.arrived (second_refusal _ _ ok) p)
    (λ k. ap (λ (s : PlainStreams). was_opened s k) r.rest_is ∙ closed_opened (record r.mid { recv = new.recv; events = r.mid.events ++ readable_events old id }) id.0 (is_live r.mid id.0) k)
    (is_there old r.mid id.0 peers r.arrived) (arrived_keeps old r.mid came id.0 peers r.arrived p)
received_keeps old new came f ok (reset_received id code size r) p = no_run new came
    (reset_keeps r.mid new came id.0 code size r.taken
    (λ k. ap (λ (s : PlainStreams). was_opened s k) r.rest_is ∙ closed_opened (record r.mid { recv = new.recv; events = r.mid.events ++ readable_events old id }) id.0 (is_live r.mid id.0) k)
    (arrived_keeps old r.mid came id.0 (not_own old id.0 (has_recv old.side id.0) 4 (first_refusal _ _ ok)) r.arrived p))
received_keeps old new came f ok (stop_received mid id code arrived step e) p = no_run new came
    (same_keeps mid new came (ap (λ (s : PlainStreams). s.recv.halves) e) (λ k. ap (λ (s : PlainStreams). was_opened s k) e)
    (arrived_keeps old mid came id.0 (not_own old id.0 (has_send old.side id.0) 5 ok) arrived p))
received_keeps old new came f ok (stopped_before id code arrived was) p = no_run new came (arrived_keeps old new came id.0 (not_own old id.0 (has_send old.side id.0) 5 ok) arrived p)
received_keeps old new came f ok (max_data_received limit e) p = no_run new came (same_keeps old new came (ap (λ (s : PlainStreams). s.recv.halves) e) (λ k. ap (λ (s : PlainStreams). was_opened s k) e) p)
received_keeps old new came f ok (max_stream_data_received mid id limit arrived step unblocked e) p = no_run new came
    (same_keeps mid new came (ap (λ (s : PlainStreams). s.recv.halves) e) (λ k. ap (λ (s : PlainStreams). was_opened s k) e)
    (arrived_keeps old mid came id.0 (not_own old id.0 (has_send old.side id.0) 17 ok) arrived p))
received_keeps old new came f ok (max_streams_received dir n e) p = no_run new came
    (kept_keeps old new came (counts_kept old new (record old { events = old.events ++ available_events (counts_of old (is_two_way dir)) n dir }) (is_two_way dir) _ e refl (λ k. refl) refl refl) p)
