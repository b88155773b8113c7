-- Why a read stops: what its answer tells of the receiving half.
use Rattle.std.proofs.Common.{◌≡◌, ℕ, ◌==◌, Bool, true, false, ◌&&◌, not, Option, Some, None, Result, Ok, Err, IfOk, IfErr, refl, sym, ap, ◌∙◌, subst, inl, inr, arith}
use Rattle.std.specs.Prelude.{if◌then◌else◌}
use Rattle.std.proofs.lemmas.Bool.{cases_Bool, eq-eqb}
use Rattle.qh_buffers.specs.declared.assembler.Chunk.{Chunk}
use Rattle.qh_core.specs.Streams.{IsRead, IsReadFault}
use Rattle.qh_core.specs.declared.fault.TakeFault.{TakeFault}
use Rattle.qh_core.specs.declared.fault.TakeFault.TheVariants.{Readable, Read}
use Rattle.qh_half.specs.Recv.{PlainRecv, IsReadAnswer, is_closed, is_done, readable_fault, reset_code, with_order}
use Rattle.qh_half.specs.Recv.IsReadAnswer.{blocked, bytes, memory, nothing, reset}
use Rattle.qh_half.specs.declared.fault.ReadFault.{ReadFault}
use Rattle.qh_half.specs.declared.fault.ReadFault.TheVariants as waiting
use Rattle.qh_halves.specs.RecvHalves.{PlainRecvHalves, recv_at, unless_done}
use Rattle.qh_roles.specs.Steps.{IsTaken}
use Rattle.qh_roles.specs.Streams.{GivesNoMore, NoneArrived, WaitsToRead}
use Rattle.qh_streams.specs.Streams.{PlainStreams, counts_of, with_counts, counted_closed, is_live}
use Rattle.qh_halves.specs.Counts.{is_own, is_bi}

-- ---- no stream comes by a read

arrived_count : (s : PlainStreams) (two_way : Bool) (n : ℕ) → NoneArrived s (with_counts s two_way (record (counts_of s two_way) { closed = n }))
arrived_count s true n = refl
arrived_count s false n = refl

arrived_closed : (s : PlainStreams) (id : ℕ) (was_live : Bool) → NoneArrived s (counted_closed s id was_live)
arrived_closed s id was_live = elim (cases_Bool (not (is_own s.side id) && (was_live && not (is_live s id)))) [
  | inl gone ↦ rw gone (arrived_count s (is_bi id) _)
  | inr there ↦ rw there refl
]

arrived_read : (max id : ℕ) (ordered : Bool) (a : Result (Option Chunk) ReadFault) (old new : PlainStreams) → IsRead max ordered id a old new → NoneArrived old new
arrived_read max id ordered a old new r =
    ap (λ (s : PlainStreams). s.bi.arrived) r.new_is ∙ arrived_closed (record r.mid { recv = new.recv }) id (is_live r.mid id) ∙ ap (λ (s : PlainStreams). s.bi.arrived) r.mid_is

pub none_arrived : (max id : ℕ) (ordered : Bool) (r : Result (Option Chunk) TakeFault) (old new : PlainStreams) → IfOk r (λ o. IsRead max ordered id (Ok o) old new)
    → IfErr r (λ e. IsReadFault max ordered id e old new) → NoneArrived old new
none_arrived max id ordered (Ok o) old new ok err = arrived_read max id ordered (Ok o) old new ok
none_arrived max id ordered (Err (Read e)) old new ok err = arrived_read max id ordered (Err e) old new err
none_arrived max id ordered (Err (Readable e)) old new ok err = ap (λ (s : PlainStreams). s.bi.arrived) err.1

-- ---- nothing is written by a read

send_closed : (s : PlainStreams) (id : ℕ) (was_live : Bool) → (counted_closed s id was_live).send ≡ s.send
send_closed s id was_live = elim (cases_Bool (not (is_own s.side id) && (was_live && not (is_live s id)))) [
  | inl gone ↦ rw gone (elim (cases_Bool (is_bi id)) [ inl two ↦ rw two refl | inr one ↦ rw one refl ])
  | inr there ↦ rw there refl
]

send_read : (max id : ℕ) (ordered : Bool) (a : Result (Option Chunk) ReadFault) (old new : PlainStreams) → IsRead max ordered id a old new → new.send ≡ old.send
send_read max id ordered a old new r =
    ap (λ (s : PlainStreams). s.send) r.new_is ∙ send_closed (record r.mid { recv = new.recv }) id (is_live r.mid id) ∙ ap (λ (s : PlainStreams). s.send) r.mid_is

pub unwritten : (max id : ℕ) (ordered : Bool) (r : Result (Option Chunk) TakeFault) (old new : PlainStreams) → IfOk r (λ o. IsRead max ordered id (Ok o) old new)
    → IfErr r (λ e. IsReadFault max ordered id e old new) → new.send ≡ old.send
unwritten max id ordered (Ok o) old new ok err = send_read max id ordered (Ok o) old new ok
unwritten max id ordered (Err (Read e)) old new ok err = send_read max id ordered (Err e) old new err
unwritten max id ordered (Err (Readable e)) old new ok err = ap (λ (s : PlainStreams). s.send) err.1

-- ---- the half of the stream that is read

at_itself : (id : ℕ) (a b : Option PlainRecv) → (if id == id then a else b) ≡ a
at_itself id a b = rw (eq-eqb id id refl) refl

undone : (half same : PlainRecv) → unless_done half ≡ Some same → same ≡ half
undone half same is = elim (cases_Bool (is_done half)) [
  | inl done ↦ let none = rw done at is in absurd (cc)
  | inr on ↦ let some = rw on at is in cc
]

-- the half before and behind an ordered read
record Reader (max id : ℕ) (a : Result (Option Chunk) ReadFault) (old new : PlainRecvHalves) : Type 0 where
  half : PlainRecv
  next : PlainRecv
  was : recv_at old id ≡ Some half
  closed : is_closed half ≡ false
  order : half.is_unordered ≡ false
  step : IsReadAnswer (with_order half true) next max a
  is : recv_at new id ≡ unless_done next

readable : (r : PlainRecv) → readable_fault r true ≡ None → (is_closed r ≡ false) × (r.is_unordered ≡ false)
readable r none = elim (cases_Bool (is_closed r)) [
  | inl closed ↦ let some = rw closed at none in absurd (cc)
  | inr open_ ↦ elim (cases_Bool r.is_unordered) [
    | inl unordered ↦ let some = rw (open_, unordered) at none in absurd (cc)
    | inr ordered ↦ (open_, ordered)
  ]
]

reader : (max id : ℕ) (a : Result (Option Chunk) ReadFault) (old new : PlainStreams) → IsRead max true id a old new → Reader max id a old.recv new.recv
reader max id a old new r =
    let can : readable_fault r.begun.half true ≡ None = rw r.begun.was at r.readable in
    let mid : recv_at r.mid.recv id ≡ unless_done r.begun.next = r.begun.halves_are id ∙ at_itself id (unless_done r.begun.next) (recv_at old.recv id) in
    let same : r.reads.half ≡ r.begun.next = undone r.begun.next r.reads.half (sym mid ∙ r.reads.was) in
    record {
      half = r.begun.half;
      next = r.reads.next;
      was = r.begun.was;
      closed = (readable r.begun.half can).0;
      order = (readable r.begun.half can).1;
      step = subst (λ (h : PlainRecv). IsReadAnswer h r.reads.next max a) (same ∙ r.begun.step) r.reads.step;
      is = r.reads.halves_are id ∙ at_itself id (unless_done r.reads.next) (recv_at r.mid.recv id);
    }

on : (r : PlainRecv) → is_closed r ≡ false → unless_done r ≡ Some r
on r closed = elim (cases_Bool r.is_given) [
  | inl given ↦ elim (cases_Bool r.is_stopped) [ inl stopped ↦ absurd (let no = rw (given, stopped) at closed in cc) | inr going ↦ absurd (let no = rw (given, going) at closed in cc) ]
  | inr wanted ↦ elim (cases_Bool r.is_stopped) [ inl stopped ↦ absurd (let no = rw (wanted, stopped) at closed in cc) | inr going ↦ rw (wanted, going) refl ]
]

-- ---- what the answers tell

-- a half that can be read in order and wasn't reset gives more
gives_more : (max id : ℕ) (a : Result (Option Chunk) ReadFault) (old new : PlainRecvHalves) (r : Reader max id a old new) → reset_code r.half.state ≡ None → GivesNoMore old id → ⊥
gives_more max id a old new r none (inl fault) = let no = rw (r.was, r.closed, r.order) at fault in cc
gives_more max id a old new r none (inr was) = grind arith

not_reset_bytes : (id : ℕ) (c : Chunk) (old new : PlainRecvHalves) (r : Reader 65536 id (Ok (Some c)) old new) → IsReadAnswer (with_order r.half true) r.next 65536 (Ok (Some c)) → reset_code r.half.state ≡ None
not_reset_bytes id c old new r (bytes _ asked gives) = gives.not_reset
not_reset_bytes id c old new r (nothing asked same _ empty) = absurd (omega (arith, asked))

not_reset_memory : (id : ℕ) (old new : PlainRecvHalves) (r : Reader 65536 id (Err waiting.Memory) old new) → IsReadAnswer (with_order r.half true) r.next 65536 (Err waiting.Memory) → reset_code r.half.state ≡ None
not_reset_memory id old new r (memory wants same) = wants.not_reset

gave_bytes : (id : ℕ) (c : Chunk) (old new : PlainRecvHalves) (r : Reader 65536 id (Ok (Some c)) old new) → IsReadAnswer (with_order r.half true) r.next 65536 (Ok (Some c)) → GivesNoMore new id → GivesNoMore old id
gave_bytes id c old new r step more = grind arith

waits : (id : ℕ) (old new : PlainRecvHalves) (r : Reader 65536 id (Err waiting.Blocked) old new) → IsReadAnswer (with_order r.half true) r.next 65536 (Err waiting.Blocked) → WaitsToRead new id
waits id old new r (blocked some wait endless none same) = record {
  half = r.next;
  half_is = r.is ∙ on r.next (rw same r.closed);
  waits = rw same wait;
  endless = rw same endless;
  not_reset = rw same none;
}

was_reset : (id code : ℕ) (old new : PlainRecvHalves) (r : Reader 65536 id (Err (waiting.Reset code)) old new) → IsReadAnswer (with_order r.half true) r.next 65536 (Err (waiting.Reset code)) → GivesNoMore old id
was_reset id code old new r (reset known some is same) = inr (record { half = r.half; half_is = r.was; code = known; code_is = is })

pub taken : (id : ℕ) (r : Result (Option Chunk) TakeFault) (old new : PlainStreams) → IfOk r (λ o. IsRead 65536 true id (Ok o) old new) → IfErr r (λ e. IsReadFault 65536 true id e old new)
    → IsTaken id r old.recv new.recv
taken id (Ok None) old new ok err = tt
taken id (Ok (Some c)) old new ok err = let r = reader 65536 id (Ok (Some c)) old new ok in
    (gives_more 65536 id (Ok (Some c)) old.recv new.recv r (not_reset_bytes id c old.recv new.recv r r.step), gave_bytes id c old.recv new.recv r r.step)
taken id (Err (Read waiting.Blocked)) old new ok err = let r = reader 65536 id (Err waiting.Blocked) old new err in waits id old.recv new.recv r r.step
taken id (Err (Read (waiting.Reset code))) old new ok err = let r = reader 65536 id (Err (waiting.Reset code)) old new err in was_reset id code old.recv new.recv r r.step
taken id (Err (Read waiting.Memory)) old new ok err = let r = reader 65536 id (Err waiting.Memory) old new err in
    gives_more 65536 id (Err waiting.Memory) old.recv new.recv r (not_reset_memory id old.recv new.recv r r.step)
taken id (Err (Readable e)) old new ok err = inl (rw err.0 refl)
