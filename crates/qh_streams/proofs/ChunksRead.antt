-- What a reader gives again, and when it may read on.
use Rattle.std.proofs.Common.{◌≡◌, ℕ, Bool, true, false, ◌&&◌, ◌||◌, Option, Some, None, is_some, unwrap_or, Result, Ok, Err, refl, sym, ap, ap₂, ◌∙◌, ◌==◌, if◌then◌else◌}
use Rattle.std.proofs.lemmas.Bool.{eq-eqb, or_parts}
use Rattle.qh_buffers.specs.declared.assembler.Chunk.{Chunk}
use Rattle.qh_half.specs.declared.fault.ReadFault.{ReadFault}
use Rattle.qh_half.specs.declared.fault.ReadFault.TheVariants.{Memory}
use Rattle.qh_streams.specs.declared.halves.ChunksState.{ChunksState}
use Rattle.qh_streams.specs.declared.halves.ChunksState.TheVariants.{Readable, Finished, Reset}
use Rattle.qh_streams.specs.Halves.{IsChunk, finished, was_reset, last_answer, state_after}
use Rattle.qh_half.specs.Recv.{PlainRecv, IsReadAnswer, bytes, nothing, end, reset, blocked, memory, is_closed, is_done, final_size}
use Rattle.qh_halves.specs.RecvHalves.{PlainRecvHalves, IsRecvStep, Reads, half_is_closed, unless_done, is_closed_at, recv_at}
use Rattle.qh_streams.specs.Streams.{PlainStreams}

some_is : {X : Type 0} {x y : X} → Some x ≡ Some y → x ≡ y
some_is {X} {x} {y} e = ap (λ (o : Option X). unwrap_or o x) e

pub given_again : (old : PlainStreams) (id max_length : ℕ) (state : ChunksState) (last : Result (Option Chunk) ReadFault)
    → last_answer state ≡ Some last → IsChunk old old id max_length state state last
given_again old id max_length Readable last e = absurd (cc)
given_again old id max_length Finished last e = let is = some_is e in rw (sym is) (finished refl)
given_again old id max_length (Reset code) last e = let is = some_is e in rw (sym is) (was_reset code refl)

-- the end and a reset are given again without memory
pub never_lacks : (state : ChunksState) (last : Result (Option Chunk) ReadFault) → last_answer state ≡ Some last → last ≡ Err Memory → ⊥
never_lacks Readable last e lacks = absurd (cc)
never_lacks Finished last e lacks = absurd (cc)
never_lacks (Reset code) last e lacks = absurd (cc)

pub readable_is : (state : ChunksState) → last_answer state ≡ None → state ≡ Readable
readable_is Readable e = refl
readable_is Finished e = absurd (cc)
readable_is (Reset code) e = absurd (cc)

-- a half from which bytes were read, or nothing, is neither done nor closed
open_half : (r next : PlainRecv) → is_closed r ≡ false → next.is_stopped ≡ r.is_stopped → next.is_given ≡ r.is_given → half_is_closed (unless_done next) ≡ false
open_half r next h stopped given =
    let closed : is_closed next ≡ false = ap₂ (λ (a b : Bool). a || b) stopped given ∙ h in
    let parts = or_parts next.is_stopped next.is_given closed in
    rw (parts.0, parts.1) refl

pub goes_on : (r next : PlainRecv) (max_length : ℕ) (result : Result (Option Chunk) ReadFault) → is_closed r ≡ false → IsReadAnswer r next max_length result
    → state_after result ≡ Readable → half_is_closed (unless_done next) ≡ false
goes_on r next max_length result h (bytes c some read) e = open_half r next h (ap (λ (x : PlainRecv). x.is_stopped) read.rest_is) (ap (λ (x : PlainRecv). x.is_given) read.rest_is)
goes_on r next max_length result h (nothing zero same c none) e = open_half r next h (ap (λ (x : PlainRecv). x.is_stopped) same) (ap (λ (x : PlainRecv). x.is_given) same)
goes_on r next max_length result h (end some waits at_end is) e = absurd (cc)
goes_on r next max_length result h (reset code some was is) e = absurd (cc)
goes_on r next max_length result h (blocked some waits at_end none same) e = open_half r next h (ap (λ (x : PlainRecv). x.is_stopped) same) (ap (λ (x : PlainRecv). x.is_given) same)
goes_on r next max_length result h (memory wants same) e = open_half r next h (ap (λ (x : PlainRecv). x.is_stopped) same) (ap (λ (x : PlainRecv). x.is_given) same)

pub goes_on_at : (old new : PlainRecvHalves) (id max_length : ℕ) (result : Result (Option Chunk) ReadFault) → is_closed_at old id ≡ false
    → IsRecvStep (Reads max_length result) old new id 0 → state_after result ≡ Readable → is_closed_at new id ≡ false
goes_on_at old new id max_length result h step e =
    let was : is_closed step.half ≡ false = ap half_is_closed (sym step.was) ∙ h in
    let same : (id == id) ≡ true = eq-eqb id id refl in
    let is : recv_at new id ≡ unless_done step.next = rw same at (step.halves_are id) in
    ap half_is_closed is ∙ goes_on step.half step.next max_length result was step.step e
