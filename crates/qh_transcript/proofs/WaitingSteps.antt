-- A receiving half goes on, and has what came as before.
use Rattle.std.proofs.Common.{◌≡◌, ◌⊎◌, ℕ, ◌+◌, ◌-◌, ◌≤◌, Bool, true, false, ◌||◌, not, List, [], ◌∷◌, ◌++◌, length, slice_get, Option, Some, None, Result, if◌then◌else◌, refl, sym, ap, ◌∙◌, inl, inr}
use Rattle.std.specs.Prelude.{is_some}
use Rattle.std.proofs.lemmas.Bool.{false≢true, le-ltb, or_right}
use Rattle.qh_buffers.specs.Assembler.{byte_of, is_over, or_byte, to_give, was_given}
use Rattle.qh_buffers.specs.Ranges.{PlainRange, has}
use Rattle.qh_buffers.specs.declared.assembler.Chunk.{Chunk}
use Rattle.qh_half.specs.Recv.{PlainRecv, is_reset, keeps_bytes, reset_code, with_size, IsIngested, IsRead, IsResetBy}
use Rattle.qh_half.specs.Recv.IsReadAnswer.{bytes as bytes_given, nothing as nothing_given, end as end_given, reset as reset_given, blocked as blocked_read, memory as memory_read}
use Rattle.qh_half.specs.declared.fault.ReadFault.{ReadFault}
use Rattle.qh_half.specs.declared.recv.RecvState.{RecvState}
use Rattle.qh_half.specs.declared.recv.RecvState.TheVariants.{Recv, ResetRecvd}
use Rattle.qh_halves.specs.RecvHalves.{Begins, Reads, Stops, TakesReset}
use Rattle.qh_spec.proofs.Members.{in_more}
use Rattle.qh_spec.specs.QuicFrame.{StreamFrame as Run}
use Rattle.qh_transcript.proofs.ReceivingKept.{IsSameHalf}
use Rattle.qh_transcript.specs.Receiving.{HasCome, HasEndCome}
use Rattle.qh_transcript.specs.Waiting.{IsHeld, HasWhatCame}

-- ---- a half that holds what it held

-- What was held is held, where bytes are kept, and the state is the same, where no reset came.
pub record Holds (r next : PlainRecv) : Type 0 where
  pub kept : keeps_bytes next ≡ true → keeps_bytes r ≡ true
  pub bytes : keeps_bytes next ≡ true → (k : ℕ) → IsHeld r k → IsHeld next k
  pub state : is_reset next.state ≡ false → next.state ≡ r.state

pub holds_on : (came : List Run) (id : ℕ) (r next : PlainRecv) → Holds r next → HasWhatCame came id r → HasWhatCame came id next
holds_on came id r next h p = record {
  bytes = λ k byte come keeps. h.bytes keeps k (p.bytes k byte come (h.kept keeps));
  end = λ n come live. let same = h.state live in same ∙ p.end n come (ap is_reset (sym same) ∙ live);
}

pub same_holds : (r next : PlainRecv) → next.assembler ≡ r.assembler → next.state ≡ r.state → next.is_stopped ≡ r.is_stopped → Holds r next
same_holds r next bytes state stopped = record {
  kept = λ keeps. ap (λ (b : Bool). not (b || is_reset r.state)) (sym stopped) ∙ ap (λ (s : RecvState). not (next.is_stopped || is_reset s)) (sym state) ∙ keeps;
  bytes = λ keeps k held. rw bytes held;
  state = λ live. state;
}

pub half_holds : (r next : PlainRecv) → IsSameHalf r next → Holds r next
half_holds r next s = same_holds r next s.bytes s.state s.stopped

-- ---- calls of a reader's

pub begun_holds : (ordered : Bool) (r next : PlainRecv) → Begins ordered r next → Holds r next
begun_holds ordered r next e = rw e (same_holds r _ refl refl refl)

not_kept : (r : PlainRecv) (X : Type 0) → r.is_stopped ≡ true → keeps_bytes r ≡ true → X
not_kept r X stopped keeps = absurd (false≢true (rw stopped at keeps))

pub stopped_holds : (code : ℕ) (r next : PlainRecv) → Stops code r next → Holds r next
stopped_holds code r next p =
    let stopped : next.is_stopped ≡ true = ap (λ (r : PlainRecv). r.is_stopped) p.rest_is in
    record {
      kept = λ keeps. not_kept next _ stopped keeps;
      bytes = λ keeps. not_kept next _ stopped keeps;
      state = λ live. ap (λ (r : PlainRecv). r.state) p.rest_is;
    }

pub told_holds : (code : Option ℕ) (r next : PlainRecv) → TakesReset code r next → Holds r next
told_holds code r next p = rw p.2 (same_holds r _ refl refl refl)

-- bytes that waited and are given now were given
given_held : (over : Bool) (waited now : Option ℕ) (was_given is_given : Bool) → now ≡ (if over then None else waited) → is_given ≡ (over || was_given)
    → (was_given ≡ true) ⊎ (is_some waited ≡ true) → (is_given ≡ true) ⊎ (is_some now ≡ true)
given_held over waited now was_given is_given now_is given_is (inl given) = inl (given_is ∙ or_right over was_given given)
given_held true waited now was_given is_given now_is given_is (inr waits) = inl given_is
given_held false waited now was_given is_given now_is given_is (inr waits) = inr (ap (λ (o : Option ℕ). is_some o) now_is ∙ waits)

piece_holds : (max : ℕ) (c : Chunk) (r next : PlainRecv) → IsRead r next max c → Holds r next
piece_holds max c r next g = record {
  kept = λ keeps. sym (ap keeps_bytes g.rest_is) ∙ keeps;
  bytes = λ keeps k held. given_held (is_over c k) (to_give r.assembler k) (to_give next.assembler k) (was_given r.assembler k) (was_given next.assembler k) (g.given.bytes_are k) (g.given.given_are k) held;
  state = λ live. ap (λ (r : PlainRecv). r.state) g.rest_is;
}

pub read_holds : (max : ℕ) (answer : Result (Option Chunk) ReadFault) (r next : PlainRecv) → Reads max answer r next → Holds r next
read_holds max answer r next (bytes_given c some g) = piece_holds max c r next g
read_holds max answer r next (nothing_given none e c empty) = rw e (same_holds r r refl refl refl)
read_holds max answer r next (end_given some waits at_end e) = rw e (same_holds r _ refl refl refl)
read_holds max answer r next (reset_given code some is e) = rw e (same_holds r _ refl refl refl)
read_holds max answer r next (blocked_read some waits at_end is e) = rw e (same_holds r r refl refl refl)
read_holds max answer r next (memory_read wants e) = rw e (same_holds r r refl refl refl)

-- ---- a reset that comes

reset_is : (was now : RecvState) (code size : ℕ) → (reset_code was ≡ None → now ≡ ResetRecvd size code) → ((known : ℕ) → reset_code was ≡ Some known → now ≡ was) → is_reset now ≡ true
reset_is (Recv known) now code size again kept = ap is_reset (again refl)
reset_is (ResetRecvd at known) now code size again kept = ap is_reset (kept known refl)

reset_lets : (r : PlainRecv) (X : Type 0) → is_reset r.state ≡ true → keeps_bytes r ≡ true → X
reset_lets r X gone keeps = absurd (dropped r.is_stopped (rw gone at keeps)) where
  dropped : (stopped : Bool) → not (stopped || true) ≡ true → ⊥
  dropped true e = false≢true e
  dropped false e = false≢true e

pub reset_holds : (code size fresh : ℕ) (r next : PlainRecv) → IsResetBy r next code size fresh → Holds r next
reset_holds code size fresh r next p =
    let gone = reset_is r.state next.state code size p.again p.kept in
    record {
      kept = λ keeps. reset_lets next _ gone keeps;
      bytes = λ keeps. reset_lets next _ gone keeps;
      state = λ live. absurd (false≢true (sym live ∙ gone));
    }

-- ---- a piece that comes

-- What one more run brings was brought before, or by it.
pub come_before : (came : List Run) (run : Run) (id k byte : ℕ) → HasCome (came ++ run ∷ []) id k byte
    → HasCome came id k byte ⊎ ((run.id ≡ id) × (run.offset ≤ k) × (slice_get run.payload (k - run.offset) ≡ Some byte))
come_before came run id k byte h = elim (in_more h.run run came h.is) [
  | inl before ↦ inl (record { run = h.run; is = before; stream_is = h.stream_is; from = h.from; byte_is = h.byte_is })
  | inr same ↦ inr (let brings : (h.run.id ≡ id) × (h.run.offset ≤ k) × (slice_get h.run.payload (k - h.run.offset) ≡ Some byte) = (h.stream_is, h.from, h.byte_is) in rw same brings)
]

pub end_before : (came : List Run) (run : Run) (id n : ℕ) → HasEndCome (came ++ run ∷ []) id n
    → HasEndCome came id n ⊎ ((run.id ≡ id) × (run.fin ≡ true) × (n ≡ run.offset + length run.payload))
end_before came run id n h = elim (in_more h.run run came h.is) [
  | inl before ↦ inl (record { run = h.run; is = before; stream_is = h.stream_is; fin = h.fin; end_is = h.end_is })
  | inr same ↦ inr (let brings : (h.run.id ≡ id) × (h.run.fin ≡ true) × (n ≡ h.run.offset + length h.run.payload) = (h.stream_is, h.fin, h.end_is) in rw same brings)
]

same_reset : (fin : Bool) (size : ℕ) (was : RecvState) → is_reset (if fin then with_size size was else was) ≡ is_reset was
same_reset false size was = refl
same_reset true size (Recv known) = refl
same_reset true size (ResetRecvd at code) = refl

-- where a byte was held, or came now
inserted_held : (was_given : Bool) (waited here now : Option ℕ) → now ≡ (if was_given then None else or_byte waited here) → ((was_given ≡ true) ⊎ (is_some waited ≡ true)) ⊎ (is_some here ≡ true)
    → (was_given ≡ true) ⊎ (is_some now ≡ true)
inserted_held true waited here now e held = inl refl
inserted_held false (Some b) here now e held = inr (ap (λ (o : Option ℕ). is_some o) e)
inserted_held false None here now e (inr come) = inr (ap (λ (o : Option ℕ). is_some o) e ∙ come)
inserted_held false None here now e (inl (inl given)) = absurd (false≢true given)
inserted_held false None here now e (inl (inr waits)) = absurd (false≢true waits)

piece_has : (run : Run) (k byte : ℕ) → run.offset ≤ k → slice_get run.payload (k - run.offset) ≡ Some byte → is_some (byte_of (record { offset = run.offset; bytes = run.payload }) k) ≡ true
piece_has run k byte from is = rw (le-ltb k run.offset from) (ap (λ (o : Option ℕ). is_some o) is)

module _ (came : List Run) (run : Run) (fresh : ℕ) (r next : PlainRecv) (p : IsIngested r next (record { offset = run.offset; bytes = run.payload }) run.fin fresh) where
  ingested_kept : keeps_bytes next ≡ true → keeps_bytes r ≡ true
  ingested_kept keeps =
      let state = ap is_reset p.state_is ∙ same_reset run.fin (run.offset + length run.payload) r.state in
      let stopped = ap (λ (r : PlainRecv). r.is_stopped) p.rest_is in
      ap (λ (b : Bool). not (b || is_reset r.state)) (sym stopped) ∙ ap (λ (b : Bool). not (next.is_stopped || b)) (sym state) ∙ keeps

  -- each byte that was held, or stands in the piece, is held
  ingested_held : keeps_bytes next ≡ true → (k : ℕ) → IsHeld r k ⊎ (is_some (byte_of (record { offset = run.offset; bytes = run.payload }) k) ≡ true) → IsHeld next k
  ingested_held keeps k held =
      let inserted = p.bytes_are (ingested_kept keeps) in
      let given_is : was_given next.assembler k ≡ was_given r.assembler k = ap (λ (rs : List PlainRange). has rs k) inserted.given_is in
      rw given_is (inserted_held (was_given r.assembler k) (to_give r.assembler k) _ (to_give next.assembler k) (inserted.bytes_are k) held)

  known_end : (n : ℕ) (fin : Bool) → (fin ≡ true → r.state ≡ Recv (Some n) → n ≡ run.offset + length run.payload) → next.state ≡ (if fin then with_size (run.offset + length run.payload) r.state else r.state) → r.state ≡ Recv (Some n) → next.state ≡ Recv (Some n)
  known_end n false agrees is known = is ∙ known
  known_end n true agrees is known = rw known at is ∙ ap (λ (m : ℕ). Recv (Some m)) (sym (agrees refl known))

  own_end : (was : RecvState) (fin : Bool) (size : ℕ) → fin ≡ true → is_reset was ≡ false → (if fin then with_size size was else was) ≡ Recv (Some size)
  own_end (Recv known) fin size is live = rw is refl
  own_end (ResetRecvd at code) fin size is live = absurd (false≢true (sym live))

  pub ingested_has : ((n : ℕ) → HasEndCome came run.id n → run.fin ≡ true → r.state ≡ Recv (Some n) → n ≡ run.offset + length run.payload)
      → HasWhatCame came run.id r → HasWhatCame (came ++ run ∷ []) run.id next
  ingested_has agrees h = record {
    bytes = λ k byte come keeps. elim (come_before came run run.id k byte come) [
      | inl before ↦ ingested_held keeps k (inl (h.bytes k byte before (ingested_kept keeps)))
      | inr now ↦ ingested_held keeps k (inr (piece_has run k byte now.1 now.2))
    ];
    end = λ n come live.
        let was_live : is_reset r.state ≡ false = sym (same_reset run.fin (run.offset + length run.payload) r.state) ∙ ap is_reset (sym p.state_is) ∙ live in
        elim (end_before came run run.id n come) [
          | inl before ↦ known_end n run.fin (agrees n before) p.state_is (h.end n before was_live)
          | inr now ↦ p.state_is ∙ own_end r.state run.fin (run.offset + length run.payload) now.1 was_live ∙ ap (λ (m : ℕ). Recv (Some m)) (sym now.2)
        ];
  }
