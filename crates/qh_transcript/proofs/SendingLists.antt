-- What a run and a half have of the bytes that were written, and how these grow.
use Rattle.std.proofs.Common.{◌≡◌, ℕ, zero, suc, ◌+◌, ◌-◌, ◌<◌, ◌≤◌, ◌==◌, Bool, true, false, List, [], ◌∷◌, ◌++◌, length, slice_get, Some, refl, sym, ap, ◌∙◌, arith, inl, inr}
use Rattle.std.specs.Prelude.{◌||◌}
use Rattle.std.proofs.lemmas.Bool.{false≢true, cases_lt, le-ltb, eq-eqb, eqb-false}
use Rattle.std.proofs.lemmas.Bool.Decides.{eqb_tells}
use Rattle.std.proofs.lemmas.List.{append-nil, length-append}
use Rattle.qh_buffers.specs.declared.send_buffer.Mark.TheVariants.{Queued}
use Rattle.qh_half.specs.declared.send.SendState.TheVariants.{DataSent}
use Rattle.qh_half.specs.Send.{PlainSend, new_send, with_bytes}
use Rattle.qh_spec.specs.QuicFrame.{StreamFrame}
use Rattle.qh_spec.specs.Transcript.{Act, Wrote, Finished, Reset, written, finished}
use Rattle.qh_spec.proofs.TranscriptLaws.{written-append, finished-append}
use Rattle.qh_transcript.specs.Sending.{IsRunOf, IsHalfOf, WriteNothing}

-- ---- lists

pub none_there : (k : ℕ) (b : ℕ) (X : Type 0) → slice_get {X = ℕ} [] k ≡ Some b → X
none_there k b X e = absurd (cc)

pub get_front : (xs ys : List ℕ) (k b : ℕ) → slice_get xs k ≡ Some b → slice_get (xs ++ ys) k ≡ Some b
get_front [] ys k b e = none_there k b _ e
get_front (x ∷ xs) ys zero b e = e
get_front (x ∷ xs) ys (suc k) b e = get_front xs ys k b e

get_left : (xs ys : List ℕ) (k : ℕ) → k < length xs → slice_get (xs ++ ys) k ≡ slice_get xs k
get_left [] ys k h = absurd (omega arith)
get_left (x ∷ xs) ys zero h = refl
get_left (x ∷ xs) ys (suc k) h = get_left xs ys k (omega arith)

get_right : (xs ys : List ℕ) (k n : ℕ) → k ≡ length xs + n → slice_get (xs ++ ys) k ≡ slice_get ys n
get_right [] ys k n e = ap (slice_get ys) (omega arith)
get_right (x ∷ xs) ys zero n e = absurd (omega arith)
get_right (x ∷ xs) ys (suc k) n e = get_right xs ys k n (omega arith)

-- two lists of which one is the tail of the other, with the same bytes behind them
get_longer : (xs ys more : List ℕ) (start k : ℕ) → start ≤ k → start + length xs ≡ length ys → slice_get xs (k - start) ≡ slice_get ys k
    → slice_get (xs ++ more) (k - start) ≡ slice_get (ys ++ more) k
get_longer xs ys more start k from same at = elim (cases_lt k (length ys)) [
  | inl low ↦ get_left xs more (k - start) (omega arith) ∙ at ∙ sym (get_left ys more k low)
  | inr high ↦ get_right xs more (k - start) (k - length ys) (omega arith) ∙ sym (get_right ys more k (k - length ys) (omega arith))
]

-- ---- acts

or_false : (b : Bool) → b || false ≡ b
or_false true = refl
or_false false = refl

or_true : (b : Bool) → b || true ≡ true
or_true true = refl
or_true false = refl

pub other_way : (a b : ℕ) → (a == b) ≡ false → (b == a) ≡ false
other_way a b e = elim (eqb_tells b a) [
  | inl same ↦ absurd (eqb-false a b e (sym same.1))
  | inr apart ↦ apart.0
]

pub wrote_here : (t : List Act) (id : ℕ) (bytes : List ℕ) → written (t ++ Wrote id bytes ∷ []) id ≡ written t id ++ bytes
wrote_here t id bytes =
    let one : written (Wrote id bytes ∷ []) id ≡ bytes = rw (eq-eqb id id refl) (append-nil bytes) in
    written-append t (Wrote id bytes ∷ []) id ∙ ap (λ (z : List ℕ). written t id ++ z) one

pub wrote_apart : (t : List Act) (id k : ℕ) (bytes : List ℕ) → (k == id) ≡ false → written (t ++ Wrote id bytes ∷ []) k ≡ written t k
wrote_apart t id k bytes apart =
    let none : written (Wrote id bytes ∷ []) k ≡ [] = rw (other_way k id apart) refl in
    written-append t (Wrote id bytes ∷ []) k ∙ ap (λ (z : List ℕ). written t k ++ z) none ∙ append-nil (written t k)

pub wrote_finished : (t : List Act) (id k : ℕ) (bytes : List ℕ) → finished (t ++ Wrote id bytes ∷ []) k ≡ finished t k
wrote_finished t id k bytes = finished-append t (Wrote id bytes ∷ []) k ∙ or_false (finished t k)

pub finished_written : (t : List Act) (id k : ℕ) → written (t ++ Finished id ∷ []) k ≡ written t k
finished_written t id k = written-append t (Finished id ∷ []) k ∙ append-nil (written t k)

pub finished_here : (t : List Act) (id : ℕ) → finished (t ++ Finished id ∷ []) id ≡ true
finished_here t id =
    let one : finished (Finished id ∷ []) id ≡ true = rw (eq-eqb id id refl) refl in
    finished-append t (Finished id ∷ []) id ∙ ap (λ (z : Bool). finished t id || z) one ∙ or_true (finished t id)

pub finished_apart : (t : List Act) (id k : ℕ) → (k == id) ≡ false → finished (t ++ Finished id ∷ []) k ≡ finished t k
finished_apart t id k apart =
    let none : finished (Finished id ∷ []) k ≡ false = rw (other_way k id apart) refl in
    finished-append t (Finished id ∷ []) k ∙ ap (λ (z : Bool). finished t k || z) none ∙ or_false (finished t k)

pub nothing_written : (t u : List Act) → WriteNothing u → (k : ℕ) → written (t ++ u) k ≡ written t k
nothing_written t u none k = written-append t u k ∙ ap (λ (z : List ℕ). written t k ++ z) (none.bytes k) ∙ append-nil (written t k)

pub nothing_finished : (t u : List Act) → WriteNothing u → (k : ℕ) → finished (t ++ u) k ≡ finished t k
nothing_finished t u none k = finished-append t u k ∙ ap (λ (z : Bool). finished t k || z) (none.ends k) ∙ or_false (finished t k)

pub reset_nothing : (id code : ℕ) → WriteNothing (Reset id code ∷ [])
reset_nothing id code = record { bytes = λ k. refl; ends = λ k. refl }

-- ---- runs

pub run_longer : (bytes more : List ℕ) (was f : Bool) (run : StreamFrame) → was ≡ false → IsRunOf bytes was run → IsRunOf (bytes ++ more) f run
run_longer bytes more was f run unended r = record {
  byte = λ k b e. get_front bytes more (run.offset + k) b (r.byte k b e);
  end = λ fin. absurd (false≢true (sym unended ∙ (r.end fin).0));
}

pub run_ended : (bytes : List ℕ) (was : Bool) (run : StreamFrame) → IsRunOf bytes was run → IsRunOf bytes true run
run_ended bytes was run r = record { byte = r.byte; end = λ fin. (refl, (r.end fin).1) }

-- ---- halves

pub half_new : (limit : ℕ) → IsHalfOf [] false (new_send limit)
half_new limit = record { taken = refl; held = λ k from. rw (le-ltb k 0 (omega arith)) refl; end = refl }

pub half_longer : (bytes more : List ℕ) (f : Bool) (h : PlainSend) → IsHalfOf bytes f h → IsHalfOf (bytes ++ more) f (with_bytes h more)
half_longer bytes more f h p = record {
  taken = omega (arith, length-append h.buffer.bytes more, length-append bytes more, p.taken);
  held = λ k from.
      let low = le-ltb k h.buffer.start from in
      rw low (get_longer h.buffer.bytes bytes more h.buffer.start k from p.taken (rw low at (p.held k from)));
  end = p.end;
}

pub half_ended : (bytes : List ℕ) (f : Bool) (h : PlainSend) → IsHalfOf bytes f h → IsHalfOf bytes true (record h { state = DataSent Queued })
half_ended bytes f h p = record { taken = p.taken; held = p.held; end = refl }
