-- What a half hands over is what was written, and its end stands behind all of it.
use Rattle.std.proofs.Common.{◌≡◌, ℕ, ◌+◌, ◌-◌, ◌<◌, ◌≤◌, ◌==◌, nat_lt, Bool, true, false, List, [], length, slice_get, take, drop, Some, None, if◌then◌else◌, refl, sym, ap, ◌∙◌, arith, inl, inr}
use Rattle.std.proofs.lemmas.Bool.{false≢true, cases_lt, lt-ltb, le-ltb, eqb-true, and_parts}
use Rattle.std.proofs.lemmas.List.{length-take-le, length-drop}
use Rattle.qh_buffers.specs.SendBuffer.{PlainSendBuffer, taken_to, is_queued, bytes_between}
use Rattle.qh_buffers.specs.declared.send_buffer.Mark.TheVariants.{Sent, Queued, Acked}
use Rattle.qh_half.specs.declared.send.Outgoing.{Outgoing}
use Rattle.qh_half.specs.declared.send.SendState.{SendState}
use Rattle.qh_half.specs.declared.send.SendState.TheVariants.{Ready, DataSent, ResetSent}
use Rattle.qh_half.specs.Send.{PlainSend, is_reset, is_finished, is_end_queued, IsPieceOut, IsEndOut}
use Rattle.qh_halves.specs.SendHalves.{GivesPiece}
use Rattle.qh_spec.specs.QuicFrame.{StreamFrame}
use Rattle.qh_spec.proofs.Members.{get_drop, get_take}
use Rattle.qh_transcript.specs.Sending.{IsRunOf, IsHalfOf}
use Rattle.qh_transcript.proofs.SendingLists.{none_there}

-- a byte that waits is held
waits_behind : (v : PlainSendBuffer) (k : ℕ) → is_queued v k ≡ true → v.start ≤ k
waits_behind v k waits = elim (cases_lt k v.start) [
  | inl low ↦ absurd (false≢true (rw (lt-ltb k v.start low) at waits))
  | inr from ↦ from
]

queued_end : (s : SendState) → is_end_queued s ≡ true → (is_finished s ≡ true) × (is_reset s ≡ false)
queued_end Ready e = absurd (false≢true e)
queued_end (DataSent Sent) e = absurd (false≢true e)
queued_end (DataSent Queued) e = (refl, refl)
queued_end (DataSent Acked) e = absurd (false≢true e)
queued_end (ResetSent code mark) e = absurd (false≢true e)

-- a half that hands over bytes or its end isn't reset
pub piece_live : (room : ℕ) (piece : Outgoing) (h next : PlainSend) → GivesPiece room piece h next → is_reset h.state ≡ false
piece_live room piece h next (inl p) = p.not_reset
piece_live room piece h next (inr p) = (queued_end h.state p.queued).1

-- bytes of a tail, at their offsets
piece_byte : (xs bytes : List ℕ) (start from to : ℕ) → start ≤ from → ((k : ℕ) → start ≤ k → (if nat_lt k start then None else slice_get xs (k - start)) ≡ slice_get bytes k)
    → (k b : ℕ) → slice_get (take (to - from) (drop (from - start) xs)) k ≡ Some b → slice_get bytes (from + k) ≡ Some b
piece_byte xs bytes start from to low held k b e =
    let there : slice_get xs (from - start + k) ≡ Some b = get_drop xs (from - start) k b (get_take (drop (from - start) xs) (to - from) k b e) in
    let place : from + k - start ≡ from - start + k = omega arith in
    let above : start ≤ from + k = omega arith in
    let at : slice_get xs (from + k - start) ≡ slice_get bytes (from + k) = rw (le-ltb (from + k) start above) at (held (from + k) above) in
    sym at ∙ ap (slice_get xs) place ∙ there

-- those from an offset up to the end of all
piece_length : (xs : List ℕ) (start from to : ℕ) → start ≤ from → from ≤ to → to ≡ start + length xs → from + length (take (to - from) (drop (from - start) xs)) ≡ to
piece_length xs start from to low order at_end =
    let left : length (drop (from - start) xs) ≡ length xs - (from - start) = length-drop (from - start) xs in
    let all : length (take (to - from) (drop (from - start) xs)) ≡ to - from = length-take-le (to - from) (drop (from - start) xs) (omega arith) in
    omega (arith, all, order)

none_taken : (xs : List ℕ) (from to : ℕ) → to ≡ from → take (to - from) xs ≡ []
none_taken xs from to same = let none : to - from ≡ 0 = omega arith in rw none refl

module _ (stream : ℕ) (bytes : List ℕ) (f : Bool) (h next : PlainSend) (q : IsHalfOf bytes f h) where
  abbrev run_of : (from to : ℕ) (fin : Bool) → StreamFrame
  run_of from to fin = record { id = stream; offset = from; payload = bytes_between next.buffer from to; fin = fin }

  bytes_out : (room from to : ℕ) (fin : Bool) → IsPieceOut h next room from to fin → IsRunOf bytes f (run_of from to fin)
  bytes_out room from to fin p =
      let out = p.bytes_are in
      let low : h.buffer.start ≤ from = waits_behind h.buffer from (out.queued from (omega arith) out.some) in
      let some : from < to = out.some in
      record {
        byte = λ k b e. piece_byte h.buffer.bytes bytes h.buffer.start from to low q.held k b (rw (out.start_is, out.bytes_are) at e);
        end = λ ends.
            let parts = and_parts (is_finished h.state) (to == taken_to h.buffer) (sym p.fin_is ∙ ends) in
            let at_end = eqb-true to (taken_to h.buffer) parts.1 in
            (sym q.end ∙ parts.0, rw (out.start_is, out.bytes_are) (piece_length h.buffer.bytes h.buffer.start from to low (omega arith) at_end ∙ at_end ∙ q.taken));
      }

  end_out : (from to : ℕ) (fin : Bool) → IsEndOut h next from to fin → IsRunOf bytes f (run_of from to fin)
  end_out from to fin p =
      let none : bytes_between next.buffer from to ≡ [] = none_taken (drop (from - next.buffer.start) next.buffer.bytes) from to p.at_end.1 in
      let empty = ap length none in
      record {
        byte = λ k b e. none_there k b _ (rw none at e);
        end = λ ends. (sym q.end ∙ (queued_end h.state p.queued).0, omega (arith, empty, p.at_end.0, q.taken));
      }

  pub piece_run : (room : ℕ) (piece : Outgoing) → GivesPiece room piece h next → IsRunOf bytes f (run_of piece.offsets.start piece.offsets.end piece.fin)
  piece_run room piece (inl p) = bytes_out room piece.offsets.start piece.offsets.end piece.fin p
  piece_run room piece (inr p) = end_out piece.offsets.start piece.offsets.end piece.fin p
