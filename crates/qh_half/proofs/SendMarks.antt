-- What was sent of a stream lies within what was taken of it.
use Rattle.std.proofs.Common.{◌≡◌, ℕ, ◌+◌, ◌-◌, ◌<◌, ◌≤◌, true, false, List, [], ◌∷◌, map, refl, sym, ap, ◌∙◌, arith, inl, inr, Option, Some, None, Bool, if◌then◌else◌, le_of_lt, nat_lt}
use Rattle.std.proofs.lemmas.Bool.{cases_lt, le-ltb, lt-ltb, false≢true}
use Rattle.qh_spec.specs.Lists.{In}
use Rattle.qh_buffers.specs.declared.send_buffer.Mark.{Mark}
use Rattle.qh_buffers.specs.declared.send_buffer.Mark.TheVariants.{Sent, Queued, Acked}
use Rattle.qh_buffers.specs.declared.send_buffer.Piece.{Piece}
use Rattle.qh_buffers.specs.SendBuffer.{PlainSendBuffer, taken_to, mark_in, mark_at, waits, is_queued, IsCut, IsSpan, IsAcknowledged, IsHandedOut}
use Rattle.qh_buffers.proofs.Pieces.{mark_first, mark_later, between_high}
use Rattle.qh_half.specs.declared.send.SendState.{SendState}
use Rattle.qh_half.specs.declared.send.SendState.TheVariants.{Ready, DataSent, ResetSent}
use Rattle.qh_half.specs.Send.{PlainSend, IsHeld, IsSentAsTaken, IsEndOut, is_end_queued}

-- the bytes before the end of a piece were sent
sent_by_end : (ps : List Piece) (to k : ℕ) → k < to → In to (map (λ (p : Piece). p.end) ps) → mark_in ps k ≡ None → ⊥
sent_by_end [] to k low w none = w
sent_by_end (p ∷ ps) to k low w none = elim (cases_lt k p.end) [
  | inl within ↦
      let some = mark_first p ps k within in
      cc
  | inr later ↦ elim w [
    | inl is ↦ omega arith
    | inr rest ↦ sent_by_end ps to k low rest (sym (mark_later p ps k later) ∙ none)
  ]
]

mark_held : (v : PlainSendBuffer) (k : ℕ) → v.start ≤ k → mark_at v k ≡ mark_in v.pieces k
mark_held v k h = rw (le-ltb k v.start h)

-- no piece ends behind what was taken
cut_within : (v : PlainSendBuffer) (to : ℕ) → IsSentAsTaken v → IsCut v to → to ≤ taken_to v
cut_within v to all (inl low) = omega arith
cut_within v to all (inr w) = elim (cases_lt (taken_to v) to) [
  | inl past ↦ absurd (sent_by_end v.pieces to (taken_to v) past w (sym (mark_held v (taken_to v) (omega arith)) ∙ all (taken_to v) (omega arith)))
  | inr within ↦ within
]

-- an acknowledgement marks nothing behind what was taken
pub acked_as_taken : (old new : PlainSendBuffer) (from to : ℕ) → IsSentAsTaken old → IsSpan old from to → IsAcknowledged old new from to → IsSentAsTaken new
acked_as_taken old new from to all span acked = λ k h.
    let within = cut_within old to all span.is_cut_to in
    acked.marks k ∙ rw (between_high from to k (omega (arith, acked.taken_is))) (all k (omega (arith, acked.taken_is)))

-- if the last byte was sent a piece ends behind it
ends_there : (ps : List Piece) (to k : ℕ) → to ≡ k + 1 → ((j : ℕ) → to ≤ j → mark_in ps j ≡ None) → (mark_in ps k ≡ None → ⊥) → In to (map (λ (p : Piece). p.end) ps)
ends_there [] to k next none some = some refl
ends_there (p ∷ ps) to k next none some = elim (cases_lt k p.end) [
  | inl within ↦ elim (cases_lt to p.end) [
    | inl past ↦
        let here = mark_first p ps to past in
        let not_here = none to (omega arith) in
        absurd (cc)
    | inr there ↦ inl (omega arith)
  ]
  | inr later ↦ inr (ends_there ps to k next
      (λ j h. sym (mark_later p ps j (omega arith)) ∙ none j h)
      (λ e. some (mark_later p ps k later ∙ e)))
]

-- if no byte waits, all that was taken was sent
pub all_is_sent : (v : PlainSendBuffer) → IsSentAsTaken v → ((k : ℕ) → is_queued v k ≡ false) → IsCut v (taken_to v)
all_is_sent v all none = elim (cases_lt v.start (taken_to v)) [
  | inr empty ↦ inl empty
  | inl some ↦
      let k = taken_to v - 1 in
      let waiting : mark_in v.pieces k ≡ None → is_queued v k ≡ true = λ e.
      ap (λ (o : Option Mark). waits o (nat_lt k (taken_to v))) (mark_held v k (omega arith) ∙ e) ∙ lt-ltb k (taken_to v) (omega arith) in
      inr (ends_there v.pieces (taken_to v) k (omega arith)
      (λ j h. sym (mark_held v j (omega arith)) ∙ all j h)
      (λ e. false≢true (sym (none k) ∙ waiting e)))
]

queued_end : (s : SendState) → is_end_queued s ≡ true → s ≡ DataSent Queued
queued_end Ready e = absurd (false≢true e)
queued_end (DataSent Sent) e = absurd (false≢true e)
queued_end (DataSent Queued) e = refl
queued_end (DataSent Acked) e = absurd (false≢true e)
queued_end (ResetSent code mark) e = absurd (false≢true e)

-- the end is handed out if no byte waits
pub end_is_out : (old : PlainSend) (end : ℕ) → IsSentAsTaken old.buffer → ((k : ℕ) → is_queued old.buffer k ≡ false) → is_end_queued old.state ≡ true
    → end ≡ taken_to old.buffer → IsEndOut old (record old { state = DataSent Sent }) end end true
end_is_out old end all none queued is = record {
  none = none;
  queued = queued;
  at_end = (is, refl);
  fin_is = refl;
  new_is = rw (queued_end old.state queued);
  is_span = record {
    order = omega arith;
    is_cut_from = rw is (all_is_sent old.buffer all none);
    is_cut_to = rw is (all_is_sent old.buffer all none);
  };
}

-- what is handed out is held
pub handed_out_held : (old new : PlainSendBuffer) (room from to : ℕ) → IsSentAsTaken old → IsHandedOut old new room from to → IsHeld new from to
handed_out_held old new room from to all out =
    let behind : old.start ≤ from = elim (cases_lt from old.start) [
      | inr within ↦ within
      | inl before ↦
          let acked : is_queued old from ≡ false = ap (λ (b : Bool). waits (if b then Some Acked else mark_in old.pieces from) (nat_lt from (taken_to old))) (lt-ltb from old.start before) in
          absurd (false≢true (sym acked ∙ out.queued from (omega arith) out.some))
    ] in
    let taken : to ≤ taken_to old = elim (cases_lt (taken_to old) to) [
      | inr within ↦ within
      | inl past ↦
          let k = to - 1 in
          let some = out.some in
          let low : taken_to old ≤ k = omega arith in
          let none : is_queued old k ≡ false = ap (λ (o : Option Mark). waits o (nat_lt k (taken_to old))) (all k low) ∙ le-ltb k (taken_to old) low in
          absurd (false≢true (sym none ∙ out.queued k (omega arith) (omega arith)))
    ] in
    rw (out.start_is, out.bytes_are) (behind, le_of_lt out.some, taken)
