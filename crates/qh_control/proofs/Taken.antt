-- What was done for a frame is what is told of it.
use Rattle.std.proofs.Common.{◌≡◌, ℕ, ◌<◌, ◌≤◌, Bool, true, List, length, Option, Some, None, Result, Ok, Err, OnOk, refl, sym, ◌∙◌, inl, inr, arith}
use Rattle.std.specs.Borrow.{Bor}
use Rattle.std.proofs.lemmas.Bool.{cases_lt}
use Rattle.qh_base.specs.declared.shared.ResetToken.{ResetToken}
use Rattle.qh_base.specs.declared.time.Moment.{Moment}
use Rattle.qh_control.specs.Control.{IsControlTaken, control_refusal, is_other, with_datagram}
use Rattle.qh_control.specs.declared.control.ControlState.{ControlState}
use Rattle.qh_frame.specs.declared.ack.Ack.{Ack}
use Rattle.qh_frame.specs.declared.frame.Frame.{Frame}
use Rattle.qh_frame.specs.declared.frame.Frame.TheVariants as kind

pub on_ok : {T E : Type 0} (P Q : Type 0) → (P → Q) → (r : Result T E) → OnOk r P → OnOk r Q
on_ok P Q f (Ok value) done = f done
on_ok P Q f (Err error) done = done

both : {T E : Type 0} {P : Type 0} (r : Result T E) → P → OnOk r P
both (Ok value) holds = holds
both (Err error) holds = tt

over_any : (most length : ℕ) (n : ℕ) → most < length → Some most ≡ Some n → n < length
over_any most length n over same = let e : most ≡ n = cc in omega (arith, e, over)

never : (most : ℕ) → None ≡ Some most → ⊥
never most same = cc

pub datagram_taken : {E : Type 0} (r : Result Unit E) (now : Moment) (old new : ControlState) (payload : Bor (List ℕ)) (has_length : Bool) (own : Option ℕ) → old.datagram_receive ≡ own
    → ((most : ℕ) → own ≡ Some most → length payload.now ≤ most → OnOk r (new ≡ with_datagram most old payload.now))
    → (((most : ℕ) → own ≡ Some most → most < length payload.now) → new ≡ old)
    → OnOk r (IsControlTaken now old new (kind.Datagram payload has_length))
datagram_taken r now old new payload has_length None own due undue =
    on_ok (new ≡ old) _ (λ same. IsControlTaken.undue payload has_length (λ most is. absurd (never most (sym own ∙ is))) same) r (both r (undue (λ most is. absurd (never most is))))
datagram_taken r now old new payload has_length (Some most) own due undue = elim (cases_lt most (length payload.now)) [
  | inl over ↦
      on_ok (new ≡ old) _ (λ same. IsControlTaken.undue payload has_length (λ n is. over_any most (length payload.now) n over (sym own ∙ is)) same) r (both r (undue (λ n is. over_any most (length payload.now) n over is)))
  | inr fits ↦ on_ok (new ≡ with_datagram most old payload.now) _ (λ same. IsControlTaken.datagram payload has_length most own fits same) r (due most refl fits)
]

-- a frame that is none of these changes nothing, and isn't refused
pub other_frame : (s : ControlState) (f : Frame) → ((a : Ack) → f ≡ kind.Ack a → ⊥) → ((token : Bor (List ℕ)) → f ≡ kind.NewToken token → ⊥)
    → ((sequence prior : ℕ) (id : List ℕ) (token : ResetToken) → f ≡ kind.NewConnectionId sequence prior id token → ⊥) → ((sequence : ℕ) → f ≡ kind.RetireConnectionId sequence → ⊥)
    → ((payload : Bor (List ℕ)) (has_length : Bool) → f ≡ kind.Datagram payload has_length → ⊥) → (is_other f ≡ true) × (control_refusal s f ≡ None)
other_frame s (kind.Ack a) no_ack no_token no_id no_retirement no_datagram = absurd (no_ack a refl)
other_frame s (kind.NewToken token) no_ack no_token no_id no_retirement no_datagram = absurd (no_token token refl)
other_frame s (kind.NewConnectionId sequence prior id token) no_ack no_token no_id no_retirement no_datagram = absurd (no_id sequence prior id token refl)
other_frame s (kind.RetireConnectionId sequence) no_ack no_token no_id no_retirement no_datagram = absurd (no_retirement sequence refl)
other_frame s (kind.Datagram payload has_length) no_ack no_token no_id no_retirement no_datagram = absurd (no_datagram payload has_length refl)
other_frame s other no_ack no_token no_id no_retirement no_datagram = (refl, refl)
