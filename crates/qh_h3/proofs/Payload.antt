-- The payload of a DATA frame.
use Rattle.std.proofs.Common.{◌≡◌, ◌<◌, ◌≤◌, ◌+◌, ◌⊎◌, ℕ, zero, suc, Bool, true, false, List, [], ◌++◌, length, refl, sym, ap, ◌∙◌, arith, inl, inr, Option, Some, None, Result, Ok, Err, subst, append-nil}
use Rattle.futures.specs.declared.task.Poll.{Poll}
use Rattle.futures.specs.declared.task.Poll.TheVariants.{Ready, Pending}
use Rattle.qh_h3.specs.Buffers.{IsFilled, held_of}
use Rattle.qh_h3.specs.Counts.{Counts}
use Rattle.qh_h3.specs.Frames.{Held, IsData, IsPiece}
use Rattle.qh_h3.specs.Streams.{Received, nothing}
use Rattle.qh_h3.specs.declared.frame.buffer.Buffer.{Buffer}
use Rattle.qh_h3.specs.declared.frame.error.FrameStreamError.{FrameStreamError}
use Rattle.qh_h3.specs.declared.frame.error.FrameStreamError.TheVariants.{Quic, Proto, UnexpectedEnd, Memory}
use Rattle.qh_h3.proofs.Moving.{or_false, told_nothing}

module _ (before after : Option Received) (cold cnew : Counts) (old mid : Buffer) (some : 0 < old.left) where
  pub payload_fails : (e : FrameStreamError) → IsFilled (Ready (Err e)) before after cold cnew old mid → IsData (Ready (Err e)) before after cold cnew (held_of old) (held_of mid)
  payload_fails e f = go e f.0 f.1
    where
      go : (e : FrameStreamError) → (mid.front ++ mid.more ≡ []) → ((◌≡◌ {A = Poll (Result Bool FrameStreamError)} (Ready (Err e)) (Ready (Ok true))) × (after ≡ before) × (cnew ≡ cold) × (held_of mid ≡ held_of old)) ⊎ IsPiece (Ready (Err e)) before after cold cnew (held_of old) (held_of mid) → IsData (Ready (Err e)) before after cold cnew (held_of old) (held_of mid)
      go e b (inl a) = absurd (let z = a.0 in cc)
      go (Quic e) b (inr p) = record {
        took = p.took;
        count = 0;
        taken = record { told_is = p.told_is; is_ended = p.is_ended; pieces = omega arith };
        moved = sym p.bytes;
        left = omega (arith, p.left);
        is = (some, b, p.is.0);
        counted = (p.is.2, p.is.1);
        within = omega arith;
      }
      go Memory b (inr p) = record {
        took = p.took;
        count = 0;
        taken = record { told_is = p.told_is; is_ended = p.is_ended; pieces = omega arith };
        moved = sym p.bytes;
        left = omega (arith, p.left);
        is = some;
        counted = p.is.1;
        within = omega arith;
      }
      go UnexpectedEnd b (inr p) = absurd p.is
      go (Proto e) b (inr p) = absurd p.is

  module _ (new : Held) where
    pub payload_given : (piece : List ℕ) → IsFilled (Ready (Ok true)) before after cold cnew old mid → 0 < length piece → length piece + new.left ≡ mid.left → mid.front ++ mid.more ≡ piece ++ new.bytes → new.is_ended ≡ mid.is_ended
        → IsData (Ready (Ok (Some piece))) before after cold cnew (held_of old) new
    payload_given piece f byte left gives ended = go f.1
      where
        go : ((◌≡◌ {A = Poll (Result Bool FrameStreamError)} (Ready (Ok true)) (Ready (Ok true))) × (after ≡ before) × (cnew ≡ cold) × (held_of mid ≡ held_of old)) ⊎ IsPiece (Ready (Ok true)) before after cold cnew (held_of old) (held_of mid) → IsData (Ready (Ok (Some piece))) before after cold cnew (held_of old) new
        go (inl a) = record {
          took = nothing;
          count = 0;
          taken = record { told_is = a.1 ∙ sym (told_nothing before); is_ended = ended ∙ ap (λ (z : Held). z.is_ended) a.3 ∙ sym (or_false old.is_ended); pieces = omega arith };
          moved = append-nil (old.front ++ old.more) ∙ ap (λ (z : Held). z.bytes) (sym a.3) ∙ gives;
          left = left ∙ ap (λ (z : Held). z.left) a.3;
          is = byte;
          counted = a.2;
          within = omega arith;
        }
        go (inr p) = record {
          took = p.took;
          count = suc zero;
          taken = record { told_is = p.told_is; is_ended = ended ∙ p.is_ended; pieces = omega (arith, p.is.0) };
          moved = sym p.bytes ∙ gives;
          left = left ∙ p.left;
          is = byte;
          counted = p.is.1;
          within = omega arith;
        }

    pub payload_wants : (e : FrameStreamError) → IsFilled (Ready (Ok true)) before after cold cnew old mid → e ≡ Memory → new ≡ held_of mid → IsData (Ready (Err e)) before after cold cnew (held_of old) new
    payload_wants e f m n = subst (λ (z : FrameStreamError). IsData (Ready (Err z)) before after cold cnew (held_of old) new) (sym m) (subst (λ (z : Held). IsData (Ready (Err Memory)) before after cold cnew (held_of old) z) (sym n) (go f.1))
      where
        go : ((◌≡◌ {A = Poll (Result Bool FrameStreamError)} (Ready (Ok true)) (Ready (Ok true))) × (after ≡ before) × (cnew ≡ cold) × (held_of mid ≡ held_of old)) ⊎ IsPiece (Ready (Ok true)) before after cold cnew (held_of old) (held_of mid) → IsData (Ready (Err Memory)) before after cold cnew (held_of old) (held_of mid)
        go (inl a) = record {
          took = nothing;
          count = 0;
          taken = record { told_is = a.1 ∙ sym (told_nothing before); is_ended = ap (λ (z : Held). z.is_ended) a.3 ∙ sym (or_false old.is_ended); pieces = omega arith };
          moved = append-nil (old.front ++ old.more) ∙ ap (λ (z : Held). z.bytes) (sym a.3);
          left = let l = ap (λ (z : Held). z.left) a.3 in omega (arith, l);
          is = some;
          counted = a.2;
          within = omega arith;
        }
        go (inr p) = record {
          took = p.took;
          count = suc zero;
          taken = record { told_is = p.told_is; is_ended = p.is_ended; pieces = omega (arith, p.is.0) };
          moved = sym p.bytes;
          left = omega (arith, p.left);
          is = some;
          counted = p.is.1;
          within = omega arith;
        }
