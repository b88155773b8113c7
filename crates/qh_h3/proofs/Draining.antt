-- What is taken of a stream while its end is looked for.
use Rattle.std.proofs.Common.{◌≡◌, ◌<◌, ◌≤◌, ◌+◌, ℕ, suc, Bool, true, false, ◌||◌, List, [], ◌++◌, length, refl, sym, ap, ◌∙◌, arith, inl, inr, Option, Some, None, Result, Ok, Err, length-append}
use Rattle.futures.specs.declared.task.Poll.TheVariants.{Ready, Pending}
use Rattle.qh_h3.specs.Counts.{Counts, failing, taking, taking_all, waiting}
use Rattle.qh_h3.specs.Drained.{IsDrained}
use Rattle.qh_h3.specs.Frames.{Held, IsTaken, IsPiece}
use Rattle.qh_h3.specs.Streams.{Received, Taken, nothing, then, reading, told}
use Rattle.qh_h3.specs.declared.frame.error.FrameStreamError.{FrameStreamError}
use Rattle.qh_h3.specs.declared.frame.error.FrameStreamError.TheVariants.{Quic, Proto, UnexpectedEnd, Memory}
use Rattle.qh_h3.proofs.Moving.{or_false, or_assoc, told_nothing, told_then, no_bytes}

-- what is held once it was dropped
abbrev pub dropped : Held → Held
dropped h = record { bytes = []; left = h.left; is_ended = h.is_ended }

module _ (limit : ℕ) (before : Option Received) (cold : Counts) (old : Held) where
  -- what a call took is dropped, and it takes more
  pub record SoFar (spared : ℕ) (now : Option Received) (counts : Counts) (held : Held) : Type 0 where
    pub took : Taken
    pub count : ℕ
    pub taken : IsTaken took count before now old held
    pub bytes : held.bytes ≡ []
    pub counted : counts ≡ taking_all count cold
    pub within : count + spared ≡ limit

  pub at_first : (held : Held) → held ≡ dropped old → SoFar limit before cold held
  at_first held e = record {
    took = nothing;
    count = 0;
    taken = record { told_is = sym (told_nothing before); is_ended = ap (λ (h : Held). h.is_ended) e ∙ sym (or_false old.is_ended); pieces = omega arith };
    bytes = ap (λ (h : Held). h.bytes) e;
    counted = refl;
    within = omega arith;
  }

  module _ {spared : ℕ} {now : Option Received} {counts : Counts} {held : Held} (s : SoFar spared now counts held) where
    -- the budget is used up
    pub yields : spared ≡ 0 → IsDrained Pending limit spared before now cold counts old held
    yields spent = record {
      took = s.took;
      count = s.count;
      taken = s.taken;
      bytes = s.bytes;
      is = tt;
      counted = inr (spent, s.counted);
      within = s.within;
    }

    module _ (after : Option Received) (cnew : Counts) (new : Held) where
      grown : (last : Held) (took : Taken) (count : ℕ) → last.is_ended ≡ new.is_ended → count ≤ length s.took.bytes + length took.bytes → after ≡ told (reading took) now → new.is_ended ≡ (held.is_ended || took.is_ended)
          → IsTaken (then s.took took) count before after old last
      grown last took count same few t e = record {
        told_is = t ∙ ap (told (reading took)) s.taken.told_is ∙ told_then before s.took took;
        is_ended = same ∙ e ∙ ap (λ (z : Bool). z || took.is_ended) s.taken.is_ended ∙ or_assoc old.is_ended s.took.is_ended took.is_ended;
        pieces = omega (arith, length-append s.took.bytes took.bytes, few);
      }

      none_held : (took : Taken) → took.bytes ≡ [] → new.bytes ≡ held.bytes ++ took.bytes → new.bytes ≡ []
      none_held took e b = b ∙ no_bytes held.bytes took.bytes e ∙ s.bytes

      -- a piece came, and was dropped
      pub came : (last : Held) (spared_now : ℕ) → last ≡ dropped new → spared_now + 1 ≡ spared → IsPiece (Ready (Ok true)) now after counts cnew held new → SoFar spared_now after cnew last
      came last spared_now d fewer p = record {
        took = then s.took p.took;
        count = suc s.count;
        taken = grown last p.took (suc s.count) (ap (λ (h : Held). h.is_ended) d) (omega (arith, p.is.0, s.taken.pieces)) p.told_is p.is_ended;
        bytes = ap (λ (h : Held). h.bytes) d;
        counted = p.is.1 ∙ ap taking s.counted;
        within = omega (arith, s.within, fewer);
      }

      -- the stream waits
      pub waits : IsPiece Pending now after counts cnew held new → IsDrained Pending limit spared before after cold cnew old new
      waits p = record {
        took = then s.took p.took;
        count = s.count;
        taken = grown new p.took s.count refl (omega (arith, s.taken.pieces)) p.told_is p.is_ended;
        bytes = none_held p.took (ap (λ (z : Taken). z.bytes) p.is.0) p.bytes;
        is = tt;
        counted = inl (p.is.1 ∙ ap waiting s.counted);
        within = s.within;
      }

      -- the stream failed
      pub fails : (e : FrameStreamError) → IsPiece (Ready (Err e)) now after counts cnew held new → IsDrained (Ready (Err e)) limit spared before after cold cnew old new
      fails (Quic e) p = record {
        took = then s.took p.took;
        count = s.count;
        taken = grown new p.took s.count refl (omega (arith, s.taken.pieces)) p.told_is p.is_ended;
        bytes = none_held p.took (ap (λ (z : Taken). z.bytes) p.is.0) p.bytes;
        is = tt;
        counted = (p.is.2 ∙ ap (failing e) s.counted, p.is.1);
        within = s.within;
      }
      fails Memory p = record {
        took = then s.took p.took;
        count = s.count;
        taken = grown new p.took s.count refl (omega (arith, s.taken.pieces)) p.told_is p.is_ended;
        bytes = none_held p.took (ap (λ (z : Taken). z.bytes) p.is.0) p.bytes;
        is = tt;
        counted = p.is.1 ∙ s.counted;
        within = s.within;
      }
      fails UnexpectedEnd p = absurd p.is
      fails (Proto e) p = absurd p.is

      -- the stream ended
      pub ends : IsPiece (Ready (Ok false)) now after counts cnew held new → IsDrained (Ready (Ok tt)) limit spared before after cold cnew old new
      ends p = record {
        took = then s.took p.took;
        count = s.count;
        taken = grown new p.took s.count refl (omega (arith, s.taken.pieces)) p.told_is p.is_ended;
        bytes = none_held p.took p.is.0 p.bytes;
        is = p.is.1;
        counted = p.is.2 ∙ s.counted;
        within = s.within;
      }
