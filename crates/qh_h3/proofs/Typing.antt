-- What is taken of a stream while its type is looked for.
use Rattle.std.proofs.Common.{◌≡◌, ◌<◌, ◌≤◌, ◌+◌, ℕ, suc, Bool, true, false, ◌||◌, List, [], ◌++◌, length, take, drop, refl, sym, ap, ◌∙◌, arith, inl, inr, Option, Some, None, Result, Ok, Err, subst, append_assoc, append-nil, length-append}
use Rattle.std.proofs.lemmas.List.{take-append-drop}
use Rattle.futures.specs.declared.task.Poll.TheVariants.{Ready, Pending}
use Rattle.qh_spec.specs.Varint.{IsVarint}
use Rattle.qh_h3.specs.Counts.{Counts, failing, taking, taking_all, waiting}
use Rattle.qh_h3.specs.Frames.{Held, IsTaken, IsPiece}
use Rattle.qh_h3.specs.Streams.{Received, Taken, nothing, then, reading, told}
use Rattle.qh_h3.specs.Typed.{HasNoNumber, IsNumber, IsNumberLook, IsTyped}
use Rattle.qh_h3.specs.declared.frame.error.FrameStreamError.{FrameStreamError}
use Rattle.qh_h3.specs.declared.frame.error.FrameStreamError.TheVariants.{Quic, Proto, UnexpectedEnd, Memory}
use Rattle.qh_h3.proofs.Moving.{or_false, or_assoc, told_nothing, told_then, no_bytes}

-- a number was found in front
pub number_in : (bytes rest : List ℕ) (n used : ℕ) → IsVarint (take used bytes) n → rest ≡ drop used bytes → IsNumber (Some n) bytes rest
number_in bytes rest n used v e = (take used bytes, sym (take-append-drop used bytes) ∙ ap (λ (z : List ℕ). take used bytes ++ z) (sym e), v)

module _ (limit : ℕ) (before : Option Received) (cold : Counts) (old : Held) where
  -- nothing of what a call took is used up, and it takes more
  pub record SoFar (spared : ℕ) (now : Option Received) (counts : Counts) (held : Held) : Type 0 where
    pub took : Taken
    pub count : ℕ
    pub taken : IsTaken took count before now old held
    pub bytes : held.bytes ≡ old.bytes ++ took.bytes
    pub counted : counts ≡ taking_all count cold
    pub within : count + spared ≡ limit
    pub left : held.left ≡ old.left

  pub at_first : SoFar limit before cold old
  at_first = record {
    took = nothing;
    count = 0;
    taken = record { told_is = sym (told_nothing before); is_ended = sym (or_false old.is_ended); pieces = omega arith };
    bytes = sym (append-nil old.bytes);
    counted = refl;
    within = omega arith;
    left = refl;
  }

  module _ {spared : ℕ} {now : Option Received} {counts : Counts} {held : Held} (s : SoFar spared now counts held) where
    still : (new : Held) → new.is_ended ≡ held.is_ended → IsTaken s.took s.count before now old new
    still new e = record { told_is = s.taken.told_is; is_ended = e ∙ s.taken.is_ended; pieces = s.taken.pieces }

    -- the number was found
    pub found : (n : ℕ) (new : Held) → IsNumberLook (Ok (Some n)) held new → IsTyped (Ready (Ok (Some n))) limit spared before now cold counts old new
    found n new l = record {
      took = s.took;
      count = s.count;
      taken = still new l.2;
      is = (l.0.0, sym s.bytes ∙ l.0.1, l.0.2);
      left = l.1 ∙ s.left;
      counted = s.counted;
      within = s.within;
    }

    -- memory was wanted
    pub halted : (e : FrameStreamError) (new : Held) → IsNumberLook (Err e) held new → IsTyped (Ready (Err e)) limit spared before now cold counts old new
    halted Memory new l = record {
      took = s.took;
      count = s.count;
      taken = still new (ap (λ (h : Held). h.is_ended) l);
      is = ap (λ (h : Held). h.bytes) l ∙ s.bytes;
      left = ap (λ (h : Held). h.left) l ∙ s.left;
      counted = s.counted;
      within = s.within;
    }
    halted UnexpectedEnd new l = absurd l
    halted (Quic e) new l = absurd l
    halted (Proto e) new l = absurd l

    -- it isn't whole
    pub short : (new : Held) → IsNumberLook (Ok None) held new → SoFar spared now counts new × HasNoNumber new.bytes
    short new l = (
      record {
        took = s.took;
        count = s.count;
        taken = still new l.2;
        bytes = l.0.0 ∙ s.bytes;
        counted = s.counted;
        within = s.within;
        left = l.1 ∙ s.left;
      },
      subst HasNoNumber (sym l.0.0) l.0.1,
    )

    none_in : HasNoNumber held.bytes → IsNumber None (old.bytes ++ s.took.bytes) held.bytes
    none_in none = (s.bytes, subst HasNoNumber s.bytes none)

    -- the budget is used up
    pub yields : HasNoNumber held.bytes → spared ≡ 0 → IsTyped Pending limit spared before now cold counts old held
    yields none spent = record {
      took = s.took;
      count = s.count;
      taken = s.taken;
      is = none_in none;
      left = s.left;
      counted = inr (spent, s.counted);
      within = s.within;
    }

    module _ (after : Option Received) (cnew : Counts) (new : Held) where
      grown : (took : Taken) (count : ℕ) → count ≤ length s.took.bytes + length took.bytes → after ≡ told (reading took) now → new.is_ended ≡ (held.is_ended || took.is_ended)
          → IsTaken (then s.took took) count before after old new
      grown took count few t e = record {
        told_is = t ∙ ap (told (reading took)) s.taken.told_is ∙ told_then before s.took took;
        is_ended = e ∙ ap (λ (z : Bool). z || took.is_ended) s.taken.is_ended ∙ or_assoc old.is_ended s.took.is_ended took.is_ended;
        pieces = omega (arith, length-append s.took.bytes took.bytes, few);
      }

      longer : (took : Taken) → new.bytes ≡ held.bytes ++ took.bytes → new.bytes ≡ old.bytes ++ (s.took.bytes ++ took.bytes)
      longer took b = b ∙ ap (λ (z : List ℕ). z ++ took.bytes) s.bytes ∙ append_assoc old.bytes s.took.bytes took.bytes

      -- a piece came
      pub came : (spared_now : ℕ) → spared_now + 1 ≡ spared → IsPiece (Ready (Ok true)) now after counts cnew held new → SoFar spared_now after cnew new
      came spared_now fewer p = record {
        took = then s.took p.took;
        count = suc s.count;
        taken = grown p.took (suc s.count) (omega (arith, p.is.0, s.taken.pieces)) p.told_is p.is_ended;
        bytes = longer p.took p.bytes;
        counted = p.is.1 ∙ ap taking s.counted;
        within = omega (arith, s.within, fewer);
        left = p.left ∙ s.left;
      }

      none_came : (took : Taken) → took.bytes ≡ [] → new.bytes ≡ held.bytes ++ took.bytes → HasNoNumber held.bytes → IsNumber None (old.bytes ++ (s.took.bytes ++ took.bytes)) new.bytes
      none_came took e b none = (longer took b, subst HasNoNumber (sym (b ∙ no_bytes held.bytes took.bytes e) ∙ longer took b) none)

      -- the stream waits
      pub waits : HasNoNumber held.bytes → IsPiece Pending now after counts cnew held new → IsTyped Pending limit spared before after cold cnew old new
      waits none p = record {
        took = then s.took p.took;
        count = s.count;
        taken = grown p.took s.count (omega (arith, s.taken.pieces)) p.told_is p.is_ended;
        is = none_came p.took (ap (λ (z : Taken). z.bytes) p.is.0) p.bytes none;
        left = p.left ∙ s.left;
        counted = inl (p.is.1 ∙ ap waiting s.counted);
        within = s.within;
      }

      -- the stream failed
      pub fails : (e : FrameStreamError) → HasNoNumber held.bytes → IsPiece (Ready (Err e)) now after counts cnew held new → IsTyped (Ready (Err e)) limit spared before after cold cnew old new
      fails (Quic e) none p = record {
        took = then s.took p.took;
        count = s.count;
        taken = grown p.took s.count (omega (arith, s.taken.pieces)) p.told_is p.is_ended;
        is = none_came p.took (ap (λ (z : Taken). z.bytes) p.is.0) p.bytes none;
        left = p.left ∙ s.left;
        counted = (p.is.2 ∙ ap (failing e) s.counted, p.is.1);
        within = s.within;
      }
      fails Memory none p = record {
        took = then s.took p.took;
        count = s.count;
        taken = grown p.took s.count (omega (arith, s.taken.pieces)) p.told_is p.is_ended;
        is = longer p.took p.bytes;
        left = p.left ∙ s.left;
        counted = p.is.1 ∙ s.counted;
        within = s.within;
      }
      fails UnexpectedEnd none p = absurd p.is
      fails (Proto e) none p = absurd p.is

      -- the stream ended inside of it
      pub ends : HasNoNumber held.bytes → IsPiece (Ready (Ok false)) now after counts cnew held new → IsTyped (Ready (Ok None)) limit spared before after cold cnew old new
      ends none p = record {
        took = then s.took p.took;
        count = s.count;
        taken = grown p.took s.count (omega (arith, s.taken.pieces)) p.told_is p.is_ended;
        is = (none_came p.took p.is.0 p.bytes none, p.is.1);
        left = p.left ∙ s.left;
        counted = p.is.2 ∙ s.counted;
        within = s.within;
      }
