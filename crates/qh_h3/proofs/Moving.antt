-- What calls take of a stream, one after another.
use Rattle.std.proofs.Common.{◌≡◌, ◌≢◌, ◌<◌, ◌≤◌, ◌+◌, ℕ, zero, suc, Bool, true, false, ◌||◌, List, [], ◌∷◌, ◌++◌, length, refl, sym, ap, ◌∙◌, arith, inl, inr, Option, Some, None, Result, Ok, Err, subst, append_assoc, append-nil, length-append}
use Rattle.futures.specs.declared.task.Poll.{Poll}
use Rattle.futures.specs.declared.task.Poll.TheVariants.{Ready, Pending}
use Rattle.qh_h3wire.specs.Frame.{HasNoFrame}
use Rattle.qh_h3wire.specs.declared.frame.Frame.{Frame}
use Rattle.qh_h3.specs.Buffers.{IsAtEnd, IsLook}
use Rattle.qh_h3.specs.Counts.{Counts, failing, taking, taking_all, waiting}
use Rattle.qh_h3.specs.Faults.{IsFault}
use Rattle.qh_h3.specs.Finding.{Skips}
use Rattle.qh_h3.specs.Frames.{Held, IsTaken, IsNext, IsPiece}
use Rattle.qh_h3.specs.Streams.{Received, Taken, taken, nothing, then, reading, told}
use Rattle.qh_h3.specs.declared.frame.error.FrameStreamError.{FrameStreamError}
use Rattle.qh_h3.specs.declared.frame.error.FrameStreamError.TheVariants.{Quic, Proto, UnexpectedEnd, Memory}
use Rattle.qh_h3.proofs.Skipping.{skips_none, skips_then, skips_more}

pub or_false : (b : Bool) → b || false ≡ b
or_false true = refl
or_false false = refl

pub or_assoc : (a b c : Bool) → (a || b) || c ≡ a || (b || c)
or_assoc true b c = refl
or_assoc false b c = refl

pub told_nothing : (t : Option Received) → told (reading nothing) t ≡ t
told_nothing None = refl
told_nothing (Some r) = λ i. Some (record r { bytes = append-nil r.bytes i; is_ended = or_false r.is_ended i })

pub told_then : (t : Option Received) (a b : Taken) → told (reading b) (told (reading a) t) ≡ told (reading (then a b)) t
told_then None a b = refl
told_then (Some r) a b = λ i. Some (record r { bytes = append_assoc r.bytes a.bytes b.bytes i; is_ended = or_assoc r.is_ended a.is_ended b.is_ended i })

-- the bytes that were taken don't matter for more than their list
pub no_bytes : (xs ys : List ℕ) → ys ≡ [] → xs ++ ys ≡ xs
no_bytes xs ys e = ap (λ (z : List ℕ). xs ++ z) e ∙ append-nil xs

module _ (of_body : Bool) (limit : ℕ) (before : Option Received) (cold : Counts) (old : Held) where
  -- a call has skipped all that it took and can be skipped, and takes more
  pub record SoFar (spared : ℕ) (now : Option Received) (counts : Counts) (held : Held) : Type 0 where
    pub took : Taken
    pub count : ℕ
    pub taken : IsTaken took count before now old held
    pub skips : Skips of_body (old.bytes ++ took.bytes) held.bytes
    pub counted : counts ≡ taking_all count cold
    pub within : count + spared ≡ limit
    pub left : held.left ≡ 0

  pub at_first : old.left ≡ 0 → SoFar limit before cold old
  at_first left = record {
    took = nothing;
    count = 0;
    taken = record { told_is = sym (told_nothing before); is_ended = sym (or_false old.is_ended); pieces = omega arith };
    skips = subst (λ (z : List ℕ). Skips of_body z old.bytes) (sym (append-nil old.bytes)) (skips_none of_body old.bytes);
    counted = refl;
    within = omega arith;
    left = left;
  }

  module _ {spared : ℕ} {now : Option Received} {counts : Counts} {held : Held} (s : SoFar spared now counts held) where
    looked : (new : Held) (behind : List ℕ) → Skips of_body held.bytes behind → Skips of_body (old.bytes ++ s.took.bytes) behind
    looked new behind k = skips_then of_body (old.bytes ++ s.took.bytes) held.bytes behind s.skips k

    still : (new : Held) → new.is_ended ≡ held.is_ended → IsTaken s.took s.count before now old new
    still new e = record { told_is = s.taken.told_is; is_ended = e ∙ s.taken.is_ended; pieces = s.taken.pieces }

    -- a frame was found
    pub found : (f : Frame) (new : Held) → IsLook of_body (Ok (Some f)) held new → IsNext of_body (Ready (Ok (Some f))) limit spared before now cold counts old new
    found f new l = record {
      took = s.took;
      count = s.count;
      behind = l.found.behind;
      taken = still new l.is_ended;
      skips = looked new l.found.behind l.found.skips;
      is = (l.found.finds.0, l.found.finds.1, l.found.finds.2, l.found.finds.3, l.left);
      counted = s.counted;
      within = s.within;
    }

    -- nothing was
    pub halted : (e : FrameStreamError) (new : Held) → IsLook of_body (Err e) held new → IsNext of_body (Ready (Err e)) limit spared before now cold counts old new
    halted (Proto e) new l = record {
      took = s.took;
      count = s.count;
      behind = l.found.behind;
      taken = still new l.is_ended;
      skips = looked new l.found.behind l.found.skips;
      is = (l.found.finds.0, l.found.finds.1, l.left);
      counted = s.counted;
      within = s.within;
    }
    halted Memory new l = record {
      took = s.took;
      count = s.count;
      behind = l.found.behind;
      taken = still new l.is_ended;
      skips = looked new l.found.behind l.found.skips;
      is = (l.found.finds.0, l.left);
      counted = s.counted;
      within = s.within;
    }
    halted UnexpectedEnd new l = absurd l.found.finds.1
    halted (Quic e) new l = absurd l.found.finds.1

    -- there is no whole frame
    pub short : (new : Held) → IsLook of_body (Ok None) held new → SoFar spared now counts new × HasNoFrame new.bytes
    short new l =
        let same : new.bytes ≡ l.found.behind = l.found.finds.0 in (
          record {
            took = s.took;
            count = s.count;
            taken = still new l.is_ended;
            skips = subst (Skips of_body (old.bytes ++ s.took.bytes)) (sym same) (looked new l.found.behind l.found.skips);
            counted = s.counted;
            within = s.within;
            left = l.left;
          },
          subst HasNoFrame (sym same) l.found.finds.1,
        )

    -- the budget is used up
    pub yields : HasNoFrame held.bytes → spared ≡ 0 → IsNext of_body Pending limit spared before now cold counts old held
    yields none spent = record {
      took = s.took;
      count = s.count;
      behind = held.bytes;
      taken = s.taken;
      skips = s.skips;
      is = (refl, none, s.left);
      counted = inr (spent, s.counted);
      within = s.within;
    }

    module _ (after : Option Received) (cnew : Counts) (new : Held) where
      grown : (took : Taken) (count : ℕ) → count ≤ length s.took.bytes + length took.bytes → after ≡ told (reading took) now → new.is_ended ≡ (held.is_ended || took.is_ended)
          → IsTaken (then s.took took) count before after old new
      grown took count few t e = record {
        told_is = t ∙ ap (told (reading took)) s.taken.told_is ∙ told_then before s.took took;
        is_ended = e ∙ ap (λ (z : Bool). z || took.is_ended) s.taken.is_ended ∙ or_assoc old.is_ended s.took.is_ended took.is_ended;
        pieces = omega (arith, length-append s.took.bytes took.bytes, few);
      }

      longer : (took : Taken) → new.bytes ≡ held.bytes ++ took.bytes → Skips of_body (old.bytes ++ (s.took.bytes ++ took.bytes)) new.bytes
      longer took b =
          subst (λ (z : List ℕ). Skips of_body z new.bytes) (append_assoc old.bytes s.took.bytes took.bytes)
          (subst (Skips of_body ((old.bytes ++ s.took.bytes) ++ took.bytes)) (sym b) (skips_more of_body (old.bytes ++ s.took.bytes) held.bytes took.bytes s.skips))

      -- a piece came
      pub came : (spared_now : ℕ) → spared_now + 1 ≡ spared → IsPiece (Ready (Ok true)) now after counts cnew held new → SoFar spared_now after cnew new
      came spared_now fewer p = record {
        took = then s.took p.took;
        count = suc s.count;
        taken = grown p.took (suc s.count) (omega (arith, p.is.0, s.taken.pieces)) p.told_is p.is_ended;
        skips = longer p.took p.bytes;
        counted = p.is.1 ∙ ap taking s.counted;
        within = omega (arith, s.within, fewer);
        left = p.left ∙ s.left;
      }

      none_came : (took : Taken) → took.bytes ≡ [] → new.bytes ≡ held.bytes ++ took.bytes → HasNoFrame held.bytes → HasNoFrame new.bytes
      none_came took e b none = subst HasNoFrame (sym (b ∙ no_bytes held.bytes took.bytes e)) none

      -- the stream waits
      pub waits : HasNoFrame held.bytes → IsPiece Pending now after counts cnew held new → IsNext of_body Pending limit spared before after cold cnew old new
      waits none p = record {
        took = then s.took p.took;
        count = s.count;
        behind = new.bytes;
        taken = grown p.took s.count (omega (arith, s.taken.pieces)) p.told_is p.is_ended;
        skips = longer p.took p.bytes;
        is = (refl, none_came p.took (ap (λ (z : Taken). z.bytes) p.is.0) p.bytes none, p.left ∙ s.left);
        counted = inl (p.is.1 ∙ ap waiting s.counted);
        within = s.within;
      }

      -- the stream failed
      pub fails : (e : FrameStreamError) → HasNoFrame held.bytes → IsPiece (Ready (Err e)) now after counts cnew held new → IsNext of_body (Ready (Err e)) limit spared before after cold cnew old new
      fails (Quic e) none p = record {
        took = then s.took p.took;
        count = s.count;
        behind = new.bytes;
        taken = grown p.took s.count (omega (arith, s.taken.pieces)) p.told_is p.is_ended;
        skips = longer p.took p.bytes;
        is = (refl, none_came p.took (ap (λ (z : Taken). z.bytes) p.is.0) p.bytes none, p.left ∙ s.left);
        counted = (p.is.2 ∙ ap (failing e) s.counted, p.is.1);
        within = s.within;
      }
      fails Memory none p = record {
        took = then s.took p.took;
        count = s.count;
        behind = new.bytes;
        taken = grown p.took s.count (omega (arith, s.taken.pieces)) p.told_is p.is_ended;
        skips = longer p.took p.bytes;
        is = (refl, p.left ∙ s.left);
        counted = p.is.1 ∙ s.counted;
        within = s.within;
      }
      fails UnexpectedEnd none p = absurd p.is
      fails (Proto e) none p = absurd p.is

      -- the stream ended
      pub ends : (r : Result (Option Frame) FrameStreamError) → HasNoFrame held.bytes → IsPiece (Ready (Ok false)) now after counts cnew held new → IsAtEnd r new
          → IsNext of_body (Ready r) limit spared before after cold cnew old new
      ends (Ok None) none p e = record {
        took = then s.took p.took;
        count = s.count;
        behind = new.bytes;
        taken = grown p.took s.count (omega (arith, s.taken.pieces)) p.told_is p.is_ended;
        skips = longer p.took p.bytes;
        is = (e, e, p.is.1, p.left ∙ s.left);
        counted = p.is.2 ∙ s.counted;
        within = s.within;
      }
      ends (Err UnexpectedEnd) none p e = record {
        took = then s.took p.took;
        count = s.count;
        behind = new.bytes;
        taken = grown p.took s.count (omega (arith, s.taken.pieces)) p.told_is p.is_ended;
        skips = longer p.took p.bytes;
        is = (refl, none_came p.took p.is.0 p.bytes none, e, p.is.1, p.left ∙ s.left);
        counted = p.is.2 ∙ s.counted;
        within = s.within;
      }
      ends (Ok (Some f)) none p e = absurd e
      ends (Err (Quic x)) none p e = absurd e
      ends (Err (Proto x)) none p e = absurd e
      ends (Err Memory) none p e = absurd e

-- the end was taken before
pub ended_again : (t : Option Received) (c : Counts) (h : Held) → h.is_ended ≡ true → IsPiece (Ready (Ok false)) t t c c h h
ended_again t c h e = record {
  took = nothing;
  told_is = sym (told_nothing t);
  is_ended = sym (or_false h.is_ended);
  bytes = sym (append-nil h.bytes);
  left = refl;
  is = (refl, e, refl);
}
