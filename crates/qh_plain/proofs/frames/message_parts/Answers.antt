use Rattle.std.proofs.Common.{◌≡◌, List, ℕ, Option, Some, None, Result, Ok, Err, sym, ap, ◌∙◌, IfOk}
use Rattle.std.specs.Option.{IfSome, IfNone}
use Rattle.qh_spec.specs.HttpFrame.{HttpFrame, AreHttpFrames}
use Rattle.qh_spec.specs.Spelling.{known_frames}
use Rattle.qh_plain.specs.Frames.{Parts, AreParts, parts_at}
use Rattle.qh_plain.proofs.PartsRead.{parts_found, no_parts}
use Rattle.qh_plain.proofs.frames.message_parts.Goals as goal

found : {E : Type 0} (r : Result (Option Parts) E) (bytes : List ℕ) (frames known : List HttpFrame) → AreHttpFrames bytes frames → known ≡ known_frames frames
    → IfOk r (λ o. o ≡ parts_at known) → IfOk r (λ o. IfSome o (λ parts. AreParts bytes parts))
found (Err e) bytes frames known f k h = tt
found (Ok None) bytes frames known f k h = tt
found (Ok (Some parts)) bytes frames known f k h = parts_found bytes frames parts f (ap parts_at (sym k) ∙ sym h)

none : {E : Type 0} (r : Result (Option Parts) E) (bytes : List ℕ) (frames known : List HttpFrame) → AreHttpFrames bytes frames → known ≡ known_frames frames
    → IfOk r (λ o. o ≡ parts_at known) → IfOk r (λ o. IfNone o ((parts : Parts) → AreParts bytes parts → ⊥))
none (Err e) bytes frames known f k h = tt
none (Ok None) bytes frames known f k h = λ parts. no_parts bytes frames parts f (ap parts_at (sym k) ∙ sym h)
none (Ok (Some parts)) bytes frames known f k h = tt

pub returns-clause-found : goal.returns-clause-found
returns-clause-found c =
    let framed : AreHttpFrames c.args.bytes.now c.in-Some.frames.items = rw c.in-Some.is at c.in_ok-frames.ensures.found in
    found c.parts.result c.args.bytes.now c.in-Some.frames.items c.as_slice.result.now framed (c.as_slice.ensures.value ∙ c.in_ok-known.ensures) c.parts.ensures

pub returns-clause-none : goal.returns-clause-none
returns-clause-none c =
    let framed : AreHttpFrames c.args.bytes.now c.in-Some.frames.items = rw c.in-Some.is at c.in_ok-frames.ensures.found in
    none c.parts.result c.args.bytes.now c.in-Some.frames.items c.as_slice.result.now framed (c.as_slice.ensures.value ∙ c.in_ok-known.ensures) c.parts.ensures
