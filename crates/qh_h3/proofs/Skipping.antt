-- Frames that are skipped.
use Rattle.std.proofs.Common.{◌≡◌, ℕ, Bool, List, [], ◌∷◌, ◌++◌, length, refl, sym, ap, ◌∙◌, append_assoc, append-nil, subst}
use Rattle.std.specs.List.{AllByRecursion}
use Rattle.qh_spec.specs.HttpFrame.{HttpFrame, IsHttpFrame, AreHttpFrames}
use Rattle.qh_h3.specs.Finding.{IsSkipped, Skips}

frames_then : (a b : List ℕ) (fs gs : List HttpFrame) → AreHttpFrames a fs → AreHttpFrames b gs → AreHttpFrames (a ++ b) (fs ++ gs)
frames_then a b [] gs p q = subst (λ (z : List ℕ). AreHttpFrames (z ++ b) gs) (sym p) q
frames_then a b (f ∷ fs) gs p q = (p.0, p.1 ++ b, ap (λ (z : List ℕ). z ++ b) p.2 ∙ append_assoc p.0 p.1 b, p.3, frames_then p.1 b fs gs p.4 q)

all_then : (P : HttpFrame → Type 0) (fs gs : List HttpFrame) → AllByRecursion P fs → AllByRecursion P gs → AllByRecursion P (fs ++ gs)
all_then P [] gs p q = q
all_then P (f ∷ fs) gs p q = (p.0, all_then P fs gs p.1 q)

pub skips_none : (of_body : Bool) (bytes : List ℕ) → Skips of_body bytes bytes
skips_none of_body bytes = record { frames = []; front = []; whole = refl; framed = refl; each = tt }

pub skips_then : (of_body : Bool) (a b c : List ℕ) → Skips of_body a b → Skips of_body b c → Skips of_body a c
skips_then of_body a b c s t = record {
  frames = s.frames ++ t.frames;
  front = s.front ++ t.front;
  whole = s.whole ∙ ap (λ (z : List ℕ). s.front ++ z) t.whole ∙ sym (append_assoc s.front t.front c);
  framed = frames_then s.front t.front s.frames t.frames s.framed t.framed;
  each = all_then (IsSkipped of_body) s.frames t.frames s.each t.each;
}

-- one frame was skipped
pub skips_one : (of_body : Bool) (a b : List ℕ) → ((f : HttpFrame) × (front : List ℕ) × (a ≡ front ++ b) × IsHttpFrame front f × IsSkipped of_body f) → Skips of_body a b
skips_one of_body a b s = record {
  frames = s.0 ∷ [];
  front = s.1;
  whole = s.2;
  framed = (s.1, [], sym (append-nil s.1), s.3, refl);
  each = (s.4, tt);
}

-- the same, whatever comes behind
pub skips_more : (of_body : Bool) (a b more : List ℕ) → Skips of_body a b → Skips of_body (a ++ more) (b ++ more)
skips_more of_body a b more s = record {
  frames = s.frames;
  front = s.front;
  whole = ap (λ (z : List ℕ). z ++ more) s.whole ∙ append_assoc s.front b more;
  framed = s.framed;
  each = s.each;
}
