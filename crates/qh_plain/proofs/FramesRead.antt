-- Frames that are read one after another.
use Rattle.std.proofs.Common.{◌≡◌, ℕ, ◌<◌, ◌==◌, false, List, [], ◌∷◌, ◌++◌, length, take, drop, refl, sym, ap, ◌∙◌, arith, Option, Some, None, subst, append_assoc, append-nil, length-append}
use Rattle.std.proofs.lemmas.List.{take-append-drop, drop_at}
use Rattle.qh_base.specs.Varint.{varint_at}
use Rattle.qh_base.proofs.Varints.{IsBytes, read_spelled, spelled_read}
use Rattle.qh_spec.specs.HttpFrame.{HttpFrame, IsHttpFrame, AreHttpFrames}
use Rattle.qh_spec.specs.Varint.{IsVarint}
use Rattle.qh_spec.proofs.Varints.{no_empty_varint}
use Rattle.qh_plain.specs.Frames.{number_at, frame_at}
use Rattle.qh_plain.specs.Sections.{counted}
use Rattle.qh_plain.proofs.SectionAgain.{counted_again}
use Rattle.qh_plain.proofs.SectionTakes.{Front, bind_some, pair_is, counted_takes, rest_bytes, join_fronts}

-- what is spelled as a number is read as it
number_again : (a rest : List ℕ) (n : ℕ) → IsVarint a n → number_at (a ++ rest) ≡ Some (n, rest)
number_again a rest n p =
    let e : varint_at (a ++ rest) ≡ Some (n, length a) = spelled_read a rest n p in
    rw e (ap (λ (z : List ℕ). Some (n, z)) (drop_at a rest (length a) refl))

-- what is read as a number is spelled so
number_takes : (bytes rest : List ℕ) (n : ℕ) → IsBytes bytes → number_at bytes ≡ Some (n, rest) → Front (λ a. IsVarint a n) bytes rest
number_takes bytes rest n are h =
    let step = bind_some (varint_at bytes) _ (n, rest) h in
    let p = pair_is step.0.0 n (drop step.0.1 bytes) rest step.2 in
    let r = read_spelled bytes step.0 are step.1 in
    record {
      front = take step.0.1 bytes;
      whole = sym (take-append-drop step.0.1 bytes) ∙ ap (λ (z : List ℕ). take step.0.1 bytes ++ z) p.1;
      is = subst (IsVarint (take step.0.1 bytes)) p.0 r.spelled;
      rest_are = subst IsBytes p.1 (rest_bytes step.0.1 bytes are);
    }

-- what is spelled as a frame is read as it
frame_again : (a rest : List ℕ) (f : HttpFrame) → IsHttpFrame a f → frame_at (a ++ rest) ≡ Some (f, rest)
frame_again a rest f p =
    let whole : a ++ rest ≡ p.kind_bytes ++ (p.length_bytes ++ (f.payload ++ rest)) =
    ap (λ (z : List ℕ). z ++ rest) p.whole ∙ append_assoc p.kind_bytes (p.length_bytes ++ f.payload) rest
    ∙ ap (λ (z : List ℕ). p.kind_bytes ++ z) (append_assoc p.length_bytes f.payload rest) in
    let kind : number_at (p.kind_bytes ++ (p.length_bytes ++ (f.payload ++ rest))) ≡ Some (f.kind, p.length_bytes ++ (f.payload ++ rest)) =
    number_again p.kind_bytes (p.length_bytes ++ (f.payload ++ rest)) f.kind p.kind_is in
    let count : number_at (p.length_bytes ++ (f.payload ++ rest)) ≡ Some (length f.payload, f.payload ++ rest) =
    number_again p.length_bytes (f.payload ++ rest) (length f.payload) p.length_is in
    let payload : counted (length f.payload) (f.payload ++ rest) ≡ Some (f.payload, rest) = counted_again f.payload rest in
    ap frame_at whole ∙ rw (kind, count, payload) refl

frame_is : (kind : ℕ) (a b payload : List ℕ) (n : ℕ) → IsVarint a kind → IsVarint b n → n ≡ length payload → IsHttpFrame (a ++ (b ++ payload)) (record { kind = kind; payload = payload })
frame_is kind a b payload n k l e = record { kind_bytes = a; length_bytes = b; whole = refl; kind_is = k; length_is = subst (IsVarint b) e l }

-- what is read as a frame is spelled so
frame_takes : (bytes rest : List ℕ) (f : HttpFrame) → IsBytes bytes → frame_at bytes ≡ Some (f, rest) → Front (λ a. IsHttpFrame a f) bytes rest
frame_takes bytes rest f are h =
    let kind = bind_some (number_at bytes) _ (f, rest) h in
    let a = number_takes bytes kind.0.1 kind.0.0 are kind.1 in
    let count = bind_some (number_at kind.0.1) _ (f, rest) kind.2 in
    let b = number_takes kind.0.1 count.0.1 count.0.0 a.rest_are count.1 in
    let payload = bind_some (counted count.0.0 count.0.1) _ (f, rest) count.2 in
    let c = counted_takes count.0.0 count.0.1 payload.0.0 payload.0.1 b.rest_are payload.1 in
    let p = pair_is (record { kind = kind.0.0; payload = payload.0.0 }) f payload.0.1 rest payload.2 in
    record {
      front = a.front ++ (b.front ++ payload.0.0);
      whole = join_fronts bytes kind.0.1 rest a.front (b.front ++ payload.0.0) a.whole
          (join_fronts kind.0.1 count.0.1 rest b.front payload.0.0 b.whole (c.0 ∙ ap (λ (z : List ℕ). payload.0.0 ++ z) p.1));
      is = subst (IsHttpFrame (a.front ++ (b.front ++ payload.0.0))) p.0 (frame_is kind.0.0 a.front b.front payload.0.0 count.0.0 a.is b.is c.1);
      rest_are = subst IsBytes p.1 c.2;
    }

some_front : (a : List ℕ) (n : ℕ) → IsVarint a n → 0 < length a
some_front [] n p = absurd (no_empty_varint n p)
some_front (x ∷ a) n p = omega arith

-- a frame isn't empty
frame_some : (a : List ℕ) (f : HttpFrame) → IsHttpFrame a f → 0 < length a
frame_some a f p =
    let e = ap length p.whole in
    let some = some_front p.kind_bytes f.kind p.kind_is in
    omega (arith, length-append p.kind_bytes (p.length_bytes ++ f.payload))

-- The frames in front of the rest are these, and any frames of the bytes begin with them.
pub record FramesRead (bytes rest : List ℕ) (fs : List HttpFrame) : Type 0 where
  pub front : List ℕ
  pub whole : bytes ≡ front ++ rest
  pub rest_are : IsBytes rest
  pub are : AreHttpFrames front fs
  pub only : (others : List HttpFrame) → AreHttpFrames bytes others → (later : List HttpFrame) × AreHttpFrames rest later

pub none_read : (bytes : List ℕ) → IsBytes bytes → FramesRead bytes bytes []
none_read bytes all = record { front = []; whole = refl; rest_are = all; are = refl; only = λ others l. (others, l) }

frames_more : (a l : List ℕ) (fs : List HttpFrame) (f : HttpFrame) → AreHttpFrames a fs → IsHttpFrame l f → AreHttpFrames (a ++ l) (fs ++ f ∷ [])
frames_more a l [] f e is = (l, [], ap (λ (z : List ℕ). z ++ l) e ∙ sym (append-nil l), is, refl)
frames_more a l (g ∷ fs) f p is = (p.0, p.1 ++ l, ap (λ (z : List ℕ). z ++ l) p.2 ∙ append_assoc p.0 p.1 l, p.3, frames_more p.1 l fs f p.4 is)

-- any frames of the same bytes begin with the same frame
same_frame : (rest after : List ℕ) (f : HttpFrame) (others : List HttpFrame) → 0 < length rest → frame_at rest ≡ Some (f, after) → AreHttpFrames rest others → (later : List HttpFrame) × AreHttpFrames after later
same_frame rest after f [] some e l = let z = ap length l in absurd (omega arith)
same_frame rest after f (g ∷ others) some e l =
    let again : frame_at rest ≡ Some (g, l.1) = ap frame_at l.2 ∙ frame_again l.0 l.1 g l.3 in
    let both : ◌≡◌ {A = Option (HttpFrame × List ℕ)} (Some (g, l.1)) (Some (f, after)) = sym again ∙ e in
    let left : l.1 ≡ after = (pair_is g f l.1 after both).1 in
    (others, subst (λ (z : List ℕ). AreHttpFrames z others) left l.4)

pub one_read : (bytes rest after : List ℕ) (fs : List HttpFrame) (f : HttpFrame) → 0 < length rest → frame_at rest ≡ Some (f, after) → FramesRead bytes rest fs → FramesRead bytes after (fs ++ f ∷ [])
one_read bytes rest after fs f some e r =
    let l = frame_takes rest after f r.rest_are e in
    record {
      front = r.front ++ l.front;
      whole = r.whole ∙ ap (λ (z : List ℕ). r.front ++ z) l.whole ∙ sym (append_assoc r.front l.front after);
      rest_are = l.rest_are;
      are = frames_more r.front l.front fs f r.are l.is;
      only = λ others ls. let o = r.only others ls in same_frame rest after f o.0 some e o.1;
    }

pub shorter : (rest after : List ℕ) (f : HttpFrame) → IsBytes rest → frame_at rest ≡ Some (f, after) → length after < length rest
shorter rest after f are e =
    let l = frame_takes rest after f are e in
    let some = frame_some l.front f l.is in
    let sizes = ap length l.whole in
    omega (arith, length-append l.front after)

none_frame : (rest : List ℕ) (others : List HttpFrame) → 0 < length rest → frame_at rest ≡ None → AreHttpFrames rest others → ⊥
none_frame rest [] some e l = let z = ap length l in absurd (omega arith)
none_frame rest (g ∷ others) some e l =
    let again : frame_at rest ≡ Some (g, l.1) = ap frame_at l.2 ∙ frame_again l.0 l.1 g l.3 in
    let both : ◌≡◌ {A = Option (HttpFrame × List ℕ)} (Some (g, l.1)) None = sym again ∙ e in
    cc

pub no_frames : (bytes rest : List ℕ) (fs : List HttpFrame) → 0 < length rest → frame_at rest ≡ None → FramesRead bytes rest fs → (others : List HttpFrame) → AreHttpFrames bytes others → ⊥
no_frames bytes rest fs some e r others l = let o = r.only others l in none_frame rest o.0 some e o.1

pub some_of : (xs : List ℕ) → (length xs == 0) ≡ false → 0 < length xs
some_of [] e = cc
some_of (x ∷ xs) e = omega arith
