-- No frame of HTTP/3 begins another, and bytes have one list of frames.
use Rattle.std.proofs.Common.{◌≡◌, ℕ, List, [], ◌∷◌, ◌++◌, length, refl, sym, ap, ◌∙◌, append-nil, subst}
use Rattle.qh_spec.specs.HttpFrame.{HttpFrame, IsHttpFrame, AreHttpFrames}
use Rattle.qh_spec.specs.Varint.{IsVarint}
use Rattle.qh_spec.proofs.Cuts.{halves, inner, varints_agree, empty_front}
use Rattle.qh_spec.proofs.Varints.{no_empty_varint}

frame_is : (f g : HttpFrame) → f.kind ≡ g.kind → f.payload ≡ g.payload → f ≡ g
frame_is f g a b = ap (λ (z : ℕ × List ℕ). record { kind = z.0; payload = z.1 }) (let p : (f.kind, f.payload) ≡ (g.kind, g.payload) = cc in p)

pub frames_agree : (a x b y : List ℕ) (f g : HttpFrame) → IsHttpFrame a f → IsHttpFrame b g → a ++ x ≡ b ++ y → (f ≡ g) × (x ≡ y)
frames_agree a x b y f g p q e =
    let whole : (p.kind_bytes ++ (p.length_bytes ++ f.payload)) ++ x ≡ (q.kind_bytes ++ (q.length_bytes ++ g.payload)) ++ y
    = ap (λ (z : List ℕ). z ++ x) (sym p.whole) ∙ e ∙ ap (λ (z : List ℕ). z ++ y) q.whole in
    let kinds = varints_agree p.kind_bytes ((p.length_bytes ++ f.payload) ++ x) q.kind_bytes ((q.length_bytes ++ g.payload) ++ y) f.kind g.kind p.kind_is q.kind_is
    (inner p.kind_bytes (p.length_bytes ++ f.payload) x q.kind_bytes (q.length_bytes ++ g.payload) y whole) in
    let counts = varints_agree p.length_bytes (f.payload ++ x) q.length_bytes (g.payload ++ y) (length f.payload) (length g.payload) p.length_is q.length_is
    (inner p.length_bytes f.payload x q.length_bytes g.payload y kinds.1) in
    let cut = halves f.payload x g.payload y counts.0 counts.1 in
    (frame_is f g kinds.0 cut.0, cut.1)

-- no frame's spelling is a proper prefix of another's
pub no_prefix : (a b more : List ℕ) (f g : HttpFrame) → IsHttpFrame a f → IsHttpFrame b g → b ≡ a ++ more → (more ≡ []) × (f ≡ g)
no_prefix a b more f g p q e =
    let r = frames_agree a more b [] f g p q (sym e ∙ sym (append-nil b)) in
    (r.1, r.0)

no_frame_here : (f : HttpFrame) (front rest : List ℕ) → [] ≡ front ++ rest → IsHttpFrame front f → ⊥
no_frame_here f front rest e p =
    let a : front ≡ [] = empty_front front rest e in
    let b : p.kind_bytes ≡ [] = empty_front p.kind_bytes (p.length_bytes ++ f.payload) (sym a ∙ p.whole) in
    no_empty_varint f.kind (subst (λ (z : List ℕ). IsVarint z f.kind) b p.kind_is)

pub frames_are_one : (bytes : List ℕ) (fs gs : List HttpFrame) → AreHttpFrames bytes fs → AreHttpFrames bytes gs → fs ≡ gs
frames_are_one bytes [] [] p q = refl
frames_are_one bytes [] (g ∷ gs) p q = absurd (no_frame_here g q.0 q.1 (sym p ∙ q.2) q.3)
frames_are_one bytes (f ∷ fs) [] p q = absurd (no_frame_here f p.0 p.1 (sym q ∙ p.2) p.3)
frames_are_one bytes (f ∷ fs) (g ∷ gs) p q =
    let r = frames_agree p.0 p.1 q.0 q.1 f g p.3 q.3 (sym p.2 ∙ q.2) in
    let s : fs ≡ gs = frames_are_one p.1 fs gs p.4 (subst (λ (z : List ℕ). AreHttpFrames z gs) (sym r.1) q.4) in
    let h : f ≡ g = r.0 in
    cc
