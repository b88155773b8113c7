-- The bytes of a packet's payload have one list of frames.
use Rattle.std.proofs.Common.{◌≡◌, ℕ, List, [], ◌∷◌, ◌++◌, length, Option, Some, refl, sym, ap, ◌∙◌, arith, subst}
use Rattle.qh_spec.specs.Varint.{IsVarint}
use Rattle.qh_spec.specs.QuicFrames.{Part, Number, Fixed, Counted, ShortCounted, Left, Ranges, Value, Num, Text, Nums, QuicFrame, shape_of, IsNumber, AreNumbers, IsValue, AreValues, IsQuicFrame, AreQuicFrames}
use Rattle.qh_spec.proofs.Cuts.{halves, varints_agree, empty_front}
use Rattle.qh_spec.proofs.Varints.{no_empty_varint}

pub numbers_agree : (bytes x y : List ℕ) (m n : ℕ) → IsNumber bytes m x → IsNumber bytes n y → (m ≡ n) × (x ≡ y)
numbers_agree bytes x y m n p q = varints_agree p.0 x q.0 y m n p.2 q.2 (sym p.1 ∙ q.1)

all_numbers_agree : (bytes ns ms x y : List ℕ) → length ns ≡ length ms → AreNumbers bytes ns x → AreNumbers bytes ms y → (ns ≡ ms) × (x ≡ y)
all_numbers_agree bytes [] [] x y l p q = (refl, sym p ∙ q)
all_numbers_agree bytes [] (m ∷ ms) x y l p q = absurd (omega arith)
all_numbers_agree bytes (n ∷ ns) [] x y l p q = absurd (omega arith)
all_numbers_agree bytes (n ∷ ns) (m ∷ ms) x y l p q =
    let r = numbers_agree bytes p.0 q.0 n m p.1 q.1 in
    let s = all_numbers_agree q.0 ns ms x y (omega arith) (subst (λ (z : List ℕ). AreNumbers z ns x) r.1 p.2) q.2 in
    let first = r.0 in
    let rest = s.0 in
    (let h : n ≡ m = first in let t : ns ≡ ms = rest in cc, s.1)

value_agree : (part : Part) (bytes : List ℕ) (v w : Value) (x y : List ℕ) → IsValue part bytes v x → IsValue part bytes w y → (v ≡ w) × (x ≡ y)
value_agree Number bytes (Num m) (Num n) x y p q = let r = numbers_agree bytes x y m n p q in (ap Num r.0, r.1)
value_agree Number bytes (Num m) (Text u) x y p q = absurd q
value_agree Number bytes (Num m) (Nums ms) x y p q = absurd q
value_agree Number bytes (Text t) w x y p q = absurd p
value_agree Number bytes (Nums ns) w x y p q = absurd p
value_agree (Fixed k) bytes (Text t) (Text u) x y p q = let r = halves t x u y (p.1 ∙ sym q.1) (sym p.0 ∙ q.0) in (ap Text r.0, r.1)
value_agree (Fixed k) bytes (Text t) (Num n) x y p q = absurd q
value_agree (Fixed k) bytes (Text t) (Nums ms) x y p q = absurd q
value_agree (Fixed k) bytes (Num m) w x y p q = absurd p
value_agree (Fixed k) bytes (Nums ns) w x y p q = absurd p
value_agree Counted bytes (Text t) (Text u) x y p q =
    let r = numbers_agree bytes p.0 q.0 (length t) (length u) p.1 q.1 in
    let s = halves t x u y r.0 (sym p.2 ∙ r.1 ∙ q.2) in
    (ap Text s.0, s.1)
value_agree Counted bytes (Text t) (Num n) x y p q = absurd q
value_agree Counted bytes (Text t) (Nums ms) x y p q = absurd q
value_agree Counted bytes (Num m) w x y p q = absurd p
value_agree Counted bytes (Nums ns) w x y p q = absurd p
value_agree ShortCounted bytes (Text t) (Text u) x y p q =
    let both : length t ∷ (t ++ x) ≡ length u ∷ (u ++ y) = sym p.0 ∙ q.0 in
    let len : length t ≡ length u = cc in
    let rest : t ++ x ≡ u ++ y = cc in
    let s = halves t x u y len rest in
    (ap Text s.0, s.1)
value_agree ShortCounted bytes (Text t) (Num n) x y p q = absurd q
value_agree ShortCounted bytes (Text t) (Nums ms) x y p q = absurd q
value_agree ShortCounted bytes (Num m) w x y p q = absurd p
value_agree ShortCounted bytes (Nums ns) w x y p q = absurd p
value_agree Left bytes (Text t) (Text u) x y p q = (ap Text (sym p.0 ∙ q.0), p.1 ∙ sym q.1)
value_agree Left bytes (Text t) (Num n) x y p q = absurd q
value_agree Left bytes (Text t) (Nums ms) x y p q = absurd q
value_agree Left bytes (Num m) w x y p q = absurd p
value_agree Left bytes (Nums ns) w x y p q = absurd p
value_agree Ranges bytes (Nums ns) (Nums ms) x y p q =
    let r = numbers_agree bytes p.1 q.1 p.0 q.0 p.2 q.2 in
    let counts = r.0 in
    let len : length ns ≡ length ms = omega (arith, p.4, q.4, counts) in
    let s = all_numbers_agree q.1 ns ms x y len (subst (λ (z : List ℕ). AreNumbers z ns x) r.1 p.3) q.3 in
    (ap Nums s.0, s.1)
value_agree Ranges bytes (Nums ns) (Num n) x y p q = absurd q
value_agree Ranges bytes (Nums ns) (Text u) x y p q = absurd q
value_agree Ranges bytes (Num m) w x y p q = absurd p
value_agree Ranges bytes (Text t) w x y p q = absurd p

values_agree : (parts : List Part) (bytes : List ℕ) (vs ws : List Value) (x y : List ℕ) → AreValues parts bytes vs x → AreValues parts bytes ws y → (vs ≡ ws) × (x ≡ y)
values_agree [] bytes [] [] x y p q = (refl, sym p ∙ q)
values_agree [] bytes [] (w ∷ ws) x y p q = absurd q
values_agree [] bytes (v ∷ vs) ws x y p q = absurd p
values_agree (part ∷ parts) bytes [] ws x y p q = absurd p
values_agree (part ∷ parts) bytes (v ∷ vs) [] x y p q = absurd q
values_agree (part ∷ parts) bytes (v ∷ vs) (w ∷ ws) x y p q =
    let r = value_agree part bytes v w p.0 q.0 p.1 q.1 in
    let s = values_agree parts q.0 vs ws x y (subst (λ (z : List ℕ). AreValues parts z vs x) r.1 p.2) q.2 in
    (let h : v ≡ w = r.0 in let t : vs ≡ ws = s.0 in cc, s.1)

-- no frame is read in two ways
pub quic_frame_agrees : (bytes : List ℕ) (f g : QuicFrame) (x y : List ℕ) → IsQuicFrame bytes f x → IsQuicFrame bytes g y → (f ≡ g) × (x ≡ y)
quic_frame_agrees bytes f g x y p q =
    let kinds = numbers_agree bytes p.fields q.fields f.kind g.kind p.kind q.kind in
    let shapes : ◌≡◌ {A = Option (List Part)} (Some p.shape) (Some q.shape) = sym p.shaped ∙ ap shape_of kinds.0 ∙ q.shaped in
    let shape : p.shape ≡ q.shape = cc in
    let mine : AreValues q.shape q.fields f.values x = subst (λ (z : List Part). AreValues z q.fields f.values x) shape (subst (λ (z : List ℕ). AreValues p.shape z f.values x) kinds.1 p.values) in
    let r = values_agree q.shape q.fields f.values g.values x y mine q.values in
    let pair : (f.kind, f.values) ≡ (g.kind, g.values) = let k = kinds.0 in let v = r.0 in cc in
    (ap (λ (z : ℕ × List Value). record { kind = z.0; values = z.1 }) pair, r.1)

no_quic_frame_here : (f : QuicFrame) (rest : List ℕ) → IsQuicFrame [] f rest → ⊥
no_quic_frame_here f rest p =
    no_empty_varint f.kind (subst (λ (z : List ℕ). IsVarint z f.kind) (empty_front p.kind.0 p.fields p.kind.1) p.kind.2)

pub quic_frames_agree : (bytes : List ℕ) (fs gs : List QuicFrame) → AreQuicFrames bytes fs → AreQuicFrames bytes gs → fs ≡ gs
quic_frames_agree bytes [] [] p q = refl
quic_frames_agree bytes [] (g ∷ gs) p q = absurd (no_quic_frame_here g q.0 (subst (λ (z : List ℕ). IsQuicFrame z g q.0) p q.1))
quic_frames_agree bytes (f ∷ fs) [] p q = absurd (no_quic_frame_here f p.0 (subst (λ (z : List ℕ). IsQuicFrame z f p.0) q p.1))
quic_frames_agree bytes (f ∷ fs) (g ∷ gs) p q =
    let r = quic_frame_agrees bytes f g p.0 q.0 p.1 q.1 in
    let s : fs ≡ gs = quic_frames_agree q.0 fs gs (subst (λ (z : List ℕ). AreQuicFrames z fs) r.1 p.2) q.2 in
    let h : f ≡ g = r.0 in
    cc
