-- The values of fields are read in one way.
use Rattle.std.proofs.Common.{◌≡◌, ℕ, List, [], ◌∷◌, ◌++◌, length, refl, sym, ap, ◌∙◌, arith, subst}
use Rattle.qh_spec.specs.QuicFrames.{Part, Number, Fixed, Counted, ShortCounted, Left, Ranges, Value, Num, Text, Nums, AreNumbers, IsValue}
use Rattle.qh_spec.proofs.Cuts.{halves}
use Rattle.qh_spec.proofs.FrameLaws.{numbers_agree}

pub all_numbers_agree : (bytes ns ms x y : List ℕ) → length ns ≡ length ms → AreNumbers bytes ns x → AreNumbers bytes ms y → (ns ≡ ms) × (x ≡ y)
all_numbers_agree bytes [] [] x y l p q = (refl, sym p ∙ q)
all_numbers_agree bytes [] (m ∷ ms) x y l p q = absurd (omega arith)
all_numbers_agree bytes (n ∷ ns) [] x y l p q = absurd (omega arith)
all_numbers_agree bytes (n ∷ ns) (m ∷ ms) x y l p q =
    let r = numbers_agree bytes p.0 q.0 n m p.1 q.1 in
    let s = all_numbers_agree q.0 ns ms x y (omega arith) (subst (λ (z : List ℕ). AreNumbers z ns x) r.1 p.2) q.2 in
    let first = r.0 in
    let rest = s.0 in
    (let h : n ≡ m = first in let t : ns ≡ ms = rest in cc, s.1)

pub value_agree : (part : Part) (bytes : List ℕ) (v w : Value) (x y : List ℕ) → IsValue part bytes v x → IsValue part bytes w y → (v ≡ w) × (x ≡ y)
value_agree Number bytes (Num m) (Num n) x y p q = let r = numbers_agree bytes x y m n p q in (ap Num r.0, r.1)
value_agree Number bytes (Num m) (Text u) x y p q = absurd q
value_agree Number bytes (Num m) (Nums ms) x y p q = absurd q
value_agree Number bytes (Text t) w x y p q = absurd p
value_agree Number bytes (Nums ns) w x y p q = absurd p
value_agree (Fixed k) bytes (Text t) (Text u) x y p q = let r = halves t x u y (p.1 ∙ sym q.1) (sym p.0 ∙ q.0) in (ap Text r.0, r.1)
value_agree (Fixed k) bytes (Text t) (Num n) x y p q = absurd q
value_agree (Fixed k) bytes (Text t) (Nums ms) x y p q = absurd q
value_agree (Fixed k) bytes (Num m) w x y p q = absurd p
value_agree (Fixed k) bytes (Nums ns) w x y p q = absurd p
value_agree Counted bytes (Text t) (Text u) x y p q =
    let r = numbers_agree bytes p.0 q.0 (length t) (length u) p.1 q.1 in
    let s = halves t x u y r.0 (sym p.2 ∙ r.1 ∙ q.2) in
    (ap Text s.0, s.1)
value_agree Counted bytes (Text t) (Num n) x y p q = absurd q
value_agree Counted bytes (Text t) (Nums ms) x y p q = absurd q
value_agree Counted bytes (Num m) w x y p q = absurd p
value_agree Counted bytes (Nums ns) w x y p q = absurd p
value_agree ShortCounted bytes (Text t) (Text u) x y p q =
    let both : length t ∷ (t ++ x) ≡ length u ∷ (u ++ y) = sym p.0 ∙ q.0 in
    let len : length t ≡ length u = cc in
    let rest : t ++ x ≡ u ++ y = cc in
    let s = halves t x u y len rest in
    (ap Text s.0, s.1)
value_agree ShortCounted bytes (Text t) (Num n) x y p q = absurd q
value_agree ShortCounted bytes (Text t) (Nums ms) x y p q = absurd q
value_agree ShortCounted bytes (Num m) w x y p q = absurd p
value_agree ShortCounted bytes (Nums ns) w x y p q = absurd p
value_agree Left bytes (Text t) (Text u) x y p q = (ap Text (sym p.0 ∙ q.0), p.1 ∙ sym q.1)
value_agree Left bytes (Text t) (Num n) x y p q = absurd q
value_agree Left bytes (Text t) (Nums ms) x y p q = absurd q
value_agree Left bytes (Num m) w x y p q = absurd p
value_agree Left bytes (Nums ns) w x y p q = absurd p
value_agree Ranges bytes (Nums ns) (Nums ms) x y p q =
    let r = numbers_agree bytes p.1 q.1 p.0 q.0 p.2 q.2 in
    let counts = r.0 in
    let len : length ns ≡ length ms = omega (arith, p.4, q.4, counts) in
    let s = all_numbers_agree q.1 ns ms x y len (subst (λ (z : List ℕ). AreNumbers z ns x) r.1 p.3) q.3 in
    (ap Nums s.0, s.1)
value_agree Ranges bytes (Nums ns) (Num n) x y p q = absurd q
value_agree Ranges bytes (Nums ns) (Text u) x y p q = absurd q
value_agree Ranges bytes (Num m) w x y p q = absurd p
value_agree Ranges bytes (Text t) w x y p q = absurd p
