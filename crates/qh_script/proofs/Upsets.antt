-- What a text asks of the link.
use Rattle.std.proofs.Common.{◌≡◌, ◌≢◌, ℕ, ◌*◌, ◌<◌, ◌≤◌, List, [], ◌∷◌, ◌++◌, length, codes, decimal, refl, sym, ◌∙◌, subst, arith}
use Rattle.qh_spec.specs.Lines.{IsHex}
use Rattle.qh_spec.specs.declared.sides.Side.{Side}
use Rattle.qh_spec.specs.declared.sides.Side.TheVariants.{Client, Server}
use Rattle.qh_spec.specs.declared.link.Select.{Select}
use Rattle.qh_spec.specs.declared.link.Upset.{Upset}
use Rattle.qh_spec.specs.declared.link.Upset.TheVariants.{Forge}
use Rattle.qh_spec.specs.ScriptLine.{IsSelect, IsUpset, lose, twice, late, fail, forge, side_word}
use Rattle.qh_script.specs.Line.{HasNoSpace, SplitsFirst, SplitsLast, IsNumber, IsNoPositive, AreForged, IsForgeable, HasBytes, IsLate, IsNoLate, IsForge, IsNoForge}
use Rattle.qh_script.proofs.Spaces.{no_space_within, no_space_literal, first_same, last_same}
use Rattle.qh_script.proofs.ScriptWords.{differ}
use Rattle.qh_script.proofs.Decimals.{decimal_no_space, same_number}

-- SEL N
pub no_late : (text : List ℕ) → HasNoSpace text → IsNoLate text
no_late text h which rounds l = no_space_within l.select (decimal rounds) (rw (l.is) at h)

late_same : (text front back : List ℕ) → SplitsLast text front back → (which : Select) (rounds : ℕ) (l : IsLate text which rounds) → (front ≡ l.select) × (back ≡ decimal rounds)
late_same text front back s which rounds l =
    last_same front back l.select (decimal rounds) s.1 (decimal_no_space rounds (omega (arith, l.to))) (sym s.0 ∙ l.is)

pub no_late_select : (text front back : List ℕ) → SplitsLast text front back → ((which : Select) → IsSelect front which → ⊥) → IsNoLate text
no_late_select text front back s n which rounds l =
    let same = late_same text front back s which rounds l in
    n which (rw (same.0) (l.which_is))

pub no_late_rounds : (text front back : List ℕ) → SplitsLast text front back → IsNoPositive back → IsNoLate text
no_late_rounds text front back s n which rounds l = n rounds ((late_same text front back s which rounds l).1, omega (arith, l.to)) l.from (omega (arith, l.to))

pub no_late_many : (text front back : List ℕ) (n : ℕ) → SplitsLast text front back → IsNumber back n → 1000 < n → IsNoLate text
no_late_many text front back n s is many which rounds l =
    let same = late_same text front back s which rounds l in
    omega (arith, l.to, same_number n rounds is.1 (omega (arith, l.to)) (sym is.0 ∙ same.1))

-- ROUND SIDE HEX
side_no_space : (side : Side) → HasNoSpace (side_word side)
side_no_space Client = no_space_literal (codes "client") refl
side_no_space Server = no_space_literal (codes "server") refl

pub no_forge : (text : List ℕ) → HasNoSpace text → IsNoForge text
no_forge text h round side hex f = no_space_within (decimal round) (side_word side ++ (32 ∷ hex)) (rw (f.is) at h)

forge_front : (text front behind : List ℕ) → SplitsFirst text front behind → (round : ℕ) (side : Side) (hex : List ℕ) → IsForge text round side hex
    → (front ≡ decimal round) × (behind ≡ side_word side ++ (32 ∷ hex))
forge_front text front behind s round side hex f =
    first_same front behind (decimal round) (side_word side ++ (32 ∷ hex)) s.1 (decimal_no_space round (omega (arith, f.to))) (sym s.0 ∙ f.is)

pub no_forge_alone : (text front behind : List ℕ) → SplitsFirst text front behind → HasNoSpace behind → IsNoForge text
no_forge_alone text front behind s h round side hex f =
    let same = forge_front text front behind s round side hex f in
    no_space_within (side_word side) hex (rw (same.1) at h)

pub no_forge_round : (text front behind : List ℕ) → SplitsFirst text front behind → IsNoPositive front → IsNoForge text
no_forge_round text front behind s n round side hex f = n round ((forge_front text front behind s round side hex f).0, omega (arith, f.to)) f.from f.to

pub no_forge_side : (text front behind word rest : List ℕ) → SplitsFirst text front behind → SplitsFirst behind word rest → ((side : Side) → word ≢ side_word side) → IsNoForge text
no_forge_side text front behind word rest s t n round side hex f =
    let same = forge_front text front behind s round side hex f in
    n side (first_same word rest (side_word side) hex t.1 (side_no_space side) (sym t.0 ∙ same.1)).0

forge_same : (text : List ℕ) (round : ℕ) (side : Side) (hex : List ℕ) (round' : ℕ) (side' : Side) (hex' : List ℕ) → IsForge text round side hex → IsForge text round' side' hex' → hex ≡ hex'
forge_same text round side hex round' side' hex' f f' =
    let rest = first_same (decimal round) (side_word side ++ (32 ∷ hex)) (decimal round') (side_word side' ++ (32 ∷ hex')) (decimal_no_space round (omega (arith, f.to))) (decimal_no_space round' (omega (arith, f'.to))) (sym f.is ∙ f'.is) in
    (first_same (side_word side) hex (side_word side') hex' (side_no_space side) (side_no_space side') rest.1).1

record IsForged (text : List ℕ) (u : Upset) : Type 0 where
  round : ℕ
  side : Side
  hex : List ℕ
  bytes : List ℕ
  is : IsForge text round side hex
  are : AreForged hex bytes

forged : (text : List ℕ) (u : Upset) → IsUpset (codes "forge") text u → IsForged text u
forged text _ (lose which w s) = absurd (differ (codes "forge") (codes "drop") refl w)
forged text _ (twice which w s) = absurd (differ (codes "forge") (codes "twice") refl w)
forged text _ (late select which n w t s l m) = absurd (differ (codes "forge") (codes "late") refl w)
forged text _ (fail k w t l m) = absurd (differ (codes "forge") (codes "fail") refl w)
forged text _ (forge round side hex bytes w t l m h a b) =
    record { round = round; side = side; hex = hex; bytes = bytes; is = record { is = t; from = l; to = m }; are = record { is = h; from = a; to = b } }

hex_length : (hex bytes : List ℕ) → IsHex hex bytes → length hex ≡ 2 * length bytes
hex_length [] [] h = refl
hex_length [] (b ∷ bs) h = absurd h
hex_length (c ∷ []) bytes h = absurd h
hex_length (c ∷ d ∷ cs) [] h = absurd h
hex_length (c ∷ d ∷ cs) (b ∷ bs) h = omega (arith, hex_length cs bs h.5)

pub no_forged : (text : List ℕ) → IsNoForge text → (u : Upset) → IsUpset (codes "forge") text u → ⊥
no_forged text never u is = let g = forged text u is in never g.round g.side g.hex g.is

pub no_forge_hex : (text : List ℕ) (round : ℕ) (side : Side) (hex : List ℕ) → IsForge text round side hex → (IsForgeable hex → ⊥)
    → (u : Upset) → IsUpset (codes "forge") text u → ⊥
no_forge_hex text round side hex f never u is =
    let g = forged text u is in
    never (g.bytes, subst (λ (h : List ℕ). AreForged h g.bytes) (sym (forge_same text round side hex g.round g.side g.hex f g.is)) g.are)

pub forge_only : (text : List ℕ) (round : ℕ) (side : Side) (hex : List ℕ) → IsForge text round side hex → (u : Upset)
    → (bytes : List ℕ) × AreForged hex bytes × (u ≡ Forge round side bytes) → IsUpset (codes "forge") text u
forge_only text round side hex f u (bytes, a, e) = rw e (forge round side hex bytes refl f.is f.from f.to a.is a.from a.to)

-- how long the text of so many bytes is
pub not_forgeable_empty : (hex : List ℕ) → length hex ≡ 0 → IsForgeable hex → ⊥
not_forgeable_empty hex e (bytes, a) = let from = a.from in omega (arith, hex_length hex bytes a.is)

pub not_forgeable_long : (hex : List ℕ) → 4096 < length hex → IsForgeable hex → ⊥
not_forgeable_long hex l (bytes, a) = let to = a.to in omega (arith, hex_length hex bytes a.is)

pub forgeable : (hex : List ℕ) → 0 < length hex → length hex ≤ 4096 → HasBytes hex → IsForgeable hex
forgeable hex some few (bytes, h) =
    let len = hex_length hex bytes h in
    (bytes, record { is = h; from = omega arith; to = omega arith })

pub has_bytes : (hex : List ℕ) → IsForgeable hex → HasBytes hex
has_bytes hex (bytes, a) = (bytes, a.is)

-- the same of the bytes that were read
pub same_forged : (hex bytes read : List ℕ) → AreForged hex bytes → IsHex hex read → AreForged hex read
same_forged hex bytes read a is =
    let from = a.from in
    let to = a.to in
    let len : length read ≡ length bytes = omega (arith, hex_length hex bytes a.is, hex_length hex read is) in
    record { is = is; from = omega arith; to = omega arith }

pub no_late_upset : (text : List ℕ) → IsNoLate text → (u : Upset) → IsUpset (codes "late") text u → ⊥
no_late_upset text h _ (lose which w s) = differ (codes "late") (codes "drop") refl w
no_late_upset text h _ (twice which w s) = differ (codes "late") (codes "twice") refl w
no_late_upset text h _ (late select which n w t s l m) = h which n (record { select = select; is = t; which_is = s; from = l; to = m })
no_late_upset text h _ (fail k w t l m) = differ (codes "late") (codes "fail") refl w
no_late_upset text h _ (forge round side hex bytes w t l m i a b) = differ (codes "late") (codes "forge") refl w

pub no_lose_upset : (text : List ℕ) → ((which : Select) → IsSelect text which → ⊥) → (u : Upset) → IsUpset (codes "drop") text u → ⊥
no_lose_upset text h _ (lose which w s) = h which s
no_lose_upset text h _ (twice which w s) = differ (codes "drop") (codes "twice") refl w
no_lose_upset text h _ (late select which n w t s l m) = differ (codes "drop") (codes "late") refl w
no_lose_upset text h _ (fail k w t l m) = differ (codes "drop") (codes "fail") refl w
no_lose_upset text h _ (forge round side hex bytes w t l m i a b) = differ (codes "drop") (codes "forge") refl w

pub no_twice_upset : (text : List ℕ) → ((which : Select) → IsSelect text which → ⊥) → (u : Upset) → IsUpset (codes "twice") text u → ⊥
no_twice_upset text h _ (lose which w s) = differ (codes "twice") (codes "drop") refl w
no_twice_upset text h _ (twice which w s) = h which s
no_twice_upset text h _ (late select which n w t s l m) = differ (codes "twice") (codes "late") refl w
no_twice_upset text h _ (fail k w t l m) = differ (codes "twice") (codes "fail") refl w
no_twice_upset text h _ (forge round side hex bytes w t l m i a b) = differ (codes "twice") (codes "forge") refl w

pub no_fail_upset : (text : List ℕ) → IsNoPositive text → (u : Upset) → IsUpset (codes "fail") text u → ⊥
no_fail_upset text h _ (lose which w s) = differ (codes "fail") (codes "drop") refl w
no_fail_upset text h _ (twice which w s) = differ (codes "fail") (codes "twice") refl w
no_fail_upset text h _ (late select which n w t s l m) = differ (codes "fail") (codes "late") refl w
no_fail_upset text h _ (fail k w t l m) = h k (t, omega arith) l m
no_fail_upset text h _ (forge round side hex bytes w t l m i a b) = differ (codes "fail") (codes "forge") refl w
