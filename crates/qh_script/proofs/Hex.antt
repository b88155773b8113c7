-- Bytes that are written in hexadecimal.
use Rattle.std.proofs.Common.{◌≡◌, ℕ, ◌-◌, ◌<◌, ◌≤◌, List, [], ◌∷◌, ◌++◌, length, take, drop, get_or, refl, sym, ap, ◌∙◌, arith, append_assoc, append-nil}
use Rattle.qh_spec.specs.Lines.{IsHex, IsHexDigit}
use Rattle.qh_script.specs.Line.{IsHexPair, IsNoHexPair}
use Rattle.std.proofs.lemmas.List.{take_all}

-- the text is two digits for each byte, and then the rest
pub record IsHexTo (text rest bytes : List ℕ) : Type 0 where
  pub front : List ℕ
  pub is : text ≡ front ++ rest
  pub hex : IsHex front bytes

pub hex_start : (text : List ℕ) → IsHexTo text text []
hex_start text = record { front = []; is = refl; hex = tt }

hex_append : (front front' bytes bytes' : List ℕ) → IsHex front bytes → IsHex front' bytes' → IsHex (front ++ front') (bytes ++ bytes')
hex_append [] front' [] bytes' h h' = h'
hex_append [] front' (b ∷ bs) bytes' h h' = absurd h
hex_append (c ∷ []) front' bytes bytes' h h' = absurd h
hex_append (c ∷ d ∷ cs) front' [] bytes' h h' = absurd h
hex_append (c ∷ d ∷ cs) front' (b ∷ bs) bytes' h h' = (h.0, h.1, h.2, h.3, h.4, hex_append cs front' bs bytes' h.5 h')

-- what is left of the bytes
hex_behind : (front rest bytes all : List ℕ) → IsHex front bytes → IsHex (front ++ rest) all → (left : List ℕ) × IsHex rest left
hex_behind [] rest [] all h h' = (all, h')
hex_behind [] rest (b ∷ bs) all h h' = absurd h
hex_behind (c ∷ []) rest bytes all h h' = absurd h
hex_behind (c ∷ d ∷ cs) rest [] all h h' = absurd h
hex_behind (c ∷ d ∷ cs) rest (b ∷ bs) [] h h' = absurd h'
hex_behind (c ∷ d ∷ cs) rest (b ∷ bs) (a ∷ as') h h' = hex_behind cs rest bs as' h.5 h'.5

hex_pair : (rest left : List ℕ) → 0 < length rest → IsHex rest left → (b : ℕ) × IsHexPair rest b
hex_pair [] left l h = absurd (omega arith)
hex_pair (c ∷ []) left l h = absurd h
hex_pair (c ∷ d ∷ cs) [] l h = absurd h
hex_pair (c ∷ d ∷ cs) (b ∷ bs) l h =
    (b, record { first = c; second = d; behind = cs; high = h.0; low = h.1; is = refl; high_is = h.2; low_is = h.3; byte_is = h.4 })

pub no_hex : (text rest bytes : List ℕ) → 0 < length rest → IsHexTo text rest bytes → IsNoHexPair rest → (all : List ℕ) → IsHex text all → ⊥
no_hex text rest bytes l to n all h =
    let left = hex_behind to.front rest bytes all to.hex (rw (to.is) at h) in
    let p = hex_pair rest left.0 l left.1 in
    n p.0 p.1

pub hex_more : (text rest bytes : List ℕ) (byte : ℕ) → IsHexTo text rest bytes → IsHexPair rest byte → IsHexTo text (take (length rest - 2) (drop 2 rest)) (bytes ++ (byte ∷ []))
hex_more text rest bytes byte to p =
    let two : IsHex (p.first ∷ p.second ∷ []) (byte ∷ []) = (p.high, p.low, p.high_is, p.low_is, p.byte_is, tt) in
    let tail : drop 2 rest ≡ p.behind = ap (drop 2) p.is in
    let whole : take (length rest - 2) (drop 2 rest) ≡ p.behind = ap (take (length rest - 2)) tail ∙ take_all (length rest - 2) p.behind (omega (arith, ap length p.is)) in
    record {
      front = to.front ++ (p.first ∷ p.second ∷ []);
      is = to.is ∙ ap (λ xs. to.front ++ xs) p.is ∙ (sym (append_assoc to.front (p.first ∷ p.second ∷ []) p.behind) ∙ ap (λ xs. (to.front ++ (p.first ∷ p.second ∷ [])) ++ xs) (sym whole));
      hex = hex_append to.front (p.first ∷ p.second ∷ []) bytes (byte ∷ []) to.hex two;
    }

pub hex_end : (text rest bytes : List ℕ) → length rest ≡ 0 → IsHexTo text rest bytes → IsHex text bytes
hex_end text [] bytes e to = let is : text ≡ to.front = to.is ∙ append-nil to.front in rw is to.hex
hex_end text (b ∷ bs) bytes e to = absurd (omega arith)

pub pair_length : (text : List ℕ) (byte : ℕ) → IsHexPair text byte → 2 ≤ length text
pair_length text byte p = omega (arith, ap length p.is)

pub no_pair_high : (text : List ℕ) → ((v : ℕ) → IsHexDigit (get_or text 0 0) v → ⊥) → IsNoHexPair text
no_pair_high text n byte p = n p.high (rw (p.is) (p.high_is))

pub no_pair_low : (text : List ℕ) → ((v : ℕ) → IsHexDigit (get_or text 1 0) v → ⊥) → IsNoHexPair text
no_pair_low text n byte p = n p.low (rw (p.is) (p.low_is))
