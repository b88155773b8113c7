-- Texts by their lines, and numbers in them (own).
use Rattle.std.specs.Prelude.{◌≡◌, ◌⊎◌, ℕ, ◌+◌, ◌*◌, ◌<◌, ◌≤◌, ◌==◌, List, [], ◌∷◌, if◌then◌else◌}

-- the byte in front of the first line
abbrev pub onto_first : ℕ → List (List ℕ) → List (List ℕ)
onto_first b [] = (b ∷ []) ∷ []
onto_first b (l ∷ ls) = (b ∷ l) ∷ ls

-- the lines of a text: each ends with a newline, which the last may lack
abbrev pub lines : List ℕ → List (List ℕ)
lines [] = []
lines (b ∷ bs) = if b == 10 then [] ∷ lines bs else onto_first b (lines bs)

-- the lines make t of s, one after another, where each makes one of another
abbrev pub InTurn : {S : Type 0} → (List ℕ → S → S → Type 0) → List (List ℕ) → S → S → Type 0
InTurn makes [] s t = t ≡ s
InTurn {S} makes (l ∷ ls) s t = (mid : S) × makes l s mid × InTurn makes ls mid t

-- a hexadecimal digit in either case, and what it counts
abbrev pub IsHexDigit : ℕ → ℕ → Type 0
IsHexDigit c v = ((v < 10) × (c ≡ 48 + v)) ⊎ ((10 ≤ v) × (v < 16) × ((c ≡ 55 + v) ⊎ (c ≡ 87 + v)))

-- two digits for each byte
abbrev pub IsHex : List ℕ → List ℕ → Type 0
IsHex [] [] = Unit {0}
IsHex (c ∷ d ∷ cs) (b ∷ bs) = (high low : ℕ) × IsHexDigit c high × IsHexDigit d low × (b ≡ 16 * high + low) × IsHex cs bs
IsHex _ _ = ⊥
