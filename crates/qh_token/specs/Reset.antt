-- Tokens of stateless resets (RFC 9000, section 10.3; the form is own).
use Rattle.std.specs.Prelude.{ℕ, ◌-◌, List, ◌∷◌, ◌++◌, length, drop, replicate}

-- the last 14 bytes, with zeros in front of them where there are fewer
abbrev pub last_14 : (id : List ℕ) → List ℕ
last_14 id = replicate (14 - length id) 0 ++ drop (length id - 14) id

-- 5A, the id's length, and its last 14 bytes with zeros in front of them
abbrev pub reset_token_of : (id : List ℕ) → List ℕ
reset_token_of id = 90 ∷ length id ∷ last_14 id
