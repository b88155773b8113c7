-- What the words of the program ask for (own). Numbers are decimal, without a sign and without a leading zero but for 0.
use Rattle.std.specs.Prelude.{◌≡◌, ℕ, ◌≤◌, ◌<◌, ◌^◌, List, [], ◌∷◌, codes, decimal}

pub data Command : Type 0 where
  -- run the script that is read
  Exchange : Command
  -- run so many requests that are made from a seed
  Make : (count seed : ℕ) → Command
  -- run the script that is read with so many threads
  Workers : (count : ℕ) → Command
  -- run the commands that are read on a token log
  Tokens : Command

pub data IsCommand (words : List (List ℕ)) : Command → Type 0 where
  exchange : words ≡ codes "exchange" ∷ [] → IsCommand words Exchange
  make : (count seed : ℕ) → words ≡ codes "make" ∷ decimal count ∷ decimal seed ∷ [] → 1 ≤ count → count ≤ 10000 → seed < 2 ^ 32
      → IsCommand words (Make count seed)
  workers : (count : ℕ) → words ≡ codes "workers" ∷ decimal count ∷ [] → 1 ≤ count → count ≤ 64 → IsCommand words (Workers count)
  tokens : words ≡ codes "tokens" ∷ [] → IsCommand words Tokens

-- the words ask for nothing
abbrev pub AreUnknown : List (List ℕ) → Type 0
AreUnknown words = (c : Command) → IsCommand words c → ⊥
