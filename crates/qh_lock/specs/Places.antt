-- Histories, and places in them: the first entry has place 0.
use Rattle.std.specs.Prelude.{◌≡◌, ℕ, suc, ◌+◌, ◌<◌, ◌==◌, if◌then◌else◌, ltb, List, [], ◌∷◌, ◌++◌, length, drop}

-- what f gives of each item, added up
abbrev pub total : {A : Type 0} → (A → ℕ) → List A → ℕ
total f [] = 0
total f (x ∷ xs) = f x + total f xs

abbrev pub one_if : ℕ → ℕ → ℕ
one_if x n = if x == n then 1 else 0

-- how often n is in the list
abbrev pub times : ℕ → List ℕ → ℕ
times n [] = 0
times n (x ∷ xs) = one_if x n + times n xs

-- once below k, and not at all from there on
abbrev pub once_below : ℕ → ℕ → ℕ
once_below n k = if ltb n k then 1 else 0

-- each number is less than k
abbrev pub AreBelow : ℕ → List ℕ → Type 0
AreBelow k [] = Unit {0}
AreBelow k (x ∷ xs) = (x < k) × AreBelow k xs

abbrev pub AreAbove : ℕ → List ℕ → Type 0
AreAbove x [] = Unit {0}
AreAbove x (y ∷ ys) = (x < y) × AreAbove x ys

-- each number is greater than those before it
abbrev pub IsAscending : List ℕ → Type 0
IsAscending [] = Unit {0}
IsAscending (x ∷ xs) = AreAbove x xs × IsAscending xs

module _ {E : Type 0} where
  -- the places of these entries, of which the first has place k
  abbrev pub places : ℕ → List E → List ℕ
  places k [] = []
  places k (x ∷ xs) = k ∷ places (suc k) xs

  -- the places of the entries of a history that come after those seen
  abbrev pub new_places : List E → List E → List ℕ
  new_places seen history = places (length seen) (drop (length seen) history)

  -- what was seen is a prefix of the history
  abbrev pub StartsWith : List E → List E → Type 0
  StartsWith history seen = (rest : List E) × (history ≡ seen ++ rest)

  abbrev pub longer : List E → List E → List E
  longer xs ys = if ltb (length xs) (length ys) then ys else xs

  abbrev pub shorter : List E → List E → List E
  shorter xs ys = if ltb (length xs) (length ys) then xs else ys
