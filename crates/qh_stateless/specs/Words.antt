-- The words that a source has given, as far as it tells them.
use Rattle.std.specs.Prelude.{◌≡◌, ◌≤◌, ℕ, ◌-◌, ◌^◌, nat_lt, List, [], ◌∷◌, ◌++◌, length, if◌then◌else◌}

-- one word more; past 2^64 - 1 of them, which no source comes to, the later ones aren't told
unfoldable pub and_word : (given : List ℕ) (word : ℕ) → List ℕ
and_word given word = if nat_lt (length given) (2 ^ 64 - 1) then given ++ word ∷ [] else given

-- so many more, in order
abbrev pub and_words : (given words : List ℕ) → List ℕ
and_words given [] = given
and_words given (word ∷ words) = and_words (and_word given word) words

-- at most so many words were drawn, or none, and nothing else happened to the source that it tells of
abbrev pub HasDrawn : (most : ℕ) (old new : List ℕ) → Type 0
HasDrawn most old new = (drawn : List ℕ) × (length drawn ≤ most) × (new ≡ and_words old drawn)
