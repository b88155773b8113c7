-- Ids and words that count.
use Rattle.std.specs.Prelude.{ℕ, zero, suc, ◌+◌, ◌-◌, ◌*◌, ◌%◌, ◌^◌, ◌==◌, ◌||◌, Bool, not, List, [], ◌∷◌, ◌++◌, drop, get_or}
use Rattle.std.specs.Int.{w64, to_be_bytes}

-- the last bytes of a mark and a counter of 7 bytes in network order, which begins again with 2^56
unfoldable pub counted_id : (len mark n : ℕ) → List ℕ
counted_id len mark n = drop (8 - len) (to_be_bytes w64 (2 ^ 56 * mark + n % 2 ^ 56))

-- those of the numbers from 0, so many of them
unfoldable pub first_ids : (len mark count : ℕ) → List (List ℕ)
first_ids len mark zero = []
first_ids len mark (suc n) = first_ids len mark n ++ counted_id len mark n ∷ []

-- the numbers from 0, so many of them
unfoldable pub first_words : (count : ℕ) → List ℕ
first_words zero = []
first_words (suc n) = first_words n ++ n ∷ []

-- whether an id is taken: each, or those that begin with the mark
abbrev pub is_taken : (is_strict : Bool) (mark : ℕ) (id : List ℕ) → Bool
is_taken is_strict mark id = not is_strict || (get_or id 0 0 == mark)
