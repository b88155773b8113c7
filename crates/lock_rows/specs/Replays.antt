-- The history of a tally.
use Rattle.std.specs.Prelude.{ℕ, ◌+◌, ◌==◌, ◌&&◌, Bool, true, List, [], ◌∷◌}
use Rattle.lock_rows.specs.declared.added.Added.{Added}

-- n and the numbers that were added
abbrev pub sum_of : ℕ → List Added → ℕ
sum_of n [] = n
sum_of n (e ∷ es) = sum_of (n + e.number) es

-- each call replied the sum before it
abbrev pub is_legal : ℕ → List Added → Bool
is_legal n [] = true
is_legal n (e ∷ es) = (e.reply == n) && is_legal (n + e.number) es

abbrev pub added : ℕ → ℕ → ℕ → Added
added thread number reply = record { thread = thread; number = number; reply = reply }
