-- What stood in a buffer still stands at its front.
use Rattle.std.specs.Prelude.{◌≡◌, ℕ, List, length, take}

abbrev pub HasGrown : List ℕ → List ℕ → Type 0
HasGrown old new = take (length old) new ≡ old
