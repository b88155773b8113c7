-- The ids that a source has given, as far as it tells them.
use Rattle.std.specs.Prelude.{ℕ, ◌-◌, ◌^◌, nat_lt, List, [], ◌∷◌, ◌++◌, length, if◌then◌else◌}

-- one id more; past 2^64 - 1 of them, which no source comes to, the later ones aren't told
unfoldable pub and_id : (given : List (List ℕ)) (id : List ℕ) → List (List ℕ)
and_id given id = if nat_lt (length given) (2 ^ 64 - 1) then given ++ id ∷ [] else given

-- so many more, in order
abbrev pub and_ids : (given ids : List (List ℕ)) → List (List ℕ)
and_ids given [] = given
and_ids given (id ∷ ids) = and_ids (and_id given id) ids
