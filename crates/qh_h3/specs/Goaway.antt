-- Which ids GOAWAY frames name (RFC 9114, section 5.2).
use Rattle.std.specs.Prelude.{ℕ, ◌+◌, ◌*◌, ◌-◌, ◌^◌, min, nat_lt, Bool, true, Option, Some, None}

-- the id behind the next request and so many more
abbrev pub goaway_id : (next requests : ℕ) → ℕ
goaway_id next requests = min (next + 4 * requests) (2 ^ 62 - 4)

-- the ids that an end sends fall
abbrev pub falls : Option ℕ → ℕ → Bool
falls None id = true
falls (Some sent) id = nat_lt id sent
