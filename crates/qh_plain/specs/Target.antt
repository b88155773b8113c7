-- The parts of a target that a request may have (own).
use Rattle.std.specs.Prelude.{◌≡◌, ◌⊎◌, ℕ, List, codes, slice_index, Option, Some, None}
use Rattle.http_uri.specs.ByteClasses.{count_of, at_sign, hash_sign, slash}

abbrev pub IsWebScheme : Option (List ℕ) → Type 0
IsWebScheme scheme = (scheme ≡ Some (codes "http")) ⊎ (scheme ≡ Some (codes "https"))

-- it begins with a slash and has no fragment
abbrev pub IsPlainPath : List ℕ → Type 0
IsPlainPath path = (slice_index path 0 ≡ slash) × (count_of hash_sign path ≡ 0)

-- there is an authority, without a user part
abbrev pub HasPlainAuthority : Option (List ℕ) → Type 0
HasPlainAuthority None = ⊥
HasPlainAuthority (Some authority) = count_of at_sign authority ≡ 0
