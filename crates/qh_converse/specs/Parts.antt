-- Which part of what was done with a connection concerns its handshake (RFC 9000, section 12.2).
use Rattle.std.specs.Prelude.{◌≡◌, ℕ, List, [], ◌∷◌, ◌++◌}
use Rattle.qh_spec.specs.Parted.{IsInitialAlone, IsShort}
use Rattle.qh_spec.specs.Transcript.{Act, HandedIn, HandedOut, in_of}

-- Each datagram that was handed in, and of those that were handed out the ones that are one Initial packet. The others that were handed
-- out begin with a short header.
pub data IsShakeOf : (shake whole : List Act) → Type 0 where
  none : IsShakeOf [] []
  came : (shake whole : List Act) (datagram : List ℕ) → IsShakeOf shake whole → IsShakeOf (shake ++ HandedIn datagram ∷ []) (whole ++ HandedIn datagram ∷ [])
  went : (shake whole : List Act) (datagram : List ℕ) → IsInitialAlone datagram → IsShakeOf shake whole
      → IsShakeOf (shake ++ HandedOut datagram ∷ []) (whole ++ HandedOut datagram ∷ [])
  other : (shake whole : List Act) (a : Act) → in_of a ≡ [] → ((datagram : List ℕ) → a ≡ HandedOut datagram → IsShort datagram) → IsShakeOf shake whole
      → IsShakeOf shake (whole ++ a ∷ [])
