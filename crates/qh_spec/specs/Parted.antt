-- Which part of what was done with a connection concerns its 1-RTT packets (own; RFC 9000, section 12.2).
use Rattle.std.specs.Prelude.{◌≡◌, ℕ, ◌<◌, List, [], ◌∷◌, ◌++◌, length, get_or}
use Rattle.qh_spec.specs.Datagram.{IsInitialForm}
use Rattle.qh_spec.specs.Lists.{In}
use Rattle.qh_spec.specs.Transcript.{Act, HandedIn, HandedOut, in_of, handed_in, handed_out}

-- the datagram is Initial packets, by their lengths, and then this rest
pub data EndsWith (rest : List ℕ) : (datagram : List ℕ) → Type 0 where
  here : (datagram : List ℕ) → datagram ≡ rest → EndsWith rest datagram
  behind : (front more datagram : List ℕ) (first : ℕ) (body : List ℕ) → datagram ≡ front ++ more → IsInitialForm front first body
      → EndsWith rest more → EndsWith rest datagram

-- the datagram is one Initial packet
pub record IsInitialAlone (datagram : List ℕ) : Type 0 where
  pub first : ℕ
  pub body : List ℕ
  pub is : IsInitialForm datagram first body

-- it begins as a packet with a short header does (RFC 9000, section 17.3)
abbrev pub IsShort : List ℕ → Type 0
IsShort bytes = (0 < length bytes) × (get_or bytes 0 0 < 128)

-- The part of what was done that concerns 1-RTT packets: each act but datagrams of one Initial packet that were handed out, and of a
-- datagram that was handed in what stands behind its Initial packets, or nothing.
pub data IsPartOf : (part whole : List Act) → Type 0 where
  none : IsPartOf [] []
  same : (part whole : List Act) (a : Act) → in_of a ≡ [] → IsPartOf part whole → IsPartOf (part ++ a ∷ []) (whole ++ a ∷ [])
  rest : (part whole : List Act) (tail datagram : List ℕ) → EndsWith tail datagram → IsShort tail → IsPartOf part whole
      → IsPartOf (part ++ HandedIn tail ∷ []) (whole ++ HandedIn datagram ∷ [])
  unheard : (part whole : List Act) (datagram : List ℕ) → IsPartOf part whole → IsPartOf part (whole ++ HandedIn datagram ∷ [])
  initial : (part whole : List Act) (datagram : List ℕ) → IsInitialAlone datagram → IsPartOf part whole
      → IsPartOf part (whole ++ HandedOut datagram ∷ [])

-- each datagram that was handed in at one end was one of those that were handed out at the other
abbrev pub CameFrom : (own peer : List Act) → Type 0
CameFrom own peer = (d : List ℕ) → In d (handed_in own) → In d (handed_out peer)

-- each datagram that was handed out begins with a short header
abbrev pub AreShort : List Act → Type 0
AreShort t = (d : List ℕ) → In d (handed_out t) → IsShort d

-- where the whole handed out this datagram, so did the part, and what the part did before is the part of what was done before
pub record IsSplit (part before : List Act) (datagram : List ℕ) : Type 0 where
  pub front : List Act
  pub back : List Act
  pub is : part ≡ front ++ HandedOut datagram ∷ back
  pub so_far : IsPartOf front before
