-- 1-RTT packets (the short header of RFC 9000, section 17.3.1, with neither header protection nor key phase, and the
-- tag of Tag in the place of a cipher's). Such a packet fills its datagram.
use Rattle.std.specs.Prelude.{◌≡◌, ℕ, ◌+◌, ◌*◌, ◌<◌, ◌≤◌, List, ◌∷◌, ◌++◌, length, fold}

-- the number that bytes are in network order
abbrev pub be_value : List ℕ → ℕ
be_value bytes = fold (λ n b. 256 * n + b) 0 bytes

pub record ShortPacket : Type 0 where
  -- the connection id of the end that it goes to
  pub destination : List ℕ
  -- the low bytes of the packet number
  pub number : List ℕ
  pub frames : List ℕ
  pub tag : List ℕ

-- the lengths that a packet's parts have, at an end whose connection ids have this length
pub record IsShortPacket (id_length : ℕ) (p : ShortPacket) : Type 0 where
  pub destination : length p.destination ≡ id_length
  pub some_number : 0 < length p.number
  pub short_number : length p.number ≤ 4
  pub tag : length p.tag ≡ 32

-- 40 plus the length of the number less 1, the id, the number, the frames, the tag
abbrev pub short_packet : ShortPacket → List ℕ
short_packet p = (63 + length p.number) ∷ (p.destination ++ (p.number ++ (p.frames ++ p.tag)))
