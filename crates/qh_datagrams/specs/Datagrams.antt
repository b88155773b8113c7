-- Payloads of DATAGRAM frames that wait (RFC 9221, section 5).
use Rattle.std.specs.Prelude.{ℕ, ◌+◌, nat_le, Bool, List, [], ◌∷◌, length, if◌then◌else◌}
use Rattle.std.specs.List.{sum_by}

-- those that came and weren't read, and those that are to be sent, the oldest first; and whether one was refused for want of room since a
-- queued one left
pub record PlainDatagrams : Type 0 where
  pub incoming : List (List ℕ)
  pub outgoing : List (List ℕ)
  pub is_send_blocked : Bool

-- how many bytes payloads have together
abbrev pub bytes_of : List (List ℕ) → ℕ
bytes_of payloads = sum_by (λ (payload : List ℕ). length payload) payloads

-- the payloads without as few of the oldest as must go so that the others have at most so many bytes
abbrev pub newest : (most : ℕ) → List (List ℕ) → List (List ℕ)
newest most [] = []
newest most (payload ∷ payloads) = if nat_le (bytes_of (payload ∷ payloads)) most then payload ∷ payloads else newest most payloads

-- the payloads without as few of the oldest as must go so that so many bytes more have room, or without all of them
abbrev pub with_room : (size room : ℕ) → List (List ℕ) → List (List ℕ)
with_room size room [] = []
with_room size room (payload ∷ payloads) = if nat_le (bytes_of (payload ∷ payloads) + size) room then payload ∷ payloads else with_room size room payloads
