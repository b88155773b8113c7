-- The tag at the end of a packet, in the place of the tag of a cipher (own): it names the connection, the sender, the
-- packet number and the packet number space, and whoever can write datagrams can write it.
use Rattle.std.specs.Prelude.{◌≡◌, ℕ, ◌-◌, ◌^◌, ◌<◌, ◌≤◌, List, [], ◌∷◌, ◌++◌, length, take, drop, replicate}
use Rattle.std.specs.Int.{w64, to_be_bytes}
use Rattle.qh_spec.specs.declared.sides.Side.{Side}
use Rattle.qh_spec.specs.declared.sides.Space.{Space}
use Rattle.qh_spec.specs.declared.sides.Space.TheVariants.{Initial, Data}
use Rattle.qh_spec.specs.StreamId.{side_bit}

abbrev pub space_byte : Space → ℕ
space_byte Initial = 0
space_byte Data = 1

-- the first n bytes, with zeros behind them where there are fewer
abbrev pub padded : ℕ → List ℕ → List ℕ
padded n bytes = take n bytes ++ replicate (n - length bytes) 0

-- 16 bytes of the key id, A5, the sender, the number in 8 bytes, the key id's length and last 4 bytes, the space
abbrev pub tag_bytes : List ℕ → Side → Space → ℕ → List ℕ
tag_bytes key_id sender space number =
    padded 16 key_id ++ (165 ∷ side_bit sender ∷ (to_be_bytes w64 number ++ (length key_id ∷ (padded 4 (drop 16 key_id) ++ space_byte space ∷ []))))

-- the bytes are a tag of some connection, by this sender, in this space, with this number
pub record IsTag (bytes : List ℕ) (sender : Side) (space : Space) (number : ℕ) : Type 0 where
  pub key_id : List ℕ
  pub short : length key_id ≤ 20
  pub bound : number < 2 ^ 62
  pub is : bytes ≡ tag_bytes key_id sender space number
