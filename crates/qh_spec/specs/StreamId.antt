-- Stream identifiers (RFC 9000, section 2.1): the least significant bit names the initiator, the next one the direction.
use Rattle.std.specs.Prelude.{ℕ, ◌+◌, ◌*◌}
use Rattle.qh_spec.specs.declared.sides.Side.{Side}
use Rattle.qh_spec.specs.declared.sides.Side.TheVariants.{Client, Server}
use Rattle.qh_spec.specs.declared.sides.Dir.{Dir}
use Rattle.qh_spec.specs.declared.sides.Dir.TheVariants.{Bi, Uni}

abbrev pub side_bit : Side → ℕ
side_bit Client = 0
side_bit Server = 1

abbrev pub dir_bit : Dir → ℕ
dir_bit Bi = 0
dir_bit Uni = 1

-- the index-th stream of this initiator and direction, counted from 0
abbrev pub stream_id : Side → Dir → ℕ → ℕ
stream_id side dir index = 4 * index + 2 * dir_bit dir + side_bit side
