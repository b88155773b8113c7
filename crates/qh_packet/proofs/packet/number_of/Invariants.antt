use Rattle.std.proofs.Common.{◌≡◌, ◌<◌, ◌≤◌, ◌^◌, take}
use Rattle.qh_spec.specs.Packet.{be_value}
use Rattle.qh_packet.proofs.packet.number_of.Given as goal

abbrev pub invariant-loop-byte : goal.invariant-loop-byte
invariant-loop-byte l =
    (l.number ≡ be_value (take l.byte-index l.bytes)) × (l.byte-index ≤ 0 → l.number < 1) × (l.byte-index ≤ 1 → l.number < 2 ^ 8)
    × (l.byte-index ≤ 2 → l.number < 2 ^ 16) × (l.byte-index ≤ 3 → l.number < 2 ^ 24) × (l.byte-index ≤ 4 → l.number < 2 ^ 32)
