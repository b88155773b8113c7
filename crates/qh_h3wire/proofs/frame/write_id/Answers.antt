use Rattle.std.proofs.Common.{◌≡◌, arith}
use Rattle.qh_h3wire.proofs.Lengths.{varint_short}
use Rattle.qh_h3wire.proofs.frame.write_id.Goals as goal

pub write-requires-clause-second : goal.write-requires-clause-second
write-requires-clause-second c =
    let same : c.unwrap-id.result ≡ c.args.id = rw c.unwrap-id.ensures at c.from_u64.ensures.found in
    omega (arith, varint_short c.unwrap-id.result (omega arith))
