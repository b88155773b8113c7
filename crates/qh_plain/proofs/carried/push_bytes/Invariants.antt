use Rattle.std.proofs.Common.{◌≡◌, ◌++◌, ◌+◌, take}
use Rattle.qh_plain.specs.Carried.{placed}
use Rattle.qh_plain.proofs.carried.push_bytes.Given as goal

abbrev pub invariant-loop-byte : goal.invariant-loop-byte
invariant-loop-byte l =
    (l.bytes.items ≡ l.fn.bytes.items ++ placed l.run.offset (take l.byte-index l.byte-items)) × (l.offset ≡ l.run.offset + l.byte-index)
