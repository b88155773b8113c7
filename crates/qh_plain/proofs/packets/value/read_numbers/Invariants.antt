use Rattle.std.proofs.Common.{◌≡◌, length}
use Rattle.qh_plain.proofs.ValueReads.{NumbersRead}
use Rattle.qh_plain.proofs.packets.value.read_numbers.Given as goal

abbrev pub invariant-loop-index : goal.invariant-loop-index
invariant-loop-index l = NumbersRead l.bytes l.rest l.items.items × (length l.items.items ≡ l._index)
