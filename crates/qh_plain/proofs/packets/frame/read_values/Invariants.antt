use Rattle.std.proofs.Common.{drop}
use Rattle.std.specs.Prelude.{map}
use Rattle.qh_plain.specs.Packets.{part_of}
use Rattle.qh_plain.proofs.FrameReads.{ValuesRead}
use Rattle.qh_plain.proofs.packets.frame.read_values.Given as goal

abbrev pub invariant-loop-part : goal.invariant-loop-part
invariant-loop-part l = ValuesRead (map part_of l.shape) (map part_of (drop l.part-index l.shape)) l.bytes l.rest l.values.items
