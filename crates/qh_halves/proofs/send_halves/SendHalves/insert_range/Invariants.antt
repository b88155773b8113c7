use Rattle.std.proofs.Common.{◌≡◌, ◌+◌, length}
use Rattle.qh_halves.specs.SendHalves.{AreAdded}
use Rattle.qh_halves.proofs.send_halves.SendHalves.insert_range.Given as goal

abbrev pub invariant-loop-i : goal.invariant-loop-i
invariant-loop-i l = record {
  added : AreAdded l.fn.self l.self l.first l.i l.max_data;
  count : length l.self.halves ≡ length l.fn.self.halves + l.i;
}
