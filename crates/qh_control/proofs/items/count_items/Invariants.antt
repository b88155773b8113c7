use Rattle.std.proofs.Common.{◌≡◌, take, length}
use Rattle.qh_control.specs.Items.{items_of}
use Rattle.qh_control.proofs.items.count_items.Given as goal

abbrev pub invariant-loop-entry : goal.invariant-loop-entry
invariant-loop-entry l = l.count ≡ length (items_of (take l.entry-index l.entries))
