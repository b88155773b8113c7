use Rattle.std.proofs.Common.{◌≡◌, ◌+◌, ◌++◌, length, vec_len, vec_capacity}
use Rattle.qh_control.specs.Items.{items_of}
use Rattle.qh_control.proofs.items.put_all.Given as goal

abbrev pub invariant-loop-entry : goal.invariant-loop-entry
invariant-loop-entry l = record {
  items : l.items.items ++ items_of l.entry-iterator.rest.items ≡ l.fn.items.items ++ items_of l.fn.entries.items;
  len : vec_len l.items + length (items_of l.entry-iterator.rest.items) ≡ vec_len l.fn.items + length (items_of l.fn.entries.items);
  capacity : vec_capacity l.items ≡ vec_capacity l.fn.items;
}
