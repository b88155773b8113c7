use Rattle.std.proofs.Common.{◌≡◌, ◌+◌, ◌++◌, map, vec_len, vec_capacity}
use Rattle.std.specs.VecDeque.{deque_len}
use Rattle.qh_control.specs.declared.items.ConnectionItem.TheVariants as item
use Rattle.qh_streams.specs.declared.items.Item.{Item}
use Rattle.qh_control.proofs.items.put_streams.Given as goal

abbrev pub invariant-loop-item : goal.invariant-loop-item
invariant-loop-item l = record {
  items : l.items.items ++ map (λ (i : Item). item.Stream i) l.item-iterator.rest.items ≡ l.fn.items.items ++ map (λ (i : Item). item.Stream i) l.fn.more.items;
  len : vec_len l.items + deque_len l.item-iterator.rest ≡ vec_len l.fn.items + vec_len l.fn.more;
  capacity : vec_capacity l.items ≡ vec_capacity l.fn.items;
}
