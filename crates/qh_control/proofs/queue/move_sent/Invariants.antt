use Rattle.std.proofs.Common.{◌≡◌, ◌+◌, ◌++◌, drop, map, take, vec_len, vec_capacity}
use Rattle.qh_control.specs.Queue.{sent_in}
use Rattle.qh_control.proofs.queue.move_sent.Given as goal

abbrev pub invariant-loop : goal.invariant-loop
invariant-loop l = record {
  waiting : l.waiting.items ≡ drop l.counter l.fn.waiting.items;
  sent : l.sent.items ≡ l.fn.sent.items ++ map (sent_in l.number) (take l.counter l.fn.waiting.items);
  left : vec_len l.waiting + l.counter ≡ vec_len l.fn.waiting;
  len : vec_len l.sent ≡ vec_len l.fn.sent + l.counter;
  capacity : vec_capacity l.sent ≡ vec_capacity l.fn.sent;
}
