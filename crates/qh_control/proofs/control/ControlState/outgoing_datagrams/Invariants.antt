use Rattle.std.proofs.Common.{◌≡◌, ◌<◌, ◌≤◌, ◌^◌, take, vec_len}
use Rattle.qh_datagrams.specs.Datagrams.{bytes_of}
use Rattle.qh_control.proofs.Packed.{packed}
use Rattle.qh_control.proofs.control.ControlState.outgoing_datagrams.Given as goal

abbrev pub invariant-loop-index : goal.invariant-loop-index
invariant-loop-index l = record {
  frames : l.frames.items ≡ packed (take l.index l.self.datagrams.outgoing);
  len : vec_len l.frames ≡ l.index;
  bytes : l.bytes < 2 ^ 63;
  sum : l.bytes ≡ bytes_of (take l.index l.self.datagrams.outgoing);
  fits : 1 < l.index → l.bytes ≤ 1143;
}
