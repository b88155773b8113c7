use Rattle.std.proofs.Common.{take}
use Rattle.qh_conn.specs.Whole.{IsWhole}
use Rattle.qh_endpoint.specs.Accepting.{AreHanded}
use Rattle.qh_endpoint.proofs.accepting.hand_all.Given as goal

abbrev pub invariant-loop-datagram : goal.invariant-loop-datagram
invariant-loop-datagram g l = IsWhole l.connection × AreHanded (record { name = g.S.Session.name; knows = g.S.Session.knows; key = g.S.Session.key; sealed = g.S.Session.sealed; accepts = g.S.Session.accepts }) (take l.datagram-index l.datagrams) l.fn.connection l.connection
