use Rattle.std.proofs.Common.{◌≡◌, true, Some}
use Rattle.qh_conduct.specs.Calls.{ToldTheSame}
use Rattle.qh_conn.specs.Whole.{IsWhole}
use Rattle.qh_conn.specs.declared.config.ConnConfig.{ConnConfig}
use Rattle.qh_core.specs.Inner.{is_open}
use Rattle.qh_pair.specs.EndCalls.{AreSent}
use Rattle.qh_pair.specs.Steps.{EndStep}
use Rattle.qh_pair.specs.declared.ends.Ids.{Ids}
use Rattle.qh_pair.proofs.ends.send_datagrams.Given as goal

abbrev pub invariant-loop-datagram : goal.invariant-loop-datagram
invariant-loop-datagram g l = record {
  step : (ids : Ids) (config : ConnConfig) → EndStep true l.now l.side ids config (Some l.fn.end) (Some l.end) (g.L.Link.events l.fn.link) (g.L.Link.events l.link) (AreSent l.side l._datagram);
  up : is_open l.end.core.state ≡ true;
  whole : IsWhole l.end;
  told : (l.end.handshake.peer ≡ l.fn.end.handshake.peer) × ToldTheSame l.fn.end.core.space.streams l.end.core.space.streams;
  moments : g.L.Link.moments l.link ≡ g.L.Link.moments l.fn.link;
  faults : g.L.Link.faults l.link ≡ g.L.Link.faults l.fn.link;
  plan : g.L.Link.plan l.link ≡ g.L.Link.plan l.fn.link;
}
