use Rattle.std.proofs.Common.{◌≡◌, true}
use Rattle.std.specs.Prelude.{is_some}
use Rattle.qh_pair.specs.EndCalls.{AreGiven}
use Rattle.qh_pair.specs.Ends.{IsWholeAt}
use Rattle.qh_pair.specs.Full.{OpensBy}
use Rattle.qh_pair.specs.Steps.{EndStep}
use Rattle.qh_pair.proofs.ends.receive_at.Given as goal

abbrev pub invariant-loop-datagram : goal.invariant-loop-datagram
invariant-loop-datagram g l = record {
  step : EndStep true l.now l.side l.opening.ids l.opening.config l.fn.slot l.slot (g.L.Link.events l.fn.link) (g.L.Link.events l.link) (λ more. AreGiven l.side l._datagram more × OpensBy l.opening.ids l.side more (is_some l.slot ≡ true));
  whole : IsWholeAt l.slot;
  there : is_some l.fn.slot ≡ true → is_some l.slot ≡ true;
  moments : g.L.Link.moments l.link ≡ g.L.Link.moments l.fn.link;
  faults : g.L.Link.faults l.link ≡ g.L.Link.faults l.fn.link;
  plan : g.L.Link.plan l.link ≡ g.L.Link.plan l.fn.link;
}
