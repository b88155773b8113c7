use Rattle.std.proofs.Common.{refl, ap, inl}
use Rattle.qh_core.specs.declared.inner.Inner.{Inner}
use Rattle.qh_pair.proofs.FullTurns.{set_of, unset_of, up_of}
use Rattle.qh_pair.specs.Steps.{ClientPolled as client_polled}
use Rattle.qh_pair.proofs.pair.ask_at.Goals as goal

pub returns-then-not-is_greeted-clause-up : goal.returns-then-not-is_greeted-clause-up
returns-then-not-is_greeted-clause-up c = up_of _ _ c.in-Some.is c.requires.going c.is_owed.ensures.closed

pub returns-then-not-is_greeted-clause-polled : goal.returns-then-not-is_greeted-clause-polled
returns-then-not-is_greeted-clause-polled c = rw c.in-Some.is (client_polled.waits refl refl)

pub returns-then-not-is_greeted-clause-asks : goal.returns-then-not-is_greeted-clause-asks
returns-then-not-is_greeted-clause-asks c = inl (unset_of _ _ c.is_greeted.ensures c.if-not-is_greeted.true)

pub returns-clause-up : goal.returns-clause-up
returns-clause-up c = up_of _ _ c.in-Some.is c.requires.going c.is_owed.ensures.closed

pub returns-clause-polled : goal.returns-clause-polled
returns-clause-polled c = client_polled.went _ _ c.in-Some.is refl (record {
  greeted = set_of _ _ c.is_greeted.ensures c.if-not-is_greeted.false;
  rest = ap (λ (z : Inner _). record c.in-Some.end { core = z }) c.poll.ensures.rest;
  requests = c.poll.ensures.requests;
  places = c.poll.ensures.places;
  opened = c.poll.ensures.opened;
  asks = λ done t went has asking. c.poll.ensures.asks _ done t went has asking;
})
