use Rattle.std.proofs.Common.{refl, ap, inl}
use Rattle.qh_core.specs.declared.inner.Inner.{Inner}
use Rattle.qh_pair.proofs.FullTurns.{set_of, unset_of, up_of}
use Rattle.qh_pair.specs.Steps.{ServerPolled as server_polled}
use Rattle.qh_pair.proofs.pair.serve_at.Goals as goal

pub returns-then-not-is_greeted-clause-up : goal.returns-then-not-is_greeted-clause-up
returns-then-not-is_greeted-clause-up g c = up_of _ _ c.in-Some.is c.requires.going c.is_owed.ensures.closed

pub returns-then-not-is_greeted-clause-polled : goal.returns-then-not-is_greeted-clause-polled
returns-then-not-is_greeted-clause-polled g c = rw c.in-Some.is (server_polled.waits refl refl refl)

pub returns-then-not-is_greeted-clause-accepts : goal.returns-then-not-is_greeted-clause-accepts
returns-then-not-is_greeted-clause-accepts g c = inl (unset_of _ _ c.is_greeted.ensures c.if-not-is_greeted.true)

pub returns-clause-up : goal.returns-clause-up
returns-clause-up g c = up_of _ _ c.in-Some.is c.requires.going c.is_owed.ensures.closed

pub returns-clause-polled : goal.returns-clause-polled
returns-clause-polled g c = server_polled.went _ _ c.in-Some.is refl (record {
  greeted = set_of _ _ c.is_greeted.ensures c.if-not-is_greeted.false;
  rest = ap (λ (z : Inner _). record c.in-Some.end { core = z }) c.poll.ensures.rest;
  limits = c.poll.ensures.limits;
  accepted = c.poll.ensures.accepted;
  serves = c.poll.ensures.serves;
})
