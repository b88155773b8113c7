use Rattle.std.proofs.Common.{refl, sym, ◌∙◌, inl, inr}
use Rattle.qh_core.specs.Event.IsDrainedTold.{drained, none}
use Rattle.qh_core.proofs.inner.Inner.poll_endpoint_events.Goals as goal

pub returns-then-self-clause-told : goal.returns-then-self-clause-told
returns-then-self-clause-told g c = none (inr c.if-self.true) refl

pub returns-then-not-is_drained-clause-told : goal.returns-then-not-is_drained-clause-told
returns-then-not-is_drained-clause-told g c = none (inl (sym c.is_drained.ensures ∙ c.if-not-is_drained.true)) refl

pub returns-clause-told : goal.returns-clause-told
returns-clause-told g c = drained (sym c.is_drained.ensures ∙ c.if-not-is_drained.false) c.if-self.false refl
