use Rattle.std.proofs.Common.{refl, sym, ap, ◌∙◌, Some, inl, inr}
use Rattle.qh_core.specs.Event.IsPolledEvent.{stream, lost, none}
use Rattle.qh_core.proofs.Polled.{polled}
use Rattle.qh_core.proofs.inner.Inner.poll.Goals as goal

pub returns-in-Some-clause-told : goal.returns-in-Some-clause-told
returns-in-Some-clause-told g c = stream c.in-Some.event c.in-Some.ensures.told refl

pub returns-in-Some-clause-connection : goal.returns-in-Some-clause-connection
returns-in-Some-clause-connection g c = polled c.args.self.now c.poll_event.new.self _ c.args.self.now.is_lost_told c.requires c.poll_event.ensures.told c.poll_event.ensures.keeps_out

pub returns-then-self-clause-told : goal.returns-then-self-clause-told
returns-then-self-clause-told g c = none c.in_default.ensures.told (inr c.if-self.true) refl

pub returns-then-self-clause-connection : goal.returns-then-self-clause-connection
returns-then-self-clause-connection g c = polled c.args.self.now c.poll_event.new.self _ c.args.self.now.is_lost_told c.requires c.poll_event.ensures.told c.poll_event.ensures.keeps_out

pub returns-in_default-error-clause-told : goal.returns-in_default-error-clause-told
returns-in_default-error-clause-told g c = none c.in_default.ensures.told (inl c.in_default-error.is) refl

pub returns-in_default-error-clause-connection : goal.returns-in_default-error-clause-connection
returns-in_default-error-clause-connection g c = polled c.args.self.now c.poll_event.new.self _ c.args.self.now.is_lost_told c.requires c.poll_event.ensures.told c.poll_event.ensures.keeps_out

pub returns-clause-told : goal.returns-clause-told
returns-clause-told g c =
    lost c.poll_event.new.self c.copied-reason.result c.in_default.ensures.told (c.in-Some-error.is ∙ ap Some (sym c.copied-reason.ensures)) c.if-self.false refl

pub returns-clause-connection : goal.returns-clause-connection
returns-clause-connection g c = polled c.args.self.now c.poll_event.new.self _ _ c.requires c.poll_event.ensures.told c.poll_event.ensures.keeps_out
