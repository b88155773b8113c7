use Rattle.std.proofs.Common.{refl, sym, ◌∙◌}
use Rattle.std.proofs.lemmas.Bool.{false≢true}
use Rattle.qh_quinn.proofs.HalfEnds.{ends_by_finish, ends_by_reset, lost_ends}
use Rattle.qh_quinn.proofs.Moving.{none_at}
use Rattle.qh_quinn.proofs.CallCloses.{finish_carries, half_finished, half_reset, lost_carries, reset_carries}
use Rattle.qh_quinn.proofs.CallParts.{nothing_more}
use Rattle.qh_quinn.specs.Streaming.{EndsSending}
use Rattle.qh_quinn.proofs.inner.StateInner.end_half.Goals as goal

pub stop_code-requires-clause-unlost : goal.stop_code-requires-clause-unlost
stop_code-requires-clause-unlost g c = none_at c.args.self.now.error (sym c.is_some.ensures ∙ c.if-is_some.false)

pub returns-then-is_some-clause-changed : goal.returns-then-is_some-clause-changed
returns-then-is_some-clause-changed g c = lost_ends c.args.self.now c.args.id (sym c.is_some.ensures ∙ c.if-is_some.true) c.requires

pub returns-in_default-clause-changed : goal.returns-in_default-clause-changed
returns-in_default-clause-changed g c =
    let s = c.args.self.now in
    ends_by_finish c.ends_shown.ensures.finish c.ends_shown.ensures.nothing s c.finish.new.self c.args.id c.finish.result (none_at s.error (sym c.is_some.ensures ∙ c.if-is_some.false))
    (λ b shown p live. c.stop_code.ensures b shown p live ∙ c.in_default.is) c.finish.ensures.value

pub returns-clause-changed : goal.returns-clause-changed
returns-clause-changed g c =
    let s = c.args.self.now in
    ends_by_reset c.ends_shown.ensures.reset c.ends_shown.ensures.nothing s c.reset.new.self c.args.id c.in-Some.code c.reset.result (none_at s.error (sym c.is_some.ensures ∙ c.if-is_some.false))
    (λ b shown p live. c.stop_code.ensures b shown p live ∙ c.in-Some.is) c.reset.ensures.value

pub returns-then-is_some-clause-carries : goal.returns-then-is_some-clause-carries
returns-then-is_some-clause-carries g c = λ b shown.
    let s = c.args.self.now in
    lost_carries s c.args.id (sym c.is_some.ensures ∙ c.if-is_some.true) b shown (nothing_more s.connection s.connection (λ accepts sealed hello t before. before))

pub returns-in_default-clause-carries : goal.returns-in_default-clause-carries
returns-in_default-clause-carries g c =
    let s = c.args.self.now in
    finish_carries s c.finish.new.self c.args.id c.finish.result (none_at s.error (sym c.is_some.ensures ∙ c.if-is_some.false)) (λ b shown p live. c.stop_code.ensures b shown p live ∙ c.in_default.is) c.finish.ensures.value c.finish.ensures.calls

pub returns-clause-carries : goal.returns-clause-carries
returns-clause-carries g c =
    let s = c.args.self.now in
    reset_carries s c.reset.new.self c.args.id c.in-Some.code c.reset.result (none_at s.error (sym c.is_some.ensures ∙ c.if-is_some.false)) (λ b shown p live. c.stop_code.ensures b shown p live ∙ c.in-Some.is) c.reset.ensures.value c.reset.ensures.calls

pub returns-then-is_some-clause-half : goal.returns-then-is_some-clause-half
returns-then-is_some-clause-half g c = EndsSending.kept refl

pub returns-in_default-clause-half : goal.returns-in_default-clause-half
returns-in_default-clause-half g c = half_finished c.args.id.0 c.finish.result c.args.self.now.connection c.finish.new.self.connection c.finish.ensures.calls.called

pub returns-clause-half : goal.returns-clause-half
returns-clause-half g c = half_reset c.args.id.0 c.in-Some.code c.reset.result c.args.self.now.connection c.reset.new.self.connection c.reset.ensures.calls.called

pub returns-then-is_some-clause-lost : goal.returns-then-is_some-clause-lost
returns-then-is_some-clause-lost g c = λ lost. refl

pub returns-in_default-clause-lost : goal.returns-in_default-clause-lost
returns-in_default-clause-lost g c = λ lost. absurd (false≢true (sym (sym c.is_some.ensures ∙ c.if-is_some.false) ∙ lost))

pub returns-clause-lost : goal.returns-clause-lost
returns-clause-lost g c = λ lost. absurd (false≢true (sym (sym c.is_some.ensures ∙ c.if-is_some.false) ∙ lost))
