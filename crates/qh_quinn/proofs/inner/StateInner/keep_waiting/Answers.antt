use Rattle.std.proofs.Common.{rules}
use Rattle.std.proofs.lemmas.Fn.{filter_same}
use Rattle.qh_book.specs.Interests.{waits}
use Rattle.qh_quinn.specs.declared.waiting.Waiting.{Waiting}
use Rattle.qh_quinn.proofs.inner.StateInner.keep_waiting.Goals as goal

pub returns : goal.returns
returns g c = λ b shown. filter_same _ (λ (w : Waiting). waits b w.interest) _ (λ w r f k. search rules) _ _ c.retain.ensures.filtered
