use Rattle.std.proofs.Common.{refl, ap, ◌∙◌, ◌&&◌, List}
use Rattle.qh_book.specs.Interests.{waits}
use Rattle.qh_quinn.proofs.Settling.{among_kept, settles, still_state, woken_by_replies}
use Rattle.qh_quinn.specs.Waiting.{is_among}
use Rattle.qh_quinn.specs.declared.waiting.Waiting.{Waiting}
use Rattle.qh_quinn.proofs.inner.StateInner.wake_answered.Goals as goal

pub keep_waiting-requires : goal.keep_waiting-requires
keep_waiting-requires g c = still_state c.args.self.now _ c.requires refl

pub returns-clause-settled : goal.returns-clause-settled
returns-clause-settled g c = settles c.args.self.now (record c.args.self.now { waiting = c.replace-waiting.new.dest }) _ c.requires refl refl
    (λ b shown i. ap (λ (ws : List Waiting). is_among i ws) (c.keep_waiting.ensures b shown) ∙ among_kept c.interests_are_a_set.ensures.equal (λ j. waits b j) _ i ∙ ap (λ (v : _). is_among i v.items && waits b i) c.replace-waiting.ensures.value)

pub returns-clause-woken : goal.returns-clause-woken
returns-clause-woken g c =
    woken_by_replies c.args.self.now (record c.args.self.now { waiting = c.replace-waiting.new.dest }) _ _ refl (ap (λ (v : _). v.items) c.replace-waiting.ensures.value) c.keep_waiting.ensures
