use Rattle.std.proofs.Common.{ℕ, List, ◌-◌, ◌++◌, length, refl, sym, ap, ◌∙◌, subst, arith}
use Rattle.qh_stateless.proofs.Resets.{few_words, none_of_them, then_drawn, words_append}
use Rattle.qh_stateless.specs.Words.{and_words}
use Rattle.qh_stateless.specs.Reset.{IsPaddingSize, padding_of}
use Rattle.qh_token.specs.Reset.{reset_token_of}
use Rattle.qh_stateless.proofs.reset.put_stateless_reset.Goals as goal

pub returns-clause-reset : goal.returns-clause-reset
returns-clause-reset g c = λ done.
    let size = c.padding_size-size.ensures.size in
    let put = c.in_ok-put_reset.ensures.ok in
    let chooser : List ℕ = size.0 in
    let words : List ℕ = put.0 in (
      chooser ++ words,
      padding_of words ++ reset_token_of c.args.id.now,
      put.1 ∙ ap (λ (z : List ℕ). and_words z words) size.1 ∙ sym (words_append (g.W.Words.given c.args.words.now) chooser words),
      put.3,
      record {
        chooser = chooser;
        words = words;
        drawn_are = refl;
        long_cause = omega (arith, c.if-cause_len-le-MAX_UNANSWERED.false);
        size_is = subst (λ (n : ℕ). IsPaddingSize (c.args.cause_len - 16) chooser n) (sym put.2) size.2;
        whole = refl;
      },
    )

pub returns-then-cause_len-le-MAX_UNANSWERED-clause-drawn : goal.returns-then-cause_len-le-MAX_UNANSWERED-clause-drawn
returns-then-cause_len-le-MAX_UNANSWERED-clause-drawn g c = none_of_them _ _

pub returns-in_err-put_reset-clause-drawn : goal.returns-in_err-put_reset-clause-drawn
returns-in_err-put_reset-clause-drawn g c = let size = c.padding_size-size.ensures.size in then_drawn (length size.0) _ _ _ _ _ (few_words c.args.cause_len _ size.0 (omega (arith, c.if-cause_len-le-MAX_UNANSWERED.false)) size.2) (size.0, omega arith, size.1) c.put_reset.ensures.drawn

pub returns-clause-drawn : goal.returns-clause-drawn
returns-clause-drawn g c = let size = c.padding_size-size.ensures.size in then_drawn (length size.0) _ _ _ _ _ (few_words c.args.cause_len _ size.0 (omega (arith, c.if-cause_len-le-MAX_UNANSWERED.false)) size.2) (size.0, omega arith, size.1) c.put_reset.ensures.drawn
