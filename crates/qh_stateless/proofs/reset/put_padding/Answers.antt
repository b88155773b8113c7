use Rattle.std.proofs.Common.{◌≡◌, ℕ, ◌+◌, ◌-◌, ◌%◌, List, [], ◌∷◌, ◌++◌, length, ap, ◌∙◌, append_assoc, arith}
use Rattle.qh_frame.proofs.FramesWritten.{on_ok}
use Rattle.qh_stateless.proofs.Resets.{one_word, then_drawn}
use Rattle.qh_stateless.specs.Reset.{low_bytes_of}
use Rattle.qh_stateless.specs.Words.{and_words}
use Rattle.qh_stateless.proofs.reset.put_padding.Goals as goal

pub returns-clause-ok : goal.returns-clause-ok
returns-clause-ok g c =
    let low : (x : List ℕ) × (g.W.Words.given c.put_low_bytes.new.words ≡ and_words (g.W.Words.given c.next-first.new.self) x) × (length x ≡ c.args.size - 1) × (c.put_low_bytes.new.out.items ≡ c.push.new.self.items ++ low_bytes_of x) =
    on_ok c.put_low_bytes.result c.if-is_err.ensures.value c.put_low_bytes.ensures.ok in
    let size = low.2 in (
      c.next-first.result ∷ low.0,
      low.1 ∙ ap (λ (z : List ℕ). and_words z low.0) c.next-first.ensures,
      omega (arith, size),
      low.3 ∙ ap (λ (z : List ℕ). z ++ low_bytes_of low.0) c.in_ok-push.ensures.items ∙ append_assoc c.args.out.now.items ((64 + c.next-first.result % 64) ∷ []) (low_bytes_of low.0),
    )

pub returns-in_err-push-clause-drawn : goal.returns-in_err-push-clause-drawn
returns-in_err-push-clause-drawn g c = one_word _ _ _ c.next-first.result c.requires c.next-first.ensures

pub returns-then-is_err-clause-drawn : goal.returns-then-is_err-clause-drawn
returns-then-is_err-clause-drawn g c = let some = c.requires in then_drawn 1 _ _ _ _ _ (omega (arith, some)) (one_word 1 _ _ c.next-first.result (omega arith) c.next-first.ensures) c.put_low_bytes.ensures.drawn

pub returns-clause-drawn : goal.returns-clause-drawn
returns-clause-drawn g c = let some = c.requires in then_drawn 1 _ _ _ _ _ (omega (arith, some)) (one_word 1 _ _ c.next-first.result (omega arith) c.next-first.ensures) c.put_low_bytes.ensures.drawn
