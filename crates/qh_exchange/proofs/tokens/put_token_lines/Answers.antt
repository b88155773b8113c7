use Rattle.std.proofs.Common.{◌∙◌}
use Rattle.qh_exchange.proofs.TokenRuns.{left_less}
use Rattle.qh_exchange.proofs.tokens.put_token_lines.Goals as goal

pub loop-token-preserved : goal.loop-token-preserved
loop-token-preserved g c = record {
  limits = c.in_ok-counts.ensures.limits ∙ c.loop-token.invariant.limits;
  left = λ p s.
      left_less _ _ _ _ _ _ _ c.args.tokens.now c.loop-token.token-index _ _ c.loop-token-test.true (c.loop-token.invariant.left p s) c.in_ok-counts.ensures.counts
      c.loop-token.invariant.limits c.in_ok-put_token_line.ensures.ok;
}
