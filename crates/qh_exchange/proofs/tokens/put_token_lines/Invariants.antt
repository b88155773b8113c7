use Rattle.std.proofs.Common.{◌≡◌, ◌++◌, drop}
use Rattle.qh_spec.specs.TokenLog.{TokenLog}
use Rattle.qh_spec.specs.TokenScript.{token_lines}
use Rattle.qh_script.specs.Tokens.{tokens_of}
use Rattle.qh_exchange.proofs.TokenRuns.{AreLeft}
use Rattle.qh_exchange.proofs.tokens.put_token_lines.Given as goal

-- the log keeps its limits, and what is written goes on as a log would that it stood for
abbrev pub invariant-loop-token : goal.invariant-loop-token
invariant-loop-token g l = record {
  limits : g.L.TokenLog.limits l.log ≡ g.L.TokenLog.limits l.fn.log;
  left : (p : TokenLog) → g.L.TokenLog.stands l.fn.log p
      → AreLeft (g.L.TokenLog.limits l.fn.log) (g.L.TokenLog.stands l.log) l.out.items (l.fn.out.items ++ token_lines (g.L.TokenLog.limits l.fn.log) p (tokens_of l.tokens))
      (tokens_of (drop l.token-index l.tokens));
}
