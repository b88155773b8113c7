-- Which logs of the definition a log stands for.
use Rattle.std.specs.Prelude.{◌≡◌}
use Rattle.qh_spec.specs.TokenFilter.{TokenLimits}
use Rattle.qh_spec.specs.TokenLog.{TokenLog}
use Rattle.qh_parts.specs.declared.bloom_token_log.BloomTokenLog.{BloomTokenLog}
use Rattle.qh_parts.specs.Filter.{limits_of, IsKept}

abbrev pub log_limits : BloomTokenLog → TokenLimits
log_limits log = limits_of log.config

-- The periods begin when the log's do, and the log keeps the filters.
pub record StandsFor (log : BloomTokenLog) (l : TokenLog) : Type 0 where
  pub start : log.period_1_start ≡ l.start
  pub first : IsKept (log_limits log) log.filter_1 l.first
  pub second : IsKept (log_limits log) log.filter_2 l.second
