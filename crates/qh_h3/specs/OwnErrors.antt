-- Errors of a connection that this end found (RFC 9114, section 8).
use Rattle.std.specs.Prelude.{ℕ, List}
use Rattle.qh_base.specs.declared.code.Code.{Code}

-- a code, and what is said of it
pub record OwnError : Type 0 where
  pub code : Code
  pub message : List ℕ
