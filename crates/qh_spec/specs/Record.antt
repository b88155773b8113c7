-- The record of a service: what it was asked on which stream, and what it answered (own).
use Rattle.std.specs.Prelude.{ℕ}
use Rattle.qh_spec.specs.Message.{PlainMessage}

pub record PlainEntry : Type 0 where
  pub stream : ℕ
  pub request : PlainMessage
  pub response : PlainMessage
