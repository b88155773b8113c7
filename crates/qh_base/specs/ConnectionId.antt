-- How a connection id is kept.
use Rattle.std.specs.Prelude.{◌≡◌, ℕ, ◌-◌, ◌≤◌, List, ◌++◌, length, take, replicate}

-- the bytes with zeros behind them, 20 in all
abbrev pub zero_padded : List ℕ → List ℕ
zero_padded bytes = bytes ++ replicate (20 - length bytes) 0

-- at most 20 bytes, with zeros behind them
pub record IsConnectionId (len : ℕ) (kept : List ℕ) : Type 0 where
  pub short : len ≤ 20
  pub room : length kept ≡ 20
  pub rest : kept ≡ zero_padded (take len kept)
