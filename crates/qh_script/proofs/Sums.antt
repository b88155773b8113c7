-- Sums that stand still at the greatest number.
use Rattle.std.proofs.Common.{◌≡◌, ℕ, ◌+◌, ◌-◌, ◌^◌, min, arith}

-- one more number
pub saturated-step : (total size sum number next result : ℕ) → result ≡ min (total + size) (2 ^ 64 - 1) → total ≡ min (2 ^ 64 - 1) sum → size ≡ min (2 ^ 64 - 1) number
    → next ≡ sum + number → result ≡ min (2 ^ 64 - 1) next
saturated-step total size sum number next result r t s n = omega arith
