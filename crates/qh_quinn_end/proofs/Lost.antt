-- One response more is lost.
use Rattle.std.proofs.Common.{◌≡◌, ◌<◌, ◌+◌, ◌-◌, ◌^◌, ℕ, min, inl, inr, refl, arith, true≢false}
use Rattle.std.proofs.lemmas.Bool.{cases_lt}
use Rattle.qh_quinn_end.specs.Receiving.{IsLost, inbox}
use Rattle.qh_quinn_end.specs.declared.recv.RecvState.{RecvState}
use Rattle.qh_spec.specs.Fault.{Rose}

rose : (n m : ℕ) → n < 2 ^ 64 → m ≡ min (n + 1) (2 ^ 64 - 1) → Rose n m
rose n m small is = elim (cases_lt n (2 ^ 64 - 1)) [
  | inl less ↦ inl (omega arith)
  | inr most ↦ inr (omega arith)
]

pub one_lost : (s : RecvState) (n : ℕ) → s.responses_lost < 2 ^ 64 → n ≡ min (s.responses_lost + 1) (2 ^ 64 - 1) → IsLost (inbox s) (inbox (record s { responses_lost = n }))
one_lost s n small is = (refl, record { stays = omega arith; cause = λ e. rose s.responses_lost n small is; still = λ e. absurd (true≢false e) })
