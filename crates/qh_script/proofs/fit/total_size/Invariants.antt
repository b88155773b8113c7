use Rattle.std.proofs.Common.{◌≡◌, ◌-◌, ◌^◌, min, sum_by, take}
use Rattle.qh_spec.specs.Size.{message_size}
use Rattle.qh_script.proofs.fit.total_size.Given as goal

abbrev pub invariant-loop-request : goal.invariant-loop-request
invariant-loop-request l = l.total ≡ min (2 ^ 64 - 1) (sum_by message_size (take l.request-index l.requests))
