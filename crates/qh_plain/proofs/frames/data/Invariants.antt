use Rattle.std.proofs.Common.{◌≡◌, ◌++◌, length}
use Rattle.std.specs.List.{concat}
use Rattle.qh_plain.specs.Frames.{data_payloads, after_data}
use Rattle.qh_plain.proofs.frames.data.Given as goal

-- what is left to read gives what the whole gives
abbrev pub invariant-loop-rest : goal.invariant-loop-rest
invariant-loop-rest l = record {
  body : l.body.items ++ concat (data_payloads l.rest) ≡ concat (data_payloads l.frames);
  after : after_data l.rest ≡ after_data l.frames;
}

abbrev pub decreases-loop-rest : goal.decreases-loop-rest
decreases-loop-rest l = length l.rest
