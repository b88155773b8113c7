use Rattle.std.proofs.Common.{◌≡◌, length}
use Rattle.qh_roles.specs.ClientSteps.{Goes}
use Rattle.qh_roles.proofs.client.Client.poll.Given as goal

-- the streams before this one went on
abbrev pub invariant-loop-at : goal.invariant-loop-at
invariant-loop-at g l = Goes l.fn.self l.fn.connection l.self l.connection × (length l.self.streams ≡ length l.fn.self.streams)
