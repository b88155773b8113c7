use Rattle.std.proofs.Common.{◌-◌, is_some, vec_len, vec_capacity, rules, arith}
use Rattle.std.proofs.lemmas.Grind.{common_steps}
use Rattle.qh_control.specs.Queue.{AreLost}
use Rattle.qh_recovery.specs.SentPackets.{packet_at}
use Rattle.qh_control.proofs.Kept.{stay_lost}
use Rattle.qh_control.proofs.queue.ControlQueue.on_lost.Goals as goal

pub returns-clause-sendable : goal.returns-clause-sendable
returns-clause-sendable g c =
    let lost : AreLost (λ number. is_some (packet_at c.args.core.now.space.sent number)) c.args.self.now
    (record { waiting = c.move_lost.new.waiting.items; sent = c.move_lost.new.sent.items; room = vec_capacity c.move_lost.new.sent - vec_len c.move_lost.new.sent }) = first_of (search rules, grind (arith, common_steps)) in
    stay_lost _ _ _ lost
