use Rattle.qh_handshake.proofs.DueMoments.{loss_first, lost_due}
use Rattle.qh_handshake.proofs.moments.detect_lost.Goals as goal

pub returns-then-is_due-clause-lost : goal.returns-then-is_due-clause-lost
returns-then-is_due-clause-lost c =
    lost_due c.args.now.0 c.args.space.now c.detect_lost.new.self c.loss_at.result (loss_first c.args.space.now c.loss_at.result c.loss_at.ensures.none c.loss_at.ensures.some)
    (c.is_due.ensures.yes c.if-is_due.true) c.detect_lost.ensures.some
