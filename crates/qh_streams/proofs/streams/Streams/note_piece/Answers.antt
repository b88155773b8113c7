use Rattle.qh_streams.proofs.ItemLogs.{then_logged, err_some}
use Rattle.qh_streams.proofs.streams.Streams.note_piece.Goals as goal

pub returns-clause-err : goal.returns-clause-err
returns-clause-err c =
    err_some c.note_end.result c.args.log.now c.push.new.self c.note_end.new.log _
    (then_logged c.args.log.now c.note_arrival.new.log c.push.new.self _ _ c.in_ok-note_arrival.ensures.ok c.in_ok-push.ensures.ok) c.note_end.ensures.err
