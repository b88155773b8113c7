use Rattle.qh_conn.proofs.Noted.{lost_noted, lost_whole}
use Rattle.qh_control.specs.Items.{only}
use Rattle.qh_conn.proofs.connection.Connection.note_loss.Goals as goal

pub returns-clause-ok : goal.returns-clause-ok
returns-clause-ok g c = lost_noted c.args.self.now c.note.new.self (only c.lost_item-item.result) c.is_loss_logged-is_logged.result c.in_ok-note.ensures.ok c.lost_item-item.ensures c.is_loss_logged-is_logged.ensures

pub returns-clause-whole : goal.returns-clause-whole
returns-clause-whole g c = λ w. lost_whole c.note.new.self c.is_loss_logged-is_logged.result (c.note.ensures.whole w)
