use Rattle.std.proofs.Common.{◌≡◌, List, Option, ap, subst, ◌∙◌, inr}
use Rattle.std.specs.Prelude.{IfOk}
use Rattle.qh_conn.proofs.InSound.{on_ok}
use Rattle.qh_conn.proofs.LogKept.{left_on}
use Rattle.qh_conn.proofs.Noted.{any_err, on_err, still_untaken, taken_all, untaken_noted, whole_log}
use Rattle.qh_conn.specs.declared.connection.Connection.{Connection}
use Rattle.qh_conn.specs.Items.{untaken}
use Rattle.qh_control.specs.Items.{held_in}
use Rattle.qh_control.specs.declared.items.ConnectionItem.{ConnectionItem}
use Rattle.qh_conn.proofs.connection.Connection.take_items.Goals as goal

pub returns-clause-taken : goal.returns-clause-taken
returns-clause-taken g c =
    subst (λ (z : Option (List ConnectionItem)). IfOk c.take.result (λ items. held_in items ≡ z)) (ap (λ (z : Connection _). z.control.log) c.in_ok-note_loss.ensures.ok) c.take.ensures.taken

pub returns-clause-ok : goal.returns-clause-ok
returns-clause-ok g c = on_ok _ _ (λ rest. taken_all c.args.self.now c.note_loss.new.self c.take.new.self c.in_ok-note_loss.ensures.ok rest) c.take.result c.take.ensures.rest

pub returns-clause-err : goal.returns-clause-err
returns-clause-err g c = on_err _ _ (λ same. inr (still_untaken c.args.self.now c.note_loss.new.self c.take.new.self c.in_ok-note_loss.ensures.ok same)) c.take.result c.take.ensures.err

pub returns-clause-still : goal.returns-clause-still
returns-clause-still g c = on_err _ _ (λ same. ap (λ (z : Connection _). untaken z) (still_untaken c.args.self.now c.note_loss.new.self c.take.new.self c.in_ok-note_loss.ensures.ok same) ∙ untaken_noted c.args.self.now) c.take.result c.take.ensures.err

pub returns-in_err-note_loss-clause-still : goal.returns-in_err-note_loss-clause-still
returns-in_err-note_loss-clause-still g c = any_err _ _ (ap (λ (z : Connection _). untaken z) c.in_err-note_loss.ensures.err)

pub returns-clause-whole : goal.returns-clause-whole
returns-clause-whole g c =
    let mid = c.note_loss.new.self in
    whole_log mid c.take.new.self (c.note_loss.ensures.whole c.requires) (left_on c.take.result mid.control.log c.take.new.self c.take.ensures.rest c.take.ensures.err)
