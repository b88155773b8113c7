use Rattle.std.proofs.Common.{◌≡◌, true, false, List, Option, is_some, sym, ap, ◌∙◌}
use Rattle.qh_conn.proofs.InHears.{self_made}
use Rattle.qh_conn.proofs.Noted.{sound_log, whole_log}
use Rattle.qh_conn.specs.Items.{noted_in}
use Rattle.qh_control.specs.Items.{only}
use Rattle.qh_control.specs.declared.items.ConnectionItem.{ConnectionItem}
use Rattle.qh_conn.proofs.connection.Connection.note.Goals as goal

pub returns-clause-ok : goal.returns-clause-ok
returns-clause-ok g c = c.note_in.ensures.value ∙ ap (λ (z : Option (List ConnectionItem)). noted_in z (only c.args.item) c.args.self.now) c.in_ok-entries.ensures.ok

pub returns-clause-sound : goal.returns-clause-sound
returns-clause-sound g c = λ s. c.note_in.ensures.sound (sound_log c.args.self.now _ s)

pub returns-clause-whole : goal.returns-clause-whole
returns-clause-whole g c = λ w. c.note_in.ensures.whole (whole_log c.args.self.now c.lend.new.self w (λ on. let z : false ≡ true = sym (ap is_some c.in_ok-entries.ensures.off) ∙ on in cc))

pub returns-in_err-entries-clause-made : goal.returns-in_err-entries-clause-made
returns-in_err-entries-clause-made g c = self_made c.args.self.now.core

pub returns-in_err-entries-clause-sound : goal.returns-in_err-entries-clause-sound
returns-in_err-entries-clause-sound g c = λ s. sound_log c.args.self.now _ s

pub returns-in_err-entries-clause-whole : goal.returns-in_err-entries-clause-whole
returns-in_err-entries-clause-whole g c = λ w. whole_log c.args.self.now c.lend.new.self w (λ on. ap is_some (sym c.in_err-entries.ensures.err) ∙ on)
