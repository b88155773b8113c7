use Rattle.std.proofs.Common.{List, Option, sym, ap, subst, ◌∙◌}
use Rattle.qh_conn.proofs.Noted.{noted_stands, noted_whole, sound_log, taken_state}
use Rattle.qh_conn.specs.Items.{streams_taken}
use Rattle.qh_conn.specs.Whole.{IsSound, IsWhole}
use Rattle.qh_conn.specs.declared.connection.Connection.{Connection}
use Rattle.qh_control.specs.Items.{kept_in, only}
use Rattle.qh_control.specs.declared.items.ConnectionItem.{ConnectionItem}
use Rattle.qh_conn.proofs.connection.Connection.note_in.Goals as goal

pub returns-clause-stands : goal.returns-clause-stands
returns-clause-stands g c = λ accepts sealed hello t p. noted_stands accepts sealed hello c.args.self.now c.bring-brought.new.self _ t c.bring-brought.ensures.rest c.bring-brought.ensures.made p

pub returns-clause-state : goal.returns-clause-state
returns-clause-state g c = ap (λ (z : Connection _). z.core.state) c.bring-brought.ensures.rest ∙ taken_state _ c.args.self.now.core

pub returns-clause-sound : goal.returns-clause-sound
returns-clause-sound g c = λ s. sound_log c.bring-brought.new.self _ (c.bring-brought.ensures.sound s)

pub returns-clause-value : goal.returns-clause-value
returns-clause-value g c =
    let self = c.args.self.now in
    let log = kept_in c.args.entries in
    let put = c.give_back_with.new.self in
    ap (λ (z : Connection _). record z { control = record z.control { log = put } }) c.bring-brought.ensures.rest
    ∙ ap (λ (z : Option (List ConnectionItem)). record self { core = streams_taken log self.core; control = record self.control { log = z } }) (c.give_back_with.ensures ∙ c.bring-brought.ensures.value (only c.args.item))

pub returns-clause-whole : goal.returns-clause-whole
returns-clause-whole g c = λ w.
    let self = c.args.self.now in
    let is = returns-clause-value g c in
    subst (λ (z : Connection _). IsWhole z) (sym is)
    (noted_whole self (kept_in c.args.entries) (only c.args.item) w (subst (λ (z : Connection _). IsSound z) is (sound_log c.bring-brought.new.self _ (c.bring-brought.ensures.sound w.sound))))
