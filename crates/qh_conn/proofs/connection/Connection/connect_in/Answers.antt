use Rattle.std.proofs.Common.{◌∷◌, [], Option, List, is_some, sym, ap, subst, ◌∙◌}
use Rattle.qh_conn.proofs.InHears.{self_made}
use Rattle.qh_conn.proofs.Noted.{completed_sound, connected_in, events_sound, only_events, sound_log}
use Rattle.qh_conn.specs.Items.{given_back, noted_in}
use Rattle.qh_conn.specs.Whole.{IsSound}
use Rattle.qh_conn.specs.declared.connection.Connection.{Connection}
use Rattle.qh_control.specs.Items.{kept_in}
use Rattle.qh_control.specs.declared.items.ConnectionItem.{ConnectionItem}
use Rattle.qh_control.specs.declared.items.ConnectionItem.TheVariants as item
use Rattle.qh_core.specs.Made.{IsMadeLocally}
use Rattle.qh_core.specs.declared.inner.Inner.{Inner}
use Rattle.qh_conn.proofs.connection.Connection.connect_in.Goals as goal

pub returns-clause-ok : goal.returns-clause-ok
returns-clause-ok g c =
    connected_in (kept_in c.args.entries) c.args.now c.args.self.now c.note_in.new.self c.discard_space.new.self
    (c.note_in.ensures.value ∙ ap (λ (z : Connection _). noted_in (kept_in c.args.entries) (item.Connected ∷ []) z) c.in-Ok.ensures.ok) c.discard_space.ensures.gone

pub returns-in_default-clause-err : goal.returns-in_default-clause-err
returns-in_default-clause-err g c =
    ap (λ (z : Connection _). given_back c.give_back.new.self z) c.in_default.ensures.err ∙ ap (λ (z : Option (List ConnectionItem)). given_back z c.args.self.now) c.give_back.ensures

pub returns-in_default-clause-made : goal.returns-in_default-clause-made
returns-in_default-clause-made g c =
    let core = c.args.self.now.core in
    subst (λ (z : Inner _). IsMadeLocally core z []) (sym (ap (λ (z : Connection _). z.core) c.in_default.ensures.err)) (self_made core)

pub returns-in_default-clause-sound : goal.returns-in_default-clause-sound
returns-in_default-clause-sound g c =
    let self = c.args.self.now in
    subst (λ (z : Connection _). IsSound (given_back c.give_back.new.self z)) (sym c.in_default.ensures.err) (sound_log self c.give_back.new.self c.requires.sound)

pub returns-clause-sound : goal.returns-clause-sound
returns-clause-sound g c =
    let self = c.args.self.now in
    let n = c.note_in.new.self in
    let asks = c.in-Ok.ensures.ok in
    let sound = c.note_in.ensures.sound (events_sound self c.ask_ids.new.self (only_events c.args.now self c.ask_ids.new.self asks) c.requires.sound) in
    let is = c.note_in.ensures.value ∙ ap (λ (z : Connection _). noted_in (kept_in c.args.entries) (item.Connected ∷ []) z) asks in
    completed_sound n c.discard_space.new.self c.discard_space.ensures.gone c.discard_space.ensures.whole (ap (λ (z : Connection _). is_some z.handshake.peer) is ∙ c.requires.greeted) sound
