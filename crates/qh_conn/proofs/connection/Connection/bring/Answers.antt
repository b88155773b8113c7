use Rattle.std.proofs.Common.{ap, ◌∙◌}
use Rattle.qh_conn.proofs.InHears.{self_made}
use Rattle.qh_conn.proofs.LogKept.{none_left}
use Rattle.qh_conn.proofs.Noted.{sound_on, taken_made, whole_on}
use Rattle.qh_control.specs.Items.{streamed}
use Rattle.qh_core.specs.declared.inner.Inner.{Inner}
use Rattle.qh_conn.proofs.connection.Connection.bring.Goals as goal

pub returns-then-is_none-clause-made : goal.returns-then-is_none-clause-made
returns-then-is_none-clause-made g c = self_made c.args.self.now.core

pub returns-clause-made : goal.returns-clause-made
returns-clause-made g c = taken_made c.args.self.now.core c.take_items.new.self c.take_items.ensures.rest c.take_items.ensures.follows c.take_items.ensures.same_end

pub returns-clause-sound : goal.returns-clause-sound
returns-clause-sound g c = λ s. sound_on c.args.self.now c.take_items.new.self s c.take_items.ensures.same_end (ap (λ (z : Inner _). z.state) c.take_items.ensures.rest)

pub returns-clause-whole : goal.returns-clause-whole
returns-clause-whole g c = λ w.
    let is = c.take_items.ensures.rest in
    whole_on c.args.self.now c.take_items.new.self w c.take_items.ensures.same_end (ap (λ (z : Inner _). z.state) is) (λ _. ap (λ (z : Inner _). streamed z.space.log) is ∙ none_left c.args.self.now.core.space.log)
