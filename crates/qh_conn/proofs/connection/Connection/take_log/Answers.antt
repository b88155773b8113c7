use Rattle.std.proofs.Common.{◌≡◌, ◌∙◌, sym, inl}
use Rattle.qh_conn.proofs.LogKept.{came_on, left_off}
use Rattle.qh_conn.proofs.Noted.{whole_log}
use Rattle.qh_control.specs.Items.{streamed}
use Rattle.qh_conn.proofs.connection.Connection.take_log.Goals as goal

pub returns-clause-taken : goal.returns-clause-taken
returns-clause-taken g c = c.take_entries.ensures.taken ∙ sym (came_on c.args.self.now.control.log (streamed c.args.self.now.core.space.log) (λ on. c.requires.current (inl on)))

pub returns-clause-whole : goal.returns-clause-whole
returns-clause-whole g c = whole_log c.args.self.now c.take_entries.new.self c.requires (left_off c.args.self.now.control.log c.take_entries.new.self c.take_entries.ensures.rest)
