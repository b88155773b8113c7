use Rattle.std.proofs.Common.{ap}
use Rattle.std.proofs.lemmas.Result.{on_err_weaker}
use Rattle.qh_conn.proofs.SameParts.{control_took}
use Rattle.qh_conn.proofs.InSound.{sound_control}
use Rattle.qh_conn.proofs.LogKept.{frame_goes}
use Rattle.qh_control.specs.declared.control.ControlState.{ControlState}
use Rattle.qh_conn.proofs.connection.Connection.take_control.Goals as goal

pub returns-clause-sound : goal.returns-clause-sound
returns-clause-sound g c = sound_control c.args.self.now c.take_frame.new.self c.requires (c.take_frame.ensures.sendable c.args.self.now.core.side) c.take_frame.ensures.as_long

pub returns-clause-stays : goal.returns-clause-stays
returns-clause-stays g c = control_took c.take_frame.result c.args.now c.args.self.now.control c.take_frame.new.self c.args.frame.now c.take_frame.ensures.id_len c.take_frame.ensures.ok c.take_frame.ensures.rest

pub returns-clause-log : goal.returns-clause-log
returns-clause-log g c =
    frame_goes c.take_frame.result c.args.now c.args.self.now c.take_frame.new.self c.args.frame.now c.take_frame.ensures.ok
    (on_err_weaker c.take_frame.result (λ is. ap (λ (z : ControlState). z.log) is) c.take_frame.ensures.rest)
