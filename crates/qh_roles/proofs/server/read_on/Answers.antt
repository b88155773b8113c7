use Rattle.std.proofs.Common.{refl}
use Rattle.qh_roles.proofs.HandlerSteps.{none_handled}
use Rattle.qh_roles.proofs.ServerEntries.{none_answered}
use Rattle.qh_roles.proofs.Stirred.{stirred_same}
use Rattle.qh_roles.proofs.server.read_on.Goals as goal

pub returns-in_default : goal.returns-in_default
returns-in_default g c = rw c.replace.ensures.value (record {
  same = refl;
  stirred = stirred_same c.args.connection.now;
  none_arrived = refl;
  over = λ k h. h;
  settled = λ h. h;
  step = none_handled c.args.handler.now.stream.0 c.args.handler.now.state c.args.connection.now (g.V.Service.served c.args.service.now);
  answered = none_answered (g.V.Service.may_answer c.args.limits.now) (g.V.Service.served c.args.service.now);
})
