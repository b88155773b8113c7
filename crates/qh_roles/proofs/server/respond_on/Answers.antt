use Rattle.std.proofs.Common.{refl}
use Rattle.qh_roles.proofs.HandlerSteps.{none_handled}
use Rattle.qh_roles.proofs.Stirred.{stirred_same}
use Rattle.qh_roles.proofs.server.respond_on.Goals as goal

pub returns-in_default : goal.returns-in_default
returns-in_default g c = rw c.replace.ensures.value (record {
  same = refl;
  stirred = stirred_same c.args.connection.now;
  none_arrived = refl;
  over = λ k h. h;
  settled = λ h. h;
  step = none_handled c.args.handler.now.stream.0 c.args.handler.now.state c.args.connection.now;
})
