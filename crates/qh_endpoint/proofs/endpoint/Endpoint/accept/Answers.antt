use Rattle.std.proofs.Common.{◌∙◌}
use Rattle.qh_endpoint.proofs.Accepts.{settings_are}
use Rattle.qh_endpoint.proofs.endpoint.Endpoint.accept.Goals as goal

pub returns-clause-left : goal.returns-clause-left
returns-clause-left g c =
    let t = c.take-waiting.ensures in
    let settings = c.unwrap_or-server.ensures ∙ settings_are c.args.server c.take-waiting.result.0 in
    (t.0, c.take-waiting.new.self, t.1, rw t.3 at (rw c.deref.ensures.value at (rw t.2 at (rw settings at c.welcome.ensures.accepted))), rw t.2 at (rw settings at c.welcome.ensures.lost))
