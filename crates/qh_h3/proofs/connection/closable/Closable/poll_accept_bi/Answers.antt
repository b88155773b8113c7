use Rattle.std.proofs.Common.{rules, ◌≡◌, refl, inr, Err}
use Rattle.futures.specs.declared.task.Poll.TheVariants.{Ready}
use Rattle.qh_h3.proofs.connection.closable.Closable.poll_accept_bi.Goals as goal

pub returns-in-Ready-Err-clause-accepted : goal.returns-in-Ready-Err-clause-accepted
returns-in-Ready-Err-clause-accepted g c =
    let C = g.C.OpenStreams' in
    let same : C.closes c.poll_accept_bidi.new.self c.poll_accept_bidi.new.at ≡ C.closes c.args.self.now.conn c.args.at.now = search rules in
    inr (Ready (Err c.in-Ready-Err.error), search rules, (c.handle.result, record { conn = c.poll_accept_bidi.new.self; state = c.self.inside.shared.value; seat = c.self.inside.seat; is_handled = c.self.inside.is_handled; owed = c.self.inside.owed }, refl, search rules, search rules, search rules, rw same at c.handle.ensures.found))
