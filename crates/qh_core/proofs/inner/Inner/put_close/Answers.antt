use Rattle.std.proofs.Common.{arith, true}
use Rattle.qh_core.proofs.DatagramMade.{close_put}
use Rattle.qh_core.proofs.inner.Inner.put_close.Goals as goal

pub returns-clause-some : goal.returns-clause-some
returns-clause-some g c = λ _ now.
    let due = c.requires.due in
    close_put c.args.self.now c.told.new.self c.args.out.now.items c.put_close_of.new.buf.items due.0 due.1 due.2 c.told.ensures
    (omega arith) (c.in_ok-put_close_of.ensures due.0 true due.1 due.2) (omega arith) now

pub returns-clause-read_back : goal.returns-clause-read_back
returns-clause-read_back g c = λ _ reason until is. (c.in_ok-put_close_of.ensures reason true until is).is
