use Rattle.std.proofs.Common.{inl, inr, refl, sym, arith}
use Rattle.qh_quinn_end.proofs.Lost.{one_lost}
use Rattle.qh_quinn_end.proofs.recv.RecvState.refuse.Goals as goal

pub returns-in-Ok-clause-refused : goal.returns-in-Ok-clause-refused
returns-in-Ok-clause-refused g c =
    let e = c.in-Ok.ensures.left in
    record {
      attempt = e.0;
      mid = e.1;
      left = e.2;
      written = c.refuse.new.buf.items;
      told = inl (e.3, rw (sym e.4, sym c.deref.ensures.value) c.respond.ensures.response);
    }

pub returns-in-Err-clause-refused : goal.returns-in-Err-clause-refused
returns-in-Err-clause-refused g c =
    let e = c.in-Err.ensures.left in
    record {
      attempt = e.0;
      mid = e.1;
      left = e.2;
      written = c.refuse.new.buf.items;
      told = inr (e.5, refl, one_lost c.args.self.now c.saturating_add-self.result (omega arith) c.saturating_add-self.ensures);
    }
