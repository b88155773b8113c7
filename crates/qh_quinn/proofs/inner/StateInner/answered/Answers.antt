use Rattle.std.proofs.Common.{refl}
use Rattle.qh_book.specs.Book.{with_close}
use Rattle.qh_book.specs.declared.call.Call.TheVariants as call
use Rattle.qh_quinn.proofs.StatesKept.{changes}
use Rattle.qh_quinn.proofs.CallActs.{close_done}
use Rattle.qh_quinn.proofs.inner.StateInner.answered.Goals as goal

pub returns-in-Close-clause-value : goal.returns-in-Close-clause-value
returns-in-Close-clause-value g c =
    rw c.in-Close.is (changes with_close c.args.self.now c.close.new.self (call.Close c.in-Close.now c.in-Close.error_code c.in-Close.reason) (λ b. refl) c.close.ensures.changed)

pub returns-in-Close-clause-calls : goal.returns-in-Close-clause-calls
returns-in-Close-clause-calls g c =
    rw c.in-Close.is (close_done c.in-Close.now c.in-Close.error_code c.in-Close.reason c.args.self.now c.close.new.self c.close.ensures.calls)
