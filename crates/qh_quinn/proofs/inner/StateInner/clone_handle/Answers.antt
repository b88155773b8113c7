use Rattle.std.proofs.Common.{◌+◌, refl, arith}
use Rattle.qh_book.specs.declared.call.Call.TheVariants as call
use Rattle.qh_book.specs.declared.reply.Reply.TheVariants as reply
use Rattle.qh_quinn.proofs.CallParts.{undone}
use Rattle.qh_quinn.proofs.Closes.{counts}
use Rattle.qh_quinn.proofs.StatesKept.{changes}
use Rattle.qh_quinn.proofs.inner.StateInner.clone_handle.Goals as goal

pub returns-clause-value : goal.returns-clause-value
returns-clause-value g c =
    changes (λ b. record b { handles = b.handles + 1 }) c.args.self.now (record c.args.self.now { handles = c.in-Some.handles }) call.CloneHandle (λ b. refl)
    (counts (λ n. n + 1) c.args.self.now (record c.args.self.now { handles = c.in-Some.handles }) c.requires (record { connection = refl; is_connected = refl; readers = refl; stable_id = refl; error = refl; handles = omega (arith, c.in-Some.ensures); waiting = refl }))

pub returns-clause-calls : goal.returns-clause-calls
returns-clause-calls g c = undone call.CloneHandle reply.Done c.args.self.now (record c.args.self.now { handles = c.in-Some.handles }) refl (λ b shown. refl) refl
