use Rattle.std.proofs.Common.{refl, sym, ap, subst}
use Rattle.qh_book.specs.Book.{with_close}
use Rattle.qh_quinn.proofs.Closes.{closes}
use Rattle.qh_quinn.specs.Acting.{IsChanged}
use Rattle.qh_quinn.specs.declared.inner.StateInner.{StateInner}
use Rattle.qh_book.specs.declared.call.Call.TheVariants as call
use Rattle.qh_book.specs.declared.reply.Reply.TheVariants as reply
use Rattle.qh_quinn.proofs.CallCloses.{later}
use Rattle.qh_quinn.proofs.CallParts.{nothing_more, woken}
use Rattle.qh_quinn.proofs.inner.StateInner.close.Goals as goal

pub returns-clause-changed : goal.returns-clause-changed
returns-clause-changed g c =
    let e = c.close.ensures in
    subst (λ (z : StateInner _). IsChanged with_close c.args.self.now z) (sym c.wake.ensures)
    (closes c.max-now.result c.args.error_code c.args.reason c.args.self.now _ (λ d k is. c.closes_shown.ensures.called c.max-now.result c.args.error_code c.args.reason d k is) c.requires
    (record { is_connected = refl; readers = refl; stable_id = refl; error = refl; handles = refl; waiting = c.clear.ensures.items }) e.whole e.closed e.kept e.rest)

pub returns-clause-calls : goal.returns-clause-calls
returns-clause-calls g c =
    let s = c.args.self.now in
    let e = c.close.ensures in
    woken (call.Close c.args.now c.args.error_code c.args.reason) reply.Done s c.wake.new.self (ap (λ (z : StateInner _). z.driver) c.wake.ensures)
    (λ b shown. rw c.wake.ensures (nothing_more s.connection c.close.new.self e.stands))
    (rw c.wake.ensures (record { moment = c.max-now.result; is_later = later c.args.now s.last_turn c.max-now.result c.max-now.ensures; closed = e.closed; kept = e.kept; rest = e.rest }))
