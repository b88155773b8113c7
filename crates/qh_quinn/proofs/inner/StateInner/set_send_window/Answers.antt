use Rattle.std.proofs.Common.{sym, subst}
use Rattle.qh_book.specs.Values.{with_setting}
use Rattle.qh_book.specs.declared.call.Setting.TheVariants as setting
use Rattle.qh_quinn.proofs.StatesKept.{rest_self}
use Rattle.qh_quinn.proofs.ValueCalls.{sets_window}
use Rattle.qh_quinn.specs.Acting.{IsChanged}
use Rattle.qh_quinn.specs.declared.inner.StateInner.{StateInner}
use Rattle.qh_quinn.proofs.inner.StateInner.set_send_window.Goals as goal

pub returns-clause-changed : goal.returns-clause-changed
returns-clause-changed g c =
    let e = c.set_send_window.ensures in
    subst (λ (z : StateInner _). IsChanged (with_setting (setting.SendWindow c.args.bytes)) c.args.self.now z) (sym c.wake.ensures)
    (sets_window c.args.self.now _ c.args.bytes (λ s notes b shown. c.first_shown.ensures.window s notes b c.args.bytes shown) c.requires e.whole (rest_self c.args.self.now) (record { core = e.core; rest = e.early }))
