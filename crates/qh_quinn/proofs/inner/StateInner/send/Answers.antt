use Rattle.std.proofs.Common.{ℕ, List, [], ◌∷◌, Option, Some, sym, ap, ◌∙◌, arith}
use Rattle.qh_base.specs.declared.path.Transmit.{Transmit}
use Rattle.qh_quinn.proofs.Sendings.{sent_one}
use Rattle.qh_quinn.specs.Turning.{waiting_out}
use Rattle.qh_quinn.proofs.inner.StateInner.send.Goals as goal

pub returns-in-Ok-clause-sent : goal.returns-in-Ok-clause-sent
returns-in-Ok-clause-sent g c =
    let t : Transmit = c.in-Some.transmit in
    let bytes : List ℕ = c.as_slice.result.now in
    let one = λ (z : List ℕ). waiting_out (Some t) z in (
      record { transmit = t; bytes = bytes } ∷ [],
      sent_one t bytes _ _ c.in-Ok.ensures.sent,
      ap (λ (z : Option Transmit). waiting_out z c.args.self.now.send_buffer.items) c.in-Some.is ∙ ap one (sym c.as_slice.ensures.value),
      omega arith,
    )
