use Rattle.std.proofs.Common.{rules, ap, ◌∙◌, sym}
use Rattle.qh_h3.proofs.Flags.{looks}
use Rattle.qh_h3.proofs.shared_state.SharedState.is_closing.Goals as goal

pub load-requires : goal.load-requires
load-requires c = (ap (λ s. s.state.closing) c.seat.view_is ∙ (ap (λ s. s.closing) c.requires ∙ sym (ap (λ s. s.closing) c.self.view_is)), search rules, looks _ _ _)
