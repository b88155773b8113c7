use Rattle.std.proofs.Common.{rules, ap, ◌∙◌, sym}
use Rattle.qh_h3.proofs.Flags.{raises}
use Rattle.qh_h3.proofs.shared_state.SharedState.set_closing.Goals as goal

pub fetch_or-requires : goal.fetch_or-requires
fetch_or-requires c = (ap (λ s. s.state.closing) c.seat.view_is ∙ (ap (λ s. s.closing) c.requires ∙ sym (ap (λ s. s.closing) c.self.view_is)), search rules, raises _ _ _)
