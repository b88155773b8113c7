use Rattle.std.proofs.Common.{rules, ap, ◌∙◌, sym}
use Rattle.qh_h3.proofs.Flags.{splits}
use Rattle.qh_h3.proofs.shared_state.StateSeat.split.Goals as goal

pub split_seat-requires : goal.split_seat-requires
split_seat-requires c = (ap (λ s. s.state.closing) c.self.view_is ∙ (ap (λ s. s.closing) c.requires ∙ sym (ap (λ s. s.closing) c.state.view_is)), search rules, splits _ _)
