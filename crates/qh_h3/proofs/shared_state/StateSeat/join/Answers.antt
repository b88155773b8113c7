use Rattle.std.proofs.Common.{rules, ap, ◌∙◌, sym}
use Rattle.qh_h3.proofs.Flags.{joins}
use Rattle.qh_h3.proofs.shared_state.StateSeat.join.Goals as goal

pub join_seat-requires : goal.join_seat-requires
join_seat-requires c = (
  ap (λ s. s.state.closing) c.self.view_is ∙ (ap (λ s. s.closing) c.requires.0 ∙ sym (ap (λ s. s.closing) c.state.view_is)),
  ap (λ s. s.state.closing) c.other.view_is ∙ (ap (λ s. s.closing) c.requires.1 ∙ sym (ap (λ s. s.closing) c.state.view_is)),
  c.other.invariant,
  search rules,
  joins _ _ _ _,
)
