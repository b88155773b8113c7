use Rattle.std.proofs.Common.{◌≡◌, nat_cmp, ap, ◌∙◌}
use Rattle.std.specs.BTreeMap.{is_at, insert_entry}
use Rattle.std.specs.Map.{remove_entry}
use Rattle.qh_halves.specs.RecvHalves.{PlainRecvHalves}
use Rattle.qh_halves.proofs.RecvHalvesInserted.{removed_again}
use Rattle.qh_halves.proofs.recv_halves.RecvHalves.withdraw.Goals as goal

pub returns-clause-entries : goal.returns-clause-entries
returns-clause-entries c = λ before r none sorted is.
    let was : c.self.inside.halves.entries ≡ insert_entry nat_cmp before c.args.id r = ap (λ (s : PlainRecvHalves). s.halves) c.self.view_is ∙ is in
    c.remove.ensures.entries ∙ ap (remove_entry (is_at (nat_cmp c.args.id))) was ∙ removed_again c.args.id r before none
