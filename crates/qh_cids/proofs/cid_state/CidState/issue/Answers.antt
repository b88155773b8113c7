use Rattle.std.proofs.Common.{ℕ, ◌+◌, List, ap, sym, subst, arith}
use Rattle.qh_cids.specs.CidState.{PlainState, IsState}
use Rattle.qh_cids.proofs.Sequences.{IsState-issued}
use Rattle.qh_cids.proofs.cid_state.CidState.issue.Goals as goal

pub invariant_of-self-2 : goal.invariant_of-self-2
invariant_of-self-2 c =
    let before : PlainState = record { id_len = c.self.inside.id_len; issued = c.self.inside.issued; active = c.self.inside.active.items } in
    subst (λ (active : List ℕ). IsState (record { id_len = c.self.inside.id_len; issued = c.self.inside.issued + c.args.count; active = active })) (sym c.in_ok-append_sequences.ensures.after)
    (IsState-issued before c.args.count c.self.invariant (omega (arith, c.requires, ap (λ (s : PlainState). s.issued) c.self.view_is)))
