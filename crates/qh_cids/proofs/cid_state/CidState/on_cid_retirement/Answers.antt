use Rattle.std.proofs.Common.{◌≡◌, ◌<◌, ◌==◌, nat_lt, not, List, ℕ, length, ap, ◌∙◌, arith, rules}
use Rattle.std.proofs.lemmas.Fn.{filter_same}
use Rattle.std.proofs.lemmas.List.Elements.{All-filter}
use Rattle.std.proofs.lemmas.List.Kept.{IsStrictlyIncreasing-filter}
use Rattle.qh_cids.specs.CidState.{PlainState, IsState, without}
use Rattle.qh_cids.proofs.cid_state.CidState.on_cid_retirement.Goals as goal

IsState-without : (s : PlainState) (sequence : ℕ) (left : List ℕ) → left ≡ without sequence s.active → IsState s → IsState (record s { active = left })
IsState-without s sequence left same sound = rw same (record {
  rising = IsStrictlyIncreasing-filter (λ other. not (other == sequence)) _ sound.rising;
  were_issued = All-filter (λ other. not (other == sequence)) (λ other. other < s.issued) s.active sound.were_issued;
  fitting = sound.fitting;
})

pub invariant_of-self : goal.invariant_of-self
invariant_of-self c =
    let left = filter_same _ (λ other. not (other == c.args.sequence)) _ (λ x b f k. search rules) _ _ c.retain.ensures.filtered in
    IsState-without (record { id_len = c.self.inside.id_len; issued = c.self.inside.issued; active = c.self.inside.active.items }) c.args.sequence _ left c.self.invariant

pub returns-clause-after : goal.returns-clause-after
returns-clause-after c =
    let left = filter_same _ (λ other. not (other == c.args.sequence)) _ (λ x b f k. search rules) _ _ c.retain.ensures.filtered in
    ap (λ (active : List ℕ). record { id_len = c.self.inside.id_len; issued = c.self.inside.issued; active = active }) left
    ∙ ap (λ (s : PlainState). record s { active = without c.args.sequence s.active }) c.self.view_is

pub returns-clause-may_issue : goal.returns-clause-may_issue
returns-clause-may_issue c =
    let left = filter_same _ (λ other. not (other == c.args.sequence)) _ (λ x b f k. search rules) _ _ c.retain.ensures.filtered in
    let same = ap length (left ∙ ap (λ (s : PlainState). without c.args.sequence s.active) c.self.view_is) in
    ap (λ n. nat_lt n c.args.limit) (omega (arith, c.len.ensures, c.retain.new.self.ok.0, same))
