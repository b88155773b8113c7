use Rattle.std.proofs.Common.{ap, sym, ◌∙◌, subst, refl, inl, inr}
use Rattle.qh_hello.proofs.Walks.{is_nil, is_some}
use Rattle.qh_endpoint.specs.Stranger.{foreign, short}
use Rattle.qh_endpoint.proofs.endpoint.Endpoint.judge_short.Goals as goal
use Rattle.qh_endpoint.proofs.endpoint.Endpoint.judge_short.Goals.{then-is_empty-via-then-is_empty, then-is_empty-via-else-is_empty+then-not-validate}

pub returns-then-is_empty : goal.returns-then-is_empty
returns-then-is_empty g c = elim c.then-is_empty.branch [
  | then-is_empty-via-then-is_empty w ↦ λ now remote size first. foreign first c.args.id (inl (is_nil c.args.id w.if-is_empty.ensures)) refl
  | then-is_empty-via-else-is_empty+then-not-validate w ↦ λ now remote size first. foreign first c.args.id
      (inr (λ v. let is = w.if-not-validate.ensures.value.1 (subst (λ (i : g.row.K-G.Denot). g.K.G.ConnectionIdGenerator.validates i c.args.id) (sym (w.ids.ensures ∙ ap (λ e. e.connections.ids) c.self.view_is)) v) in cc)) refl
]

pub returns : goal.returns
returns g c = λ now remote size first. short first c.args.id (is_some c.args.id c.if-is_empty.ensures)
    (subst (λ (i : g.row.K-G.Denot). g.K.G.ConnectionIdGenerator.validates i c.args.id) (c.ids.ensures ∙ ap (λ e. e.connections.ids) c.self.view_is) (c.if-not-validate.ensures.value.0 refl)) refl
