use Rattle.std.proofs.Common.{Some, sym, ap, ◌∙◌}
use Rattle.std.proofs.lemmas.Option.{slice_get-get_or}
use Rattle.std.specs.Prelude.{is_some}
use Rattle.qh_roles.proofs.ClientLists.{held_set, one_where_none}
use Rattle.qh_roles.proofs.client.put_answer.Goals as goal

pub returns-clause-first : goal.returns-clause-first
returns-clause-first c =
    let there = slice_get-get_or c.args.answers.now c.args.index c.index-answers-index.result c.requires.within ∙ ap Some (sym c.replace-before.ensures.value) in
    rw c.replace-before.ensures.after
    (one_where_none c.args.answers.now (is_some c.replace-before.result) c.is_none.result _ (held_set c.args.answers.now c.args.index c.replace-before.result c.args.answer there) c.is_none.ensures)
