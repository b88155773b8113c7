use Rattle.std.proofs.Common.{[], rules}
use borrow.Author.Tests.{tests}
use Rattle.std.proofs.lemmas.Iterator.{cases_from_all}
use Rattle.std.proofs.lemmas.Iterator.Consumers.{YieldsList-from_first}
use Rattle.http_header.specs.HeaderMap.{keys}
use Rattle.qh_plain.specs.Agreement.{HasValues}
use Rattle.qh_plain.proofs.Agreement.{all_of}
use Rattle.qh_plain.proofs.meanings.fields.has_their_values.Goals as goal

pub returns : goal.returns
returns c =
    let P = HasValues c.args.map.now c.args.fields.now in
    all_of P [] c.all.result (keys c.args.map.now) (
    cases_from_all _ _ _ P (λ x. P x → ⊥) c.all.ensures.ran (YieldsList-from_first (λ x. x.now) (λ it. it) (keys c.args.map.now) c.keys.ensures.value)
    (λ x q k. search (rules, tests)) (λ x q k. search (rules, tests))
    )
