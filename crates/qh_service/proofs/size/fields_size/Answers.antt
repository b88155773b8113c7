use Rattle.std.proofs.Common.{◌+◌, ◌-◌, ◌^◌, ◌∙◌, min, length, rules}
use Rattle.std.proofs.lemmas.Iterator.Consumers.{YieldsList-from_first, fold_from_yields_List}
use Rattle.http_header.specs.HeaderMap.{pairs}
use Rattle.qh_service.proofs.Sizes.{fold_sizes_all}
use Rattle.qh_service.proofs.size.fields_size.Goals as goal

pub returns : goal.returns
returns c =
    let t = 2 ^ 64 - 1 in
    fold_from_yields_List _ (λ n p. min t (n + min t (length p.0 + length p.1.bytes + 32))) 0 _ c.fold.ensures.ran
    (YieldsList-from_first (λ p. (p.0.now, p.1.now)) (λ it. it) (pairs c.args.fields.now) c.iter.ensures.value) (λ a x b q k. search rules)
    ∙ fold_sizes_all t (pairs c.args.fields.now)
