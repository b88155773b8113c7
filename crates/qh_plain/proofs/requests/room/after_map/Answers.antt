use Rattle.std.proofs.Common.{◌∙◌, sym, List, ℕ, rules}
use Rattle.std.proofs.lemmas.Iterator.Consumers.{YieldsList-from_first, fold_from_yields_List}
use Rattle.std.proofs.lemmas.List.Folds.{fold-map}
use Rattle.http_header.specs.FieldValue.{FieldValue}
use Rattle.http_header.specs.HeaderMap.{pairs}
use Rattle.qh_plain.specs.Room.{after_field}
use Rattle.qh_plain.proofs.requests.room.after_map.Goals as goal

pub returns : goal.returns
returns c =
    fold_from_yields_List _ (λ room (p : List ℕ × FieldValue). after_field room (record { name = p.0; value = p.1.bytes })) c.args.room _ c.fold.ensures.ran
    (YieldsList-from_first (λ p. (p.0.now, p.1.now)) (λ it. it) (pairs c.args.fields.now) c.iter.ensures.value) (λ a x b q k. search rules)
    ∙ sym (fold-map after_field (λ (p : List ℕ × FieldValue). record { name = p.0; value = p.1.bytes }) c.args.room (pairs c.args.fields.now))
