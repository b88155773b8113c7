use Rattle.std.proofs.Common.{◌≡◌, Some, sym, ap, ◌∙◌, List, ℕ}
use Rattle.std.proofs.lemmas.Slice.Eq.{bytes_eq-Decides}
use Rattle.qh_plain.proofs.Values.{first_found}
use Rattle.qh_plain.proofs.meanings.values.first_value.Goals as goal

pub returns-then-eq : goal.returns-then-eq
returns-then-eq c =
    let f = c.field-item.result in
    let same : f.name ≡ c.args.name.now = sym c.name.ensures ∙ (bytes_eq-Decides c.name.result.now c.args.name.now).0 (sym c.eq.ensures ∙ c.if-eq.true) in
    ap (λ (v : List ℕ). Some v) c.value.ensures
    ∙ first_found c.args.name.now c.args.fields.now c.loop-field.field-index f c.loop-field-test.true c.field-item.is same c.loop-field.invariant
