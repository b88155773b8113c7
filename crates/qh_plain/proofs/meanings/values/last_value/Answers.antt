use Rattle.std.proofs.Common.{◌≡◌, ◌≢◌, Some, sym, ap, ◌∙◌, List, ℕ, Option, true, false, option_copied, Bor}
use Rattle.std.proofs.lemmas.Slice.Eq.{bytes_eq-Decides}
use Rattle.qh_plain.proofs.Values.{last_taken, last_skipped}
use Rattle.qh_plain.proofs.meanings.values.last_value.Goals as goal
use Rattle.qh_plain.proofs.meanings.values.last_value.Goals.{then-eq, else-eq}

pub loop-field-preserved : goal.loop-field-preserved
loop-field-preserved c =
    let f = c.field-item.result in
    elim c.if-eq.branch [
      | then-eq w ↦
          let same : f.name ≡ c.args.name.now = sym c.name.ensures ∙ (bytes_eq-Decides c.name.result.now c.args.name.now).0 (sym c.eq.ensures ∙ w.if-eq.true) in
          ap (λ (o : Option (Bor (List ℕ))). option_copied o) w.last-is ∙ ap (λ (v : List ℕ). Some v) w.value.ensures
          ∙ last_taken c.args.name.now c.args.fields.now c.loop-field.field-index f c.loop-field-test.true c.field-item.is same
      | else-eq w ↦
          let other : f.name ≢ c.args.name.now = λ e.
          let t = (bytes_eq-Decides c.name.result.now c.args.name.now).1 (c.name.ensures ∙ e) in
          let both : true ≡ false = sym t ∙ sym c.eq.ensures ∙ w.if-eq.false in
          cc
          in
          ap (λ (o : Option (Bor (List ℕ))). option_copied o) w.last-is ∙ c.loop-field.invariant
          ∙ last_skipped c.args.name.now c.args.fields.now c.loop-field.field-index f c.loop-field-test.true c.field-item.is other
    ]
