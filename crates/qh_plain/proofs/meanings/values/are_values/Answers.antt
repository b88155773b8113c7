use Rattle.std.proofs.Common.{◌≡◌, ◌≢◌, sym, ◌∙◌}
use Rattle.qh_plain.specs.Values.{bytes_of}
use Rattle.qh_plain.proofs.Values.{at_end, none_left, another_left, same_left, alike, unlike}
use Rattle.qh_plain.proofs.meanings.values.are_values.Goals as goal

pub returns-in_default : goal.returns-in_default
returns-in_default c =
    let f = c.field-item.result in
    let named : f.name ≡ c.args.name.now = sym c.name.ensures ∙ alike c.name.result.now c.args.name.now c.ne.result c.ne.ensures c.if-ne.false in (
      λ t. cc,
      λ same. absurd (none_left c.args.name.now c.args.fields.now c.loop-field.field-index f (bytes_of c.args.values) c.loop-field.values
          c.loop-field-test.true c.field-item.is named c.loop-field.invariant c.in_default.ensures.steps.0 same),
    )

pub returns-then-ne-2 : goal.returns-then-ne-2
returns-then-ne-2 c =
    let f = c.field-item.result in
    let named : f.name ≡ c.args.name.now = sym c.name.ensures ∙ alike c.name.result.now c.args.name.now c.ne.result c.ne.ensures c.if-ne.false in
    let other : c.in-Some.value.now.bytes ≢ f.value = λ e.
    unlike c.as_bytes.result.now c.value.result.now c.ne-in-loop-field.result c.ne-in-loop-field.ensures c.if-ne-2.true (c.as_bytes.ensures.value ∙ e ∙ sym c.value.ensures)
    in (
      λ t. cc,
      λ same. absurd (another_left c.args.name.now c.args.fields.now c.loop-field.field-index f (bytes_of c.args.values) c.loop-field.values c.next.new.self c.in-Some.value.now
          c.loop-field-test.true c.field-item.is named c.loop-field.invariant c.in-Some.ensures.steps other same),
    )

pub loop-field-preserved : goal.loop-field-preserved
loop-field-preserved c =
    let f = c.field-item.result in
    let named : f.name ≡ c.args.name.now = sym c.name.ensures ∙ alike c.name.result.now c.args.name.now c.ne.result c.ne.ensures c.if-ne.false in
    let same : c.in-Some.value.now.bytes ≡ f.value =
    sym c.as_bytes.ensures.value ∙ alike c.as_bytes.result.now c.value.result.now c.ne-in-loop-field.result c.ne-in-loop-field.ensures c.if-ne-2.false ∙ c.value.ensures in
    same_left c.args.name.now c.args.fields.now c.loop-field.field-index f (bytes_of c.args.values) c.loop-field.values c.next.new.self c.in-Some.value.now
    c.loop-field-test.true c.field-item.is named c.loop-field.invariant c.in-Some.ensures.steps same

pub returns : goal.returns
returns c =
    at_end c.args.name.now c.args.fields.now c.loop-field.field-index (bytes_of c.args.values) c.is_none.result c.next-2.result c.loop-field.values c.next-2.new.self
    c.loop-field-test.false c.loop-field.invariant c.next-2.ensures.steps (sym c.is_none.ensures)
