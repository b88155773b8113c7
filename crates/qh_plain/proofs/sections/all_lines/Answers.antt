use Rattle.std.proofs.Common.{◌≡◌, ◌∷◌, [], ◌++◌, Some, sym, ap, ◌∙◌}
use Rattle.qh_spec.specs.Fields.{Field}
use Rattle.qh_plain.specs.Lines.{line_field}
use Rattle.qh_plain.specs.Sections.{line_at}
use Rattle.qh_plain.proofs.SectionsRead.{one_read, shorter, no_lines, some_of}
use Rattle.qh_plain.proofs.sections.all_lines.Goals as goal

pub returns-in_default-clause-none : goal.returns-in_default-clause-none
returns-in_default-clause-none c =
    no_lines c.args.bytes.now c.loop-rest.rest.now c.loop-rest.fields.items
    (some_of c.loop-rest.rest.now (sym c.is_empty.ensures ∙ c.loop-rest-test.true)) (sym (c.in_default.ensures {u = tt})) c.loop-rest.invariant

pub loop-rest-smaller : goal.loop-rest-smaller
loop-rest-smaller c = shorter c.loop-rest.rest.now c.in-Some.after.now (line_field c.in-Some.line) c.loop-rest.invariant.rest_are (sym (c.in-Some.ensures {u = tt}))

pub loop-rest-preserved : goal.loop-rest-preserved
loop-rest-preserved c =
    let line : line_at c.loop-rest.rest.now ≡ Some (line_field c.in-Some.line, c.in-Some.after.now) = sym (c.in-Some.ensures {u = tt}) in
    let field : c.in_ok-field.field ≡ line_field c.in-Some.line = c.in_ok-field.ensures in
    let items : c.push.new.self.items ≡ c.loop-rest.fields.items ++ line_field c.in-Some.line ∷ [] =
    c.in_ok-push.ensures.items ∙ ap (λ (z : Field). c.loop-rest.fields.items ++ z ∷ []) field in
    rw items
    (one_read c.args.bytes.now c.loop-rest.rest.now c.in-Some.after.now c.loop-rest.fields.items (line_field c.in-Some.line)
    (some_of c.loop-rest.rest.now (sym c.is_empty.ensures ∙ c.loop-rest-test.true)) line c.loop-rest.invariant)
