use Rattle.std.proofs.Common.{List, subst, ◌↔◌}
use Rattle.std.specs.Prelude.{IfOk, IsTrue}
use Rattle.qh_spec.specs.Fields.{Field}
use Rattle.qh_spec.specs.Meaning.{MeansFields}
use Rattle.qh_spec.specs.Section.{IsSection}
use Rattle.qh_plain.specs.Pieces.{MeansMap}
use Rattle.qh_plain.proofs.Answered.{denied, answers_both, if_none, if_some}
use Rattle.qh_plain.proofs.Spelled.{map_by_fields}
use Rattle.qh_plain.proofs.messages.spelling.means_map.Goals as goal

pub returns-in_default : goal.returns-in_default
returns-in_default c =
    let none = if_none c.in_ok-fields.field-0 ((fields : List Field) → IsSection c.args.bytes.now fields → ⊥) c.in_default.is c.in_ok-fields.ensures.none in
    denied (MeansMap c.args.bytes.now c.args.map.now) (λ m. none m.0 m.1)

pub returns : goal.returns
returns c =
    let fs = c.in-Some.fields.items in
    let is : IsSection c.args.bytes.now fs = if_some c.in_ok-fields.field-0 (λ v. IsSection c.args.bytes.now v.items) c.in-Some.fields c.in-Some.is c.in_ok-fields.ensures.found in
    answers_both (MeansFields fs c.args.map.now) (MeansMap c.args.bytes.now c.args.map.now) c.means_fields.result (map_by_fields c.args.bytes.now fs c.args.map.now is)
    (subst (λ (z : List Field). IfOk c.means_fields.result (λ means. IsTrue means ↔ MeansFields z c.args.map.now)) c.as_slice.ensures.value c.means_fields.ensures)
