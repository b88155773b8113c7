use Rattle.std.proofs.Common.{List, ◌≡◌, sym, ◌∙◌, subst, ◌↔◌, true, false}
use Rattle.std.specs.Prelude.{IfOk, IsTrue}
use Rattle.http_header.specs.HeaderMap.{Entries}
use Rattle.http_header.specs.FieldValue.{FieldValue}
use Rattle.qh_service.specs.Message.{head_of}
use Rattle.qh_spec.specs.Fields.{Field}
use Rattle.qh_spec.specs.Meaning.{MeansHead, MeansFields}
use Rattle.qh_spec.specs.Message.{PlainHead}
use Rattle.qh_spec.specs.Section.{IsSection}
use Rattle.qh_plain.specs.Pieces.{MeansStart}
use Rattle.qh_plain.proofs.Answered.{denied, answers_both, if_none, if_some}
use Rattle.qh_plain.proofs.Spelled.{start_is, start_by_fields}
use Rattle.qh_plain.proofs.messages.spelling.means_start.Goals as goal

pub returns-in_default : goal.returns-in_default
returns-in_default c =
    let none = if_none c.in_ok-fields.field-0 ((fields : List Field) → IsSection c.args.bytes.now fields → ⊥) c.in_default.is c.in_ok-fields.ensures.none in
    denied (MeansStart c.args.bytes.now c.args.message.now) (λ s. none s.fields s.is_section)

pub returns-then-not-branch : goal.returns-then-not-branch
returns-then-not-branch c =
    let m = c.args.message.now in
    let fs = c.in-Some.fields.items in
    let is : IsSection c.args.bytes.now fs = if_some c.in_ok-fields.field-0 (λ v. IsSection c.args.bytes.now v.items) c.in-Some.fields c.in-Some.is c.in_ok-fields.ensures.found in
    let r = c.in_ok-means_head.field-0 in
    let says : IsTrue r ↔ MeansHead fs m.head =
    subst (λ (z : PlainHead). IsTrue r ↔ MeansHead fs z) c.head.ensures
    (subst (λ (z : List Field). IsTrue r ↔ MeansHead z (head_of c.head.result.now)) c.as_slice-fields.ensures.value c.in_ok-means_head.ensures) in
    denied (MeansStart c.args.bytes.now m) (λ s.
    let t : r ≡ true = says.1 (start_is c.args.bytes.now fs m is s).0 in
    let both : true ≡ false = sym t ∙ c.if-not-branch.true in
    cc)

pub returns : goal.returns
returns c =
    let m = c.args.message.now in
    let fs = c.in-Some.fields.items in
    let is : IsSection c.args.bytes.now fs = if_some c.in_ok-fields.field-0 (λ v. IsSection c.args.bytes.now v.items) c.in-Some.fields c.in-Some.is c.in_ok-fields.ensures.found in
    let r = c.in_ok-means_head.field-0 in
    let says : IsTrue r ↔ MeansHead fs m.head =
    subst (λ (z : PlainHead). IsTrue r ↔ MeansHead fs z) c.head.ensures
    (subst (λ (z : List Field). IsTrue r ↔ MeansHead z (head_of c.head.result.now)) c.as_slice-fields.ensures.value c.in_ok-means_head.ensures) in
    let means : IfOk c.means_fields.result (λ b. IsTrue b ↔ MeansFields fs m.fields) =
    subst (λ (z : Entries FieldValue). IfOk c.means_fields.result (λ b. IsTrue b ↔ MeansFields fs z)) c.fields.ensures
    (subst (λ (z : List Field). IfOk c.means_fields.result (λ b. IsTrue b ↔ MeansFields z c.fields.result.now)) c.as_slice-fields.ensures.value c.means_fields.ensures) in
    answers_both (MeansFields fs m.fields) (MeansStart c.args.bytes.now m) c.means_fields.result (start_by_fields c.args.bytes.now fs m is (says.0 c.if-not-branch.false)) means
