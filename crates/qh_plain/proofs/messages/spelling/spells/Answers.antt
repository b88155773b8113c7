use Rattle.qh_spec.specs.Spelling.{Spells}
use Rattle.qh_plain.specs.Frames.{Parts, AreParts}
use Rattle.qh_plain.specs.Pieces.{MakesMessage}
use Rattle.qh_plain.proofs.Answered.{denied, answers_both, if_none, if_some}
use Rattle.qh_plain.proofs.Spelled.{spells_by_parts, no_spelling}
use Rattle.qh_plain.proofs.messages.spelling.spells.Goals as goal

pub returns-in-Some : goal.returns-in-Some
returns-in-Some c =
    let p : AreParts c.args.bytes.now c.in-Some.parts = if_some c.in_ok-parts.field-0 (λ v. AreParts c.args.bytes.now v) c.in-Some.parts c.in-Some.is c.in_ok-parts.ensures.found in
    answers_both (MakesMessage c.in-Some.parts c.args.message.now) (Spells c.args.bytes.now c.args.message.now) c.makes_message.result
    (spells_by_parts c.args.bytes.now c.in-Some.parts c.args.message.now p) c.makes_message.ensures

pub returns-in-None : goal.returns-in-None
returns-in-None c =
    denied (Spells c.args.bytes.now c.args.message.now)
    (no_spelling c.args.bytes.now c.args.message.now (if_none c.in_ok-parts.field-0 ((parts : Parts) → AreParts c.args.bytes.now parts → ⊥) c.in-None.is c.in_ok-parts.ensures.none))
