use Rattle.std.proofs.Common.{◌↔◌, ℕ, List, subst}
use Rattle.std.specs.Prelude.{IfOk, IsTrue}
use Rattle.qh_spec.specs.Spelling.{Spells}
use Rattle.qh_spec.specs.Whole.{IsWholeStream, IsWhole}
use Rattle.qh_plain.proofs.Answered.{denied, answers_both, if_none, if_some}
use Rattle.qh_plain.proofs.Placed.{whole_spells}
use Rattle.qh_plain.proofs.messages.whole.is_whole.Goals as goal

pub returns-in-Some : goal.returns-in-Some
returns-in-Some c =
    let bytes = c.in-Some.bytes.items in
    let m = c.args.message.now in
    let is = if_some c.in_ok-bytes.field-0 (λ v. IsWholeStream c.args.id_length c.args.datagrams.now c.args.sender c.args.stream v.items) c.in-Some.bytes c.in-Some.is c.in_ok-bytes.ensures.found in
    answers_both (Spells bytes m) (IsWhole c.args.id_length c.args.datagrams.now c.args.sender c.args.stream m) c.spells.result
    (whole_spells c.args.id_length c.args.datagrams.now c.args.sender c.args.stream bytes m is)
    (subst (λ (z : List ℕ). IfOk c.spells.result (λ b. IsTrue b ↔ Spells z m)) c.as_slice.ensures.value c.spells.ensures)

pub returns-in-None : goal.returns-in-None
returns-in-None c =
    let none = if_none c.in_ok-bytes.field-0 ((bytes : List ℕ) → IsWholeStream c.args.id_length c.args.datagrams.now c.args.sender c.args.stream bytes → ⊥) c.in-None.is c.in_ok-bytes.ensures.none in
    denied (IsWhole c.args.id_length c.args.datagrams.now c.args.sender c.args.stream c.args.message.now) (λ w. none w.bytes w.stream_is)
