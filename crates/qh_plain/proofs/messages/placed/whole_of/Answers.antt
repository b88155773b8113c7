use Rattle.std.proofs.Common.{◌≡◌, ℕ, ◌<◌, List, length, true, false, sym, ◌∙◌, subst, ◌↔◌}
use Rattle.std.specs.Prelude.{IsTrue}
use Rattle.std.specs.List.{AllByRecursion}
use Rattle.qh_plain.specs.Placed.{AreFrom, IsAt, IsEmptyAt}
use Rattle.qh_plain.proofs.Answered.{if_none, if_some}
use Rattle.qh_plain.proofs.Placed.{gap_is_not_whole, contradiction_is_not_whole, gathered_is_whole}
use Rattle.qh_plain.proofs.messages.placed.whole_of.Goals as goal

pub returns-in_default-clause-none : goal.returns-in_default-clause-none
returns-in_default-clause-none c = λ bytes w. c.in_default.ensures.none (length bytes) w.end

pub returns-in_default-2-clause-none : goal.returns-in_default-2-clause-none
returns-in_default-2-clause-none c =
    let gap = if_none c.in_ok-bytes.field-0 ((offset : ℕ) × (offset < c.in-Some.end) × IsEmptyAt c.args.placed.now offset) c.in_default-2.is c.in_ok-bytes.ensures.none in
    gap_is_not_whole c.args.placed.now c.args.ends.now c.in-Some.end gap.0 c.in-Some.ensures.found gap.1 gap.2

pub returns-then-not-are_all_at-clause-none : goal.returns-then-not-are_all_at-clause-none
returns-then-not-are_all_at-clause-none c =
    let bytes = c.in-Some-2.bytes.items in
    let given = if_some c.in_ok-bytes.field-0 (λ v. (length v.items ≡ c.in-Some.end) × AreFrom c.args.placed.now v.items) c.in-Some-2.bytes c.in-Some-2.is c.in_ok-bytes.ensures.found in
    let says : IsTrue c.are_all_at.result ↔ AllByRecursion (IsAt bytes) c.args.placed.now =
    subst (λ (z : List ℕ). IsTrue c.are_all_at.result ↔ AllByRecursion (IsAt z) c.args.placed.now) c.as_slice.ensures.value c.are_all_at.ensures in
    contradiction_is_not_whole c.args.placed.now c.args.ends.now c.in-Some.end bytes c.in-Some.ensures.found given.0 given.1
    (λ a. let t : c.are_all_at.result ≡ true = says.1 a in let both : true ≡ false = sym t ∙ c.if-not-are_all_at.true in cc)

pub returns-clause-found : goal.returns-clause-found
returns-clause-found c =
    let bytes = c.in-Some-2.bytes.items in
    let given = if_some c.in_ok-bytes.field-0 (λ v. (length v.items ≡ c.in-Some.end) × AreFrom c.args.placed.now v.items) c.in-Some-2.bytes c.in-Some-2.is c.in_ok-bytes.ensures.found in
    let says : IsTrue c.are_all_at.result ↔ AllByRecursion (IsAt bytes) c.args.placed.now =
    subst (λ (z : List ℕ). IsTrue c.are_all_at.result ↔ AllByRecursion (IsAt z) c.args.placed.now) c.as_slice.ensures.value c.are_all_at.ensures in
    gathered_is_whole c.args.placed.now c.args.ends.now c.in-Some.end bytes c.in-Some.ensures.found given.0 given.1 (says.0 c.if-not-are_all_at.false)
