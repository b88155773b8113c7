use Rattle.std.proofs.Common.{◌≡◌, Some, true, false, sym, ◌∙◌}
use Rattle.std.specs.Prelude.{slice_get}
use Rattle.qh_plain.proofs.Placed.{only_end_is, no_only_end}
use Rattle.qh_plain.proofs.messages.placed.only_end.Goals as goal

pub returns-then-are_all-clause-found : goal.returns-then-are_all-clause-found
returns-then-are_all-clause-found c =
    let e = c.in_ok-end.field-0.now in
    let f : slice_get c.args.ends.now 0 ≡ Some e = sym c.in_ok-end.ensures.value in
    only_end_is c.args.ends.now e f (c.are_all.ensures.0 c.if-are_all.true)

pub returns-else-are_all-clause-none : goal.returns-else-are_all-clause-none
returns-else-are_all-clause-none c =
    let e = c.in_ok-end.field-0.now in
    let f : slice_get c.args.ends.now 0 ≡ Some e = sym c.in_ok-end.ensures.value in
    no_only_end c.args.ends.now e f (λ a. let t : c.are_all.result ≡ true = c.are_all.ensures.1 a in let both : true ≡ false = sym t ∙ c.if-are_all.false in cc)
