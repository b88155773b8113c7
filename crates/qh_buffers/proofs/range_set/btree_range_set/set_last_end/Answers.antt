use Rattle.std.proofs.Common.{◌≡◌, false, true, ◌∙◌, arith}
use Rattle.std.proofs.lemmas.Grind.{common_steps}
use Rattle.qh_buffers.proofs.JoinedRanges.{last_written, some_last}
use Rattle.qh_buffers.proofs.range_set.btree_range_set.set_last_end.Goals as goal

pub returns-in-Some : goal.returns-in-Some
returns-in-Some c = λ front last is.
    let put = c.in-Some.ensures.update.1 c.args.end ∙ last_written c.args.ranges.now.entries front last _ c.args.end c.requires is c.in-Some.ensures.key in
    grind (arith, common_steps, put)

pub returns-in_default : goal.returns-in_default
returns-in_default c = λ front last is. absurd (let some : false ≡ true = c.in_default.ensures.variant.1 (some_last c.args.ranges.now.entries front last is) in cc)
