use Rattle.std.proofs.Common.{◌∷◌, [], length-append, arith}
use Rattle.qh_plain.proofs.ValueReads.{one_number_more, numbers_found, no_numbers}
use Rattle.qh_plain.proofs.packets.value.read_numbers.Goals as goal

pub returns-in_default-clause-none : goal.returns-in_default-clause-none
returns-in_default-clause-none c =
    no_numbers c.args.bytes.now c.loop-index.rest.now c.loop-index.items.items c.args.count (omega arith) c.loop-index.invariant.0 c.in_default.ensures.none

pub loop-index-preserved : goal.loop-index-preserved
loop-index-preserved c =
    rw c.in_ok-push.ensures.items (
      one_number_more c.args.bytes.now c.loop-index.rest.now c.in-Some.after.now c.loop-index.items.items c.in-Some.n c.in-Some.ensures.found c.loop-index.invariant.0,
      omega (arith, length-append c.loop-index.items.items (c.in-Some.n ∷ [])),
    )

pub returns-clause-found : goal.returns-clause-found
returns-clause-found c = numbers_found c.args.bytes.now c.loop-index.rest.now c.loop-index.items.items c.loop-index.invariant.0
