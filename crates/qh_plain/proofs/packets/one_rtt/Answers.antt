use Rattle.qh_plain.proofs.packets.one_rtt.Goals as goal
use Rattle.qh_plain.proofs.BodyReads.{one_rtt_from, one_rtt_body, one_rtt_long}

pub returns-in_default-clause-none : goal.returns-in_default-clause-none
returns-in_default-clause-none c = one_rtt_long c.args.id_length c.args.bytes.now c.in_default.ensures.none

pub returns-in_default-2-clause-none : goal.returns-in_default-2-clause-none
returns-in_default-2-clause-none c = λ p h.
    let id = c.in-Some.ensures.found in
    let none = rw c.in_default-2.is at c.in_ok-packet.ensures.none in
    none p (one_rtt_body c.args.id_length c.in-Some.first c.args.bytes.now id.0 c.in-Some.body.now p id.1 id.2 h)

pub returns-clause-found : goal.returns-clause-found
returns-clause-found c =
    let id = c.in-Some.ensures.found in
    let some = rw c.in-Some-2.is at c.in_ok-packet.ensures.found in
    one_rtt_from c.args.id_length c.in-Some.first c.args.bytes.now id.0 c.in-Some.body.now c.in-Some-2.packet id.1 id.2 some
