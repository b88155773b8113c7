use Rattle.qh_plain.proofs.PacketReads.{one_form_more, all_found, all_there}
use Rattle.qh_plain.proofs.packets.packets.Goals as goal

pub loop-form-preserved : goal.loop-form-preserved
loop-form-preserved c =
    let form = c.in-Some.ensures.found in
    rw c.in_ok-push_found.ensures (
    one_form_more c.args.id_length c.args.datagram.now c.loop-form.rest.now form.0 c.in-Some.form.rest.now c.in-Some.form.body.now c.in-Some.form.first c.loop-form.packets.items c.in_ok-packet.packet form.1 form.2
    c.in_ok-packet.ensures.found c.in_ok-packet.ensures.none c.loop-form.invariant
    )

pub returns-clause-found : goal.returns-clause-found
returns-clause-found c =
    rw c.in_ok-push_found-2.ensures (
    all_found c.args.id_length c.args.datagram.now c.loop-form.rest.now c.loop-form.packets.items c.in_ok-packet-2.packet c.in_ok-packet-2.ensures.found c.loop-form.invariant
    )

pub returns-clause-all : goal.returns-clause-all
returns-clause-all c =
    rw c.in_ok-push_found-2.ensures (
    all_there c.args.id_length c.args.datagram.now c.loop-form.rest.now c.loop-form.packets.items c.in_ok-packet-2.packet c.in_default.ensures.none c.in_ok-packet-2.ensures.found c.in_ok-packet-2.ensures.none
    c.loop-form.invariant
    )
