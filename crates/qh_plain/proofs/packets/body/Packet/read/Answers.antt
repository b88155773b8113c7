use Rattle.qh_plain.proofs.BodyReads.{no_content}
use Rattle.qh_plain.proofs.packets.body.Packet.read.Goals as goal

pub returns-in_default-2-clause-none : goal.returns-in_default-2-clause-none
returns-in_default-2-clause-none c =
    no_content c.args.space c.args.first c.in-Some.width c.args.body.now c.in-Some-read.parts.number.now c.in-Some-read.parts.frames.now c.in-Some-read.parts.tag.now c.in-Some.ensures.found c.in-Some-read.ensures.found
    (rw c.in_default-2.is at c.in_ok-packet.ensures.none)
