use Rattle.std.proofs.Common.{arith}
use Rattle.qh_handshake.proofs.DatagramSize.{datagram_size}
use Rattle.qh_handshake.specs.Outgoing.{datagram_of}
use Rattle.qh_handshake.proofs.handshake.Handshake.append.Goals as goal
use Rattle.qh_spec.specs.declared.sides.Space.TheVariants.{Initial}

pub returns-clause-size : goal.returns-clause-size
returns-clause-size g c =
    let self = c.args.self.now in
    let frames = c.args.frames.now in
    let sealed = g.S.Session.sealed c.args.session.now self.side Initial c.args.number in
    let put = c.in_ok-put_packet.ensures in
    let fits = c.requires.frames in
    datagram_size self.remote_id self.local_id self.token frames (datagram_of (g.S.Session.sealed c.args.session.now) self c.args.number frames c.args.least) c.args.buf.now.items c.put_packet.new.buf.items c.args.least _
    (c.written_initial.ensures.size self.remote_id self.local_id self.token frames sealed c.args.number c.args.least (omega (arith, fits)) put.tag)
    fits c.requires.wide c.requires.least put.put (omega (arith, c.len.ensures, c.len-start.ensures))
