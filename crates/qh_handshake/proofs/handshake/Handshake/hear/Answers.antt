use Rattle.qh_handshake.proofs.InitialsCome.{heard_unread, heard_whole}
use Rattle.qh_handshake.proofs.handshake.Handshake.hear.Goals as goal

pub returns-in-Some-clause-whole : goal.returns-in-Some-clause-whole
returns-in-Some-clause-whole c =
    heard_whole c.args.self.now c.in-Some.space c.handle_packet.new.space c.args.source c.requires.whole c.in-Some.is c.handle_packet.ensures.space c.handle_packet.ensures.hello

pub returns-in-Some-clause-wanting : goal.returns-in-Some-clause-wanting
returns-in-Some-clause-wanting c =
    heard_unread c.args.now c.args.self.now c.in-Some.space c.args.number c.args.frames.now c.handle_packet.result c.in-Some.is c.handle_packet.ensures.wanting
