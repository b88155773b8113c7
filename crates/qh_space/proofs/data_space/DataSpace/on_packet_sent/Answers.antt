use Rattle.std.proofs.Common.{Result, Ok, Err, OnOk, refl}
use Rattle.qh_recovery.specs.declared.sent_packets.SentPacket.{SentPacket}
use Rattle.qh_space.proofs.PacketMade.{bare_space}
use Rattle.qh_space.proofs.data_space.DataSpace.on_packet_sent.Goals as goal
use Rattle.qh_streams.specs.declared.frames.SentFrame.{SentFrame}

-- what follows from two clauses of an answer
from_both : {A E : Type 0} (P Q R : Type 0) (answer : Result A E) → OnOk answer P → OnOk answer Q → (P → Q → R) → OnOk answer R
from_both P Q R (Ok a) p q then = then p q
from_both P Q R (Err e) p q then = tt

pub returns-clause-ok : goal.returns-clause-ok
returns-clause-ok c =
    let packet : SentPacket SentFrame = record { time_sent = c.args.now; size = c.args.size; frames = c.new.result } in
    from_both _ _ _ c.track.result c.track.ensures.ok c.track.ensures.ok
    (λ is _. record { packet = packet; nothing = c.new.ensures.items; time_is = refl; size_is = refl; new_is = is })

pub returns-clause-space : goal.returns-clause-space
returns-clause-space c =
    let packet : SentPacket SentFrame = record { time_sent = c.args.now; size = c.args.size; frames = c.new.result } in
    from_both _ _ _ c.track.result c.track.ensures.ok c.track.ensures.packets
    (λ is has. bare_space c.args.self.now c.track.new.self packet c.new.ensures.items c.requires.space c.requires.bound is has)
