use Rattle.std.proofs.lemmas.List.{take_all}
use Rattle.std.proofs.Common.{refl}
use Rattle.qh_packet.proofs.session.PlainSessionSession.learn.Goals as goal

pub returns : goal.returns
returns c =
    rw (← c.self.view_is, c.of-self-inside.ensures, take_all 255 c.args.server_name.now c.requires)
    (record { after = refl })
