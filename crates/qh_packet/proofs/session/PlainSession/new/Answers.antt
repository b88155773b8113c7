use Rattle.std.proofs.lemmas.List.{take_all}
use Rattle.qh_packet.proofs.session.PlainSession.new.Goals as goal

pub returns : goal.returns
returns c = rw (c.of.ensures, take_all 255 c.args.server_name.now c.requires, c.is_empty.ensures)
