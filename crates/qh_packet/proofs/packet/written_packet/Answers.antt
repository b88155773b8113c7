use Rattle.std.proofs.Common.{◌++◌, refl}
use Rattle.qh_packet.specs.Packet.{header_bytes}
use Rattle.qh_packet.proofs.Packets.{only_content}
use Rattle.qh_packet.proofs.packet.written_packet.Goals as goal

pub returns-clause-read : goal.returns-clause-read
returns-clause-read c = λ id_length number destination frames tag packet len tag_is has. only_content id_length number destination frames tag (header_bytes destination number ++ (frames ++ tag)) packet len tag_is refl has
