use Rattle.std.proofs.Common.{refl}
use Rattle.std.proofs.lemmas.Slice.Eq.{bytes_eq-Decides}
use Rattle.qh_peers.proofs.GreetSealed.{none_sealed, quiet_sealed, sent_sealed}
use Rattle.qh_peers.proofs.ends.initials_sealed.Goals as goal
use Rattle.qh_spec.specs.Tag.{tag_bytes}
use Rattle.qh_spec.specs.declared.sides.Space.TheVariants.{Initial}

pub returns : goal.returns
returns g c = record {
  fresh = none_sealed;
  sent = λ sealed now before after transmit x new t whole sent are. sent_sealed sealed now before after transmit x new t whole.sound.handshake whole.sound.side_is sent are;
  quiet = quiet_sealed;
  plain = λ key_id from number small. (bytes_eq-Decides (tag_bytes key_id from Initial number) (tag_bytes key_id from Initial number)).1 refl;
}
