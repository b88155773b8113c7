use Rattle.qh_handshake.proofs.PeerCloses.{closes_never}
use Rattle.qh_handshake.proofs.PeerDatagrams.{never_ended, peers_agree, versions_agree}
use Rattle.qh_handshake.proofs.PeerKnown.{same_said, same_source}
use Rattle.qh_handshake.proofs.PeerNamed.{same_name}
use Rattle.qh_handshake.proofs.agreeing.peers.Goals as goal

pub returns-clause-parameters : goal.returns-clause-parameters
returns-clause-parameters c = same_said

pub returns-clause-remote : goal.returns-clause-remote
returns-clause-remote c = same_source

pub returns-clause-name : goal.returns-clause-name
returns-clause-name c = same_name

pub returns-clause-faults : goal.returns-clause-faults
returns-clause-faults c = peers_agree

pub returns-clause-versions : goal.returns-clause-versions
returns-clause-versions c = versions_agree

pub returns-clause-closes : goal.returns-clause-closes
returns-clause-closes c = closes_never

pub returns-clause-unended : goal.returns-clause-unended
returns-clause-unended c = never_ended
