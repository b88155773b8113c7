use Rattle.qh_packet.proofs.Versions.{written_versions, versions_again}
use Rattle.qh_packet.proofs.version_negotiation.written_version_negotiation.Goals as goal

pub returns-clause-is : goal.returns-clause-is
returns-clause-is c = λ first destination source versions low high d s some. written_versions first destination source versions low high d s some

pub returns-clause-versions : goal.returns-clause-versions
returns-clause-versions c = λ versions all. versions_again versions all
