use Rattle.qh_packet.proofs.Sessions.{plain_names, plain_makes}
use Rattle.qh_packet.proofs.session.plain_tags.Goals as goal

pub returns-clause-names : goal.returns-clause-names
returns-clause-names c = plain_names

pub returns-clause-makes : goal.returns-clause-makes
returns-clause-makes c = plain_makes
