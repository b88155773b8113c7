use Rattle.qh_spec.proofs.MapLaws.{fields_make}
use Rattle.qh_spec.proofs.MessageLaws.{heads_same, fields_same}
use Rattle.qh_spec.proofs.MessageRows.{twice_means, hosts_mean_nothing}
use Rattle.qh_spec.proofs.laws.messages.meaning.Goals as goal

pub returns-clause-heads : goal.returns-clause-heads
returns-clause-heads c = heads_same

pub returns-clause-maps : goal.returns-clause-maps
returns-clause-maps c = fields_same

pub returns-clause-made : goal.returns-clause-made
returns-clause-made c = fields_make

pub returns-clause-twice : goal.returns-clause-twice
returns-clause-twice c = twice_means

pub returns-clause-hosts : goal.returns-clause-hosts
returns-clause-hosts c = hosts_mean_nothing
