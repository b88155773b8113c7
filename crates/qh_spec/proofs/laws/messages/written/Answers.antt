use Rattle.qh_spec.proofs.SpellingLaws.{written_spells, valid_spells, get_written, get_writable}
use Rattle.qh_spec.proofs.laws.messages.written.Goals as goal

pub returns-clause-whole : goal.returns-clause-whole
returns-clause-whole c = written_spells

pub returns-clause-request : goal.returns-clause-request
returns-clause-request c = valid_spells

pub returns-clause-get : goal.returns-clause-get
returns-clause-get c = get_written

pub returns-clause-writable : goal.returns-clause-writable
returns-clause-writable c = get_writable
