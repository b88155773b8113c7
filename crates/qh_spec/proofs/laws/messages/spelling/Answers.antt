use Rattle.qh_spec.proofs.MessageLaws.{spells_one, spells_closed}
use Rattle.qh_spec.proofs.MessageRows.{get_spells, get_spells_no_other, ok_spells, long_spells, data_alone}
use Rattle.qh_spec.proofs.laws.messages.spelling.Goals as goal

pub returns-clause-one : goal.returns-clause-one
returns-clause-one c = spells_one

pub returns-clause-closed : goal.returns-clause-closed
returns-clause-closed c = spells_closed

pub returns-clause-asked : goal.returns-clause-asked
returns-clause-asked c = get_spells

pub returns-clause-answered : goal.returns-clause-answered
returns-clause-answered c = ok_spells

pub returns-clause-not_another : goal.returns-clause-not_another
returns-clause-not_another c = get_spells_no_other

pub returns-clause-long : goal.returns-clause-long
returns-clause-long c = long_spells

pub returns-clause-headless : goal.returns-clause-headless
returns-clause-headless c = data_alone
