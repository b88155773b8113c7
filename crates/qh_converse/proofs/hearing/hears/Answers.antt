use Rattle.qh_converse.proofs.MidDatagram.{connects, ends_it, ends_lost, fresh, greets, heard, hears_it, lost, unheard}
use Rattle.qh_converse.proofs.hearing.hears.Goals as goal

pub returns-clause-fresh : goal.returns-clause-fresh
returns-clause-fresh g c = fresh

pub returns-clause-hears : goal.returns-clause-hears
returns-clause-hears g c = hears_it

pub returns-clause-greets : goal.returns-clause-greets
returns-clause-greets g c = greets

pub returns-clause-lost : goal.returns-clause-lost
returns-clause-lost g c = lost

pub returns-clause-ends : goal.returns-clause-ends
returns-clause-ends g c = ends_it

pub returns-clause-ends_lost : goal.returns-clause-ends_lost
returns-clause-ends_lost g c = ends_lost

pub returns-clause-unheard : goal.returns-clause-unheard
returns-clause-unheard g c = unheard

pub returns-clause-heard : goal.returns-clause-heard
returns-clause-heard g c = heard

pub returns-clause-connects : goal.returns-clause-connects
returns-clause-connects g c = connects
