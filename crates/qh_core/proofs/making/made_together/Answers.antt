use Rattle.qh_core.proofs.MadeTogether.{all_follow, all_same, both_steps, local_all, one_step, streams_local}
use Rattle.qh_core.specs.Made.{IsMade, IsMadeLocally, IsMadeOnStreams}
use Rattle.qh_core.specs.Made.AreSteps.{none}
use Rattle.qh_core.proofs.making.made_together.Goals as goal

pub returns-clause-none : goal.returns-clause-none
returns-clause-none g c = λ c. none

pub returns-clause-one : goal.returns-clause-one
returns-clause-one g c = one_step IsMadeOnStreams

pub returns-clause-both : goal.returns-clause-both
returns-clause-both g c = both_steps IsMadeOnStreams

pub returns-clause-streams : goal.returns-clause-streams
returns-clause-streams g c = streams_local

pub returns-clause-one_local : goal.returns-clause-one_local
returns-clause-one_local g c = one_step IsMadeLocally

pub returns-clause-both_local : goal.returns-clause-both_local
returns-clause-both_local g c = both_steps IsMadeLocally

pub returns-clause-local : goal.returns-clause-local
returns-clause-local g c = local_all

pub returns-clause-one_of_all : goal.returns-clause-one_of_all
returns-clause-one_of_all g c = λ accepts sealed. one_step (IsMade accepts sealed)

pub returns-clause-both_of_all : goal.returns-clause-both_of_all
returns-clause-both_of_all g c = λ accepts sealed. both_steps (IsMade accepts sealed)

pub returns-clause-follows : goal.returns-clause-follows
returns-clause-follows g c = all_follow

pub returns-clause-same : goal.returns-clause-same
returns-clause-same g c = all_same
