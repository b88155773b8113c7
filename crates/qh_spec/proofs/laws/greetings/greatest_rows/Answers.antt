use Rattle.qh_spec.proofs.GreatestRows.{raised, raised_not, kept, kept_not, low_values, low_announces, kept_permitted}
use Rattle.qh_spec.proofs.laws.greetings.greatest_rows.Goals as goal

pub returns-clause-raised : goal.returns-clause-raised
returns-clause-raised c = raised

pub returns-clause-near_raised : goal.returns-clause-near_raised
returns-clause-near_raised c = raised_not

pub returns-clause-kept : goal.returns-clause-kept
returns-clause-kept c = kept

pub returns-clause-near_kept : goal.returns-clause-near_kept
returns-clause-near_kept c = kept_not

pub returns-clause-lower : goal.returns-clause-lower
returns-clause-lower c = low_announces

pub returns-clause-all_values : goal.returns-clause-all_values
returns-clause-all_values c = low_values

pub returns-clause-permitted : goal.returns-clause-permitted
returns-clause-permitted c = kept_permitted
