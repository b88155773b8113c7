use Rattle.qh_spec.proofs.CarriedLaws.{carries_split, carries_left, carries_right, carries_end_split, carries_end_left, carries_end_right}
use Rattle.qh_spec.proofs.CarriedRows.{hi_carried, hi_not_carried}
use Rattle.qh_spec.proofs.laws.wire.carrying.Goals as goal

pub returns-clause-split : goal.returns-clause-split
returns-clause-split c = carries_split

pub returns-clause-left : goal.returns-clause-left
returns-clause-left c = carries_left

pub returns-clause-right : goal.returns-clause-right
returns-clause-right c = carries_right

pub returns-clause-end_split : goal.returns-clause-end_split
returns-clause-end_split c = carries_end_split

pub returns-clause-end_left : goal.returns-clause-end_left
returns-clause-end_left c = carries_end_left

pub returns-clause-end_right : goal.returns-clause-end_right
returns-clause-end_right c = carries_end_right

pub returns-clause-row : goal.returns-clause-row
returns-clause-row c = hi_carried

pub returns-clause-near_row : goal.returns-clause-near_row
returns-clause-near_row c = hi_not_carried
