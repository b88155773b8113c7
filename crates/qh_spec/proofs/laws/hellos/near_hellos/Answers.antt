use Rattle.qh_spec.proofs.HelloNearRows.{cut_none, left_over_none, wrong_side_none, nothing_none, cut_value_none, cut_id_none}
use Rattle.qh_spec.proofs.laws.hellos.near_hellos.Goals as goal

pub returns-clause-cut : goal.returns-clause-cut
returns-clause-cut c = cut_none

pub returns-clause-left_over : goal.returns-clause-left_over
returns-clause-left_over c = left_over_none

pub returns-clause-wrong_side : goal.returns-clause-wrong_side
returns-clause-wrong_side c = wrong_side_none

pub returns-clause-nothing : goal.returns-clause-nothing
returns-clause-nothing c = nothing_none

pub returns-clause-cut_value : goal.returns-clause-cut_value
returns-clause-cut_value c = cut_value_none

pub returns-clause-cut_id : goal.returns-clause-cut_id
returns-clause-cut_id c = cut_id_none
