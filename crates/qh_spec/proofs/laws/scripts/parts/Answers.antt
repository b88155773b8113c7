use Rattle.qh_spec.proofs.ScriptParts.{second_body_is, early_body_refused, field_too_many, trailer_too_many, field_taken, trailer_taken}
use Rattle.qh_spec.proofs.laws.scripts.parts.Goals as goal

pub returns-clause-second_body : goal.returns-clause-second_body
returns-clause-second_body c = second_body_is

pub returns-clause-early_body : goal.returns-clause-early_body
returns-clause-early_body c = early_body_refused

pub returns-clause-no_field : goal.returns-clause-no_field
returns-clause-no_field c = field_too_many

pub returns-clause-no_trailer : goal.returns-clause-no_trailer
returns-clause-no_trailer c = trailer_too_many

pub returns-clause-field : goal.returns-clause-field
returns-clause-field c = field_taken

pub returns-clause-trailer : goal.returns-clause-trailer
returns-clause-trailer c = trailer_taken
