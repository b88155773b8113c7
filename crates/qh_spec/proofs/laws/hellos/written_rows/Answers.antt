use Rattle.std.proofs.Common.{refl}
use Rattle.qh_spec.proofs.HelloWrittenRows.{full_written, plain_written, full_sayable, plain_sayable, one_id_not, token_not}
use Rattle.qh_spec.proofs.laws.hellos.written_rows.Goals as goal

pub returns-clause-full : goal.returns-clause-full
returns-clause-full c = full_written

pub returns-clause-full_sayable : goal.returns-clause-full_sayable
returns-clause-full_sayable c = full_sayable

pub returns-clause-plain : goal.returns-clause-plain
returns-clause-plain c = plain_written

pub returns-clause-plain_sayable : goal.returns-clause-plain_sayable
returns-clause-plain_sayable c = plain_sayable

pub returns-clause-near_sayable : goal.returns-clause-near_sayable
returns-clause-near_sayable c = one_id_not

pub returns-clause-near_client : goal.returns-clause-near_client
returns-clause-near_client c = token_not

pub returns-clause-short_form : goal.returns-clause-short_form
returns-clause-short_form c = refl
