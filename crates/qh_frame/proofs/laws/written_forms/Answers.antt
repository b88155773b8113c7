use Rattle.qh_frame.proofs.WrittenForms.{form_stream, form_covers, one_beginning}
use Rattle.qh_frame.proofs.laws.written_forms.Goals as goal

pub returns-clause-stream : goal.returns-clause-stream
returns-clause-stream c = form_stream

pub returns-clause-covers : goal.returns-clause-covers
returns-clause-covers c = form_covers

pub returns-clause-one : goal.returns-clause-one
returns-clause-one c = one_beginning
