use Rattle.qh_packet.proofs.InitialForms.{written_form, written_size}
use Rattle.qh_packet.proofs.initial.written_initial.Goals as goal

pub returns-clause-form : goal.returns-clause-form
returns-clause-form c = λ destination source token frames tag rest number is_wide d s t f tag_is. written_form destination source token frames tag rest number is_wide d s t f tag_is

pub returns-clause-size : goal.returns-clause-size
returns-clause-size c = λ destination source token frames tag number size fits tag_is. written_size destination source token frames tag number size fits tag_is
