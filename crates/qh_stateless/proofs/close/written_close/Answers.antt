use Rattle.qh_stateless.proofs.Closes.{close_form, close_packet}
use Rattle.qh_stateless.proofs.close.written_close.Goals as goal

pub returns-clause-form : goal.returns-clause-form
returns-clause-form c = λ sealed d s rest e short_d short_s reason makes. close_form sealed d s e short_d short_s reason makes rest

pub returns-clause-packet : goal.returns-clause-packet
returns-clause-packet c = close_packet
