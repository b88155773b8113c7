use Rattle.std.proofs.Common.{refl}
use Rattle.qh_handshake.proofs.OneInitial.{is_form, is_only, is_there}
use Rattle.qh_handshake.proofs.laws.written_datagram.Goals as goal

pub returns-clause-alone : goal.returns-clause-alone
returns-clause-alone c = λ destination source token frames tag number size can. record { first = 195; body = _; is = is_form destination source token frames tag number size can }

pub returns-clause-has : goal.returns-clause-has
returns-clause-has c = λ destination source token frames tag number size id_length sender fs can tagged are. is_there destination source token frames tag number size can sender tagged id_length fs are

pub returns-clause-only : goal.returns-clause-only
returns-clause-only c = λ destination source token frames tag number size id_length sender p can tagged has. is_only destination source token frames tag number size can sender tagged id_length p _ refl has
