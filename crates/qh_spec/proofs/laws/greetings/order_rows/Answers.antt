use Rattle.qh_spec.proofs.OrderRows.{client_begins, greet_in_order, no_early_packet, no_early_answer}
use Rattle.qh_spec.proofs.laws.greetings.order_rows.Goals as goal

pub returns-clause-begins : goal.returns-clause-begins
returns-clause-begins c = client_begins

pub returns-clause-handshake : goal.returns-clause-handshake
returns-clause-handshake c = greet_in_order

pub returns-clause-early_packet : goal.returns-clause-early_packet
returns-clause-early_packet c = no_early_packet

pub returns-clause-early_answer : goal.returns-clause-early_answer
returns-clause-early_answer c = no_early_answer
