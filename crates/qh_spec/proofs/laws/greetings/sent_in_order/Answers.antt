use Rattle.qh_spec.proofs.HandshakeOrderLaws.{none_in_order, quiet_in_order, sent_in_order}
use Rattle.qh_spec.proofs.laws.greetings.sent_in_order.Goals as goal

pub returns-clause-nothing : goal.returns-clause-nothing
returns-clause-nothing c = none_in_order

pub returns-clause-quiet : goal.returns-clause-quiet
returns-clause-quiet c = quiet_in_order

pub returns-clause-sends : goal.returns-clause-sends
returns-clause-sends c = sent_in_order
