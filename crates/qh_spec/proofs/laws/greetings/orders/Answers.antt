use Rattle.qh_spec.proofs.HandshakeOrderLaws.{fresh_orders, act_orders, hears_orders, greets_orders, sends_orders}
use Rattle.qh_spec.proofs.laws.greetings.orders.Goals as goal

pub returns-clause-fresh : goal.returns-clause-fresh
returns-clause-fresh c = fresh_orders

pub returns-clause-act : goal.returns-clause-act
returns-clause-act c = act_orders

pub returns-clause-hears : goal.returns-clause-hears
returns-clause-hears c = hears_orders

pub returns-clause-greets : goal.returns-clause-greets
returns-clause-greets c = greets_orders

pub returns-clause-sends : goal.returns-clause-sends
returns-clause-sends c = sends_orders
