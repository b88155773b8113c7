use Rattle.qh_endpoint.proofs.Staying.{later, later_unhandled, stays, stays_unhandled}
use Rattle.qh_endpoint.proofs.laws.attempts_stay.Goals as goal

pub returns-clause-handled : goal.returns-clause-handled
returns-clause-handled g c now addresses datagram written old new event k attempt was handled = stays _ _ _ _ _ _ _ _ now addresses datagram written old new k attempt was event handled

pub returns-clause-unhandled : goal.returns-clause-unhandled
returns-clause-unhandled g c now addresses datagram written old new k attempt was unhandled = stays_unhandled _ _ _ _ _ _ _ _ now addresses datagram written old new k attempt was unhandled

pub returns-clause-later : goal.returns-clause-later
returns-clause-later g c now addresses datagram written old new event handled = later _ _ _ _ _ _ _ _ now addresses datagram written old new event handled

pub returns-clause-later_unhandled : goal.returns-clause-later_unhandled
returns-clause-later_unhandled g c now addresses datagram written old new unhandled = later_unhandled _ _ _ _ _ _ _ _ now addresses datagram written old new unhandled
