use Rattle.qh_endpoint.proofs.Reaching.{is_kept_for, reached}
use Rattle.qh_endpoint.proofs.laws.routed_datagrams.Goals as goal

pub returns-clause-reached : goal.returns-clause-reached
returns-clause-reached g c now addresses datagram written old new event h handle distinct is route handled = reached _ _ _ _ _ _ _ _ now addresses datagram written old new h distinct is event handle route handled

pub returns-clause-kept : goal.returns-clause-kept
returns-clause-kept g c now addresses datagram written old new event h k distinct is route handled = is_kept_for _ _ _ _ _ _ _ _ now addresses datagram written old new h distinct is event k route handled
