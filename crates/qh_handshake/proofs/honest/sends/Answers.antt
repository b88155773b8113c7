use Rattle.qh_handshake.proofs.SendsIn.{lost_sends, taken_sends}
use Rattle.qh_handshake.proofs.SendsOn.{close_unsent_sends, discarded_sends, dropped_sends, fresh_sends, timed_out_sends, unsent_sends}
use Rattle.qh_handshake.proofs.SendsOut.{close_sends, made_sends}
use Rattle.qh_handshake.proofs.honest.sends.Goals as goal

pub returns-clause-fresh : goal.returns-clause-fresh
returns-clause-fresh c = fresh_sends

pub returns-clause-timed_out : goal.returns-clause-timed_out
returns-clause-timed_out c = timed_out_sends

pub returns-clause-discarded : goal.returns-clause-discarded
returns-clause-discarded c = discarded_sends

pub returns-clause-taken : goal.returns-clause-taken
returns-clause-taken c = taken_sends

pub returns-clause-made : goal.returns-clause-made
returns-clause-made c = made_sends

pub returns-clause-closed : goal.returns-clause-closed
returns-clause-closed c = close_sends

pub returns-clause-lost : goal.returns-clause-lost
returns-clause-lost c = lost_sends

pub returns-clause-unsent : goal.returns-clause-unsent
returns-clause-unsent c = unsent_sends

pub returns-clause-close_unsent : goal.returns-clause-close_unsent
returns-clause-close_unsent c = close_unsent_sends

pub returns-clause-dropped : goal.returns-clause-dropped
returns-clause-dropped c = dropped_sends
