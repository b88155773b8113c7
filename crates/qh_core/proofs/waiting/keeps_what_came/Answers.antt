use Rattle.qh_core.proofs.WaitingKept.{made_keeps, none_keeps, taken_keeps, taken_or_still, taken_whole, timed_out_keeps}
use Rattle.qh_core.proofs.waiting.keeps_what_came.Goals as goal

pub returns-clause-taken : goal.returns-clause-taken
returns-clause-taken g c = taken_keeps

pub returns-clause-made : goal.returns-clause-made
returns-clause-made g c = made_keeps

pub returns-clause-none : goal.returns-clause-none
returns-clause-none g c = none_keeps

pub returns-clause-timeout : goal.returns-clause-timeout
returns-clause-timeout g c = timed_out_keeps

pub returns-clause-whole : goal.returns-clause-whole
returns-clause-whole g c = taken_whole

pub returns-clause-datagram : goal.returns-clause-datagram
returns-clause-datagram g c = taken_or_still
