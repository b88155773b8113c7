use Rattle.qh_book.proofs.Ending.{closes, last_handle, last_recv, last_send}
use Rattle.qh_book.proofs.laws.closes_wake.Goals as goal

pub returns-clause-close : goal.returns-clause-close
returns-clause-close g c = closes

pub returns-clause-handle : goal.returns-clause-handle
returns-clause-handle g c = last_handle

pub returns-clause-send : goal.returns-clause-send
returns-clause-send g c = last_send

pub returns-clause-recv : goal.returns-clause-recv
returns-clause-recv g c = last_recv
