use Rattle.qh_peers.proofs.IdHeard.{heard, none_refused}
use Rattle.qh_peers.proofs.IdSent.{transmitted}
use Rattle.qh_peers.proofs.IdSteps.{closed, endpoint_told, fresh, issued, queued, still, timed_out, told, unsent}
use Rattle.qh_peers.proofs.ids.few_ids.Goals as goal

pub returns-clause-fresh : goal.returns-clause-fresh
returns-clause-fresh g c = fresh

pub returns-clause-heard : goal.returns-clause-heard
returns-clause-heard g c = λ v now d n old new t named sound before after says token k is. heard v now d n old new t named sound before after says token k is

pub returns-clause-unrefused : goal.returns-clause-unrefused
returns-clause-unrefused g c = λ v now d n old new t named sound before after says token k is. none_refused v now d n old new t named sound before after says token k is

pub returns-clause-transmitted : goal.returns-clause-transmitted
returns-clause-transmitted g c = transmitted

pub returns-clause-unsent : goal.returns-clause-unsent
returns-clause-unsent g c = unsent

pub returns-clause-timed_out : goal.returns-clause-timed_out
returns-clause-timed_out g c = timed_out

pub returns-clause-issued : goal.returns-clause-issued
returns-clause-issued g c = issued

pub returns-clause-closed : goal.returns-clause-closed
returns-clause-closed g c = closed

pub returns-clause-queued : goal.returns-clause-queued
returns-clause-queued g c = queued

pub returns-clause-told : goal.returns-clause-told
returns-clause-told g c = told

pub returns-clause-endpoint_told : goal.returns-clause-endpoint_told
returns-clause-endpoint_told g c = endpoint_told

pub returns-clause-still : goal.returns-clause-still
returns-clause-still g c = still
