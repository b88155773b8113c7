use Rattle.qh_handshake.proofs.NoCloses.{fewer_silent, fresh_silent, made_silent, unsaid_silent}
use Rattle.qh_handshake.proofs.silence.silent.Goals as goal

pub returns-clause-fresh : goal.returns-clause-fresh
returns-clause-fresh c = fresh_silent

pub returns-clause-made : goal.returns-clause-made
returns-clause-made c = made_silent

pub returns-clause-fewer : goal.returns-clause-fewer
returns-clause-fewer c = fewer_silent

pub returns-clause-unsaid : goal.returns-clause-unsaid
returns-clause-unsaid c = unsaid_silent
