use Rattle.std.proofs.Common.{refl}
use Rattle.qh_spec.proofs.HelloSaidRows.{idle_own_alone, idle_peer_alone, idle_lesser, idle_same, idle_none, idle_within}
use Rattle.qh_spec.proofs.laws.hellos.idle_times.Goals as goal

pub returns-clause-neither : goal.returns-clause-neither
returns-clause-neither c = refl

pub returns-clause-own_alone : goal.returns-clause-own_alone
returns-clause-own_alone c = idle_own_alone

pub returns-clause-peer_alone : goal.returns-clause-peer_alone
returns-clause-peer_alone c = idle_peer_alone

pub returns-clause-lesser : goal.returns-clause-lesser
returns-clause-lesser c = idle_lesser

pub returns-clause-same_at_both : goal.returns-clause-same_at_both
returns-clause-same_at_both c = idle_same

pub returns-clause-none : goal.returns-clause-none
returns-clause-none c = idle_none

pub returns-clause-within : goal.returns-clause-within
returns-clause-within c = idle_within
