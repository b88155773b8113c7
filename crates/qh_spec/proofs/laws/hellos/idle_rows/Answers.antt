use Rattle.std.proofs.Common.{refl}
use Rattle.qh_spec.proofs.HelloSaidRows.{idle_not_greater, idle_not_zero, idle_not_none}
use Rattle.qh_spec.proofs.laws.hellos.idle_rows.Goals as goal

pub returns-clause-neither : goal.returns-clause-neither
returns-clause-neither c = refl

pub returns-clause-peer_alone : goal.returns-clause-peer_alone
returns-clause-peer_alone c = refl

pub returns-clause-own_alone : goal.returns-clause-own_alone
returns-clause-own_alone c = refl

pub returns-clause-peer_less : goal.returns-clause-peer_less
returns-clause-peer_less c = refl

pub returns-clause-own_less : goal.returns-clause-own_less
returns-clause-own_less c = refl

pub returns-clause-equal : goal.returns-clause-equal
returns-clause-equal c = refl

pub returns-clause-near_greater : goal.returns-clause-near_greater
returns-clause-near_greater c = idle_not_greater

pub returns-clause-near_zero : goal.returns-clause-near_zero
returns-clause-near_zero c = idle_not_zero

pub returns-clause-near_none : goal.returns-clause-near_none
returns-clause-near_none c = idle_not_none
