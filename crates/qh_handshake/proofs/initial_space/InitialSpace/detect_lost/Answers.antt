use Rattle.qh_handshake.proofs.SpaceKept.{lost_space, near_space}
use Rattle.qh_handshake.proofs.initial_space.InitialSpace.detect_lost.Goals as goal

pub returns-in-Some-clause-space : goal.returns-in-Some-clause-space
returns-in-Some-clause-space c = lost_space _ _ _ _ c.lose.ensures c.in-Some.is (near_space _ c.requires)
