use Rattle.qh_space.proofs.SpaceKept.{lost_space}
use Rattle.qh_space.proofs.data_space.DataSpace.detect_lost.Goals as goal

pub returns-in-Some-clause-space : goal.returns-in-Some-clause-space
returns-in-Some-clause-space c =
    lost_space _ _ _ _ c.lose.ensures.lost c.lose.ensures.owed c.in-Some.is (c.requires.acked _ c.in-Some.is) c.requires.next c.requires.bound c.requires.due
