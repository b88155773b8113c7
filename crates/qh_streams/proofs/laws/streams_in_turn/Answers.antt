use Rattle.qh_streams.proofs.StreamsInTurn.{written_in_turn, none_passed}
use Rattle.qh_streams.proofs.laws.streams_in_turn.Goals as goal

pub returns-clause-order : goal.returns-clause-order
returns-clause-order c = written_in_turn

pub returns-clause-passed : goal.returns-clause-passed
returns-clause-passed c = none_passed
