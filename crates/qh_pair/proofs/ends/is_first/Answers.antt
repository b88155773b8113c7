use Rattle.std.proofs.Common.{arith}
use Rattle.qh_pair.proofs.EndFirst.{found_of, none_of, first_between, first_read, first_short, first_unread}
use Rattle.qh_pair.proofs.ends.is_first.Goals as goal

pub returns-then-datagram-lt-LEAST_FIRST-clause-no : goal.returns-then-datagram-lt-LEAST_FIRST-clause-no
returns-then-datagram-lt-LEAST_FIRST-clause-no c = λ is. first_short _ c.args.datagram.now (omega arith)

pub returns-in-Some-clause-yes : goal.returns-in-Some-clause-yes
returns-in-Some-clause-yes c = λ is. first_read _ c.args.datagram.now _ _ _ _ _ _ (omega arith) (found_of _ _ _ c.in-Some.is c.read.ensures.found) (c.is_between.ensures.yes is)

pub returns-in-Some-clause-no : goal.returns-in-Some-clause-no
returns-in-Some-clause-no c = λ is. first_between _ c.args.datagram.now _ _ _ _ _ _ (found_of _ _ _ c.in-Some.is c.read.ensures.found) (c.is_between.ensures.no is)

pub returns-in-None-clause-no : goal.returns-in-None-clause-no
returns-in-None-clause-no c = λ is. first_unread _ c.args.datagram.now (none_of _ _ c.in-None.is c.read.ensures.none)
