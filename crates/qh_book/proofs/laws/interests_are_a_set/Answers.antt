use Rattle.qh_book.proofs.Registering.{interest_itself, registered_again, same_interest}
use Rattle.qh_book.proofs.laws.interests_are_a_set.Goals as goal

pub returns-clause-equal : goal.returns-clause-equal
returns-clause-equal c = same_interest

pub returns-clause-itself : goal.returns-clause-itself
returns-clause-itself c = interest_itself

pub returns-clause-again : goal.returns-clause-again
returns-clause-again c = registered_again
