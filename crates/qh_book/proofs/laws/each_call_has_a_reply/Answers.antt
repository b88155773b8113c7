use Rattle.qh_book.proofs.Replies.{has_reply}
use Rattle.qh_book.proofs.laws.each_call_has_a_reply.Goals as goal

pub returns : goal.returns
returns g c = has_reply
