use Rattle.std.proofs.Common.{rules}
use Rattle.qh_plain.proofs.Undecided.{undecided}
use Rattle.qh_plain.proofs.requests.is_valid_request.Goals as goal

pub returns-clause-memory : goal.returns-clause-memory
returns-clause-memory c =
    undecided c.is_valid_head.result c.args.section c.args.request_body c.args.message.now
    (search rules) (search rules) (search rules) c.is_valid_head.ensures.shown c.is_valid_head.ensures.sound
