use Rattle.std.proofs.Common.{rules, codes}
use Rattle.qh_spec.specs.Message.{target_of}
use Rattle.qh_spec.specs.Same.{bytes_under}
use Rattle.qh_plain.proofs.Undecided.{head_valid}
use Rattle.qh_plain.proofs.requests.is_valid_head.Goals as goal

pub returns-else-not-are_valid_hosts-clause-value :
    goal.returns-else-not-are_valid_hosts-clause-value
returns-else-not-are_valid_hosts-clause-value c =
    head_valid c.is_valid_target.result c.args.message.now.head c.in-Request.method (target_of c.in-Request.uri) (bytes_under c.args.message.now.fields (codes "host"))
    (search rules) (search rules) (search rules) c.is_valid_target.ensures.value
