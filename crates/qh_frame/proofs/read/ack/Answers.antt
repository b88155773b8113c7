use Rattle.std.proofs.Common.{◌∙◌, arith}
use Rattle.qh_frame.proofs.Acks.{counts_fields}
use Rattle.qh_frame.proofs.read.ack.Goals as goal

pub returns-else-kind-eq-ACK-clause-fields : goal.returns-else-kind-eq-ACK-clause-fields
returns-else-kind-eq-ACK-clause-fields c = c.ack_with_counts.ensures.fields ∙ counts_fields c.args.kind c.args.bytes.now (omega arith)
