use Rattle.qh_spec.proofs.PartLaws.{part_lawful, part_written, part_finished, part_pieces, part_ended, part_split, part_linked, end_of_part}
use Rattle.qh_spec.proofs.laws.greetings.parts.Goals as goal

pub returns-clause-lawful : goal.returns-clause-lawful
returns-clause-lawful c = part_lawful

pub returns-clause-written : goal.returns-clause-written
returns-clause-written c = part_written

pub returns-clause-finished : goal.returns-clause-finished
returns-clause-finished c = part_finished

pub returns-clause-pieces : goal.returns-clause-pieces
returns-clause-pieces c = part_pieces

pub returns-clause-ended : goal.returns-clause-ended
returns-clause-ended c = part_ended

pub returns-clause-split : goal.returns-clause-split
returns-clause-split c = part_split

pub returns-clause-linked : goal.returns-clause-linked
returns-clause-linked c = part_linked

pub returns-clause-end_handed_out : goal.returns-clause-end_handed_out
returns-clause-end_handed_out c = end_of_part
