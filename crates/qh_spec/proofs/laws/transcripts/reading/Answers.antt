use Rattle.qh_spec.proofs.TranscriptLaws.{pieces_read-append, read-append, ended-append}
use Rattle.qh_spec.proofs.laws.transcripts.reading.Goals as goal

pub returns-clause-pieces : goal.returns-clause-pieces
returns-clause-pieces c = pieces_read-append

pub returns-clause-bytes : goal.returns-clause-bytes
returns-clause-bytes c = read-append

pub returns-clause-end : goal.returns-clause-end
returns-clause-end c = ended-append
