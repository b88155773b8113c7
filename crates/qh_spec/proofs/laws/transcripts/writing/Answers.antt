use Rattle.qh_spec.proofs.TranscriptLaws.{written-append, finished-append}
use Rattle.qh_spec.proofs.laws.transcripts.writing.Goals as goal

pub returns-clause-bytes : goal.returns-clause-bytes
returns-clause-bytes c = written-append

pub returns-clause-end : goal.returns-clause-end
returns-clause-end c = finished-append
