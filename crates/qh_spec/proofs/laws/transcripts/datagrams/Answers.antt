use Rattle.qh_spec.proofs.TranscriptLaws.{handed_in-append, handed_out-append}
use Rattle.qh_spec.proofs.laws.transcripts.datagrams.Goals as goal

pub returns-clause-taken : goal.returns-clause-taken
returns-clause-taken c = handed_in-append

pub returns-clause-given : goal.returns-clause-given
returns-clause-given c = handed_out-append
