use Rattle.qh_transcript.proofs.FaithfulRuns.{lawful}
use Rattle.qh_transcript.proofs.lawful.faithful.Goals as goal

pub returns : goal.returns
returns c = lawful
