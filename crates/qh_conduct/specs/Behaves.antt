-- How an end behaves to its peer, all at once.
use Rattle.std.specs.Prelude.{List}
use Rattle.qh_conduct.specs.Announced.{HasAnnounced}
use Rattle.qh_conduct.specs.Filled.{AreFilled}
use Rattle.qh_conduct.specs.Granted.{HasGranted}
use Rattle.qh_conduct.specs.Reached.{HasReached}
use Rattle.qh_conduct.specs.Sized.{HasSized}
use Rattle.qh_core.specs.Follows.{Follows}
use Rattle.qh_core.specs.declared.inner.Inner.{Inner}
use Rattle.qh_spec.specs.Transcript.{Act}

-- The connection follows what was done with it, and so it stands to its peer: what it knows came, what it sends keeps what it
-- announced, that is no less than its first limits, each final size that it says is right, and no STREAM frame is empty.
pub record Behaves {S : Type 0} (c : Inner S) (t : List Act) : Type 0 where
  pub follows : Follows c t
  pub reached : HasReached c t
  pub announced : HasAnnounced c t
  pub granted : HasGranted c
  pub sized : HasSized c t
  pub filled : AreFilled c t
