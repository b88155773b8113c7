-- How far a connection went since a moment: what a role keeps of it, whatever was done before.
use Rattle.std.specs.Prelude.{◌≡◌, List, ◌++◌}
use Rattle.qh_conduct.specs.Behaves.{Behaves}
use Rattle.qh_core.specs.Made.{AreMadeOnStreams}
use Rattle.qh_core.specs.declared.inner.Inner.{Inner}
use Rattle.qh_spec.specs.Transcript.{Act}

-- The connection behaves to its peer, and was made from the one that it was at the start by calls on streams alone, whose acts stand
-- behind what had been done by then.
pub record WentFrom {S : Type 0} (start : Inner S) (before : List Act) (c : Inner S) (t : List Act) : Type 0 where
  pub behaves : Behaves c t
  pub acts : List Act
  pub t_is : t ≡ before ++ acts
  pub made : AreMadeOnStreams start c acts
