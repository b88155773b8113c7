-- Each STREAM frame that was handed out has a byte, or the end (RFC 9000, section 19.8).
use Rattle.std.specs.Prelude.{List, length}
use Rattle.qh_core.specs.Follows.{HasSomething}
use Rattle.qh_core.specs.declared.inner.Inner.{Inner}
use Rattle.qh_spec.specs.Carried.{HasRun}
use Rattle.qh_spec.specs.QuicFrame.{StreamFrame as Run}
use Rattle.qh_spec.specs.Transcript.{Act, handed_out}

module _ {S : Type 0} where
  -- each STREAM frame that the end handed out has a byte, or the end
  abbrev pub AreFilled : Inner S → List Act → Type 0
  AreFilled p t = (run : Run) → HasRun (length p.remote_id) (handed_out t) p.side run → HasSomething run
