use Rattle.std.proofs.Common.{◌≡◌, ◌<◌, List, Ok}
use Rattle.qh_core.specs.declared.inner.Inner.{Inner}
use Rattle.qh_roles.specs.Going.{WentFrom}
use Rattle.qh_roles.specs.Streams.{GivesNoMore, IsReading, IsStirred, NoneArrived, ReadsOn}
use Rattle.qh_roles.specs.declared.incoming.ReadState.TheVariants as reading
use Rattle.qh_spec.specs.Transcript.{Act}
use Rattle.qh_roles.proofs.incoming.Incoming.read.Given as goal

-- the pieces so far were read, and more may wait
abbrev pub invariant-loop-piece : goal.invariant-loop-piece
invariant-loop-piece g l = record {
  same : l.self.stream ≡ l.fn.self.stream;
  stirred : IsStirred l.fn.connection l.connection;
  none_arrived : NoneArrived l.fn.connection.space.streams l.connection.space.streams;
  unwritten : l.connection.space.streams.send ≡ l.fn.connection.space.streams.send;
  more : GivesNoMore l.connection.space.streams.recv l.fn.self.stream → GivesNoMore l.fn.connection.space.streams.recv l.fn.self.stream;
  still : GivesNoMore l.fn.connection.space.streams.recv l.fn.self.stream → GivesNoMore l.connection.space.streams.recv l.fn.self.stream;
  given : 0 < l._piece → GivesNoMore l.fn.connection.space.streams.recv l.fn.self.stream → ⊥;
  reads : (start : Inner _) (before t : List Act) → WentFrom start before l.fn.connection t → IsReading t l.fn.self → ReadsOn start before (Ok reading.Blocked) l.self l.connection t;
}
