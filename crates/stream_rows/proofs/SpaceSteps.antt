-- A space once a call changed its streams.
use Rattle.std.proofs.Common.{List}
use Rattle.qh_core.proofs.StreamsGo.{StreamsGo}
use Rattle.qh_space.proofs.StreamsStepped.{stepped}
use Rattle.qh_space.specs.Space.{IsSpace}
use Rattle.qh_space.specs.declared.data_space.DataSpace.{DataSpace}
use Rattle.qh_spec.specs.Transcript.{Act}
use Rattle.qh_streams.specs.Streams.{PlainStreams}

pub called : {u : List Act} (s : DataSpace) (new : PlainStreams) → StreamsGo s.streams new u → IsSpace s → IsSpace (record s { streams = new })
called s new go space = stepped s new space go.tracked go.keeps
