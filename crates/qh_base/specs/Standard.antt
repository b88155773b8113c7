-- What a source and a sink over std's readers and writers stand on.
use Rattle.qh_base.specs.declared.io.standard.StdSource.{StdSource}
use Rattle.qh_base.specs.declared.io.standard.StdSink.{StdSink}

abbrev pub reader_of : {R : Type 0} → StdSource R → R
reader_of source = source.inner

abbrev pub writer_of : {W : Type 0} → StdSink W → W
writer_of sink = sink.inner
