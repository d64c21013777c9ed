-- What a sink over a stream is made of.
use Rattle.std.specs.Prelude.{ℕ}
use Rattle.flip_io.specs.declared.stream.StdSink.{StdSink}

abbrev pub stream_of : {W : Type 0} → StdSink W → W
stream_of sink = sink.to

-- how often writes have failed or took nothing
abbrev pub write_faults_of : {W : Type 0} → StdSink W → ℕ
write_faults_of sink = sink.faults
