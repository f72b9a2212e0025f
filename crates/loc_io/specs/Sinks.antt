-- What the sinks tell. The words: `mem_stream`, `failing_writes`, `writes_made`, `stream_of`, `std_stream`.
use Rattle.std.specs.Prelude.{ℕ, List, Some, None}
use Rattle.loc_io.specs.{Streams.Stream, Streams.stream, declared.mem_sink.MemSink.MemSink}
use Rattle.loc_io.specs.declared.std_sink.StdSink.{StdSink}

-- a sink in memory tells all
abbrev pub mem_stream : MemSink → Stream
mem_stream s = stream (Some s.bytes.items) s.faults.number s.late.number

-- the numbers of the writes to a sink in memory that are to fail
abbrev pub failing_writes : MemSink → List ℕ
failing_writes s = s.fail.numbers.items

-- how many writes to a sink in memory were made
abbrev pub writes_made : MemSink → ℕ
writes_made s = s.fail.calls

-- the stream below a sink
abbrev pub stream_of : {W : Type 0} → StdSink W → W
stream_of s = s.inner

-- nothing is told of the bytes of a real stream
abbrev pub std_stream : {W : Type 0} → StdSink W → Stream
std_stream s = stream None s.faults.number s.late.number
