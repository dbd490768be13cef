-- What the files and sinks in memory show of themselves.
use Rattle.std.specs.Prelude.{ℕ, List}
use Rattle.obq_io.specs.declared.memory.MemFiles.{MemFiles}
use Rattle.obq_io.specs.declared.sinks.MemSink.{MemSink}
use Rattle.obq_io.specs.declared.sinks.SureSink.{SureSink}

-- how many calls were made so far, begins and reads together
abbrev pub calls_of : MemFiles → ℕ
calls_of m = m.calls

-- the numbers of the calls that fail
abbrev pub fails_of : MemFiles → List ℕ
fails_of m = m.fails.items

-- how many bytes a sink still takes
abbrev pub room_of : MemSink → ℕ
room_of s = s.room

-- how many bytes a sink has taken, up to the largest number
abbrev pub count_of : SureSink → ℕ
count_of s = s.count
