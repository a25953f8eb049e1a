-- What a sink in memory tells.
use Rattle.std.specs.Prelude.{Some}
use Rattle.visa_io.specs.declared.mem_sink.MemSink.{MemSink}
use Rattle.visa_io.specs.Puts.{Taken}

-- its bytes and its counts
abbrev pub taken_of : MemSink → Taken
taken_of sink = record { bytes = Some sink.bytes.items; faults = sink.faults; puts = sink.calls }
