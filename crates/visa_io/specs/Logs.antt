-- What a source of files keeps of its reads.
use Rattle.std.specs.Prelude.{Option}
use Rattle.visa_io.specs.declared.read_log.ReadLog.{ReadLog}
use Rattle.visa_io.specs.Reads.{Contents, LastRead, Seen}

-- the last read, as it was noted
abbrev pub last_noted : ReadLog → LastRead
last_noted log = record { name = log.name; taken = log.taken; failed = log.failed }

-- what is seen of files that keep such a log
abbrev pub seen_in : Option Contents → ReadLog → Seen
seen_in contents log = record { contents = contents; faults = log.faults; reads = log.reads; last = last_noted log }
