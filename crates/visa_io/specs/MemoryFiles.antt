-- Files in memory, some of whose reads fail. This project's own.
use Rattle.std.specs.Prelude.{ℕ, ◌==◌, List, length, if◌then◌else◌, nat_le, find, bytes_eq, Option, Some, None, option_map, Result, Ok, Err}
use Rattle.std.specs.List.{list_any}
use Rattle.visa_io.specs.declared.files.FileFault.{FileFault}
use Rattle.visa_io.specs.declared.files.FileFault.TheVariants.{Failed, Long}
use Rattle.visa_io.specs.declared.mem_files.MemFile.{MemFile}
use Rattle.visa_io.specs.declared.mem_files.MemFiles.{MemFiles}
use Rattle.visa_io.specs.Faults.{risen}
use Rattle.visa_io.specs.Logs.{seen_in}
use Rattle.visa_io.specs.Reads.{Seen}

-- the content of a name: that of the first file of this name
abbrev pub held : List MemFile → List ℕ → Option (List ℕ)
held files name = option_map (λ file. file.bytes) (find (λ file. bytes_eq file.name name) files)

-- what is seen of files in memory, which tell their contents
abbrev pub seen_of : MemFiles → Seen
seen_of m = seen_in (Some (held m.files)) m.log

-- the content, if there is one, of at most max bytes
abbrev pub within : ℕ → Option (List ℕ) → Result (List ℕ) FileFault
within max None = Err Failed
within max (Some content) = if nat_le (length content) max then Ok content else Err Long

-- the answer of the next read: it fails if its number, counted from 1, is among `fails`, or if no file has the name
abbrev pub mem_answer : MemFiles → List ℕ → ℕ → Result (List ℕ) FileFault
mem_answer m name max = if list_any (λ number. number == risen m.log.reads) m.fails then Err Failed else within max (held m.files name)
