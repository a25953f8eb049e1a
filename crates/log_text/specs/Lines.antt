-- The lines of one job in a log. This project's own.
use Rattle.std.specs.Prelude.{ℕ, ◌+◌, ◌==◌, if◌then◌else◌, List, [], ◌∷◌, ◌++◌, codes, length, map, slice_index}
use Rattle.std.specs.Fmt.{decimal}
use Rattle.std.specs.List.{flat_map, range_with_len}
use Rattle.text_fields.specs.Numbers.{hex_digit, hex_text}
pub use Rattle.text_fields.specs.Lines.{line}
use Rattle.visa_io.specs.declared.records.Span.{Span}
use Rattle.mips_ref.specs.Memory.{Flat, byte_at, or_zero}
use Rattle.mips_ref.specs.Mips.{Mips, register_of}
use Rattle.mips_ref.specs.declared.records.Step.{Step}
use Rattle.mips_ref.specs.declared.records.Step.TheVariants.{Went, Exit, Trap}
use Rattle.mips_ref.specs.declared.records.TrapKind.{TrapKind}
use Rattle.mips_ref.specs.declared.records.TrapKind.TheVariants.{AddressLoad, AddressStore, Overflow, TrapInstr, Break, Syscall, Reserved, FetchFault, ReturnMismatch, ReturnFull, OutputFull}
use Rattle.frequency_pick.specs.declared.plans.Pair.{Pair}
use Rattle.log_text.specs.declared.record.JobMode.{JobMode}
use Rattle.log_text.specs.declared.record.JobMode.TheVariants as mode
use Rattle.log_text.specs.declared.record.JobRecord.{JobRecord}

-- the first line of a log of jobs in simple mode
abbrev pub simple_header : List ℕ
simple_header = line (codes "visa 1 simple")

-- the first line of a log of jobs that are released in fast mode
abbrev pub run_header : List ℕ
run_header = line (codes "visa 1 run")

-- a trap's name in small letters, its words joined by dashes
abbrev pub trap_name : TrapKind → List ℕ
trap_name AddressLoad = codes "address-load"
trap_name AddressStore = codes "address-store"
trap_name Overflow = codes "overflow"
trap_name TrapInstr = codes "trap-instr"
trap_name Break = codes "break"
trap_name Syscall = codes "syscall"
trap_name Reserved = codes "reserved"
trap_name FetchFault = codes "fetch-fault"
trap_name ReturnMismatch = codes "return-mismatch"
trap_name ReturnFull = codes "return-full"
trap_name OutputFull = codes "output-full"

-- how a job ended; a step that went ends none
abbrev pub ending_text : Step → List ℕ
ending_text Exit = codes "exit"
ending_text (Trap kind pc) = codes "trap " ++ (trap_name kind ++ (codes " " ++ hex_text pc))
ending_text Went = []

-- a pair of operating points, the speculative one first
abbrev pub pair_text : Pair → List ℕ
pair_text pair = codes " pair " ++ (decimal pair.a ++ (codes " " ++ decimal pair.b))

-- how a job ran: a missed checkpoint has its sub-task, the cycles that were performed then, and the time of the
-- switch (ps)
abbrev pub mode_text : JobMode → List ℕ
mode_text mode.Simple = codes " simple"
mode_text (mode.Fast pair) = codes " fast" ++ pair_text pair
mode_text (mode.Missed sub pair at switch_ps) =
    codes " missed " ++ (decimal sub ++ (pair_text pair ++ (codes " at " ++ (decimal at ++ (codes " switch " ++ decimal switch_ps)))))

-- a job: its number, how it ran, when it ended (ps after its release), and how
unfoldable pub job_line : JobRecord → List ℕ
job_line job =
    codes "job " ++ (decimal job.number ++ (mode_text job.mode
    ++ (codes " end " ++ (decimal job.end_ps ++ (codes " " ++ line (ending_text job.step))))))

-- a sub-task that ended in fast mode, numbered from 1, and the cycles that it took
unfoldable pub sub_line : ℕ → ℕ → List ℕ
sub_line sub cycles = codes "sub " ++ (decimal sub ++ (codes " " ++ line (decimal cycles)))

unfoldable pub sub_lines : List ℕ → List (List ℕ)
sub_lines counts = map (λ k. sub_line (k + 1) (slice_index counts k)) (range_with_len 0 (length counts))

-- a named word, or nothing where it is zero
abbrev pub named_word : List ℕ → ℕ → List ℕ
named_word name value = if value == 0 then [] else codes " " ++ (name ++ (codes "=" ++ hex_text value))

-- those of the registers from 1 to a number that aren't zero
unfoldable pub registers_text : Mips → ℕ → List ℕ
registers_text x last = flat_map (λ r. named_word (decimal r) (register_of x r)) (range_with_len 1 last)

-- each register from 1 to 31 that isn't zero, then HI and LO where they aren't
unfoldable pub registers_line : Mips → List ℕ
registers_line x =
    codes "regs" ++ (registers_text x 31 ++ (named_word (codes "hi") x.hi ++ line (named_word (codes "lo") x.lo)))

-- words, each behind a space
abbrev pub words_behind : List ℕ → List ℕ
words_behind words = flat_map (λ word. codes " " ++ hex_text word) words

-- the words of the output
unfoldable pub output_line : List ℕ → List ℕ
output_line words = codes "out" ++ line (words_behind words)

-- a byte as two digits
abbrev pub byte_text : ℕ → List ℕ
byte_text b = hex_digit b 16 ∷ hex_digit b 1 ∷ []

-- the bytes from an address on
unfoldable pub bytes_text : Flat → ℕ → ℕ → List ℕ
bytes_text m start len = flat_map (λ a. byte_text (or_zero (byte_at m a))) (range_with_len start len)

-- a range of memory that is shown: its first address, and its bytes by rising address
unfoldable pub shown_line : Flat → Span → List ℕ
shown_line m s = codes "mem " ++ (hex_text s.start ++ (codes " " ++ line (bytes_text m s.start s.len)))

abbrev pub shown_lines : Flat → List Span → List (List ℕ)
shown_lines m spans = map (shown_line m) spans

-- the state in which a job ended, and the ranges that its log shows
unfoldable pub state_lines : Mips → List Span → List (List ℕ)
state_lines x show = registers_line x ∷ output_line x.output ∷ shown_lines x.memory show

-- the lines of a job: how it ran and ended, the cycles of the sub-tasks that ended in fast mode, and its state
unfoldable pub record_lines : JobRecord → List ℕ → Mips → List Span → List (List ℕ)
record_lines job counts x show =
    job_line job ∷ (sub_lines counts ++ state_lines x show)
