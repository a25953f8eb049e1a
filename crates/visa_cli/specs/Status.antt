-- The numbers and lines of the statuses. This project's own.
use Rattle.std.specs.Prelude.{ℕ, List, [], ◌++◌, codes}
use Rattle.std.specs.Fmt.{decimal}
use Rattle.text_fields.specs.Numbers.{hex_text}
use Rattle.log_text.specs.Lines.{line}
use Rattle.task_layout.specs.declared.fault.LayoutFault.{LayoutFault}
use Rattle.task_layout.specs.declared.fault.LayoutFault.TheVariants as layout
use Rattle.mips_elf.specs.declared.error.ElfError.{ElfError}
use Rattle.mips_elf.specs.declared.error.ElfError.TheVariants as elf
use Rattle.task_text.specs.declared.fault.LineKind.{LineKind}
use Rattle.task_text.specs.declared.fault.LineKind.TheVariants.{Bytes, Word, Field, Value, End}
use Rattle.visa_cli.specs.Refusals.{refusal_text}
use Rattle.visa_cli.specs.declared.status.ImageKind.{ImageKind}
use Rattle.visa_cli.specs.declared.status.ImageKind.TheVariants.{Elf, Layout}
use Rattle.visa_cli.specs.declared.status.Role.{Role}
use Rattle.visa_cli.specs.declared.status.Role.TheVariants.{Task, Image, Jobs}
use Rattle.visa_cli.specs.declared.status.Status.{Status}
use Rattle.visa_cli.specs.declared.status.Status.TheVariants.{Done, Usage, ReadFault, TaskText, ImageRefused, Refused, JobsText, WriteFault, Memory, Long}

-- the exit status of the program
abbrev pub number_of : Status → ℕ
number_of Done = 0
number_of Usage = 1
number_of (ReadFault role) = 2
number_of (TaskText at kind) = 3
number_of (ImageRefused kind) = 4
number_of (Refused refusal) = 5
number_of (JobsText at) = 6
number_of WriteFault = 7
number_of Memory = 8
number_of (Long role) = 9

-- a role as it is printed
abbrev pub role_name : Role → List ℕ
role_name Task = codes "task"
role_name Image = codes "image"
role_name Jobs = codes "jobs"

-- the first test that a line of a task text fails, as it is printed
abbrev pub line_kind_name : LineKind → List ℕ
line_kind_name Bytes = codes "bytes"
line_kind_name Word = codes "word"
line_kind_name Field = codes "field"
line_kind_name Value = codes "value"
line_kind_name End = codes "end"

-- why a file is no image, as it is printed; want of memory has a status of its own
abbrev pub elf_text : ElfError → List ℕ
elf_text elf.NotElf = codes "not-elf"
elf_text (elf.Truncated offset) = codes "truncated " ++ decimal offset
elf_text elf.WrongClass = codes "wrong-class"
elf_text elf.WrongMachine = codes "wrong-machine"
elf_text elf.WrongType = codes "wrong-type"
elf_text elf.WrongArch = codes "wrong-arch"
elf_text elf.EntrySize = codes "entry-size"
elf_text elf.TooMany = codes "too-many"
elf_text elf.Dynamic = codes "dynamic"
elf_text (elf.SegmentSize segment) = codes "segment-size " ++ decimal segment
elf_text (elf.Overlap at) = codes "overlap " ++ hex_text at
elf_text elf.TooBig = codes "too-big"
elf_text elf.Memory = codes "memory"

-- why a task can't be laid out with its image, as it is printed
abbrev pub layout_text : LayoutFault → List ℕ
layout_text layout.OrderDiffers = codes "order-differs"
layout_text (layout.Overlap at) = codes "overlap " ++ hex_text at
layout_text layout.TooBig = codes "too-big"
layout_text layout.CodeBig = codes "code-big"
layout_text (layout.Uncovered at) = codes "uncovered " ++ hex_text at
layout_text layout.Memory = codes "memory"

abbrev pub image_kind_text : ImageKind → List ℕ
image_kind_text (Elf fault) = elf_text fault
image_kind_text (Layout fault) = layout_text fault

-- the line that is printed for a status; a log has lines of its own, and where the sink failed nothing more is put
unfoldable pub line_of : Status → List ℕ
line_of Done = []
line_of Usage = line (codes "usage: visa simple TASK JOBS | check TASK | run TASK JOBS [--predictor P] | list TASK | demo N")
line_of (ReadFault role) = codes "read fault " ++ line (role_name role)
line_of (TaskText at kind) = codes "task line " ++ (decimal at ++ (codes " " ++ line (line_kind_name kind)))
line_of (ImageRefused kind) = codes "image " ++ line (image_kind_text kind)
line_of (Refused refusal) = codes "refused " ++ line (refusal_text refusal)
line_of (JobsText at) = codes "jobs line " ++ line (decimal at)
line_of WriteFault = []
line_of Memory = line (codes "memory")
line_of (Long role) = codes "long " ++ line (role_name role)
