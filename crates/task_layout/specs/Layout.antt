-- A task's memory with its image in it. Source: this project's own.
use Rattle.std.specs.Prelude.{ℕ, ◌+◌, ◌<◌, ◌≤◌, ◌≡◌, ◌⊎◌, true, false, List, [], ◌∷◌, ◌++◌, take, drop, filter, All, Some, Result, Ok, Err}
use Rattle.visa_io.specs.declared.records.Image.{Image}
use Rattle.visa_io.specs.declared.records.Span.{Span}
use Rattle.task_text.specs.declared.task.Task.{Task}
use Rattle.mips_ref.specs.Layout.{Covers, LeastRefused, MadeOf, NoneRefused}
use Rattle.mips_ref.specs.Memory.{AllDeclared, AllStorable, Flat, greatest_memory, put_bytes, total_len}
use Rattle.mips_ref.specs.declared.layout.MemoryError.{MemoryError}
use Rattle.mips_ref.specs.declared.layout.MemoryError.TheVariants as error
use Rattle.task_layout.specs.declared.fault.LayoutFault.{LayoutFault}
use Rattle.task_layout.specs.declared.fault.LayoutFault.TheVariants.{OrderDiffers, Overlap, TooBig, CodeBig, Uncovered, Memory}

-- the ranges of a task's memory: those of its image, then its own
abbrev pub ranges_of : Task → Image → List Span
ranges_of t i = i.spans ++ t.ram

-- how many bytes can be executed
unfoldable pub code_len : List Span → ℕ
code_len spans = total_len (filter (λ s. s.x) spans)

-- the most of them
abbrev pub greatest_code : ℕ
greatest_code = 262144

-- the bytes of ranges, which stand one after the other, are each put into its range
unfoldable pub filled : List Span → List ℕ → Flat → Flat
filled [] bytes m = m
filled (s ∷ rest) bytes m = filled rest (drop s.len bytes) (put_bytes m s.start (take s.len bytes))

-- the task has its image's byte order, and this memory is made of the ranges, with zeros in it
pub record IsEmpty (t : Task) (i : Image) (m : Flat) : Type 0 where
  pub order : t.big ≡ i.big
  pub made : MadeOf (ranges_of t i) i.big m

-- a range is declared whole
abbrev pub IsDeclared : Flat → Span → Type 0
IsDeclared m s = AllDeclared m s.start s.len

-- the memory that a task is given with its image
pub record IsLaidOut (t : Task) (i : Image) (m : Flat) : Type 0 where
  pub empty : Flat
  pub is_empty : IsEmpty t i empty
  pub bytes : m ≡ filled i.spans i.bytes empty
  pub code_small : code_len i.spans ≤ greatest_code
  pub input : AllStorable m t.input_at t.input_len
  pub shows : All (IsDeclared m) t.show

-- the first of some ranges that isn't declared whole, by its least address that isn't
unfoldable pub FirstUndeclared : Flat → List Span → ℕ → Type 0
FirstUndeclared m [] a = ⊥
FirstUndeclared m (s ∷ rest) a =
    Covers false m s.start (s.start + s.len) (Some a) ⊎ (IsDeclared m s × FirstUndeclared m rest a)

-- the least address of the input buffer that can't be stored to; else an address that a log shows, and that isn't declared
abbrev pub FirstUncovered : Task → Flat → ℕ → Type 0
FirstUncovered t m a =
    Covers true m t.input_at (t.input_at + t.input_len) (Some a)
    ⊎ (AllStorable m t.input_at t.input_len × FirstUndeclared m t.show a)

-- what a fault of the ranges is called here
abbrev pub fault_of : MemoryError → LayoutFault
fault_of (error.Overlap a) = Overlap a
fault_of error.TooBig = TooBig
fault_of error.Memory = Memory

-- what comes of a task and its image: the first rule that fails, or the memory; where memory is wanting, that at any time
unfoldable pub IsLayout : Task → Image → Result Flat LayoutFault → Type 0
IsLayout t i (Ok m) = IsLaidOut t i m
IsLayout t i (Err OrderDiffers) = t.big ≡ i.big → ⊥
IsLayout t i (Err (Overlap a)) = (t.big ≡ i.big) × LeastRefused (ranges_of t i) a
IsLayout t i (Err TooBig) = (t.big ≡ i.big) × NoneRefused (ranges_of t i) × (greatest_memory < total_len (ranges_of t i))
IsLayout t i (Err CodeBig) = (m : Flat) × IsEmpty t i m × (greatest_code < code_len i.spans)
IsLayout t i (Err (Uncovered a)) = (m : Flat) × IsEmpty t i m × (code_len i.spans ≤ greatest_code) × FirstUncovered t m a
IsLayout t i (Err Memory) = Unit {0}
