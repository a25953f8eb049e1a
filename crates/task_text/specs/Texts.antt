-- Task texts as relations between whole texts and values. This project's own.
use Rattle.std.specs.Prelude.{◌≡◌, ℕ, suc, Bool, true, false, cond, nat_eq, nat_le, List, [], ◌∷◌, ◌++◌, length, ◌*◌, None}
use Rattle.std.specs.List.{list_all}
use Rattle.text_fields.specs.Lines.{lines_of, fields, is_printable}
use Rattle.visa_io.specs.declared.records.Span.{Span}
use Rattle.task_text.specs.declared.fault.LineKind.{LineKind}
use Rattle.task_text.specs.declared.fault.LineKind.TheVariants.{Bytes, Word, Field, Value, End}
use Rattle.task_text.specs.declared.fault.TaskFault.{TaskFault}
use Rattle.task_text.specs.declared.fault.TaskFault.TheVariants.{Line, Memory}
use Rattle.task_text.specs.declared.row.Keyword.{Keyword}
use Rattle.task_text.specs.declared.row.Row.{Row}
use Rattle.task_text.specs.declared.row.Row.TheVariants as row
use Rattle.task_text.specs.declared.task.Source.{Source}
use Rattle.task_text.specs.declared.task.Source.TheVariants.{Name, Words}
use Rattle.task_text.specs.declared.task.Task.{Task}
use Rattle.task_text.specs.Table.{keyword, name, fields_of, is_formed, in_limits, agrees_with_all, may_stand, newest_place, last_needed}

-- bytes 20 to 7e
unfoldable pub is_plain : List ℕ → Bool
is_plain l = list_all is_printable l

-- `#`, with which a comment begins
abbrev pub number_sign : ℕ
number_sign = 35

-- lines that are counted and say nothing: empty ones, and those that begin with `#`
unfoldable pub is_skipped : List ℕ → Bool
is_skipped [] = true
is_skipped (b ∷ bs) = nat_eq b number_sign

-- the fields of the lines that say something
abbrev pub kept : List (List ℕ) → List (List (List ℕ))
kept [] = []
kept (l ∷ ls) = cond (is_skipped l) (kept ls) (fields l ∷ kept ls)

-- the fields of rows, which stand newest first
abbrev pub spelled : List Row → List (List (List ℕ))
spelled [] = []
spelled (r ∷ older) = spelled older ++ fields_of r ∷ []

-- rows that keep the table, as far as they go
abbrev pub IsStart : List Row → Type 0
IsStart [] = Unit {0}
IsStart (r ∷ older) = (may_stand older (keyword r) ≡ true) × (in_limits r ≡ true) × (agrees_with_all older r ≡ true) × IsStart older

-- and have every needed line
abbrev pub is_ended : List Row → Bool
is_ended rows = nat_le last_needed (newest_place rows)

abbrev pub IsWhole : List Row → Type 0
IsWhole rows = IsStart rows × (is_ended rows ≡ true)

-- these lines say these rows
pub record AreLinesOf (ls : List (List ℕ)) (rows : List Row) : Type 0 where
  pub plain : list_all is_plain ls ≡ true
  pub same : kept ls ≡ spelled rows

-- a range that can be read and written, one that can be read, and one of code
abbrev pub ram_span : ℕ → ℕ → Span
ram_span a n = record { start = a; len = n; r = true; w = true; x = false }

abbrev pub show_span : ℕ → ℕ → Span
show_span a n = record { start = a; len = n; r = true; w = false; x = false }

abbrev pub code_span : ℕ → ℕ → Span
code_span a n = record { start = a; len = 4 * n; r = true; w = false; x = true }

-- code with the words of one line more
abbrev pub with_words : Source → ℕ → List ℕ → Source
with_words (Name n) a ws = Words (record { spans = code_span a (length ws) ∷ []; words = ws })
with_words (Words c) a ws = Words (record { spans = c.spans ++ code_span a (length ws) ∷ []; words = c.words ++ ws })

-- a task of no line
abbrev pub no_task : Task
no_task = record {
  machine = record { width = 0; rob = 0; mul = 0; div = 0; mem_ps = 0; store_ps = 0; settle_ps = 0; start_ps = 0; icache = None; dcache = None };
  big = false;
  points = [];
  period_ps = 0;
  deadline_ps = 0;
  image = Name [];
  entry = None;
  stack = 0;
  ram = [];
  input_at = 0;
  input_len = 0;
  out_max = 0;
  show = [];
  cuts = [];
  regions = [];
  facts = [];
}

-- what one row more says
abbrev pub add : Row → Task → Task
add row.Version t = t
add (row.Order big) t = record t { big = big }
add (row.Core c) t = record t { machine = record t.machine { width = c.width; rob = c.rob; mul = c.mul; div = c.div } }
add (row.Memory m) t = record t { machine = record t.machine { mem_ps = m.mem_ps; store_ps = m.store_ps; settle_ps = m.settle_ps; start_ps = m.start_ps } }
add (row.Icache s) t = record t { machine = record t.machine { icache = s } }
add (row.Dcache s) t = record t { machine = record t.machine { dcache = s } }
add (row.Point p) t = record t { points = t.points ++ p ∷ [] }
add (row.Time s) t = record t { period_ps = s.period_ps; deadline_ps = s.deadline_ps }
add (row.Image n) t = record t { image = Name n }
add (row.Words w) t = record t { image = with_words t.image w.start w.words }
add (row.Entry a) t = record t { entry = a }
add (row.Stack a) t = record t { stack = a }
add (row.Ram e) t = record t { ram = t.ram ++ ram_span e.start e.len ∷ [] }
add (row.Input e) t = record t { input_at = e.start; input_len = e.len }
add (row.Output n) t = record t { out_max = n }
add (row.Show e) t = record t { show = t.show ++ show_span e.start e.len ∷ [] }
add (row.Cut a) t = record t { cuts = t.cuts ++ a ∷ [] }
add (row.Loop r) t = record t { regions = t.regions ++ r ∷ [] }
add (row.Fact f) t = record t { facts = t.facts ++ f ∷ [] }

abbrev pub task_of : List Row → Task
task_of [] = no_task
task_of (r ∷ older) = add r (task_of older)

-- the text is that of the task
pub record IsTask (bytes : List ℕ) (t : Task) : Type 0 where
  pub rows : List Row
  pub whole : IsWhole rows
  pub lines : AreLinesOf (lines_of bytes) rows
  pub task : t ≡ task_of rows

-- a task that some text gives
pub record IsGiven (t : Task) : Type 0 where
  pub rows : List Row
  pub whole : IsWhole rows
  pub task : t ≡ task_of rows

-- some task continues these lines
pub record Begins (ls : List (List ℕ)) : Type 0 where
  pub rows : List Row
  pub more : List Row
  pub whole : IsWhole (more ++ rows)
  pub lines : AreLinesOf ls rows

-- after these lines the line has a keyword that can stand there
pub record CanStand (before : List (List ℕ)) (l : List ℕ) : Type 0 where
  pub rows : List Row
  pub start : IsStart rows
  pub lines : AreLinesOf before rows
  pub key : Keyword
  pub others : List (List ℕ)
  pub fields_are : fields l ≡ name key ∷ others
  pub stands : may_stand rows key ≡ true

-- the fields of the line are as many as its keyword takes, and of the form
pub record HasForm (l : List ℕ) : Type 0 where
  pub key : Keyword
  pub others : List (List ℕ)
  pub fields_are : fields l ≡ name key ∷ others
  pub formed : is_formed key others ≡ true

-- the first test that a line fails
abbrev pub Fails : LineKind → List (List ℕ) → List ℕ → Type 0
Fails Bytes before l = is_plain l ≡ false
Fails Word before l = (is_plain l ≡ true) × ¬ (CanStand before l)
Fails Field before l = (is_plain l ≡ true) × CanStand before l × ¬ (HasForm l)
Fails Value before l = (is_plain l ≡ true) × CanStand before l × HasForm l
Fails End before l = ⊥

-- line n is the first that no task can continue, and this is the test that it fails
pub record IsFaultIn (ls : List (List ℕ)) (n : ℕ) (kind : LineKind) : Type 0 where
  pub before : List (List ℕ)
  pub at : List ℕ
  pub after : List (List ℕ)
  pub parts : ls ≡ before ++ at ∷ after
  pub number : n ≡ suc (length before)
  pub begins : Begins before
  pub stops : ¬ (Begins (before ++ at ∷ []))
  pub fails : Fails kind before at

-- the lines begin a task and are none: n is the number of the last, plus one
pub record StopsEarly (ls : List (List ℕ)) (n : ℕ) : Type 0 where
  pub number : n ≡ suc (length ls)
  pub begins : Begins ls
  pub no_task : (rows : List Row) → IsWhole rows → ¬ (AreLinesOf ls rows)

-- the fault of a text that is no task
abbrev pub IsFault : List ℕ → ℕ → LineKind → Type 0
IsFault bytes n Bytes = IsFaultIn (lines_of bytes) n Bytes
IsFault bytes n Word = IsFaultIn (lines_of bytes) n Word
IsFault bytes n Field = IsFaultIn (lines_of bytes) n Field
IsFault bytes n Value = IsFaultIn (lines_of bytes) n Value
IsFault bytes n End = StopsEarly (lines_of bytes) n

-- why a text is refused: it is no task's, and this is its fault, or memory was short
abbrev pub IsRefusal : List ℕ → TaskFault → Type 0
IsRefusal bytes (Line n kind) = IsFault bytes n kind × ((t : Task) → ¬ (IsTask bytes t))
IsRefusal bytes Memory = Unit {0}
