-- Jobs texts as relations between whole texts, a task and jobs. This project's own.
use Rattle.std.specs.Prelude.{◌≡◌, ◌⊎◌, ℕ, suc, Bool, true, false, not, ◌&&◌, nat_eq, nat_le, nat_lt, List, [], ◌∷◌, ◌++◌, length, ◌+◌, ◌/◌, ◌%◌, ◌^◌, codes, decimal}
use Rattle.std.specs.List.{list_all}
use Rattle.std.specs.Char.{digit_char}
use Rattle.std.specs.Int.{is_in_range}
use Rattle.text_fields.specs.Lines.{lines_of}
use Rattle.task_text.specs.declared.fault.JobsFault.{JobsFault}
use Rattle.task_text.specs.declared.fault.JobsFault.TheVariants.{Line, Memory}
use Rattle.task_text.specs.declared.jobs.Jobs.{Jobs}
use Rattle.task_text.specs.declared.jobs.Past.{Past}
use Rattle.task_text.specs.declared.task.Task.{Task}
use Rattle.task_text.specs.Texts.{is_plain, kept}

-- a line of a jobs text: the version, a past count of cycles, or the input of a job
pub data JobsRow : Type 0 where
  version : JobsRow
  past : Past → JobsRow
  job : List ℕ → JobsRow

-- two lower-case hexadecimal digits for each byte
abbrev pub bytes_text : List ℕ → List ℕ
bytes_text [] = []
bytes_text (b ∷ bs) = digit_char (b / 16) ∷ digit_char (b % 16) ∷ bytes_text bs

-- an input, or `-` for none
abbrev pub input_text : List ℕ → List ℕ
input_text [] = codes "-"
input_text (b ∷ bs) = bytes_text (b ∷ bs)

-- the fields of a row, which has one text
abbrev pub fields_of : JobsRow → List (List ℕ)
fields_of version = codes "visa-jobs" ∷ codes "1" ∷ []
fields_of (past p) = codes "past" ∷ decimal p.sub ∷ decimal p.cycles ∷ []
fields_of (job bs) = codes "job" ∷ input_text bs ∷ []

abbrev pub is_byte : ℕ → Bool
is_byte b = nat_lt b 256

-- a sub-task of the task, whose number is a word, and at most 10^18 cycles; an input that fits the buffer
unfoldable pub in_limits : Task → JobsRow → Bool
in_limits t version = true
in_limits t (past p) = nat_lt p.sub (2 ^ 32) && (is_in_range 1 (length t.cuts + 1) p.sub && nat_le p.cycles (10 ^ 18))
in_limits t (job bs) = list_all is_byte bs && nat_le (length bs) t.input_len

-- rows stand newest first: how many are past counts, and how many inputs
abbrev pub past_in : List JobsRow → ℕ
past_in [] = 0
past_in (version ∷ rows) = past_in rows
past_in (past p ∷ rows) = past_in rows + 1
past_in (job bs ∷ rows) = past_in rows

abbrev pub jobs_in : List JobsRow → ℕ
jobs_in [] = 0
jobs_in (version ∷ rows) = jobs_in rows
jobs_in (past p ∷ rows) = jobs_in rows
jobs_in (job bs ∷ rows) = jobs_in rows + 1

abbrev pub is_opened : List JobsRow → Bool
is_opened [] = false
is_opened (r ∷ rows) = true

-- the version once and first, then at most 1024 past counts, then at most 10000 inputs
unfoldable pub may_stand : List JobsRow → JobsRow → Bool
may_stand older version = not (is_opened older)
may_stand older (past p) = is_opened older && (nat_eq (jobs_in older) 0 && nat_lt (past_in older) 1024)
may_stand older (job bs) = is_opened older && nat_lt (jobs_in older) 10000

abbrev pub IsStart : Task → List JobsRow → Type 0
IsStart t [] = Unit {0}
IsStart t (r ∷ older) = (may_stand older r ≡ true) × (in_limits t r ≡ true) × IsStart t older

-- a whole text has its version
abbrev pub IsWhole : Task → List JobsRow → Type 0
IsWhole t rows = IsStart t rows × (is_opened rows ≡ true)

abbrev pub spelled : List JobsRow → List (List (List ℕ))
spelled [] = []
spelled (r ∷ older) = spelled older ++ fields_of r ∷ []

-- these lines say these rows
pub record AreLinesOf (ls : List (List ℕ)) (rows : List JobsRow) : Type 0 where
  pub plain : list_all is_plain ls ≡ true
  pub same : kept ls ≡ spelled rows

-- jobs of no line, and what one row more says: the inputs stand one after the other
abbrev pub no_jobs : Jobs
no_jobs = record { past = []; inputs = []; bytes = [] }

abbrev pub add : JobsRow → Jobs → Jobs
add version j = j
add (past p) j = record j { past = j.past ++ p ∷ [] }
add (job bs) j = record j { inputs = j.inputs ++ record { from = length j.bytes; len = length bs } ∷ []; bytes = j.bytes ++ bs }

abbrev pub jobs_of : List JobsRow → Jobs
jobs_of [] = no_jobs
jobs_of (r ∷ older) = add r (jobs_of older)

-- the text is that of these jobs of the task
pub record IsJobs (bytes : List ℕ) (t : Task) (j : Jobs) : Type 0 where
  pub rows : List JobsRow
  pub whole : IsWhole t rows
  pub lines : AreLinesOf (lines_of bytes) rows
  pub jobs : j ≡ jobs_of rows

-- some jobs text continues these lines
pub record Begins (t : Task) (ls : List (List ℕ)) : Type 0 where
  pub rows : List JobsRow
  pub more : List JobsRow
  pub whole : IsWhole t (more ++ rows)
  pub lines : AreLinesOf ls rows

-- line n is the first that no jobs text can continue
pub record StopsAt (t : Task) (ls : List (List ℕ)) (n : ℕ) : Type 0 where
  pub before : List (List ℕ)
  pub at : List ℕ
  pub after : List (List ℕ)
  pub parts : ls ≡ before ++ at ∷ after
  pub number : n ≡ suc (length before)
  pub begins : Begins t before
  pub stops : ¬ (Begins t (before ++ at ∷ []))

-- the lines begin a jobs text and are none: n is the number of the last, plus one
pub record StopsEarly (t : Task) (ls : List (List ℕ)) (n : ℕ) : Type 0 where
  pub number : n ≡ suc (length ls)
  pub begins : Begins t ls
  pub no_jobs : (rows : List JobsRow) → IsWhole t rows → ¬ (AreLinesOf ls rows)

-- why a text is refused: it is no jobs text, and this is its line, or memory was short
abbrev pub IsRefusal : List ℕ → Task → JobsFault → Type 0
IsRefusal bytes t (Line n) = (StopsAt t (lines_of bytes) n ⊎ StopsEarly t (lines_of bytes) n) × ((j : Jobs) → ¬ (IsJobs bytes t j))
IsRefusal bytes t Memory = Unit {0}
