-- A jobs text read line by line: rows newest first, and the private reader's state.
use Rattle.std.specs.Prelude.{◌≡◌, ℕ, suc, Bool, true, false, cond, not, ◌&&◌, nat_eq, nat_lt, List, [], ◌∷◌, length, ◌+◌, ◌*◌, Option, Some, None, Result, Ok, Err, codes}
use Rattle.std.specs.Str.{bytes_eq}
use Rattle.std.specs.Char.{digit_value}
use Rattle.text_fields.specs.Lines.{fields}
use Rattle.text_fields.specs.Numbers.{is_number, saturated, is_hex_digit}
use Rattle.task_text.specs.declared.fault.JobsFault.{JobsFault}
use Rattle.task_text.specs.declared.fault.JobsFault.TheVariants.{Line, Memory}
use Rattle.task_text.specs.declared.jobs_reader.Untaken.{Untaken}
use Rattle.task_text.specs.declared.jobs_reader.Untaken.TheVariants.{Refused}
use Rattle.task_text.specs.declared.jobs_reader.Untaken.TheVariants as u
use Rattle.task_text.specs.declared.jobs.Jobs.{Jobs}
use Rattle.task_text.specs.declared.jobs_reader.JobsReader.{JobsReader}
use Rattle.task_text.specs.declared.task.Task.{Task}
use Rattle.task_text.specs.Texts.{is_plain, is_skipped}
use Rattle.task_text.specs.JobsTexts.{JobsRow, version, past, job, in_limits, is_opened, may_stand, no_jobs, add}

-- pairs of digits, at least one
abbrev pub are_pairs : List ℕ → Bool
are_pairs [] = true
are_pairs (a ∷ []) = false
are_pairs (a ∷ b ∷ cs) = is_hex_digit a && (is_hex_digit b && are_pairs cs)

unfoldable pub is_input : List ℕ → Bool
is_input h = nat_lt 0 (length h) && are_pairs h

-- the bytes that they write
abbrev pub bytes_of : List ℕ → List ℕ
bytes_of [] = []
bytes_of (a ∷ []) = []
bytes_of (a ∷ b ∷ cs) = (digit_value a * 16 + digit_value b) ∷ bytes_of cs

-- the row of the fields after a keyword, if any
unfoldable pub version_of : List (List ℕ) → Option JobsRow
version_of (v ∷ []) = cond (bytes_eq v (codes "1")) (Some version) None
version_of _ = None

unfoldable pub past_of : List (List ℕ) → Option JobsRow
past_of (s ∷ c ∷ []) = cond (is_number s && is_number c) (Some (past (record { sub = saturated s; cycles = saturated c }))) None
past_of _ = None

unfoldable pub job_of : List (List ℕ) → Option JobsRow
job_of (h ∷ []) = cond (bytes_eq h (codes "-")) (Some (job [])) (cond (is_input h) (Some (job (bytes_of h))) None)
job_of _ = None

unfoldable pub row_of : List (List ℕ) → Option JobsRow
row_of [] = None
row_of (f ∷ others) =
    cond (bytes_eq f (codes "visa-jobs")) (version_of others)
    (cond (bytes_eq f (codes "past")) (past_of others)
    (cond (bytes_eq f (codes "job")) (job_of others) None))

abbrev pub limited : Task → Option JobsRow → Option JobsRow
limited t None = None
limited t (Some r) = cond (in_limits t r) (Some r) None

-- a line after rows
abbrev pub took : List JobsRow → Option JobsRow → Option (List JobsRow)
took older None = None
took older (Some r) = cond (may_stand older r) (Some (r ∷ older)) None

unfoldable pub judge : Task → List JobsRow → List ℕ → Option (List JobsRow)
judge t older l = cond (is_plain l) (cond (is_skipped l) (Some older) (took older (limited t (row_of (fields l))))) None

abbrev pub walk_on : Option (List JobsRow) → ℕ → (List JobsRow → Result (List JobsRow) JobsFault) → Result (List JobsRow) JobsFault
walk_on (Some rows) n go = go rows
walk_on None n go = Err (Line n)

abbrev pub walk : Task → List (List ℕ) → List JobsRow → ℕ → Result (List JobsRow) JobsFault
walk t [] rows n = cond (is_opened rows) (Ok rows) (Err (Line n))
walk t (l ∷ ls) rows n = walk_on (judge t rows l) n (λ more. walk t ls more (suc n))

-- the private reader: whether the version stood, and the jobs so far
abbrev pub opening : JobsReader
opening = record { opened = false; jobs = no_jobs }

-- whether a row may stand, by what the jobs say so far
unfoldable pub stands : JobsReader → JobsRow → Bool
stands s version = not s.opened
stands s (past p) = s.opened && (nat_eq (length s.jobs.inputs) 0 && nat_lt (length s.jobs.past) 1024)
stands s (job bs) = s.opened && nat_lt (length s.jobs.inputs) 10000

abbrev pub took_state : JobsReader → Option JobsRow → Option JobsReader
took_state s None = None
took_state s (Some r) = cond (stands s r) (Some (record { opened = true; jobs = add r s.jobs })) None

unfoldable pub fields_state : Task → JobsReader → List (List ℕ) → Option JobsReader
fields_state t s fs = took_state s (limited t (row_of fs))

unfoldable pub judge_state : Task → JobsReader → List ℕ → Option JobsReader
judge_state t s l = cond (is_plain l) (cond (is_skipped l) (Some s) (fields_state t s (fields l))) None

abbrev pub walk_on_state : Option JobsReader → ℕ → (JobsReader → Result Jobs JobsFault) → Result Jobs JobsFault
walk_on_state (Some s) n go = go s
walk_on_state None n go = Err (Line n)

abbrev pub ended_state : JobsReader → ℕ → Result Jobs JobsFault
ended_state s n = cond s.opened (Ok s.jobs) (Err (Line n))

abbrev pub walk_state : Task → List (List ℕ) → JobsReader → ℕ → Result Jobs JobsFault
walk_state t [] s n = ended_state s n
walk_state t (l ∷ ls) s n = walk_on_state (judge_state t s l) n (λ more. walk_state t ls more (suc n))

-- this state or a refusal, unless memory was short
abbrev pub Judges : Result (Unit {0}) Untaken → Option JobsReader → JobsReader → Type 0
Judges (Ok x) answer s = answer ≡ Some s
Judges (Err Refused) answer s = answer ≡ None
Judges (Err u.Memory) answer s = Unit {0}

-- these jobs or this refusal, unless memory was short
abbrev pub Reads : Result Jobs JobsFault → Result Jobs JobsFault → Type 0
Reads (Ok j) answer = answer ≡ Ok j
Reads (Err (Line n)) answer = answer ≡ Err (Line n)
Reads (Err Memory) answer = Unit {0}

-- the refusal of line n
abbrev pub fault_at : ℕ → Untaken → JobsFault
fault_at n Refused = Line n
fault_at n u.Memory = Memory
