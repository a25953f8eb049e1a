-- The private reader's state, and what its parts give.
use Rattle.std.specs.Prelude.{◌≡◌, ℕ, suc, Bool, true, false, cond, not, ◌&&◌, nat_eq, nat_lt, nat_le, List, [], ◌∷◌, ◌+◌, Option, Some, None, Result, Ok, Err}
use Rattle.std.specs.List.{list_all}
use Rattle.text_fields.specs.Lines.{fields}
use Rattle.task_text.specs.declared.fault.LineKind.{LineKind}
use Rattle.task_text.specs.declared.fault.LineKind.TheVariants.{Bytes, Word, Value, End}
use Rattle.task_text.specs.declared.fault.ReadError.{ReadError}
use Rattle.task_text.specs.declared.fault.ReadError.TheVariants as e
use Rattle.task_text.specs.declared.fault.TaskFault.{TaskFault}
use Rattle.task_text.specs.declared.fault.TaskFault.TheVariants.{Line, Memory}
use Rattle.task_text.specs.declared.reader.Reader.{Reader}
use Rattle.task_text.specs.declared.row.Keyword.{Keyword}
use Rattle.task_text.specs.declared.row.Row.{Row}
use Rattle.task_text.specs.declared.row.Row.TheVariants as row
use Rattle.task_text.specs.declared.task.Source.{Source}
use Rattle.task_text.specs.declared.task.Source.TheVariants.{Name, Words}
use Rattle.task_text.specs.declared.task.Task.{Task}
use Rattle.task_text.specs.Table.{rank, place, most, next_needed, last_needed}
use Rattle.task_text.specs.Texts.{is_plain, is_skipped, no_task, add}
use Rattle.task_text.specs.Reading.{keyword_of, parsed}

-- this value or this kind of refusal, unless memory was short
abbrev pub Gives : {T : Type 0} → Result T ReadError → Result T LineKind → Type 0
Gives (Ok x) answer = answer ≡ Ok x
Gives (Err (e.Line kind)) answer = answer ≡ Err kind
Gives (Err e.Memory) answer = Unit {0}

-- the newest keyword's number and place, 0 where there is none
abbrev pub rank_or_zero : Option Keyword → ℕ
rank_or_zero None = 0
rank_or_zero (Some key) = rank key

abbrev pub place_or_zero : Option Keyword → ℕ
place_or_zero None = 0
place_or_zero (Some key) = place key

-- how often the keyword has stood with this line, if it may stand here: the newest one stood so often
unfoldable pub next_count : Option Keyword → ℕ → Keyword → Option ℕ
next_count newest times key =
    cond (nat_eq (rank_or_zero newest) (rank key))
    (cond (nat_lt times (most key)) (Some (times + 1)) None)
    (cond (nat_lt (place_or_zero newest) (place key) && nat_le (place key) (next_needed (place_or_zero newest))) (Some 1) None)

abbrev pub has_words : Source → Bool
has_words (Name n) = false
has_words (Words c) = true

-- whether a row agrees with what the task says so far
unfoldable pub agrees_with_task : Task → Row → Bool
agrees_with_task t (row.Point p) = list_all (λ q. nat_lt p q) t.points
agrees_with_task t (row.Entry None) = not (has_words t.image)
agrees_with_task t (row.Fact f) = list_all (λ e. not (nat_eq e.at f.at && nat_eq e.register f.register)) t.facts
agrees_with_task t _ = true

-- before the first line
abbrev pub opening : Reader
opening = record { newest = None; times = 0; task = no_task }

-- one row more
abbrev pub taken : Reader → Keyword → ℕ → Result Row LineKind → Result Reader LineKind
taken s key times (Ok r) = cond (agrees_with_task s.task r) (Ok (record { newest = Some key; times = times; task = add r s.task })) (Err Value)
taken s key times (Err kind) = Err kind

abbrev pub counted : Reader → Keyword → Option ℕ → List (List ℕ) → Result Reader LineKind
counted s key None others = Err Word
counted s key (Some times) others = taken s key times (parsed key others)

abbrev pub named : Reader → Option Keyword → List (List ℕ) → Result Reader LineKind
named s None others = Err Word
named s (Some key) others = counted s key (next_count s.newest s.times key) others

unfoldable pub judged : Reader → List (List ℕ) → Result Reader LineKind
judged s [] = Err Word
judged s (f ∷ others) = named s (keyword_of f) others

-- one line more
unfoldable pub judge : Reader → List ℕ → Result Reader LineKind
judge s l = cond (is_plain l) (cond (is_skipped l) (Ok s) (judged s (fields l))) (Err Bytes)

-- the end of the text before line n
abbrev pub ended : Reader → ℕ → Result Task TaskFault
ended s n = cond (nat_le last_needed (place_or_zero s.newest)) (Ok s.task) (Err (Line n End))

abbrev pub walk_on : Result Reader LineKind → ℕ → (Reader → Result Task TaskFault) → Result Task TaskFault
walk_on (Ok s) n go = go s
walk_on (Err kind) n go = Err (Line n kind)

-- the lines from line n on
abbrev pub walk : List (List ℕ) → Reader → ℕ → Result Task TaskFault
walk [] s n = ended s n
walk (l ∷ ls) s n = walk_on (judge s l) n (λ more. walk ls more (suc n))

-- this task or this refusal, unless memory was short
abbrev pub Reads : Result Task TaskFault → Result Task TaskFault → Type 0
Reads (Ok t) answer = answer ≡ Ok t
Reads (Err (Line n kind)) answer = answer ≡ Err (Line n kind)
Reads (Err Memory) answer = Unit {0}

-- the same, of a reader that was changed
abbrev pub Judges : Result (Unit {0}) ReadError → Result Reader LineKind → Reader → Type 0
Judges (Ok u) answer s = answer ≡ Ok s
Judges (Err (e.Line kind)) answer s = answer ≡ Err kind
Judges (Err e.Memory) answer s = Unit {0}

-- the refusal of line n
abbrev pub fault_at : ℕ → ReadError → TaskFault
fault_at n (e.Line kind) = Line n kind
fault_at n e.Memory = Memory
