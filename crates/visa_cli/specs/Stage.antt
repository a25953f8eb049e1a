-- Stages of a call. This project's own.
use Rattle.std.specs.Prelude.{◌≡◌, ◌⊎◌, List, [], ◌++◌, Result, Ok, Err}
use Rattle.visa_io.specs.Reads.{Seen}
use Rattle.visa_cli.specs.Reads.{FileRead, WereRead}
use Rattle.visa_cli.specs.declared.status.Status.{Status}

-- a stage: with which reads, newest first, it gives a value, and with which it stops the call with a status
pub record Stage (A : Type 0) : Type 1 where
  pub Gives : List FileRead → A → Type 0
  pub Stops : List FileRead → Status → Type 0

-- a stage that reads nothing: it gives what is answered, or stops with the status of the fault that is answered
abbrev pub still : {A E : Type 0} → (Result A E → Type 0) → (E → Status) → Stage A
still {A} {E} Answers status_of = record {
  Gives = λ reads a. (reads ≡ []) × Answers (Ok a);
  Stops = λ reads status. (reads ≡ []) × ((fault : E) × Answers (Err fault) × (status ≡ status_of fault));
}

-- two stages give a value: the second works on what the first gives
pub record GiveBoth {A B : Type 0} (first : Stage A) (next : A → Stage B) (reads : List FileRead) (b : B) : Type 0 where
  pub value : A
  pub early : List FileRead
  pub late : List FileRead
  pub reads_are : reads ≡ late ++ early
  pub first_gives : first.Gives early value
  pub next_gives : (next value).Gives late b

-- the second of them stops
pub record StopsNext {A B : Type 0} (first : Stage A) (next : A → Stage B) (reads : List FileRead)
    (status : Status) : Type 0 where
  pub value : A
  pub early : List FileRead
  pub late : List FileRead
  pub reads_are : reads ≡ late ++ early
  pub first_gives : first.Gives early value
  pub next_stops : (next value).Stops late status

-- one stage and then the next
abbrev pub chained : {A B : Type 0} → Stage A → (A → Stage B) → Stage B
chained first next = record {
  Gives = GiveBoth first next;
  Stops = λ reads status. first.Stops reads status ⊎ StopsNext first next reads status;
}

-- what a stage answers with these reads
abbrev pub Outcome : {A : Type 0} → Stage A → List FileRead → Result A Status → Type 0
Outcome stage reads (Ok a) = stage.Gives reads a
Outcome stage reads (Err status) = stage.Stops reads status

-- a stage ran between what was seen before and after, and answered
pub record Ran {A : Type 0} (stage : Stage A) (old new : Seen) (result : Result A Status) : Type 0 where
  pub reads : List FileRead
  pub were_read : WereRead old reads new
  pub outcome : Outcome stage reads result
