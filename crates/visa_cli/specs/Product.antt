-- What the words of a call ask for: the reads, the status and the lines. This project's own.
use Rattle.std.specs.Prelude.{◌≡◌, ◌≢◌, ◌⊎◌, ℕ, ◌<◌, ◌≤◌, List, [], ◌∷◌, length, Some, None, Result, Ok, Err, ⊤}
use Rattle.std.specs.List.{AllByRecursion, concat}
use Rattle.visa_io.specs.Reads.{Contents}
use Rattle.visa_io.specs.declared.files.FileFault.{FileFault}
use Rattle.visa_io.specs.declared.files.FileFault.TheVariants as file_fault
use Rattle.command_line.specs.Commands.{Asked, IsCommand}
use Rattle.command_line.specs.Commands as command
use Rattle.command_line.specs.declared.forms.PredictorKind.TheVariants.{Static}
use Rattle.admission.specs.declared.mode.Mode.TheVariants.{Simple, Fast}
use Rattle.visa_cli.specs.Check.{IsCheck}
use Rattle.visa_cli.specs.Demo.{IsDemo}
use Rattle.visa_cli.specs.Listing.{IsListing}
use Rattle.visa_cli.specs.Reads.{FileRead, longest_file}
use Rattle.visa_cli.specs.Run.{IsLog}
use Rattle.visa_cli.specs.Stage.{Stage}
use Rattle.visa_cli.specs.Stages.{admission, demo, listing, plan}
use Rattle.visa_cli.specs.Status.{line_of}
use Rattle.visa_cli.specs.declared.status.Role.{Role}
use Rattle.visa_cli.specs.declared.status.Role.TheVariants.{Task, Image, Jobs}
use Rattle.visa_cli.specs.declared.status.Status.{Status}
use Rattle.visa_cli.specs.declared.status.Status.TheVariants.{Done, Usage, Memory}

-- the stages give a value, of which these lines are printed
pub record EndsDone {A : Type 0} (stage : Stage A) (Prints : A → List (List ℕ) → Type 0) (reads : List FileRead)
    (lines : List (List ℕ)) : Type 0 where
  pub value : A
  pub gives : stage.Gives reads value
  pub prints : Prints value lines

-- they do, or they stop with a status, whose line is printed
abbrev pub Ends : {A : Type 0} → Stage A → (A → List (List ℕ) → Type 0)
    → List FileRead → Status → List (List ℕ) → Type 0
Ends stage Prints reads status lines =
    (EndsDone stage Prints reads lines × (status ≡ Done)) ⊎ (stage.Stops reads status × (lines ≡ line_of status ∷ []))

-- each command is the stages that it goes through and the lines at its end; in simple mode nothing is predicted
unfoldable pub Asks : Asked → List FileRead → Status → List (List ℕ) → Type 0
Asks (command.simple task_name jobs_name) = Ends (plan Simple task_name jobs_name) (IsLog Static)
Asks (command.check task_name) = Ends (admission Fast task_name) IsCheck
Asks (command.run task_name jobs_name predictor) = Ends (plan Fast task_name jobs_name) (IsLog predictor)
Asks (command.list task_name) = Ends (listing task_name) IsListing
Asks (command.demo seed) = Ends (demo seed) (IsDemo seed)

-- no command has these words
abbrev pub HasNoCommand : List (List ℕ) → Type 0
HasNoCommand words = (c : Asked) → ¬ (IsCommand words c)

-- they are answered by the usage line, and nothing is read
pub record IsUsage (words : List (List ℕ)) (reads : List FileRead) (status : Status)
    (lines : List (List ℕ)) : Type 0 where
  pub none : HasNoCommand words
  pub unread : reads ≡ []
  pub status_is : status ≡ Usage
  pub lines_are : lines ≡ line_of Usage ∷ []

-- a command has these words, and asks for this
pub record IsAsked (words : List (List ℕ)) (reads : List FileRead) (status : Status)
    (lines : List (List ℕ)) : Type 0 where
  pub asked : Asked
  pub command : IsCommand words asked
  pub asks : Asks asked reads status lines

-- memory ran out for the words: they are answered by the line that says so, and nothing is read
pub record IsOutOfMemory (reads : List FileRead) (status : Status) (lines : List (List ℕ)) : Type 0 where
  pub unread : reads ≡ []
  pub status_is : status ≡ Memory
  pub lines_are : lines ≡ line_of Memory ∷ []

-- what the words ask for
abbrev pub WordsAsk : List (List ℕ) → List FileRead → Status → List (List ℕ) → Type 0
WordsAsk words reads status lines =
    IsUsage words reads status lines ⊎ (IsOutOfMemory reads status lines ⊎ IsAsked words reads status lines)

-- what is found for each role under a name
abbrev pub Found : Type 0
Found = Role → Contents

-- each role finds what the contents tell
abbrev pub told : Contents → Found
told contents = λ role. contents

-- the file of one role is taken as not there
abbrev pub without : Role → Contents → Found
without Task contents Task = λ name. None
without Task contents other = contents
without Image contents Image = λ name. None
without Image contents other = contents
without Jobs contents Jobs = λ name. None
without Jobs contents other = contents

-- a read answers what is found; one that found no memory says nothing of it
abbrev pub AnswersFound : Found → Role → List ℕ → Result (List ℕ) FileFault → Type 0
AnswersFound found role name (Ok bytes) = (found role name ≡ Some bytes) × (length bytes ≤ longest_file)
AnswersFound found role name (Err file_fault.Failed) = found role name ≡ None
AnswersFound found role name (Err file_fault.Long) =
    (bytes : List ℕ) × (found role name ≡ Some bytes) × (longest_file < length bytes)
AnswersFound found role name (Err file_fault.Memory) = ⊤

abbrev pub Finds : Found → FileRead → Type 0
Finds found r = AnswersFound found r.role r.name r.answer

-- the status and the text that the words ask for with what is found. There is memory for it.
pub record IsProduct (words : List (List ℕ)) (found : Found) (status : Status) (text : List ℕ) : Type 0 where
  pub reads : List FileRead
  pub lines : List (List ℕ)
  pub ask : WordsAsk words reads status lines
  pub finds : AllByRecursion (Finds found) reads
  pub memory : status ≢ Memory
  pub text_is : text ≡ concat lines
