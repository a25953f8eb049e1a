-- What the top call keeps, whatever its files and its sink do. This project's own.
use Rattle.std.specs.Prelude.{◌≡◌, ◌⊎◌, ℕ, ◌+◌, ◌<◌, ◌≤◌, Bool, true, false, List, [], ◌∷◌, ◌++◌, length, drop, map, Option, Some, None, IfSome, Result, Ok, Err, Vec}
use Rattle.std.specs.List.{AllByRecursion, concat}
use Rattle.std.specs.String.{string_bytes}
use Rattle.std.specs.declared.alloc.Global.{Global}
use Rattle.std.specs.declared.string.String.{String}
use Rattle.visa_io.specs.Answers.{OrMemory}
use Rattle.visa_io.specs.Faults.{Rose}
use Rattle.visa_io.specs.Puts.{AppendsPrefix, PutAll, PutSome, Taken, appended}
use Rattle.visa_io.specs.Reads.{Contents, Seen}
use Rattle.command_line.specs.Commands.{Asked, IsCommand}
use Rattle.command_line.specs.Commands as command
use Rattle.command_line.specs.declared.forms.PredictorKind.{PredictorKind}
use Rattle.command_line.specs.declared.forms.PredictorKind.TheVariants.{Static}
use Rattle.log_text.specs.Demo.{summary_lines}
use Rattle.log_text.specs.declared.record.JobMode.{JobMode}
use Rattle.log_text.specs.declared.record.JobMode.TheVariants as ran
use Rattle.admission.specs.declared.mode.Mode.{Mode}
use Rattle.admission.specs.declared.mode.Mode.TheVariants.{Simple, Fast}
use Rattle.mode_states.specs.Course.{Course, IsMissed, sub_at}
use Rattle.task_text.specs.JobInputs.{input_of}
use Rattle.job_runner.specs.Job.{RanJob, Setting, course_in}
use Rattle.job_runner.specs.Run.{before}
use Rattle.list_text.specs.Lists.{list_lines}
use Rattle.visa_cli.specs.Check.{check_lines}
use Rattle.visa_cli.specs.Demo.{latest_end, summary_of}
use Rattle.visa_cli.specs.Product.{Finds, Found, HasNoCommand, IsProduct, WordsAsk, told, without}
use Rattle.visa_cli.specs.Reads.{FileRead, WereRead, longest_file}
use Rattle.visa_cli.specs.Run.{AreRunOf, log_lines, setting_of}
use Rattle.visa_cli.specs.Stage.{Stage}
use Rattle.visa_cli.specs.Stages.{admission, demo, listing, plan}
use Rattle.visa_cli.specs.Status.{line_of, number_of}
use Rattle.visa_cli.specs.declared.plan.Plan.{Plan}
use Rattle.visa_cli.specs.declared.program.ArgumentsFault.{ArgumentsFault}
use Rattle.visa_cli.specs.declared.program.ArgumentsFault.TheVariants as arguments
use Rattle.visa_cli.specs.declared.status.Role.{Role}
use Rattle.visa_cli.specs.declared.status.Role.TheVariants.{Task, Jobs}
use Rattle.visa_cli.specs.declared.status.Status.{Status}
use Rattle.visa_cli.specs.declared.status.Status.TheVariants.{Done, Usage, ReadFault, WriteFault, Memory, Long}

-- the lines were put, each by one put, and this is their status; or the sink failed at one of them
abbrev pub EndsBy : Taken → Taken → Status → List (List ℕ) → Status → Type 0
EndsBy s0 s1 asked lines status =
    ((status ≡ asked) × PutAll s0 s1 lines) ⊎ ((status ≡ WriteFault) × PutSome s0 s1 lines)

-- a status whose line is fixed: it takes no memory
abbrev pub has_fixed_line : Status → Bool
has_fixed_line Usage = true
has_fixed_line (ReadFault role) = true
has_fixed_line Memory = true
has_fixed_line (Long role) = true
has_fixed_line other = false

-- or there was no memory for them, and nothing was put but the line that says so
abbrev pub EndsByOrMemory : Taken → Taken → Status → List (List ℕ) → Status → Type 0
EndsByOrMemory s0 s1 asked lines status =
    EndsBy s0 s1 asked lines status
    ⊎ ((has_fixed_line asked ≡ false) × EndsBy s0 s1 Memory (line_of Memory ∷ []) status)

-- what is asked for, by the reads, the status and the lines
abbrev pub Asking : Type 1
Asking = List FileRead → Status → List (List ℕ) → Type 0

-- a call does what is asked for: it makes these reads and no other, and ends by these lines
pub record Does (Asks : Asking) (f0 f1 : Seen) (s0 s1 : Taken) (status : Status) : Type 0 where
  pub reads : List FileRead
  pub asked : Status
  pub lines : List (List ℕ)
  pub asks : Asks reads asked lines
  pub were_read : WereRead f0 reads f1
  pub ends : EndsByOrMemory s0 s1 asked lines status

-- this text was appended, where the sink tells its bytes
abbrev pub Appended : Taken → Taken → List ℕ → Type 0
Appended before later text = later.bytes ≡ appended before.bytes text

-- no fault came
pub record NoFault (f0 f1 : Seen) (s0 s1 : Taken) : Type 0 where
  pub files : ¬ (Rose f0.faults f1.faults)
  pub sink : ¬ (Rose s0.faults s1.faults)

-- product: with told contents and no fault, the status and the text are those that the call asks for, or memory ran out
unfoldable pub KeepsProduct : List (List ℕ) → Seen → Seen → Taken → Taken → Status → Type 0
KeepsProduct words f0 f1 s0 s1 status =
    (contents : Contents) → f0.contents ≡ Some contents → NoFault f0 f1 s0 s1
    → OrMemory Memory
    (λ answer. (text : List ℕ) × IsProduct words (told contents) answer text × Appended s0 s1 text) status

-- memory prefix: where memory ran out, its line stands alone
unfoldable pub KeepsMemoryPrefix : Taken → Taken → Status → Type 0
KeepsMemoryPrefix s0 s1 status = status ≡ Memory → Appended s0 s1 (line_of Memory)

-- the name that the words have for the file of a role; an image is named by the task
abbrev pub name_in : Asked → Role → Option (List ℕ)
name_in (command.simple task_name jobs_name) Task = Some task_name
name_in (command.simple task_name jobs_name) Jobs = Some jobs_name
name_in (command.check task_name) Task = Some task_name
name_in (command.run task_name jobs_name predictor) Task = Some task_name
name_in (command.run task_name jobs_name predictor) Jobs = Some jobs_name
name_in (command.list task_name) Task = Some task_name
name_in other role = None

-- the last read was that for the role, under its name
pub record LastReadWas (words : List (List ℕ)) (role : Role) (f1 : Seen) : Type 0 where
  pub asked : Asked
  pub command : IsCommand words asked
  pub name : List ℕ
  pub last_is : f1.last.name ≡ Some name
  pub named : IfSome (name_in asked role) (λ given. given ≡ name)

-- a failed read is the last one, and has its line
pub record IsReadFault (words : List (List ℕ)) (role : Role) (f0 f1 : Seen) (s0 s1 : Taken) : Type 0 where
  pub rose : Rose f0.faults f1.faults
  pub failed : f1.last.failed ≡ true
  pub last : LastReadWas words role f1
  pub line : Appended s0 s1 (line_of (ReadFault role))
  pub product : (contents : Contents) → f0.contents ≡ Some contents
      → IsProduct words (without role contents) (ReadFault role) (line_of (ReadFault role))

-- the line of the read that failed last
pub record IsLineOfFault (words : List (List ℕ)) (contents : Contents) (f1 : Seen) (text : List ℕ) : Type 0 where
  pub role : Role
  pub failed : f1.last.failed ≡ true
  pub last : LastReadWas words role f1
  pub product : IsProduct words (without role contents) (ReadFault role) text

-- a text that the call may have been putting when the sink failed
abbrev pub IsPutText : List (List ℕ) → Contents → Seen → List ℕ → Type 0
IsPutText words contents f1 text =
    ((status : Status) × IsProduct words (told contents) status text)
    ⊎ ((text ≡ line_of Memory) ⊎ IsLineOfFault words contents f1 text)

pub record IsWriteFault (words : List (List ℕ)) (f0 f1 : Seen) (s0 s1 : Taken) : Type 0 where
  pub rose : Rose s0.faults s1.faults
  pub prefix : (contents : Contents) → f0.contents ≡ Some contents
      → (text : List ℕ) × IsPutText words contents f1 text × AppendsPrefix s0.bytes s1.bytes text

-- fault causes: each fault has its status, and each status of a fault has its fault
pub record KeepsFaultCauses (words : List (List ℕ)) (f0 f1 : Seen) (s0 s1 : Taken) (status : Status) : Type 0 where
  pub read_fault : (role : Role) → status ≡ ReadFault role → IsReadFault words role f0 f1 s0 s1
  pub write_fault : status ≡ WriteFault → IsWriteFault words f0 f1 s0 s1
  pub sink_fault : s0.faults < s1.faults → status ≡ WriteFault
  pub files_fault : f0.faults < f1.faults → ((role : Role) × (status ≡ ReadFault role)) ⊎ (status ≡ WriteFault)
  pub files_alone : f0.faults < f1.faults → ¬ (Rose s0.faults s1.faults) → (role : Role) × (status ≡ ReadFault role)

-- the command that runs the jobs of these files in a mode; in simple mode nothing is predicted
abbrev pub command_in : Mode → List ℕ → List ℕ → PredictorKind → Asked
command_in Simple task_name jobs_name predictor = command.simple task_name jobs_name
command_in Fast task_name jobs_name predictor = command.run task_name jobs_name predictor

-- A job that was released in fast mode left it where a checkpoint was missed, and nowhere else: its record names the
-- count of cycles and the sub-task, which hadn't ended; or it never missed one.
abbrev pub LeavesOnlyAtMiss : Mode → Course → JobMode → Type 0
LeavesOnlyAtMiss Simple c ran.Simple = Unit {0}
LeavesOnlyAtMiss Fast c (ran.Fast pair) = (at : ℕ) → ¬ (IsMissed c at)
LeavesOnlyAtMiss Fast c (ran.Missed sub pair at switch_ps) = IsMissed c at × (sub ≡ sub_at c at + 1)
LeavesOnlyAtMiss mode c other = ⊥

-- so did each of these jobs, newest first
abbrev pub AllLeaveOnlyAtMiss : Mode → Setting → (ℕ → List ℕ) → List RanJob → Type 0
AllLeaveOnlyAtMiss mode s inputs [] = Unit {0}
AllLeaveOnlyAtMiss mode s inputs (r ∷ older) =
    LeavesOnlyAtMiss mode (course_in s (before s older) (inputs (length older))) r.job.mode
    × AllLeaveOnlyAtMiss mode s inputs older

-- The log of jobs that were run one after the other, with the last states of the reference: each ended by the
-- deadline, and left fast mode only at a missed checkpoint. The text may break off in it.
pub record LogsInTime (words : List (List ℕ)) (found : Found) (text : List ℕ) : Type 0 where
  pub task_name : List ℕ
  pub jobs_name : List ℕ
  pub mode : Mode
  pub predictor : PredictorKind
  pub command : IsCommand words (command_in mode task_name jobs_name predictor)
  pub reads : List FileRead
  pub finds : AllByRecursion (Finds found) reads
  pub value : Plan
  pub gives : (plan mode task_name jobs_name).Gives reads value
  pub jobs : List RanJob
  pub are_run : AreRunOf predictor value jobs
  pub some : length jobs ≤ length value.jobs.inputs
  pub in_time : AllByRecursion (λ (r : RanJob). r.job.end_ps ≤ value.task.deadline_ps) jobs
  pub leave : AllLeaveOnlyAtMiss mode (setting_of predictor value) (input_of value.jobs) jobs
  pub rest : List ℕ
  pub text_is : concat (log_lines mode value.task.show jobs) ≡ text ++ rest

-- What the jobs of the demonstration come to, with the last states of the reference: each of them ended by the
-- deadline, and so did the latest, and left fast mode only at a missed checkpoint. The text may break off in it.
pub record SumsInTime (words : List (List ℕ)) (found : Found) (text : List ℕ) : Type 0 where
  pub seed : ℕ
  pub command : IsCommand words (command.demo seed)
  pub reads : List FileRead
  pub finds : AllByRecursion (Finds found) reads
  pub value : Plan
  pub gives : (demo seed).Gives reads value
  pub jobs : List RanJob
  pub are_run : AreRunOf Static value jobs
  pub all : length jobs ≡ length value.jobs.inputs
  pub in_time : AllByRecursion (λ (r : RanJob). r.job.end_ps ≤ value.task.deadline_ps) jobs
  pub latest : latest_end jobs ≤ value.task.deadline_ps
  pub leave : AllLeaveOnlyAtMiss Fast (setting_of Static value) (input_of value.jobs) jobs
  pub rest : List ℕ
  pub text_is : concat (summary_lines (summary_of seed jobs)) ≡ text ++ rest

-- the lines of what a command finds for the task of a name; the text may break off in them
pub record TellsOf {A : Type 0} (command_of : List ℕ → Asked) (stage_of : List ℕ → Stage A)
    (lines_of : A → List (List ℕ)) (words : List (List ℕ)) (found : Found) (text : List ℕ) : Type 0 where
  pub task_name : List ℕ
  pub command : IsCommand words (command_of task_name)
  pub reads : List FileRead
  pub finds : AllByRecursion (Finds found) reads
  pub value : A
  pub gives : (stage_of task_name).Gives reads value
  pub rest : List ℕ
  pub text_is : concat (lines_of value) ≡ text ++ rest

-- the bounds and plans of a task that was admitted for fast mode
abbrev pub TellsTimes : List (List ℕ) → Found → List ℕ → Type 0
TellsTimes = TellsOf command.check (admission Fast) (λ a. check_lines a.task a.times)

-- the code of the image of a task
abbrev pub ListsCode : List (List ℕ) → Found → List ℕ → Type 0
ListsCode = TellsOf command.list listing list_lines

-- at most one line of a status
pub record LogsNothing (text : List ℕ) : Type 0 where
  pub status : Status
  pub rest : List ℕ
  pub text_is : line_of status ≡ text ++ rest

-- what a call prints, whole or in part: at most one line of a status, a log, what the demonstration comes to, a check,
-- or code
abbrev pub PrintsPart : List (List ℕ) → Found → List ℕ → Type 0
PrintsPart words found text =
    LogsNothing text
    ⊎ (LogsInTime words found text
    ⊎ (SumsInTime words found text ⊎ (TellsTimes words found text ⊎ ListsCode words found text)))

-- headline: each job that is logged, or is summed up by the demonstration, has the registers, memory and output of the
-- reference machine, ends by the deadline, and leaves fast mode only at a checkpoint whose sub-task had not ended; a
-- check and a list log no job
unfoldable pub KeepsDeadline : List (List ℕ) → Seen → Taken → Taken → Type 0
KeepsDeadline words f0 s0 s1 =
    (contents : Contents) → f0.contents ≡ Some contents
    → (text : List ℕ) × Appended s0 s1 text × PrintsPart words (told contents) text

-- what holds where neither files nor sink tell their bytes
pub record KeepsUntold (words : List (List ℕ)) (f0 f1 : Seen) (s0 s1 : Taken) (status : Status) : Type 0 where
  pub does : Does (WordsAsk words) f0 f1 s0 s1 status
  pub usage : status ≡ Usage → HasNoCommand words
  pub no_command : HasNoCommand words → (f1 ≡ f0) × ((status ≡ Usage) ⊎ ((status ≡ WriteFault) ⊎ (status ≡ Memory)))
  pub long : (role : Role) → status ≡ Long role → (longest_file < f1.last.taken) × LastReadWas words role f1

-- completeness: where all is there and no fault comes, the whole text is written, or memory ran out
unfoldable pub IsComplete : List (List ℕ) → Seen → Seen → Taken → Taken → Status → Type 0
IsComplete words f0 f1 s0 s1 status =
    (contents : Contents) (text : List ℕ) → f0.contents ≡ Some contents → NoFault f0 f1 s0 s1
    → IsProduct words (told contents) Done text
    → OrMemory Memory (λ answer. (answer ≡ Done) × Appended s0 s1 text) status

abbrev pub Arguments : Type 0
Arguments = Vec (String Global) Global

-- what the program does with its arguments, the first of which is its own name: its exit status is that of the top call
unfoldable pub ProgramDoes : Result Arguments ArgumentsFault → Seen → Seen → Taken → Taken → ℕ → Type 0
ProgramDoes (Ok args) f0 f1 s0 s1 number =
    (status : Status) × Does (WordsAsk (map string_bytes (drop 1 args.items))) f0 f1 s0 s1 status
    × (number ≡ number_of status)
ProgramDoes (Err arguments.NotText) f0 f1 s0 s1 number =
    (f1 ≡ f0) × ((status : Status) × EndsBy s0 s1 Usage (line_of Usage ∷ []) status × (number ≡ number_of status))
ProgramDoes (Err arguments.Memory) f0 f1 s0 s1 number = (f1 ≡ f0) × (s1 ≡ s0) × (number ≡ number_of Memory)
