-- What a call does, from what its stages answered and its lines.
use Rattle.std.proofs.Common.{◌≡◌, refl, ap, subst, ℕ, List, [], ◌∷◌, Result, Ok, Err, inl, inr}
use Rattle.std.specs.Prelude.{MatchOption, None, Option, Some}
use Rattle.visa_io.specs.Puts.{PutAll, PutSome, Taken}
use Rattle.visa_io.specs.Reads.{Seen}
use Rattle.visa_io.specs.declared.records.Image.{Image}
use Rattle.task_text.specs.TaskParts.{image_name}
use Rattle.task_text.specs.declared.task.Source.{Source}
use Rattle.task_text.specs.declared.task.Source.TheVariants.{Name, Words}
use Rattle.task_text.specs.declared.task.Task.{Task as TaskOf}
use Rattle.command_line.specs.Commands.{Asked, IsCommand, seen}
use Rattle.command_line.specs.declared.forms.Command.{Command}
use Rattle.log_text.specs.Demo.{summary_lines}
use Rattle.log_text.specs.declared.demo.Summary.{Summary}
use Rattle.visa_cli.specs.Clauses.{Does, EndsBy, EndsByOrMemory}
use Rattle.visa_cli.specs.Demo.{IsDemo}
use Rattle.visa_cli.specs.Product.{Asks, Ends, HasNoCommand, WordsAsk}
use Rattle.visa_cli.specs.Running.{EndsPrinting, HasSummary}
use Rattle.visa_cli.specs.Stage.{Outcome, Ran, Stage, still}
use Rattle.visa_cli.specs.Stages.{WordsAnswer, image_from, listing, task}
use Rattle.visa_cli.specs.Status.{line_of}
use Rattle.visa_cli.specs.declared.plan.Plan.{Plan}
use Rattle.visa_cli.specs.declared.status.Status.{Status}
use Rattle.visa_cli.specs.declared.status.Status.TheVariants.{Done, Memory, Usage, WriteFault}
use Rattle.visa_cli.proofs.Chains.{ran_still, ran_stops, ran_then}

-- the image of a task's words
pub words_ran : (t : TaskOf) (source : Source) (s : Seen) (r : Result Image Status) → None ≡ image_name source → Outcome (still (WordsAnswer t) (λ fault. Memory)) [] r
    → Ran (image_from t source) s s r
unfolding image_from
words_ran t (Words code) s r none outcome = ran_still s r outcome
words_ran t (Name name) s r none outcome = cc

-- a stage gave a value, of which lines were printed; or it stopped, and the line of its status was
pub given : {A : Type 0} (stage : Stage A) (Prints : A → List (List ℕ) → Type 0) (f0 f1 : Seen) (s0 s1 : Taken) (a : A) (status : Status) → Ran stage f0 f1 (Ok a)
    → EndsPrinting Prints a s0 s1 status → Does (Ends stage Prints) f0 f1 s0 s1 status
given stage Prints f0 f1 s0 s1 a status ran (lines, prints, ends) = record {
  reads = ran.reads;
  asked = Done;
  lines = lines;
  asks = inl (record { value = a; gives = ran.outcome; prints = prints }, refl);
  were_read = ran.were_read;
  ends = ends;
}

pub stopped_by : {A : Type 0} (stage : Stage A) (Prints : A → List (List ℕ) → Type 0) (f0 f1 : Seen) (s0 s1 : Taken) (stopped status : Status)
    → Ran stage f0 f1 (Err stopped) → EndsByOrMemory s0 s1 stopped (line_of stopped ∷ []) status → Does (Ends stage Prints) f0 f1 s0 s1 status
stopped_by stage Prints f0 f1 s0 s1 stopped status ran ends = record {
  reads = ran.reads;
  asked = stopped;
  lines = line_of stopped ∷ [];
  asks = inr (ran.outcome, refl);
  were_read = ran.were_read;
  ends = ends;
}

-- the image of a list
pub listed : (t : List ℕ) (found : TaskOf) (f0 f1 f2 : Seen) (r : Result Image Status) → Ran (task t) f0 f1 (Ok found) → Ran (image_from found found.image) f1 f2 r
    → Ran (listing t) f0 f2 r
unfolding listing
listed t found f0 f1 f2 r first ran = ran_then r first ran

pub not_listed : (t : List ℕ) (f0 f1 : Seen) (stopped : Status) → Ran (task t) f0 f1 (Err stopped) → Ran (listing t) f0 f1 (Err stopped)
unfolding listing
not_listed t f0 f1 stopped ran = ran_stops ran

-- how lines that there are were put
pub memory_short : {A : Type 0} (Prints : A → List (List ℕ) → Type 0) (a : A) (lines : List (List ℕ)) (s0 s1 : Taken) (status : Status) → Prints a lines
    → EndsBy s0 s1 Memory (line_of Memory ∷ []) status → EndsPrinting Prints a s0 s1 status
memory_short Prints a lines s0 s1 status prints ends = (lines, prints, inr (refl, ends))

pub all_put : {A : Type 0} (Prints : A → List (List ℕ) → Type 0) (a b : A) (lines : List (List ℕ)) (s0 s1 : Taken) → b ≡ a → Prints b lines → PutAll s0 s1 lines
    → EndsPrinting Prints a s0 s1 Done
all_put {A} Prints a b lines s0 s1 same prints puts =
    let Of : A → Type 0 = λ x. Prints x lines in (lines, subst Of same prints, inl (inl (refl, puts)))

pub some_put : {A : Type 0} (Prints : A → List (List ℕ) → Type 0) (a b : A) (lines : List (List ℕ)) (s0 s1 : Taken) → b ≡ a → Prints b lines → PutSome s0 s1 lines
    → EndsPrinting Prints a s0 s1 WriteFault
some_put {A} Prints a b lines s0 s1 same prints puts =
    let Of : A → Type 0 = λ x. Prints x lines in (lines, subst Of same prints, inl (inr (refl, puts)))

-- what the jobs of the demonstration come to
pub summed_lines : (seed : ℕ) (p : Plan) (s : Summary) → HasSummary seed p s → IsDemo seed p (summary_lines s)
summed_lines seed p s sums = record { jobs = sums.jobs; are_run = sums.are_run; all = sums.all; lines_are = ap summary_lines sums.summary_is }

-- what was read of the words
abbrev pub WasRead : List (List ℕ) → Option Command → Type 0
WasRead words read = MatchOption read (HasNoCommand words) (λ c. IsCommand words (seen c))

pub read_none : (words : List (List ℕ)) (read : Option Command) → WasRead words read → read ≡ None → HasNoCommand words
read_none words read is none = subst (WasRead words) none is

pub read_some : (words : List (List ℕ)) (read : Option Command) (c : Command) → WasRead words read → read ≡ Some c → IsCommand words (seen c)
read_some words read c is some = subst (WasRead words) some is

-- any words
pub does_usage : (words : List (List ℕ)) (f : Seen) (s0 s1 : Taken) (status : Status) → HasNoCommand words → EndsBy s0 s1 Usage (line_of Usage ∷ []) status
    → Does (WordsAsk words) f f s0 s1 status
does_usage words f s0 s1 status none ends = record {
  reads = [];
  asked = Usage;
  lines = line_of Usage ∷ [];
  asks = inl (record { none = none; unread = refl; status_is = refl; lines_are = refl });
  were_read = refl;
  ends = inl ends;
}

pub does_without_memory : (words : List (List ℕ)) (f : Seen) (s0 s1 : Taken) (status : Status) → EndsBy s0 s1 Memory (line_of Memory ∷ []) status
    → Does (WordsAsk words) f f s0 s1 status
does_without_memory words f s0 s1 status ends = record {
  reads = [];
  asked = Memory;
  lines = line_of Memory ∷ [];
  asks = inr (inl (record { unread = refl; status_is = refl; lines_are = refl }));
  were_read = refl;
  ends = inl ends;
}

pub does_command : (words : List (List ℕ)) (c : Asked) (f0 f1 : Seen) (s0 s1 : Taken) (status : Status) → IsCommand words c → Does (Asks c) f0 f1 s0 s1 status
    → Does (WordsAsk words) f0 f1 s0 s1 status
does_command words c f0 f1 s0 s1 status has does = record {
  reads = does.reads;
  asked = does.asked;
  lines = does.lines;
  asks = inr (inr (record { asked = c; command = has; asks = does.asks }));
  were_read = does.were_read;
  ends = does.ends;
}
