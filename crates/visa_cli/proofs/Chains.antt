-- Stages that ran one after the other.
use Rattle.std.proofs.Common.{◌≡◌, refl, sym, subst, ℕ, List, [], ◌∷◌, ◌++◌, Result, Ok, Err, inl, inr}
use Rattle.std.specs.declared.alloc.AllocError.{AllocError}
use Rattle.visa_io.specs.Reads.{Seen}
use Rattle.visa_io.specs.declared.files.FileFault.{FileFault}
use Rattle.visa_cli.specs.Reads.{FileRead, WasRead, WereRead}
use Rattle.visa_cli.specs.Stage.{Outcome, Ran, Stage, chained}
use Rattle.visa_cli.specs.Stages.{file, file_status, made, read_of}
use Rattle.visa_cli.specs.declared.status.Role.{Role}
use Rattle.visa_cli.specs.declared.status.Status.{Status}
use Rattle.visa_cli.specs.declared.status.Status.TheVariants.{Memory}

-- reads behind reads
pub reads_behind : (old mid new : Seen) (early late : List FileRead) → WereRead old early mid → WereRead mid late new → WereRead old (late ++ early) new
reads_behind old mid new early [] first second = let At : Seen → Type 0 = λ s. WereRead old early s in subst At (sym second) first
reads_behind old mid new early (r ∷ late) first (last, older, read) = (last, reads_behind old mid last early late first older, read)

-- the second stage after the first
pub ran_then : {A B : Type 0} {first : Stage A} {next : A → Stage B} {old mid new : Seen} {a : A} (r : Result B Status)
    → Ran first old mid (Ok a) → Ran (next a) mid new r → Ran (chained first next) old new r
ran_then {A} {B} {first} {next} {old} {mid} {new} {a} (Ok b) one two = record {
  reads = two.reads ++ one.reads;
  were_read = reads_behind old mid new one.reads two.reads one.were_read two.were_read;
  outcome = record { value = a; early = one.reads; late = two.reads; reads_are = refl; first_gives = one.outcome; next_gives = two.outcome };
}
ran_then {A} {B} {first} {next} {old} {mid} {new} {a} (Err status) one two = record {
  reads = two.reads ++ one.reads;
  were_read = reads_behind old mid new one.reads two.reads one.were_read two.were_read;
  outcome = inr (record { value = a; early = one.reads; late = two.reads; reads_are = refl; first_gives = one.outcome; next_stops = two.outcome });
}

-- a stage that reads nothing ran
pub ran_still : {A : Type 0} {stage : Stage A} (s : Seen) (r : Result A Status) → Outcome stage [] r → Ran stage s s r
ran_still {A} {stage} s r outcome = record { reads = []; were_read = refl; outcome = outcome }

-- one that reads nothing after the first
pub ran_then_still : {A B : Type 0} {first : Stage A} {next : A → Stage B} {old new : Seen} {a : A} (r : Result B Status)
    → Ran first old new (Ok a) → Outcome (next a) [] r → Ran (chained first next) old new r
ran_then_still {A} {B} {first} {next} {old} {new} {a} r one two = ran_then r one (ran_still new r two)

-- the first stage stopped
pub ran_stops : {A B : Type 0} {first : Stage A} {next : A → Stage B} {old new : Seen} {status : Status}
    → Ran first old new (Err status) → Ran (chained first next) old new (Err status)
ran_stops one = record { reads = one.reads; were_read = one.were_read; outcome = inl one.outcome }

-- two stages that read nothing
pub still_then : {A B : Type 0} (first : Stage A) (next : A → Stage B) (a : A) (r : Result B Status)
    → first.Gives [] a → Outcome (next a) [] r → Outcome (chained first next) [] r
still_then first next a (Ok b) one two = record { value = a; early = []; late = []; reads_are = refl; first_gives = one; next_gives = two }
still_then first next a (Err status) one two =
    inr (record { value = a; early = []; late = []; reads_are = refl; first_gives = one; next_stops = two })

-- a file was read, or not
pub file_read : (role : Role) (name bytes : List ℕ) (old new : Seen) → WasRead (read_of role name (Ok bytes)) old new → Ran (file role name) old new (Ok bytes)
unfolding file
file_read role name bytes old new read = record { reads = read_of role name (Ok bytes) ∷ []; were_read = (old, refl, read); outcome = refl }

pub file_not_read : (role : Role) (name : List ℕ) (fault : FileFault) (status : Status) (old new : Seen) → status ≡ file_status role fault
    → WasRead (read_of role name (Err fault)) old new → Ran (file role name) old new (Err status)
unfolding file
file_not_read role name fault status old new is read = record {
  reads = read_of role name (Err fault) ∷ [];
  were_read = (old, refl, read);
  outcome = (fault, refl, is);
}

-- a value was made, or there was no memory for it
pub made_ran : {A : Type 0} (value a : A) (s : Seen) → a ≡ value → Ran (made value) s s (Ok a)
made_ran value a s is = ran_still s (Ok a) (refl, is)

pub made_stops : {A : Type 0} (value : A) (s : Seen) (e : AllocError) → Ran (made value) s s (Err Memory)
made_stops value s e = ran_still s (Err Memory) (refl, (e, tt, refl))
