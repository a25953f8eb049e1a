-- The reads of a call, one after the other, each for a role. This project's own.
use Rattle.std.specs.Prelude.{◌≡◌, ℕ, ◌≤◌, List, [], ◌∷◌, length, Result, IfOk, IfSome}
use Rattle.visa_io.specs.Faults.{risen}
use Rattle.visa_io.specs.Reads.{IsAnswerOf, Seen, TookFor, faults_after, has_failed, last_name}
use Rattle.visa_io.specs.declared.files.FileFault.{FileFault}
use Rattle.visa_cli.specs.declared.status.Role.{Role}

-- no file has more bytes than this
abbrev pub longest_file : ℕ
longest_file = 8388608

-- a read: for which role, under which name, and what was answered
pub record FileRead : Type 0 where
  pub role : Role
  pub name : List ℕ
  pub answer : Result (List ℕ) FileFault

-- what is seen of the files after a read
pub record WasRead (r : FileRead) (old new : Seen) : Type 0 where
  pub contents : new.contents ≡ old.contents
  pub faults : new.faults ≡ faults_after r.answer old.faults
  pub counted : new.reads ≡ risen old.reads
  pub last_name_is : new.last.name ≡ last_name r.name r.answer
  pub last_failed : new.last.failed ≡ has_failed r.answer
  pub last_took : TookFor r.answer longest_file new.last.taken
  pub fits : IfOk r.answer (λ bytes. length bytes ≤ longest_file)
  pub told : IfSome old.contents (λ contents. IsAnswerOf contents r.name longest_file r.answer)

-- what is seen after reads, newest first: no more was read than these
abbrev pub WereRead : Seen → List FileRead → Seen → Type 0
WereRead old [] new = new ≡ old
WereRead old (r ∷ older) new = (mid : Seen) × WereRead old older mid × WasRead r mid new
