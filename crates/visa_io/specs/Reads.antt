-- What a read of a file by its name does and answers. This project's own.
use Rattle.std.specs.Prelude.{◌≡◌, ℕ, ◌<◌, Bool, true, false, List, length, ⊤, Option, Some, None, Result, Ok, Err}
use Rattle.visa_io.specs.declared.files.FileFault.{FileFault}
use Rattle.visa_io.specs.declared.files.FileFault.TheVariants.{Failed, Long, Memory}
use Rattle.visa_io.specs.Faults.{risen}

-- the contents by name: a name without content has none
abbrev pub Contents : Type 0
Contents = List ℕ → Option (List ℕ)

-- what the last read was: its name, the number of bytes that it took, and whether it failed
pub record LastRead : Type 0 where
  pub name : Option (List ℕ)
  pub taken : ℕ
  pub failed : Bool

-- what a call sees of files: their contents, where these are told, how many faults and reads there were, and the last read
pub record Seen : Type 0 where
  pub contents : Option Contents
  pub faults : ℕ
  pub reads : ℕ
  pub last : LastRead

-- before the first read
abbrev pub no_read : LastRead
no_read = record { name = None; taken = 0; failed = false }

-- Of told contents a read answers: the named content; Long only where the named content is longer than max.
-- A read that failed or found no memory says nothing of them.
abbrev pub IsAnswerOf : Contents → List ℕ → ℕ → Result (List ℕ) FileFault → Type 0
IsAnswerOf contents name max (Ok bytes) = contents name ≡ Some bytes
IsAnswerOf contents name max (Err Long) = (content : List ℕ) × (contents name ≡ Some content) × (max < length content)
IsAnswerOf contents name max (Err Failed) = ⊤
IsAnswerOf contents name max (Err Memory) = ⊤

-- the count of faults after a read: one more exactly where it failed
abbrev pub faults_after : {T : Type 0} → Result T FileFault → ℕ → ℕ
faults_after (Ok answer) before = before
faults_after (Err Long) before = before
faults_after (Err Failed) before = risen before
faults_after (Err Memory) before = before

-- the name that a read leaves as the last one: none where it found no memory
abbrev pub last_name : List ℕ → Result (List ℕ) FileFault → Option (List ℕ)
last_name name (Ok bytes) = Some name
last_name name (Err Long) = Some name
last_name name (Err Failed) = Some name
last_name name (Err Memory) = None

-- whether a read failed
abbrev pub has_failed : Result (List ℕ) FileFault → Bool
has_failed (Ok bytes) = false
has_failed (Err Long) = false
has_failed (Err Failed) = true
has_failed (Err Memory) = false

-- how many bytes a read took: those that it gives, and more than max where it answers Long
abbrev pub TookFor : Result (List ℕ) FileFault → ℕ → ℕ → Type 0
TookFor (Ok bytes) max taken = taken ≡ length bytes
TookFor (Err Long) max taken = max < taken
TookFor (Err Failed) max taken = ⊤
TookFor (Err Memory) max taken = ⊤

-- whether a read found no memory
abbrev pub is_want : Result (List ℕ) FileFault → Bool
is_want (Ok bytes) = false
is_want (Err Long) = false
is_want (Err Failed) = false
is_want (Err Memory) = true
