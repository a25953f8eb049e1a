-- What moves between std's readers and memory.
use Rattle.std.specs.Prelude.{◌≡◌, ℕ, ◌<◌, ◌≤◌, List, ◌++◌, length, take, Option, Some, None, Result, Ok, Err, ⊤}
use Rattle.std.specs.Io.KnownBytes.{Consumes, IsAtEnd, Keeps}
use Rattle.visa_io.specs.declared.files.FileFault.{FileFault}
use Rattle.visa_io.specs.declared.files.FileFault.TheVariants.{Failed, Long, Memory}
use Rattle.visa_io.specs.Faults.{risen}
use Rattle.visa_io.specs.Reads.{Contents}

-- a piece left the reader, and was appended
pub record Moves (before after : Option (List ℕ)) (old new : List ℕ) (n : ℕ) : Type 0 where
  pub piece : List ℕ
  pub appended : new ≡ old ++ piece
  pub left : Consumes before after piece
  pub len : length piece ≡ n
  pub end : n ≡ 0 → IsAtEnd after

-- the count of faults after something that comes or fails: one more exactly where it failed
abbrev pub faults_once : {T : Type 0} → Option T → ℕ → ℕ
faults_once (Some x) before = before
faults_once None before = risen before

-- one read of a reader into a buffer: it took that many bytes from the front, none only at the end, and a failed read takes none
abbrev pub Takes : Option (List ℕ) → Option (List ℕ) → List ℕ → Option ℕ → Type 0
Takes before after buffer (Some n) = (n ≤ length buffer) × Consumes before after (take n buffer) × (n ≡ 0 → IsAtEnd after)
Takes before after buffer None = Keeps before after

-- a piece left the reader behind these bytes, and found no memory
pub record Loses (before after : Option (List ℕ)) (bytes : List ℕ) : Type 0 where
  pub piece : List ℕ
  pub some : 0 < length piece
  pub left : Consumes before after (bytes ++ piece)

-- what one read of a reader leaves: none of its bytes are lost but where they find no memory
abbrev pub ReadsOnce : Option (List ℕ) → Option (List ℕ) → List ℕ → List ℕ → Result ℕ FileFault → Type 0
ReadsOnce before after old new (Ok n) = Moves before after old new n
ReadsOnce before after old new (Err Failed) = (new ≡ old) × Keeps before after
ReadsOnce before after old new (Err Memory) = (new ≡ old) × ((piece : List ℕ) × (0 < length piece) × Consumes before after piece)
ReadsOnce before after old new (Err Long) = ⊥

-- what reading to the end, or until more than max bytes came, leaves
abbrev pub ReadsUpTo : ℕ → Option (List ℕ) → Option (List ℕ) → List ℕ → Result ⊤ FileFault → Type 0
ReadsUpTo max before after bytes (Ok done) = Consumes before after bytes × IsAtEnd after × (length bytes ≤ max)
ReadsUpTo max before after bytes (Err Long) = Consumes before after bytes × (max < length bytes)
ReadsUpTo max before after bytes (Err Failed) = Consumes before after bytes
ReadsUpTo max before after bytes (Err Memory) = Loses before after bytes

-- what a reader of these bytes gives: all of them, where there are at most max
abbrev pub GivesFile : ℕ → List ℕ → Result (List ℕ) FileFault → Type 0
GivesFile max content (Ok bytes) = bytes ≡ content
GivesFile max content (Err Long) = max < length content
GivesFile max content (Err Failed) = ⊤
GivesFile max content (Err Memory) = 0 < length content

-- a file of known contents was opened: its reader has what the name has
abbrev pub Opens : Option Contents → List ℕ → Option (List ℕ) → Type 0
Opens None name bytes = ⊤
Opens (Some contents) name bytes = (contents name ≡ bytes) × ((content : List ℕ) × (bytes ≡ Some content))
