-- The image of a task whose code stands in its text. This project's own.
use Rattle.std.specs.Prelude.{ℕ, Bool, cond, List, [], unwrap_or}
use Rattle.std.specs.List.{flat_map}
use Rattle.std.specs.Int.{to_be_bytes, to_le_bytes, w32}
use Rattle.visa_io.specs.declared.records.Code.{Code}
use Rattle.visa_io.specs.declared.records.Image.{Image}
use Rattle.task_text.specs.declared.task.Source.{Source}
use Rattle.task_text.specs.declared.task.Source.TheVariants.{Name, Words}
use Rattle.task_text.specs.declared.task.Task.{Task}

-- the four bytes of a word, in a byte order
abbrev pub word_bytes : Bool → ℕ → List ℕ
word_bytes big w = cond big (to_be_bytes w32 w) (to_le_bytes w32 w)

-- the bytes of words
unfoldable pub words_bytes : Bool → List ℕ → List ℕ
words_bytes big ws = flat_map (word_bytes big) ws

-- the code of a text; there is none where it names an image
abbrev pub code_in : Source → Code
code_in (Name n) = record { spans = []; words = [] }
code_in (Words c) = c

-- the task's ranges of words, their bytes in its byte order, its entry, and no symbols
abbrev pub words_image : Task → Image
words_image t = record { big = t.big; entry = unwrap_or t.entry 0; spans = (code_in t.image).spans; bytes = words_bytes t.big (code_in t.image).words; symbols = [] }
