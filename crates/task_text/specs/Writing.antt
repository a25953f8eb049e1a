-- The text of a task. This project's own.
use Rattle.std.specs.Prelude.{ℕ, List, [], ◌∷◌, ◌/◌, map, take, drop, decimal}
use Rattle.std.specs.Fmt.{signed_decimal}
use Rattle.std.specs.List.{flat_map}
use Rattle.text_fields.specs.Lines.{line, space, spaced}
use Rattle.text_fields.specs.Numbers.{hex_text}
use Rattle.visa_io.specs.declared.records.Span.{Span}
use Rattle.task_text.specs.declared.row.Extent.{Extent}
use Rattle.task_text.specs.declared.row.Keyword.{Keyword}
use Rattle.task_text.specs.declared.row.Keyword.TheVariants as k
use Rattle.task_text.specs.declared.row.Row.{Row}
use Rattle.task_text.specs.declared.row.Row.TheVariants as row
use Rattle.task_text.specs.declared.task.Source.{Source}
use Rattle.task_text.specs.declared.task.Source.TheVariants.{Name, Words}
use Rattle.task_text.specs.declared.task.Task.{Task}
use Rattle.task_text.specs.declared.writing.Value.{Value}
use Rattle.task_text.specs.declared.writing.Value.TheVariants.{Decimal, Hex, Signed, Text}
use Rattle.task_text.specs.Table.{name, keywords, fields_of}

-- the row of an image's name
abbrev pub image_rows : Source → List Row
image_rows (Name n) = row.Image n ∷ []
image_rows (Words c) = []

-- a row for each range of code, with its words
abbrev pub code_rows : List Span → List ℕ → List Row
code_rows [] ws = []
code_rows (s ∷ ss) ws = row.Words (record { start = s.start; words = take (s.len / 4) ws }) ∷ code_rows ss (drop (s.len / 4) ws)

abbrev pub words_rows : Source → List Row
words_rows (Name n) = []
words_rows (Words c) = code_rows c.spans c.words

abbrev pub extent : Span → Extent
extent s = record { start = s.start; len = s.len }

-- the rows of a keyword, in order
abbrev pub section : Task → Keyword → List Row
section t k.Version = row.Version ∷ []
section t k.Order = row.Order t.big ∷ []
section t k.Core = row.Core (record { width = t.machine.width; rob = t.machine.rob; mul = t.machine.mul; div = t.machine.div }) ∷ []
section t k.Memory = row.Memory (record { mem_ps = t.machine.mem_ps; store_ps = t.machine.store_ps; settle_ps = t.machine.settle_ps; start_ps = t.machine.start_ps }) ∷ []
section t k.Icache = row.Icache t.machine.icache ∷ []
section t k.Dcache = row.Dcache t.machine.dcache ∷ []
section t k.Point = map row.Point t.points
section t k.Time = row.Time (record { period_ps = t.period_ps; deadline_ps = t.deadline_ps }) ∷ []
section t k.Image = image_rows t.image
section t k.Words = words_rows t.image
section t k.Entry = row.Entry t.entry ∷ []
section t k.Stack = row.Stack t.stack ∷ []
section t k.Ram = map (λ s. row.Ram (extent s)) t.ram
section t k.Input = row.Input (record { start = t.input_at; len = t.input_len }) ∷ []
section t k.Output = row.Output t.out_max ∷ []
section t k.Show = map (λ s. row.Show (extent s)) t.show
section t k.Cut = map row.Cut t.cuts
section t k.Loop = map row.Loop t.regions
section t k.Fact = map row.Fact t.facts

-- the text of a row, with its feed
abbrev pub row_text : Row → List ℕ
row_text r = line (spaced (fields_of r))

unfoldable pub section_text : Task → Keyword → List ℕ
section_text t key = flat_map row_text (section t key)

-- the text of a task: the rows of each keyword, in the table's order
unfoldable pub text_of : Task → List ℕ
text_of t = flat_map (section_text t) keywords

-- how a value of a line is written
abbrev pub value_text : Value → List ℕ
value_text (Decimal n) = decimal n
value_text (Hex n) = hex_text n
value_text (Signed z) = signed_decimal z
value_text (Text x) = x.now

-- a line of these values
abbrev pub line_text : Keyword → List (List ℕ) → List ℕ
line_text key vs = line (spaced (name key ∷ vs))

-- values, each after a space
abbrev pub values_text : List Value → List ℕ
values_text vs = flat_map (λ v. space ∷ value_text v) vs

abbrev pub words_text : List ℕ → List ℕ
words_text ws = flat_map (λ w. space ∷ hex_text w) ws
