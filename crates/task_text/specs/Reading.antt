-- A task text read line by line into rows, newest first: what the private reader follows.
use Rattle.std.specs.Prelude.{ℕ, suc, cond, ◌&&◌, nat_eq, List, [], ◌∷◌, map, Option, Some, None, option_map, find, Result, Ok, Err, codes}
use Rattle.std.specs.Str.{bytes_eq}
use Rattle.text_fields.specs.Lines.{fields}
use Rattle.text_fields.specs.Numbers.{is_number, saturated, signed_saturated, hex}
use Rattle.visa_io.specs.declared.records.Shape.{Shape}
use Rattle.task_text.specs.declared.fault.LineKind.{LineKind}
use Rattle.task_text.specs.declared.fault.LineKind.TheVariants.{Bytes, Word, Field, Value, End}
use Rattle.task_text.specs.declared.fault.TaskFault.{TaskFault}
use Rattle.task_text.specs.declared.fault.TaskFault.TheVariants.{Line}
use Rattle.task_text.specs.declared.row.Keyword.{Keyword}
use Rattle.task_text.specs.declared.row.Keyword.TheVariants as k
use Rattle.task_text.specs.declared.row.Row.{Row}
use Rattle.task_text.specs.declared.row.Row.TheVariants as row
use Rattle.task_text.specs.Table.{name, keywords, is_formed, is_shape_text, is_shape_or_none, in_limits, agrees_with_all, may_stand}
use Rattle.task_text.specs.Texts.{is_plain, is_skipped, is_ended}

-- the first keyword of this name
unfoldable pub keyword_of : List ℕ → Option Keyword
keyword_of f = find (λ key. bytes_eq (name key) f) keywords

-- a cache's shape
unfoldable pub shape_of : List (List ℕ) → Option (Option Shape)
shape_of (s ∷ []) = cond (bytes_eq s (codes "none")) (Some None) None
shape_of (s ∷ w ∷ l ∷ []) = cond (is_number s) (Some (Some (record { sets = saturated s; ways = saturated w; line = saturated l }))) None
shape_of _ = None

-- the address of an entry, or none
unfoldable pub entry_of : List ℕ → Option ℕ
entry_of a = cond (bytes_eq a (codes "-")) None (Some (hex a))

-- the row that fields of the form say, if any
unfoldable pub row_of : Keyword → List (List ℕ) → Option Row
row_of k.Version (v ∷ []) = cond (nat_eq (saturated v) 1) (Some row.Version) None
row_of k.Order (o ∷ []) = Some (row.Order (bytes_eq o (codes "big")))
row_of k.Core (a ∷ b ∷ c ∷ d ∷ []) = Some (row.Core (record { width = saturated a; rob = saturated b; mul = saturated c; div = saturated d }))
row_of k.Memory (a ∷ b ∷ c ∷ d ∷ []) = Some (row.Memory (record { mem_ps = saturated a; store_ps = saturated b; settle_ps = saturated c; start_ps = saturated d }))
row_of k.Icache fs = option_map row.Icache (shape_of fs)
row_of k.Dcache fs = option_map row.Dcache (shape_of fs)
row_of k.Point (p ∷ []) = Some (row.Point (saturated p))
row_of k.Time (p ∷ d ∷ []) = Some (row.Time (record { period_ps = saturated p; deadline_ps = saturated d }))
row_of k.Image (n ∷ []) = Some (row.Image n)
row_of k.Words (a ∷ ws) = Some (row.Words (record { start = hex a; words = map hex ws }))
row_of k.Entry (a ∷ []) = Some (row.Entry (entry_of a))
row_of k.Stack (a ∷ []) = Some (row.Stack (hex a))
row_of k.Ram (a ∷ n ∷ []) = Some (row.Ram (record { start = hex a; len = saturated n }))
row_of k.Input (a ∷ n ∷ []) = Some (row.Input (record { start = hex a; len = saturated n }))
row_of k.Output (n ∷ []) = Some (row.Output (saturated n))
row_of k.Show (a ∷ n ∷ []) = Some (row.Show (record { start = hex a; len = saturated n }))
row_of k.Cut (a ∷ []) = Some (row.Cut (hex a))
row_of k.Loop (a ∷ b ∷ c ∷ n ∷ r ∷ []) = Some (row.Loop (record { first = hex a; last = hex b; header = hex c; count = saturated n; counter = saturated r }))
row_of k.Fact (a ∷ r ∷ l ∷ h ∷ s ∷ []) = cond (is_number r && is_number s) (Some (row.Fact (record { at = hex a; register = saturated r; lo = signed_saturated l; hi = signed_saturated h; stride = saturated s }))) None
row_of _ _ = None

-- within the limits
abbrev pub limited : Option Row → Option Row
limited None = None
limited (Some r) = cond (in_limits r) (Some r) None

abbrev pub valued : Option Row → Result Row LineKind
valued None = Err Value
valued (Some r) = Ok r

-- the fields after a keyword
unfoldable pub parsed : Keyword → List (List ℕ) → Result Row LineKind
parsed key fs = cond (is_formed key fs) (valued (limited (row_of key fs))) (Err Field)

-- a cache's shape within its limits, of the fields after its keyword
abbrev pub shape_limited : Option (Option Shape) → Result (Option Shape) LineKind
shape_limited None = Err Value
shape_limited (Some s) = cond (is_shape_or_none s) (Ok s) (Err Value)

unfoldable pub shape_parsed : List (List ℕ) → Result (Option Shape) LineKind
shape_parsed fs = cond (is_shape_text fs) (shape_limited (shape_of fs)) (Err Field)

-- a row after others
abbrev pub joined : List Row → Result Row LineKind → Result (List Row) LineKind
joined older (Ok r) = cond (agrees_with_all older r) (Ok (r ∷ older)) (Err Value)
joined older (Err kind) = Err kind

abbrev pub named : List Row → Option Keyword → List (List ℕ) → Result (List Row) LineKind
named older None others = Err Word
named older (Some key) others = cond (may_stand older key) (joined older (parsed key others)) (Err Word)

abbrev pub judged : List Row → List (List ℕ) → Result (List Row) LineKind
judged older [] = Err Word
judged older (f ∷ others) = named older (keyword_of f) others

-- a line after rows
unfoldable pub judge : List Row → List ℕ → Result (List Row) LineKind
judge older l = cond (is_plain l) (cond (is_skipped l) (Ok older) (judged older (fields l))) (Err Bytes)

-- the end of a text, whose last line has the number before n
abbrev pub ended : List Row → ℕ → Result (List Row) TaskFault
ended rows n = cond (is_ended rows) (Ok rows) (Err (Line n End))

-- after line n
abbrev pub walk_on : Result (List Row) LineKind → ℕ → (List Row → Result (List Row) TaskFault) → Result (List Row) TaskFault
walk_on (Ok rows) n go = go rows
walk_on (Err kind) n go = Err (Line n kind)

-- the lines from line n on, after rows
abbrev pub walk : List (List ℕ) → List Row → ℕ → Result (List Row) TaskFault
walk [] rows n = ended rows n
walk (l ∷ ls) rows n = walk_on (judge rows l) n (λ more. walk ls more (suc n))
