-- The table of the lines of a task text. This project's own.
use Rattle.std.specs.Prelude.{ℕ, suc, Bool, true, false, cond, not, ◌&&◌, ◌||◌, nat_eq, nat_le, nat_lt, List, [], ◌∷◌, length, map, ℤ, ◌+◌, ◌*◌, ◌%◌, ◌^◌, ◌-ℤ◌, int_le, unsigned_abs, Some, None, Option, codes, decimal}
use Rattle.std.specs.Fmt.{signed_decimal}
use Rattle.std.specs.List.{list_all, list_any}
use Rattle.std.specs.Int.{is_in_range}
use Rattle.std.specs.Str.{bytes_eq}
use Rattle.text_fields.specs.Lines.{is_graphic}
use Rattle.text_fields.specs.Numbers.{is_number, is_signed_number, is_signed_word, is_hex, hex_text}
use Rattle.visa_io.specs.declared.records.Shape.{Shape}
use Rattle.task_text.specs.declared.row.Keyword.{Keyword}
use Rattle.task_text.specs.declared.row.Keyword.TheVariants as k
use Rattle.task_text.specs.declared.row.Row.{Row}
use Rattle.task_text.specs.declared.row.Row.TheVariants as row

abbrev pub keyword : Row → Keyword
keyword row.Version = k.Version
keyword (row.Order _) = k.Order
keyword (row.Core _) = k.Core
keyword (row.Memory _) = k.Memory
keyword (row.Icache _) = k.Icache
keyword (row.Dcache _) = k.Dcache
keyword (row.Point _) = k.Point
keyword (row.Time _) = k.Time
keyword (row.Image _) = k.Image
keyword (row.Words _) = k.Words
keyword (row.Entry _) = k.Entry
keyword (row.Stack _) = k.Stack
keyword (row.Ram _) = k.Ram
keyword (row.Input _) = k.Input
keyword (row.Output _) = k.Output
keyword (row.Show _) = k.Show
keyword (row.Cut _) = k.Cut
keyword (row.Loop _) = k.Loop
keyword (row.Fact _) = k.Fact

-- the first field of a line
abbrev pub name : Keyword → List ℕ
name k.Version = codes "visa-task"
name k.Order = codes "order"
name k.Core = codes "core"
name k.Memory = codes "memory"
name k.Icache = codes "icache"
name k.Dcache = codes "dcache"
name k.Point = codes "point"
name k.Time = codes "time"
name k.Image = codes "image"
name k.Words = codes "words"
name k.Entry = codes "entry"
name k.Stack = codes "stack"
name k.Ram = codes "ram"
name k.Input = codes "input"
name k.Output = codes "output"
name k.Show = codes "show"
name k.Cut = codes "cut"
name k.Loop = codes "loop"
name k.Fact = codes "fact"

-- every keyword, and its number among them
abbrev pub keywords : List Keyword
keywords = k.Version ∷ k.Order ∷ k.Core ∷ k.Memory ∷ k.Icache ∷ k.Dcache ∷ k.Point ∷ k.Time ∷ k.Image ∷ k.Words ∷ k.Entry ∷ k.Stack ∷ k.Ram ∷ k.Input ∷ k.Output ∷ k.Show ∷ k.Cut ∷ k.Loop ∷ k.Fact ∷ []

abbrev pub rank : Keyword → ℕ
rank k.Version = 1
rank k.Order = 2
rank k.Core = 3
rank k.Memory = 4
rank k.Icache = 5
rank k.Dcache = 6
rank k.Point = 7
rank k.Time = 8
rank k.Image = 9
rank k.Words = 10
rank k.Entry = 11
rank k.Stack = 12
rank k.Ram = 13
rank k.Input = 14
rank k.Output = 15
rank k.Show = 16
rank k.Cut = 17
rank k.Loop = 18
rank k.Fact = 19

abbrev pub same_keyword : Keyword → Keyword → Bool
same_keyword a b = nat_eq (rank a) (rank b)

-- the place of a line in the table: `image` and `words` share one
abbrev pub place : Keyword → ℕ
place k.Version = 1
place k.Order = 2
place k.Core = 3
place k.Memory = 4
place k.Icache = 5
place k.Dcache = 6
place k.Point = 7
place k.Time = 8
place k.Image = 9
place k.Words = 9
place k.Entry = 10
place k.Stack = 11
place k.Ram = 12
place k.Input = 13
place k.Output = 14
place k.Show = 15
place k.Cut = 16
place k.Loop = 17
place k.Fact = 18

-- how often a line may stand
abbrev pub most : Keyword → ℕ
most k.Version = 1
most k.Order = 1
most k.Core = 1
most k.Memory = 1
most k.Icache = 1
most k.Dcache = 1
most k.Point = 8
most k.Time = 1
most k.Image = 1
most k.Words = 256
most k.Entry = 1
most k.Stack = 1
most k.Ram = 32
most k.Input = 1
most k.Output = 1
most k.Show = 16
most k.Cut = 31
most k.Loop = 256
most k.Fact = 4096

-- the first place after this one where a line is needed, or the table's end. The places 12 and 15 to 18 may be empty
unfoldable pub next_needed : ℕ → ℕ
next_needed p = cond (nat_lt p 11) (p + 1) (cond (nat_lt p 13) 13 (cond (nat_lt p 14) 14 19))

-- the last place where a line is needed
abbrev pub last_needed : ℕ
last_needed = 14

-- the fields of a cache's line after its keyword
abbrev pub shape_values : Option Shape → List (List ℕ)
shape_values None = codes "none" ∷ []
shape_values (Some s) = decimal s.sets ∷ decimal s.ways ∷ decimal s.line ∷ []

-- the field of an entry
abbrev pub entry_value : Option ℕ → List ℕ
entry_value None = codes "-"
entry_value (Some a) = hex_text a

-- the fields of a line after its keyword: a row has one text
abbrev pub values : Row → List (List ℕ)
values row.Version = codes "1" ∷ []
values (row.Order big) = cond big (codes "big") (codes "little") ∷ []
values (row.Core c) = decimal c.width ∷ decimal c.rob ∷ decimal c.mul ∷ decimal c.div ∷ []
values (row.Memory m) = decimal m.mem_ps ∷ decimal m.store_ps ∷ decimal m.settle_ps ∷ decimal m.start_ps ∷ []
values (row.Icache s) = shape_values s
values (row.Dcache s) = shape_values s
values (row.Point p) = decimal p ∷ []
values (row.Time t) = decimal t.period_ps ∷ decimal t.deadline_ps ∷ []
values (row.Image n) = n ∷ []
values (row.Words w) = hex_text w.start ∷ map hex_text w.words
values (row.Entry a) = entry_value a ∷ []
values (row.Stack a) = hex_text a ∷ []
values (row.Ram e) = hex_text e.start ∷ decimal e.len ∷ []
values (row.Input e) = hex_text e.start ∷ decimal e.len ∷ []
values (row.Output n) = decimal n ∷ []
values (row.Show e) = hex_text e.start ∷ decimal e.len ∷ []
values (row.Cut a) = hex_text a ∷ []
values (row.Loop r) = hex_text r.first ∷ hex_text r.last ∷ hex_text r.header ∷ decimal r.count ∷ decimal r.counter ∷ []
values (row.Fact f) = hex_text f.at ∷ decimal f.register ∷ signed_decimal f.lo ∷ signed_decimal f.hi ∷ decimal f.stride ∷ []

abbrev pub fields_of : Row → List (List ℕ)
fields_of r = name (keyword r) ∷ values r

-- at least one byte, each of 21 to 7e
unfoldable pub is_name : List ℕ → Bool
is_name n = nat_lt 0 (length n) && list_all is_graphic n

-- a number, or `none`, which may stand in the first place of a cache's line
unfoldable pub is_size : List ℕ → Bool
is_size s = is_number s || bytes_eq s (codes "none")

-- the fields of a cache
unfoldable pub is_shape_text : List (List ℕ) → Bool
is_shape_text (s ∷ []) = is_size s
is_shape_text (s ∷ w ∷ l ∷ []) = is_size s && (is_number w && is_number l)
is_shape_text _ = false

-- the number of fields and their forms, whatever their values: at each place, what may stand there in some form of the line
unfoldable pub is_formed : Keyword → List (List ℕ) → Bool
is_formed k.Version (v ∷ []) = is_number v
is_formed k.Order (o ∷ []) = bytes_eq o (codes "big") || bytes_eq o (codes "little")
is_formed k.Core (a ∷ b ∷ c ∷ d ∷ []) = is_number a && (is_number b && (is_number c && is_number d))
is_formed k.Memory (a ∷ b ∷ c ∷ d ∷ []) = is_number a && (is_number b && (is_number c && is_number d))
is_formed k.Icache fs = is_shape_text fs
is_formed k.Dcache fs = is_shape_text fs
is_formed k.Point (p ∷ []) = is_number p
is_formed k.Time (p ∷ d ∷ []) = is_number p && is_number d
is_formed k.Image (n ∷ []) = is_name n
is_formed k.Words (a ∷ w ∷ ws) = is_hex a && (nat_le (length (w ∷ ws)) 64 && list_all is_hex (w ∷ ws))
is_formed k.Entry (a ∷ []) = is_hex a || bytes_eq a (codes "-")
is_formed k.Stack (a ∷ []) = is_hex a
is_formed k.Ram (a ∷ n ∷ []) = is_hex a && is_number n
is_formed k.Input (a ∷ n ∷ []) = is_hex a && is_number n
is_formed k.Output (n ∷ []) = is_number n
is_formed k.Show (a ∷ n ∷ []) = is_hex a && is_number n
is_formed k.Cut (a ∷ []) = is_hex a
is_formed k.Loop (a ∷ b ∷ c ∷ n ∷ r ∷ []) = is_hex a && (is_hex b && (is_hex c && (is_number n && is_number r)))
is_formed k.Fact (a ∷ r ∷ l ∷ h ∷ s ∷ []) = is_hex a && (is_signed_number r && (is_signed_number l && (is_signed_number h && is_signed_number s)))
is_formed _ _ = false

-- a word of 32 bits
abbrev pub is_word : ℕ → Bool
is_word a = nat_lt a (2 ^ 32)

-- a range that ends at 2^32 or before
abbrev pub ends_in_time : ℕ → ℕ → Bool
ends_in_time a n = nat_le (a + n) (2 ^ 32)

-- sets a power of two up to 1024, 1 to 8 ways, lines of 8, 16, 32 or 64 bytes
unfoldable pub is_shape : ℕ → ℕ → ℕ → Bool
is_shape sets ways line =
    list_any (λ n. nat_eq sets n) (1 ∷ 2 ∷ 4 ∷ 8 ∷ 16 ∷ 32 ∷ 64 ∷ 128 ∷ 256 ∷ 512 ∷ 1024 ∷ [])
    && (is_in_range 1 8 ways && list_any (λ n. nat_eq line n) (8 ∷ 16 ∷ 32 ∷ 64 ∷ []))

abbrev pub is_shape_or_none : Option Shape → Bool
is_shape_or_none None = true
is_shape_or_none (Some s) = is_shape s.sets s.ways s.line

abbrev pub is_word_or_none : Option ℕ → Bool
is_word_or_none None = true
is_word_or_none (Some a) = is_word a

-- lo, lo + stride, .., hi: a stride of at least 1 divides hi - lo, and is 1 for a constant
unfoldable pub is_strided : ℤ → ℤ → ℕ → Bool
is_strided lo hi stride =
    int_le lo hi && (nat_le 1 stride && cond (int_le hi lo) (nat_eq stride 1) (nat_eq (unsigned_abs (hi -ℤ lo) % stride) 0))

-- the limits of a row by itself
unfoldable pub in_limits : Row → Bool
in_limits row.Version = true
in_limits (row.Order big) = true
in_limits (row.Core c) = list_any (λ n. nat_eq c.width n) (1 ∷ 2 ∷ 4 ∷ []) && (is_in_range 8 128 c.rob && (is_in_range 1 32 c.mul && is_in_range 1 64 c.div))
in_limits (row.Memory m) = is_in_range 1 (10 ^ 7) m.mem_ps && (is_in_range 1 (10 ^ 7) m.store_ps && (nat_le m.settle_ps (10 ^ 9) && nat_le m.start_ps (10 ^ 9)))
in_limits (row.Icache s) = is_shape_or_none s
in_limits (row.Dcache s) = is_shape_or_none s
in_limits (row.Point p) = is_in_range 100 (10 ^ 6) p
in_limits (row.Time t) = is_in_range 1 (10 ^ 12) t.period_ps && is_in_range 1 t.period_ps t.deadline_ps
in_limits (row.Image n) = is_name n && nat_le (length n) 255
in_limits (row.Words w) = nat_eq (w.start % 4) 0 && (nat_le (w.start + 4 * length w.words) 0xffff_0000 && (is_in_range 1 64 (length w.words) && list_all is_word w.words))
in_limits (row.Entry a) = is_word_or_none a
in_limits (row.Stack a) = is_word a
in_limits (row.Ram e) = is_word e.start && (is_word e.len && (nat_le 1 e.len && ends_in_time e.start e.len))
in_limits (row.Input e) = is_word e.start && (nat_le e.len 65536 && ends_in_time e.start e.len)
in_limits (row.Output n) = is_in_range 1 65536 n
in_limits (row.Show e) = is_word e.start && (is_in_range 1 256 e.len && ends_in_time e.start e.len)
in_limits (row.Cut a) = is_word a
in_limits (row.Loop r) = is_word r.first && (is_word r.last && (is_word r.header && (is_word r.count && (nat_le 1 r.count && is_in_range 1 31 r.counter))))
in_limits (row.Fact f) = is_word f.at && (is_in_range 1 31 f.register && (is_signed_word f.lo && (is_signed_word f.hi && (is_word f.stride && is_strided f.lo f.hi f.stride))))

-- a row and an earlier one: points fall, `entry -` stands after no `words`, and a register has one fact at an address
unfoldable pub agrees : Row → Row → Bool
agrees (row.Point p) (row.Point q) = nat_lt p q
agrees (row.Entry None) (row.Words w) = false
agrees (row.Fact f) (row.Fact e) = not (nat_eq e.at f.at && nat_eq e.register f.register)
agrees _ _ = true

-- rows stand newest first
abbrev pub agrees_with_all : List Row → Row → Bool
agrees_with_all older r = list_all (agrees r) older

-- how many rows have the keyword
abbrev pub count : Keyword → List Row → ℕ
count key [] = 0
count key (r ∷ older) = cond (same_keyword key (keyword r)) (suc (count key older)) (count key older)

-- the place and the number of the newest row's keyword, 0 before the first row
abbrev pub newest_place : List Row → ℕ
newest_place [] = 0
newest_place (r ∷ older) = place (keyword r)

abbrev pub newest_rank : List Row → ℕ
newest_rank [] = 0
newest_rank (r ∷ older) = rank (keyword r)

-- its own keyword again, or a later line of the table with no needed line between
abbrev pub may_follow : List Row → Keyword → Bool
may_follow older key = nat_eq (newest_rank older) (rank key) || (nat_lt (newest_place older) (place key) && nat_le (place key) (next_needed (newest_place older)))

-- the order of the table and its greatest numbers
unfoldable pub may_stand : List Row → Keyword → Bool
may_stand older key = may_follow older key && nat_lt (count key older) (most key)
