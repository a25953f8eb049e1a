-- What every task that some text gives keeps. This project's own.
use Rattle.std.specs.Prelude.{◌≡◌, ℕ, true, nat_eq, List, [], ◌∷◌, length, ◌+◌, ◌<◌, ◌≤◌, ◌^◌, All}
use Rattle.std.specs.List.{list_any}
use Rattle.visa_io.specs.declared.records.Code.{Code}
use Rattle.visa_io.specs.declared.records.Machine.{Machine}
use Rattle.visa_io.specs.declared.records.Span.{Span}
use Rattle.visa_io.specs.ImageCode.{IsWhole}
use Rattle.task_text.specs.declared.row.Row.TheVariants as row
use Rattle.task_text.specs.declared.task.Source.{Source}
use Rattle.task_text.specs.declared.task.Source.TheVariants.{Name, Words}
use Rattle.task_text.specs.declared.task.Task.{Task}
use Rattle.task_text.specs.Table.{is_name, is_shape_or_none, is_word_or_none, in_limits}

-- from the least to the greatest
abbrev pub Within : ℕ → ℕ → ℕ → Type 0
Within low high n = (low ≤ n) × (n ≤ high)

pub record IsMachine (m : Machine) : Type 0 where
  pub width : list_any (λ n. nat_eq m.width n) (1 ∷ 2 ∷ 4 ∷ []) ≡ true
  pub rob : Within 8 128 m.rob
  pub mul : Within 1 32 m.mul
  pub div : Within 1 64 m.div
  pub mem_ps : Within 1 (10 ^ 7) m.mem_ps
  pub store_ps : Within 1 (10 ^ 7) m.store_ps
  pub settle_ps : m.settle_ps ≤ 10 ^ 9
  pub start_ps : m.start_ps ≤ 10 ^ 9
  pub icache : is_shape_or_none m.icache ≡ true
  pub dcache : is_shape_or_none m.dcache ≡ true

-- each less than those before it
abbrev pub AreFalling : List ℕ → Type 0
AreFalling [] = Unit {0}
AreFalling (p ∷ ps) = All (λ q. q < p) ps × AreFalling ps

-- one to eight clock periods, ps
pub record ArePoints (points : List ℕ) : Type 0 where
  pub some : 0 < length points
  pub few : length points ≤ 8
  pub each : All (Within 100 (10 ^ 6)) points
  pub falling : AreFalling points

-- so many bytes, which end at 2^32 or before
pub record IsRange (least most : ℕ) (s : Span) : Type 0 where
  pub len : Within least most s.len
  pub ends : s.start + s.len ≤ 2 ^ 32

pub record AreRanges (number least most : ℕ) (spans : List Span) : Type 0 where
  pub few : length spans ≤ number
  pub each : All (IsRange least most) spans

-- one line of words: 1 to 64, executable, below the ports
pub record IsCodeRange (s : Span) : Type 0 where
  pub len : Within 4 256 s.len
  pub ends : s.start + s.len ≤ 0xffff_0000
  pub runs : s.x ≡ true

-- the code of a text: as many words as its ranges hold, which are aligned
pub record IsTextCode (c : Code) : Type 0 where
  pub whole : IsWhole c
  pub few : length c.spans ≤ 256
  pub each : All IsCodeRange c.spans
  pub words : All (λ w. w < 2 ^ 32) c.words

-- the name of an image file
pub record IsFileName (n : List ℕ) : Type 0 where
  pub form : is_name n ≡ true
  pub short : length n ≤ 255

abbrev pub IsImage : Source → Type 0
IsImage (Name n) = IsFileName n
IsImage (Words c) = IsTextCode c

pub record KeepsLimits (t : Task) : Type 0 where
  pub machine : IsMachine t.machine
  pub points : ArePoints t.points
  pub period : Within 1 (10 ^ 12) t.period_ps
  pub deadline : Within 1 t.period_ps t.deadline_ps
  pub image : IsImage t.image
  pub entry : is_word_or_none t.entry ≡ true
  pub stack : t.stack < 2 ^ 32
  pub ram : AreRanges 32 1 (2 ^ 32) t.ram
  pub input_len : t.input_len ≤ 65536
  pub input_ends : t.input_at + t.input_len ≤ 2 ^ 32
  pub out_max : Within 1 65536 t.out_max
  pub show : AreRanges 16 1 256 t.show
  pub few_cuts : length t.cuts ≤ 31
  pub cuts : All (λ a. a < 2 ^ 32) t.cuts
  pub few_regions : length t.regions ≤ 256
  pub regions : All (λ r. in_limits (row.Loop r) ≡ true) t.regions
  pub few_facts : length t.facts ≤ 4096
  pub facts : All (λ f. in_limits (row.Fact f) ≡ true) t.facts
