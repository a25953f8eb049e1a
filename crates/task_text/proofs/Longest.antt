-- No line has more fields than its form allows: the fields beyond decide nothing.
use Rattle.std.proofs.Common.{◌≡◌, ◌≤◌, ◌<◌, ◌&&◌, ℕ, Bool, true, false, nat_le, List, [], ◌∷◌, length, take, refl, sym, ap, ◌∙◌, arith, Option, Some, None, Err}
use Rattle.std.specs.List.{list_all}
use Rattle.std.proofs.lemmas.Bool.{cond-false}
use Rattle.std.proofs.lemmas.Bool.Decides.{nat_tests}
use Rattle.std.proofs.lemmas.List.{take_all, length-take-le}
use Rattle.text_fields.specs.Numbers.{is_hex}
use Rattle.task_text.specs.declared.fault.LineKind.TheVariants.{Field}
use Rattle.task_text.specs.declared.jobs_reader.JobsReader.{JobsReader}
use Rattle.task_text.specs.declared.reader.Reader.{Reader}
use Rattle.task_text.specs.declared.row.Keyword.{Keyword}
use Rattle.task_text.specs.declared.row.Keyword.TheVariants as k
use Rattle.task_text.specs.declared.task.Task.{Task}
use Rattle.task_text.specs.Gives.{counted, judged, named, next_count, taken}
use Rattle.task_text.specs.JobsReading.{fields_state, job_of, limited, past_of, row_of, took_state, version_of}
use Rattle.task_text.specs.Reading.{keyword_of, parsed}
use Rattle.task_text.specs.Table.{is_formed, is_shape_text}

no_room : (n : ℕ) (a b : Bool) → 64 < n → (a && (nat_le n 64 && b)) ≡ false
no_room n false b h = refl
no_room n true b h = let past : nat_le n 64 ≡ false = grind (arith, nat_tests) in ap (λ t. t && b) past

-- the longest line has 65 fields after its keyword
too_many : (key : Keyword) (fs : List (List ℕ)) → 65 < length fs → is_formed key fs ≡ false
unfolding is_formed is_shape_text
too_many k.Version (v ∷ []) h = absurd (omega arith)
too_many k.Order (o ∷ []) h = absurd (omega arith)
too_many k.Core (a ∷ b ∷ c ∷ d ∷ []) h = absurd (omega arith)
too_many k.Memory (a ∷ b ∷ c ∷ d ∷ []) h = absurd (omega arith)
too_many k.Icache (s ∷ []) h = absurd (omega arith)
too_many k.Icache (s ∷ w ∷ l ∷ []) h = absurd (omega arith)
too_many k.Dcache (s ∷ []) h = absurd (omega arith)
too_many k.Dcache (s ∷ w ∷ l ∷ []) h = absurd (omega arith)
too_many k.Point (p ∷ []) h = absurd (omega arith)
too_many k.Time (p ∷ d ∷ []) h = absurd (omega arith)
too_many k.Image (n ∷ []) h = absurd (omega arith)
too_many k.Words (a ∷ w ∷ ws) h = no_room (length (w ∷ ws)) (is_hex a) (list_all is_hex (w ∷ ws)) (omega arith)
too_many k.Entry (a ∷ []) h = absurd (omega arith)
too_many k.Stack (a ∷ []) h = absurd (omega arith)
too_many k.Ram (a ∷ n ∷ []) h = absurd (omega arith)
too_many k.Input (a ∷ n ∷ []) h = absurd (omega arith)
too_many k.Output (n ∷ []) h = absurd (omega arith)
too_many k.Show (a ∷ n ∷ []) h = absurd (omega arith)
too_many k.Cut (a ∷ []) h = absurd (omega arith)
too_many k.Loop (a ∷ b ∷ c ∷ n ∷ r ∷ []) h = absurd (omega arith)
too_many k.Fact (a ∷ r ∷ l ∷ h ∷ s ∷ []) m = absurd (omega arith)
too_many _ _ h = refl

unformed : (key : Keyword) (fs : List (List ℕ)) → 65 < length fs → parsed key fs ≡ Err Field
unfolding parsed
unformed key fs h = cond-false _ _ _ (too_many key fs h)

parsed_cut : (key : Keyword) (fs : List (List ℕ)) → parsed key (take 66 fs) ≡ parsed key fs
parsed_cut key fs = by (nat_le (length fs) 66) refl
  where
    by : (t : Bool) → nat_le (length fs) 66 ≡ t → parsed key (take 66 fs) ≡ parsed key fs
    by true e = let h : length fs ≤ 66 = grind (arith, nat_tests) in ap (parsed key) (take_all 66 fs h)
    by false e =
        let h : 66 < length fs = grind (arith, nat_tests) in
        let cut = length-take-le 66 fs (omega (arith, h)) in
        unformed key (take 66 fs) (omega (arith, cut)) ∙ sym (unformed key fs (omega (arith, h)))

counted_cut : (s : Reader) (key : Keyword) (times : Option ℕ) (fs : List (List ℕ)) → counted s key times (take 66 fs) ≡ counted s key times fs
counted_cut s key None fs = refl
counted_cut s key (Some times) fs = ap (taken s key times) (parsed_cut key fs)

named_cut : (s : Reader) (key : Option Keyword) (fs : List (List ℕ)) → named s key (take 66 fs) ≡ named s key fs
named_cut s None fs = refl
named_cut s (Some key) fs = counted_cut s key (next_count s.newest s.times key) fs

pub judged_cut : (s : Reader) (fs : List (List ℕ)) → judged s (take 67 fs) ≡ judged s fs
unfolding judged
judged_cut s [] = refl
judged_cut s (f ∷ others) = named_cut s (keyword_of f) others

row_cut : (fs : List (List ℕ)) → row_of (take 4 fs) ≡ row_of fs
unfolding row_of version_of past_of job_of
row_cut [] = refl
row_cut (a ∷ []) = refl
row_cut (a ∷ b ∷ []) = refl
row_cut (a ∷ b ∷ c ∷ []) = refl
row_cut (a ∷ b ∷ c ∷ d ∷ rest) = refl

pub state_cut : (t : Task) (s : JobsReader) (fs : List (List ℕ)) → fields_state t s (take 4 fs) ≡ fields_state t s fs
unfolding fields_state
state_cut t s fs = ap (λ r. took_state s (limited t r)) (row_cut fs)
