-- What is asked of a task that keeps the limits.
use Rattle.std.proofs.Common.{subst, suc, get_or, ◌-◌, ◌≡◌, ℕ, true, nat_le, nat_lt, List, [], ◌∷◌, length, Some, None, unwrap_or, ◌+◌, ◌*◌, ◌^◌, ◌<◌, ◌≤◌, Bool, false, refl, sym, ap, ◌∙◌, arith, leb-true, length-append}
use Rattle.std.specs.Prelude.{All}
use Rattle.std.specs.List.{list_all, last_or, AllByRecursion, flat_map}
use Rattle.std.specs.Int.{is_in_range}
use Rattle.std.specs.Str.{IsUtf8}
use Rattle.std.proofs.lemmas.List.Elements.{All-nil, All-weaker, recursion_from_All}
use Rattle.std.proofs.lemmas.Str.{IsUtf8-from_ascii}
use Rattle.std.proofs.lemmas.Str.Ascii.{IsAscii-from_all}
use Rattle.text_fields.proofs.Digits.{and_parts}
use Rattle.visa_io.specs.declared.records.Image.{Image}
use Rattle.visa_io.specs.ImageCode.{IsFilled, total_len}
use Rattle.task_text.specs.declared.task.Source.{Source}
use Rattle.task_text.specs.declared.task.Source.TheVariants.{Name, Words}
use Rattle.task_text.specs.declared.task.Task.{Task}
use Rattle.task_text.specs.Table.{is_name}
use Rattle.task_text.specs.Limits.{Within, IsCodeRange, IsImage, KeepsLimits}
use Rattle.task_text.specs.TaskParts.{fastest_ps}
use Rattle.task_text.specs.WordsImage.{word_bytes, words_bytes, code_in, words_image}
use Rattle.task_text.proofs.KeepsLimits.{all_of}

-- the fastest point is one of the points
last_within : (low high p : ℕ) (ps : List ℕ) → Within low high p → AllByRecursion (Within low high) ps → Within low high (unwrap_or (last_or (Some p) ps) 0)
last_within low high p [] w a = w
last_within low high p (q ∷ ps) w a = last_within low high q ps a.0 a.1

points_within : (low high : ℕ) (ps : List ℕ) → 0 < length ps → AllByRecursion (Within low high) ps → Within low high (unwrap_or (last_or None ps) 0)
points_within low high [] l a = absurd (omega arith)
points_within low high (p ∷ ps) l a = last_within low high p ps a.0 a.1

last_some : (p : ℕ) (ps : List ℕ) → get_or (p ∷ ps) (length ps) 0 ≡ unwrap_or (last_or (Some p) ps) 0
last_some p [] = refl
last_some p (q ∷ ps) = last_some q ps

pub last_is : (ps : List ℕ) → get_or ps (length ps - 1) 0 ≡ unwrap_or (last_or None ps) 0
last_is [] = refl
last_is (p ∷ ps) = ap (λ n. get_or (p ∷ ps) n 0) (less (length ps)) ∙ last_some p ps
  where
    less : (n : ℕ) → suc n - 1 ≡ n
    less n = omega arith

pub fastest_within : (t : Task) → KeepsLimits t → Within 100 (10 ^ 6) (fastest_ps t)
fastest_within t h = points_within 100 (10 ^ 6) t.points h.points.some (recursion_from_All (Within 100 (10 ^ 6)) t.points h.points.each)

-- the name of an image file is text
name_ascii : (n : List ℕ) → is_name n ≡ true → IsUtf8 n
unfolding is_name
name_ascii n e =
    let p = and_parts (nat_lt 0 (length n)) (list_all (is_in_range 33 126) n) e in
    IsUtf8-from_ascii n (IsAscii-from_all n (all_of (is_in_range 33 126) (λ b. b < 128) (λ b h. let q = leb-true b 126 (and_parts (nat_le 33 b) (nat_le b 126) h).1 in omega (arith, q)) n p.1))

pub image_utf8 : (s : Source) (n : List ℕ) → IsImage s → s ≡ Name n → IsUtf8 n
image_utf8 (Name m) n i e = let same : m ≡ n = cc in name_ascii n (ap is_name (sym same) ∙ i.form)
image_utf8 (Words c) n i e = cc

-- the image of words has four bytes for each of them
word_long : (big : Bool) (w : ℕ) → length (word_bytes big w) ≡ 4
word_long true w = refl
word_long false w = refl

words_long : (big : Bool) (ws : List ℕ) → length (words_bytes big ws) ≡ 4 * length ws
unfolding words_bytes
words_long big [] = refl
words_long big (w ∷ ws) =
    let n = length-append (word_bytes big w) (flat_map (word_bytes big) ws) in
    let m = word_long big w in
    let r = words_long big ws in
    omega (arith, n, m, r)

pub words_filled : (t : Task) → KeepsLimits t → IsFilled (words_image t)
words_filled t h = record { bytes = (by t.image h.image).0; ends = (by t.image h.image).1 }
  where
    by : (s : Source) → IsImage s → (length (words_bytes t.big (code_in s).words) ≡ total_len (code_in s).spans) × All (λ span. span.start + span.len ≤ 2 ^ 32) (code_in s).spans
    by (Name n) i = (words_long t.big [], All-nil (λ span. span.start + span.len ≤ 2 ^ 32))
    by (Words c) i = (
      (let n = words_long t.big c.words in omega (arith, n, i.whole.words)),
      All-weaker IsCodeRange (λ span. span.start + span.len ≤ 2 ^ 32) (λ s e. omega (arith, e.ends)) c.spans i.each,
    )

-- an image that is that of the words
pub filled_by : (t : Task) (i : Image) → i ≡ words_image t → KeepsLimits t → IsFilled i
filled_by t i e h = subst IsFilled (sym e) (words_filled t h)
