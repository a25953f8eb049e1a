-- What the limits of a row tell.
use Rattle.std.proofs.Common.{◌≡◌, ℕ, true, ◌&&◌, nat_eq, nat_le, ◌+◌, ◌*◌, ◌%◌, ◌≤◌, List, length, leb-true, Result, Ok, Err, IfOk}
use Rattle.std.specs.List.{list_all}
use Rattle.std.specs.Int.{is_in_range}
use Rattle.text_fields.proofs.Digits.{and_parts}
use Rattle.task_text.specs.declared.fault.ReadError.{ReadError}
use Rattle.task_text.specs.declared.fault.ReadError.TheVariants as e
use Rattle.task_text.specs.declared.row.Keyword.{Keyword}
use Rattle.task_text.specs.declared.row.Row.{Row}
use Rattle.task_text.specs.declared.row.Row.TheVariants as row
use Rattle.task_text.specs.declared.row.WordsRow.{WordsRow}
use Rattle.task_text.specs.Table.{in_limits, is_word}
use Rattle.task_text.specs.Reading.{parsed}
use Rattle.task_text.specs.Gives.{Gives}
use Rattle.task_text.proofs.Steps.{parsed_ok}

-- a line has at most 64 words
pub words_short : (w : WordsRow) → in_limits (row.Words w) ≡ true → length w.words ≤ 64
unfolding in_limits
words_short w low =
    let x = and_parts (nat_eq (w.start % 4) 0) (nat_le (w.start + 4 * length w.words) 0xffff_0000 && (is_in_range 1 64 (length w.words) && list_all is_word w.words)) low in
    let y = and_parts (nat_le (w.start + 4 * length w.words) 0xffff_0000) (is_in_range 1 64 (length w.words) && list_all is_word w.words) x.1 in
    let z = and_parts (is_in_range 1 64 (length w.words)) (list_all is_word w.words) y.1 in
    let m = and_parts (nat_le 1 (length w.words)) (nat_le (length w.words) 64) z.0 in
    leb-true (length w.words) 64 m.1

-- a row that was parsed is within its limits
pub parsed_low : (key : Keyword) (fs : List (List ℕ)) (r : Result Row ReadError) → Gives r (parsed key fs) → IfOk r (λ x. in_limits x ≡ true)
parsed_low key fs (Ok r) g = (parsed_ok key fs r g).2
parsed_low key fs (Err (e.Line kind)) g = tt
parsed_low key fs (Err e.Memory) g = tt
