use Rattle.std.proofs.Common.{◌≡◌, ℕ, ◌<◌, false, nat_eq, get_or}
use Rattle.text_fields.proofs.lines.line_end.Given as goal

abbrev pub invariant-loop-i : goal.invariant-loop-i
invariant-loop-i l = (k : ℕ) → k < l.i → nat_eq (get_or l.text k 0) 10 ≡ false
