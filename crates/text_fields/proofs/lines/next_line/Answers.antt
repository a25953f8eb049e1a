use Rattle.std.proofs.Common.{arith}
use Rattle.std.proofs.Common.{◌≡◌, ℕ, List, length, ◌<◌, false, nat_eq, arith}
use Rattle.std.proofs.lemmas.Bool.Decides.{nat_tests}
use Rattle.text_fields.proofs.LinesRead.{line_fed, line_unfed}
use Rattle.text_fields.proofs.lines.next_line.Goals as goal

-- a text that isn't empty
some : (text : List ℕ) → false ≡ nat_eq (length text) 0 → 0 < length text
some text e = grind (arith, nat_tests)

pub returns-then-end-text-clause-line : goal.returns-then-end-text-clause-line
returns-then-end-text-clause-line c = line_fed c.args.text.now c.line_end-end.result c.line_end-end.ensures.place c.if-end-text.true

pub returns-else-end-text-clause-line : goal.returns-else-end-text-clause-line
returns-else-end-text-clause-line c = line_unfed c.args.text.now c.line_end-end.result c.line_end-end.ensures.place c.if-end-text.false (some c.args.text.now (c.if-is_empty.ensures))
