use Rattle.std.proofs.Common.{◌≡◌, take}
use Rattle.list_text.specs.Tables.{named_lines, pairs_of}
use Rattle.list_text.proofs.table.plain_lines.Given as goal

abbrev pub invariant-loop-i : goal.invariant-loop-i
invariant-loop-i l = pairs_of l.lines.items ≡ named_lines (take l.i l.symbols)
