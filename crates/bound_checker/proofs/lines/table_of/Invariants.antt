use Rattle.std.proofs.Common.{◌≡◌, ℕ, take}
use Rattle.std.specs.BTreeMap.{get}
use Rattle.std.specs.Option.{unwrap_or}
use Rattle.std.specs.Ordering.{nat_cmp}
use Rattle.bound_checker.specs.Lines.{facts_at, no_facts}
use Rattle.bound_checker.proofs.lines.table_of.Given as goal

abbrev pub invariant-loop-line : goal.invariant-loop-line
invariant-loop-line l = (a : ℕ) → unwrap_or (get nat_cmp l.table a) no_facts ≡ facts_at (take l.line-index l.lines) a
