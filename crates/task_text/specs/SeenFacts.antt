-- The facts so far, each known by its address and register as one number. This project's own.
use Rattle.std.specs.Prelude.{◌≡◌, ℕ, nat_eq, List, ◌+◌, ◌*◌, ◌<◌, All}
use Rattle.std.specs.List.{list_any}
use Rattle.std.specs.Ordering.{nat_cmp}
use Rattle.std.specs.BTreeSet as tree
use Rattle.visa_io.specs.declared.records.FactLine.{FactLine}
use Rattle.task_text.specs.declared.fact_keys.FactKeys.{FactKeys}

abbrev pub fact_key : FactLine → ℕ
fact_key f = f.at * 256 + f.register

-- the keys are those of these facts
pub record AreKeysOf (s : FactKeys) (facts : List FactLine) : Type 0 where
  pub tells : (x : ℕ) → tree.contains nat_cmp s.seen x ≡ list_any (λ e. nat_eq x (fact_key e)) facts
  pub low : All (λ e. e.register < 256) facts
