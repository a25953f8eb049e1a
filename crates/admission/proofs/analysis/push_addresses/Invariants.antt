use Rattle.std.specs.Prelude.{◌≡◌, ◌++◌, map, take}
use Rattle.visa_io.specs.declared.records.FactLine.{FactLine}
use Rattle.admission.proofs.analysis.push_addresses.Given as goal

abbrev pub invariant-loop-fact : goal.invariant-loop-fact
invariant-loop-fact l = l.starts.items ≡ l.initial.starts.items ++ map (λ (f : FactLine). f.at) (take l.fact-index l.facts)
