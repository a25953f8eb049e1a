-- How what a run executed, newest first, goes along the places of a walk. This project's own.
use Rattle.std.specs.Prelude.{◌≡◌, List, [], ◌∷◌, Option, Some, None}
use Rattle.visa_io.specs.declared.records.Code.{Code}
use Rattle.mips_isa.specs.Kinds.{kind_of}
use Rattle.mips_isa.specs.declared.instr.Instr.{Instr}
use Rattle.mips_isa.specs.declared.instr.Kind.TheVariants as kind
use Rattle.mips_ref.specs.declared.records.Ran.{Ran}
use Rattle.flow_graph.specs.Code.{instr_at}
use Rattle.flow_graph.specs.declared.parts.Edge.{Edge}
use Rattle.loop_regions.specs.Places.{Place}
use Rattle.run_law.specs.Program.{is_taken}

-- the branch before an edge, with its slot behind it, was taken exactly where the edge is a Taken edge
abbrev pub WentAlong : Code → Edge → List Ran → Type 0
WentAlong code e [] = Unit {0}
WentAlong code e (s ∷ []) = Unit {0}
WentAlong code e (s ∷ c ∷ older) = c.at ≡ e.from → (i : Instr) → instr_at code e.from ≡ Some i → kind_of i ≡ kind.Branch → c.taken ≡ is_taken e.kind

abbrev pub WentBy : Code → Option Edge → List Ran → Type 0
WentBy code None rs = Unit {0}
WentBy code (Some e) rs = WentAlong code e rs

-- what was executed stands at these places, joined by the edges along which it went
abbrev pub Goes : Code → List Ran → List Place → Type 0
Goes code [] [] = Unit {0}
Goes code [] (x ∷ xs) = ⊥
Goes code (d ∷ older) [] = ⊥
Goes code (d ∷ older) (x ∷ xs) = (d.at ≡ x.at) × WentBy code x.by older × Goes code older xs
