-- What an outcome of an entry says of the reference. This project's own.
use Rattle.std.specs.Prelude.{◌≡◌, ℕ, zero, suc, List, [], ◌∷◌, Option, Some, None}
use Rattle.mips_isa.specs.declared.instr.Instr.{Instr}
use Rattle.mips_ref.specs.Facts.{Retires}
use Rattle.mips_ref.specs.Mips.{Mips}
use Rattle.mips_ref.specs.Step.{applied, step_of, trapped}
use Rattle.mips_ref.specs.declared.records.Step.TheVariants.{Went}
use Rattle.core_window.specs.declared.records.Entry.{Entry}
use Rattle.core_window.specs.declared.records.Outcome.{Outcome}
use Rattle.core_window.specs.declared.records.Outcome.TheVariants.{Trapped, Parts}

-- from a state the reference makes k steps that go, passes the pcs of the first k entries, and then stands at entry k's pc and npc;
-- this entry is e
unfoldable pub Reaches : Mips → List Entry → ℕ → Entry → Type 0
Reaches x [] k e = ⊥
Reaches x (f ∷ rest) zero e = (x.pc ≡ f.pc) × (x.next_pc ≡ f.npc) × (f ≡ e)
Reaches x (f ∷ rest) (suc k) e = (x.pc ≡ f.pc) × ((step_of x).answer ≡ Went) × Reaches (step_of x).state rest k e

-- an outcome is the one of a state's next step: its trap, or the parts that the step applies. Only a trap that is found as parts are
-- applied (ReturnFull, ReturnMismatch or OutputFull) comes in their place
unfoldable pub StepIs : Option Instr → Outcome → Mips → Type 0
StepIs o (Trapped k) x = step_of x ≡ trapped k x
StepIs (Some i) (Parts r) x = Retires x i r × (step_of x ≡ applied i r x)
StepIs None (Parts r) x = ⊥
