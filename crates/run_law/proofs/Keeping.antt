-- A task that passed every analysis passes for the run law; and its runs keep the facts at the starts of blocks.
use Rattle.std.proofs.Common.{◌≡◌, ◌∙◌, refl, sym, ap, subst, ℕ, ◌+◌, ◌<◌, true, List, arith}
use Rattle.std.specs.Prelude.{Some, slice_index}
use Rattle.mips_isa.specs.Words.{signed}
use Rattle.mips_isa.specs.declared.instr.Instr.{Instr}
use Rattle.mips_ref.specs.Job.{after}
use Rattle.mips_ref.specs.Mips.{Mips, exit_address}
use Rattle.mips_ref.specs.Ran.{ran_by}
use Rattle.mips_ref.specs.Step.{step_of}
use Rattle.mips_ref.specs.declared.records.Ran.{Ran}
use Rattle.mips_ref.specs.declared.records.Step.TheVariants.{Went}
use Rattle.flow_graph.specs.Code.{instr_at, is_control_instr}
use Rattle.flow_graph.specs.Flow.{Flow, Has, IsGraph}
use Rattle.flow_graph.specs.Reached.{Reached}
use Rattle.flow_graph.specs.declared.fault.FlowFault.TheVariants.{SlotTarget}
use Rattle.flow_graph.specs.declared.parts.Edge.{Edge}
use Rattle.range_facts.specs.Along.{begun}
use Rattle.range_facts.specs.Ranges.{Holds}
use Rattle.range_facts.specs.Transfer.{fact_of}
use Rattle.range_facts.specs.declared.along.Along.{Along}
use Rattle.run_law.specs.Analysed.{Analysed, KeepsFacts}
use Rattle.run_law.specs.Certificate.{Blocked, Blocks, Certificate}
use Rattle.run_law.specs.Fits.{Fits}
use Rattle.run_law.specs.Program.{Flowing, Passed, Program}
use Rattle.run_law.specs.Runs.{Done, First, HasCode, InSlot, IsAt, Opens, Spot}
use Rattle.run_law.proofs.Blocking.{blocked_of}
use Rattle.run_law.proofs.Certifying.{kept_of, starts_at}
use Rattle.run_law.proofs.Coded.{control_there, low}
use Rattle.run_law.proofs.Flows.{flowing_of}
use Rattle.run_law.proofs.Masking.{masked_of}
use Rattle.run_law.proofs.Rules.{counted_of, nested_of}
use Rattle.run_law.proofs.Turning.{runs}

pub passed_of : (p : Program) (g : Flow) (b : Blocks) → Analysed p g b → Passed p
passed_of p g b a =
    let flowing = flowing_of p g a.graph a.of in
    record {
      flowing = flowing;
      masked = masked_of p a.masks;
      kept = kept_of p b flowing (blocked_of p g b a.graph a.blocks) a.certificate;
      nested = λ r among. nested_of p g r a.graph a.of a.nested among;
      counted = λ r among. let register = a.registers r among in counted_of p r register.0 register.1 a.masks (a.facts r among) (a.counted r among);
    }

-- no slot is a unit
no_slot : (p : Program) (g : Flow) (u : ℕ) (i : Instr) → IsGraph p.code p.entry g → Reached p.code p.entry u
    → instr_at p.code u ≡ Some i → is_control_instr i ≡ true → Reached p.code p.entry (u + 4) → ⊥
unfolding Has
no_slot p g u i is reached stands control also =
    is.sound (SlotTarget (u + 4)) (record { unit = u; reached = reached; control = control_there p.code u i stands ∙ control; follows = refl }, also)

-- no unit stands at the exit
no_exit : (p : Program) (x : Mips) → Flowing p → HasCode p.code x.memory → Reached p.code p.entry exit_address → ⊥
no_exit p x flowing has reached =
    let good = flowing.good exit_address reached in
    let below = low p.code x.memory exit_address good.instr has good.stands in
    omega (arith, below)

held_at : (p : Program) (b : Blocks) (u : ℕ) (x : Mips) → Blocked p b → Certificate p b → x.pc ≡ u
    → Fits (p.before u) x.registers → KeepsFacts p b x
held_at p b u x blocked certified pc fits reached start r =
    let here : p.before u ≡ begun (b.facts x.pc) = ap p.before (sym pc) ∙ starts_at p b x.pc blocked certified reached start in
    subst (λ (a : Along). Holds (fact_of a.facts r) (signed (slice_index x.registers r))) here (fits.fit.holds r)

at_spot : (p : Program) (g : Flow) (b : Blocks) (x y : Mips) (u : ℕ) (below : List (List ℕ)) (rs : List Ran) (es : List Edge) (spot : Spot)
    → Analysed p g b → HasCode p.code x.memory → Reached p.code p.entry u → IsAt p u below rs es spot y
    → KeepsFacts p b y
at_spot p g b x y u below rs es First a has member at = held_at p b u y (blocked_of p g b a.graph a.blocks) a.certificate at.0 at.3
at_spot p g b x y u below rs es InSlot a has member at = λ reached start r.
    let i = at.1 in absurd (no_slot p g u i.0 a.graph member i.1 i.2 (subst (λ v. Reached p.code p.entry v) at.0 reached))
at_spot p g b x y u below rs es Done a has member at = λ reached start r.
    absurd (no_exit p x (flowing_of p g a.graph a.of) has (subst (λ v. Reached p.code p.entry v) at.0 reached))

pub keeps : (p : Program) (g : Flow) (b : Blocks) (x : Mips) (n : ℕ) → Analysed p g b → Opens p x
    → ((k : ℕ) → k < n → (step_of (after k x)).answer ≡ Went) → KeepsFacts p b (after n x)
keeps p g b x n a opens went =
    let r = (runs p x n (passed_of p g b a) opens went).0 in
    at_spot p g b x (after n x) r.unit r.below (ran_by n x) r.edges r.spot a opens.has_code r.reached r.at
