-- What a job of a task that passed executes is the code's.
use Rattle.std.proofs.Common.{◌≡◌, ◌∙◌, refl, sym, ap, subst, ℕ, zero, suc, ◌+◌, ◌<◌, true, List, [], ◌∷◌, arith}
use Rattle.std.specs.Prelude.{Option, Some, None}
use Rattle.visa_io.specs.declared.records.Code.{Code}
use Rattle.mips_isa.specs.Decoding.{decode_of}
use Rattle.mips_isa.specs.declared.instr.Instr.{Instr}
use Rattle.mips_ref.specs.Job.{after}
use Rattle.mips_ref.specs.Memory.{code_word_at}
use Rattle.mips_ref.specs.Mips.{Mips}
use Rattle.mips_ref.specs.Ran.{ran, ran_at, ran_by, ran_ending, ran_instr, ran_word}
use Rattle.mips_ref.specs.Step.{step_of}
use Rattle.mips_ref.specs.declared.records.Ran.{Ran}
use Rattle.mips_ref.specs.declared.records.Step.{Step}
use Rattle.mips_ref.specs.declared.records.Step.TheVariants.{Exit, Trap, Went}
use Rattle.mips_ref.proofs.Rans.{after_add}
use Rattle.flow_graph.specs.Code.{instr_at, is_control_instr}
use Rattle.run_law.specs.Instructions.{decoded}
use Rattle.run_law.specs.Program.{Passed, Program}
use Rattle.run_law.specs.Runs.{Done, First, HasCode, InSlot, IsAt, Opens, Runs, Spot}
use Rattle.run_law.proofs.Coded.{has_code_stays, here, same_instr}
use Rattle.run_law.proofs.Turning.{exits_there, runs}

-- an executed instruction is that of the code at its address
pub record IsOfCode (code : Code) (r : Ran) : Type 0 where
  pub instr : Instr
  pub is_code : r.is_code ≡ true
  pub ran : r.instr ≡ Some instr
  pub stands : instr_at code r.at ≡ Some instr

abbrev pub AreOfCode : Code → List Ran → Type 0
AreOfCode code [] = Unit {0}
AreOfCode code (r ∷ rs) = IsOfCode code r × AreOfCode code rs

of_instr : (code : Code) (x : Mips) (o : Option Instr) (i : Instr) → o ≡ Some i → instr_at code x.pc ≡ Some i
    → IsOfCode code (ran_instr x o)
of_instr code x None i is stands = cc
of_instr code x (Some j) i is stands = record { instr = j; is_code = refl; ran = refl; stands = stands ∙ sym is }

of_word : (code : Code) (x : Mips) (o : Option ℕ) (i : Instr) → decoded o ≡ Some i → instr_at code x.pc ≡ Some i
    → IsOfCode code (ran_word x o)
of_word code x None i is stands = cc
of_word code x (Some word) i is stands = of_instr code x (decode_of word) i is stands

-- the instruction at the pc
ran_here : (code : Code) (x : Mips) (i : Instr) → HasCode code x.memory → instr_at code x.pc ≡ Some i
    → IsOfCode code (ran_at x)
unfolding ran_at
ran_here code x i has stands =
    of_word code x (code_word_at x.memory x.pc) i (here code x.memory x.pc i has stands) stands

-- where a run stands, there is an instruction, but at its exit
stands_at : (p : Program) (q : Passed p) (x : Mips) (rs : List Ran) (r : Runs p x rs) (spot : Spot)
    → IsAt p r.unit r.below rs r.edges spot x
    → ((step_of x).answer ≡ Exit → ⊥) → (i : Instr) × (instr_at p.code x.pc ≡ Some i)
stands_at p q x rs r First at stays =
    let good = q.flowing.good r.unit r.reached in
    (good.instr, ap (instr_at p.code) at.0 ∙ good.stands)
stands_at p q x rs r InSlot at stays =
    let good = q.flowing.good r.unit r.reached in
    let same = same_instr p.code r.unit at.1.0 good.instr at.1.1 good.stands in
    let slot = good.slot (ap is_control_instr (sym same) ∙ at.1.2) in
    (slot.0, ap (instr_at p.code) at.0 ∙ slot.1)
stands_at p q x rs r Done at stays = absurd (stays (exits_there x at.0 at.1))

code_after : (p : Program) (x : Mips) → Opens p x → (n : ℕ) → HasCode p.code (after n x).memory
unfolding after
code_after p x opens zero = opens.has_code
code_after p x opens (suc n) = has_code_stays p.code (after n x) (code_after p x opens n)

-- what a step of a job executes
pub step_of_code : (p : Program) (q : Passed p) (x : Mips) → Opens p x → (n : ℕ)
    → ((k : ℕ) → k < n → (step_of (after k x)).answer ≡ Went)
    → ((step_of (after n x)).answer ≡ Exit → ⊥) → IsOfCode p.code (ran_at (after n x))
step_of_code p q x opens n went stays =
    let law = runs p x n q opens went in
    let there = stands_at p q (after n x) (ran_by n x) law.0 law.0.spot law.0.at stays in
    ran_here p.code (after n x) there.0 (code_after p x opens n) there.1

went_stays : (a : Step) → a ≡ Went → a ≡ Exit → ⊥
went_stays a w e = let clash : Went ≡ Exit = sym w ∙ e in cc

-- the steps from the n-th on, k of them
later_of_code : (p : Program) (q : Passed p) (x : Mips) → Opens p x → (n k : ℕ)
    → ((j : ℕ) → j < k + n → (step_of (after j x)).answer ≡ Went) → AreOfCode p.code (ran_by k (after n x))
unfolding ran_by
later_of_code p q x opens n zero went = tt
later_of_code p q x opens n (suc k) went =
    let here = step_of_code p q x opens (k + n) (λ j below. went j (omega (arith, below)))
    (went_stays (step_of (after (k + n) x)).answer (went (k + n) (omega arith))) in
    (subst (λ y. IsOfCode p.code (ran_at y)) (after_add k n x) here, later_of_code p q x opens n k (λ j below. went j (omega (arith, below))))

ending_of_code : (p : Program) (q : Passed p) (x : Mips) → Opens p x → (n k : ℕ)
    → ((j : ℕ) → j < k + n → (step_of (after j x)).answer ≡ Went) → (a : Step)
    → (step_of (after k (after n x))).answer ≡ a
    → AreOfCode p.code (ran_ending k (after n x) a)
ending_of_code p q x opens n k went Went is = later_of_code p q x opens n k went
ending_of_code p q x opens n k went Exit is = later_of_code p q x opens n k went
ending_of_code p q x opens n k went (Trap kind pc) is =
    let same = after_add k n x in
    let answer : (step_of (after (k + n) x)).answer ≡ Trap kind pc = ap (λ y. (step_of y).answer) same ∙ is in
    let here = step_of_code p q x opens (k + n) went (λ e. let clash : Trap kind pc ≡ Exit = sym answer ∙ e in cc) in
    (subst (λ y. IsOfCode p.code (ran_at y)) same here, later_of_code p q x opens n k went)

-- all that is executed from the n-th state on, until the job ends
pub rest_of_code : (p : Program) (q : Passed p) (x : Mips) → Opens p x → (n k : ℕ)
    → ((j : ℕ) → j < k + n → (step_of (after j x)).answer ≡ Went) → AreOfCode p.code (ran k (after n x))
unfolding ran
rest_of_code p q x opens n k went = ending_of_code p q x opens n k went (step_of (after k (after n x))).answer refl
