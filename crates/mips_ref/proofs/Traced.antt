-- One step, by what stands at the pc; and what it executed.
use Rattle.std.proofs.Common.{◌≡◌, ℕ, ◌<◌, Bool, true, false, cond, eqb, length, Some, None, refl, sym, ap, ◌∙◌, arith}
use Rattle.std.specs.Prelude.{◌&&◌}
use Rattle.std.proofs.lemmas.Grind.{common_steps}
use Rattle.mips_isa.specs.Decoding.{decode_of}
use Rattle.mips_isa.specs.declared.instr.Instr.{Instr}
use Rattle.mips_ref.specs.Memory.{code_word_at, port}
use Rattle.mips_ref.specs.Mips.{Mips, exit_address}
use Rattle.mips_ref.specs.Ran.{is_trap, off_code_answer, ran_as, ran_at, ran_instr, ran_nothing, ran_word}
use Rattle.mips_ref.specs.Step.{acted, at_exit, decoded, executed, fetched, step_of, trapped}
use Rattle.mips_ref.specs.declared.records.Step.{Step}
use Rattle.mips_ref.specs.declared.records.Step.TheVariants.{Exit}
use Rattle.mips_ref.specs.declared.records.TrapKind.TheVariants.{FetchFault, Reserved}

-- no code stands at the exit address
below_exit : (x : Mips) → x.pc < port → at_exit x ≡ false
below_exit x below =
    let other : eqb x.pc exit_address ≡ false = grind (arith, common_steps) in
    ap (λ b. b && eqb (length x.returns) 0) other

off_by : (x : Mips) (b : Bool) → (cond b (record { answer = Exit; state = x }) (trapped FetchFault x)).answer ≡ cond b Exit (trapped FetchFault x).answer
off_by x true = refl
off_by x false = refl

off_state : (x : Mips) (b : Bool) → (cond b (record { answer = Exit; state = x }) (trapped FetchFault x)).state ≡ x
off_state x true = refl
off_state x false = refl

pub off_code-answer : (x : Mips) → code_word_at x.memory x.pc ≡ None → off_code_answer x ≡ (step_of x).answer
unfolding step_of
off_code-answer x none =
    sym (ap (λ o. (cond (at_exit x) (record { answer = Exit; state = x }) (fetched o x)).answer) none ∙ off_by x (at_exit x))

pub off_code-state : (x : Mips) → code_word_at x.memory x.pc ≡ None → x ≡ (step_of x).state
unfolding step_of
off_code-state x none =
    sym (ap (λ o. (cond (at_exit x) (record { answer = Exit; state = x }) (fetched o x)).state) none ∙ off_state x (at_exit x))

pub step_reserved : (x : Mips) (word : ℕ) → x.pc < port → code_word_at x.memory x.pc ≡ Some word → decode_of word ≡ None
    → step_of x ≡ trapped Reserved x
unfolding step_of
step_reserved x word below code none =
    rw (below_exit x below) (ap (λ o. fetched o x) code ∙ ap (λ o. decoded o x) none)

pub step_found : (x : Mips) (word : ℕ) (i : Instr) → x.pc < port → code_word_at x.memory x.pc ≡ Some word → decode_of word ≡ Some i
    → step_of x ≡ executed i x
unfolding step_of
step_found x word i below code is =
    rw (below_exit x below) (ap (λ o. fetched o x) code ∙ ap (λ o. decoded o x) is)

pub ran_off_code : (x : Mips) → code_word_at x.memory x.pc ≡ None → ran_nothing x.pc false ≡ ran_at x
unfolding ran_at
ran_off_code x none = sym (ap (ran_word x) none)

pub ran_reserved : (x : Mips) (word : ℕ) → code_word_at x.memory x.pc ≡ Some word → decode_of word ≡ None → ran_nothing x.pc true ≡ ran_at x
unfolding ran_at
ran_reserved x word code none = sym (ap (ran_word x) code ∙ ap (ran_instr x) none)

pub ran_found : (x : Mips) (word : ℕ) (i : Instr) (step : Step) → code_word_at x.memory x.pc ≡ Some word → decode_of word ≡ Some i
    → step ≡ (step_of x).answer → ran_as x.pc i (acted i x) (is_trap step) ≡ ran_at x
unfolding ran_at
ran_found x word i step code is answer =
    ap (λ s. ran_as x.pc i (acted i x) (is_trap s)) answer ∙ sym (ap (ran_word x) code ∙ ap (ran_instr x) is)
