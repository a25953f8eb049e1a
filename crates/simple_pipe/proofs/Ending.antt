-- Where no code stands no step goes, and a job ends after one number of steps.
use Rattle.std.proofs.Common.{◌≡◌, ◌≢◌, ℕ, ◌<◌, Bool, true, false, refl, arith}
use Rattle.std.specs.Prelude.{Option, Some, None, if◌then◌else◌}
use Rattle.mips_ref.proofs.Steps.{code_below}
use Rattle.mips_ref.specs.Job.{EndsAfter}
use Rattle.mips_ref.specs.Memory.{IsMemory, code_word_at}
use Rattle.mips_ref.specs.Mips.{Mips, exit_address}
use Rattle.mips_ref.specs.Step.{step_of, at_exit, fetched}
use Rattle.mips_ref.specs.declared.records.Step.TheVariants.{Went, Exit}

no_code : (exits : Bool) (word : Option ℕ) (x : Mips) → word ≡ None → (if exits then record { answer = Exit; state = x } else fetched word x).answer ≢ Went
no_code true word x e went = absurd (cc)
no_code false None x e went = absurd (cc)
no_code false (Some word) x e went = absurd (cc)

-- where no code stands no step goes
no_code_stops : (x : Mips) → code_word_at x.memory x.pc ≡ None → (step_of x).answer ≢ Went
unfolding step_of
no_code_stops x none = no_code (at_exit x) (code_word_at x.memory x.pc) x none

-- and no code stands at the exit address
exit_none : (x : Mips) (o : Option ℕ) → IsMemory x.memory → x.pc ≡ exit_address → code_word_at x.memory x.pc ≡ o → code_word_at x.memory x.pc ≡ None
exit_none x None kept at e = e
exit_none x (Some word) kept at e = absurd (omega (arith, code_below x.memory x.pc word kept.laid_out e, at))

pub no_step_at_exit : (x : Mips) → IsMemory x.memory → x.pc ≡ exit_address → (step_of x).answer ≢ Went
no_step_at_exit x kept at = no_code_stops x (exit_none x (code_word_at x.memory x.pc) kept at refl)

-- a job doesn't end twice
pub ends_once : (x : Mips) (n m : ℕ) → EndsAfter x n → EndsAfter x m → n ≡ m
ends_once x n m a b =
    let not_before : m < n → ⊥ = λ l. b.ended (a.went m l) in
    let not_after : n < m → ⊥ = λ l. a.ended (b.went n l) in
    omega (arith, not_before, not_after)
