-- A predictor is given by its numbers.
use Rattle.std.proofs.Common.{◌≡◌, refl, sym, ap, ◌∙◌, ℕ, Bool}
use Rattle.mips_isa.specs.declared.instr.Instr.{Instr}
use Rattle.predictors.specs.declared.builtin.Builtin.{Builtin}
use Rattle.predictors.specs.declared.builtin.Builtin.TheVariants.{Static, Bimodal, Gshare}
use Rattle.predictors.specs.Predicting.{builtin_after, builtin_guess, builtin_of, guess_by_numbers, numbers_after, numbers_of}

pub builtin_of-numbers_of : (p : Builtin) → builtin_of (numbers_of p) ≡ p
builtin_of-numbers_of Static = refl
builtin_of-numbers_of (Bimodal t) = refl
builtin_of-numbers_of (Gshare t) = refl

-- a guess and what is learnt are functions of the numbers
pub guess-by_numbers : (p : Builtin) (pc npc : ℕ) (i : Instr) (guess : ℕ) → guess ≡ builtin_guess p pc npc i → guess ≡ guess_by_numbers (numbers_of p) pc npc i
unfolding guess_by_numbers
guess-by_numbers p pc npc i guess e = e ∙ ap (λ q. builtin_guess q pc npc i) (sym (builtin_of-numbers_of p))

pub numbers-after : (p new : Builtin) (pc : ℕ) (i : Instr) (taken : Bool) (next : ℕ) → new ≡ builtin_after p pc i taken next → numbers_of new ≡ numbers_after (numbers_of p) pc i taken next
unfolding numbers_after
numbers-after p new pc i taken next e = ap numbers_of (e ∙ ap (λ q. builtin_after q pc i taken next) (sym (builtin_of-numbers_of p)))
