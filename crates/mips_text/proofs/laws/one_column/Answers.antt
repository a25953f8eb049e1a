use Rattle.std.proofs.Common.{◌≡◌, ap, sym, ◌∙◌, subst, ℕ, ◌+◌, ◌-◌, ◌<◌, List, ◌++◌, take, drop, append_assoc, arith, take-add}
use Rattle.mips_text.specs.Beginnings.{IsBeginning, IsFirstFault}
use Rattle.mips_text.proofs.laws.one_column.Goals as goal

shorter : (at : ℕ) (a b : List ℕ) → IsBeginning at (a ++ b) → IsBeginning at a
shorter at a b g = record { instr = g.instr; fits = g.fits; more = b ++ g.more; is = sym (append_assoc a b g.more) ∙ g.is }

not_less : (at : ℕ) (text : List ℕ) (m n : ℕ) → IsFirstFault at text m → IsFirstFault at text n → ¬ (m < n)
not_less at text m n f g h =
    let within = g.within in
    let split : take (n - 1) text ≡ take m text ++ take (n - 1 - m) (drop m text) = ap (λ k. take k text) (let e : n - 1 ≡ m + (n - 1 - m) = omega arith in e) ∙ take-add m (n - 1 - m) text in
    f.stops (omega arith) (shorter at (take m text) (take (n - 1 - m) (drop m text)) (subst (IsBeginning at) split g.begins))

pub returns : goal.returns
returns c at text m n f g = let h = not_less at text m n f g in let k = not_less at text n m g f in omega arith
