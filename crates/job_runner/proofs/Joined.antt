-- Steps that come to a state, and the steps from there to the end.
use Rattle.std.proofs.Common.{◌≡◌, sym, ap, ◌∙◌, inl, inr, ℕ, ◌+◌, ◌-◌, arith}
use Rattle.std.proofs.lemmas.Bool.{cases_lt}
use Rattle.mips_ref.specs.Job.{EndsAfter, after}
use Rattle.mips_ref.specs.Mips.{Mips}
use Rattle.mips_ref.specs.Step.{step_of}
use Rattle.mips_ref.specs.declared.records.Step.{Step}
use Rattle.mips_ref.proofs.Rans.{after_add}
use Rattle.ooo_clock.specs.Along.{AllWent, EndsWith}

went_more : (x y : Mips) (n m : ℕ) → AllWent n x → y ≡ after n x → AllWent m y → AllWent (m + n) x
went_more x y n m first is then k low = elim (cases_lt k n) [
  | inl early ↦ first k early
  | inr late ↦
      let i : ℕ = k - n in
      let whole : i + n ≡ k = omega (arith, late) in
      let there : after i y ≡ after k x = ap (after i) is ∙ sym (after_add i n x) ∙ ap (λ j. after j x) whole in
      ap (λ z. (step_of z).answer) (sym there) ∙ then i (omega (arith, low, late))
]

pub ends_more : (x y : Mips) (n m : ℕ) (a : Step) → AllWent n x → y ≡ after n x → EndsAfter y m
    → (step_of (after m y)).answer ≡ a → EndsWith x (m + n) a
ends_more x y n m a first is e answer =
    let there : after m y ≡ after (m + n) x = ap (after m) is ∙ sym (after_add m n x) in
    let same = ap (λ z. (step_of z).answer) there in
    record {
      ends = record { went = went_more x y n m first is e.went; ended = λ goes. e.ended (same ∙ goes) };
      answer_is = sym same ∙ answer;
    }
