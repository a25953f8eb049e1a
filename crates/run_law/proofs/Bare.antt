-- The law without facts and regions: the graph alone is enough.
use Rattle.std.proofs.Common.{◌≡◌, ◌≢◌, ◌∙◌, refl, sym, ap, subst, ℕ, ◌<◌, ◌≤◌, ◌^◌, Bool, true, false, List, [], length, arith, ◌⊎◌, inl, inr, pos, length-set, get_or-set_other, get_or-set_same}
use Rattle.std.specs.Prelude.{◌==◌, replicate, slice_index, slice_index_or}
use Rattle.std.specs.List.{Contains}
use Rattle.std.proofs.lemmas.Bool.{cases_lt, eqb-true}
use Rattle.std.proofs.lemmas.Int.{ints}
use Rattle.std.proofs.lemmas.List.{get_or-replicate, get_or_past, length-replicate}
use Rattle.visa_io.specs.declared.records.Code.{Code}
use Rattle.visa_io.specs.declared.records.Region.{Region}
use Rattle.mips_isa.specs.Words.{signed}
use Rattle.flow_graph.specs.declared.parts.Edge.{Edge}
use Rattle.range_facts.specs.Along.{begun}
use Rattle.range_facts.specs.Ranges.{Holds, IsFact, constant, unknown}
use Rattle.range_facts.specs.Transfer.{AreFacts, fact_of}
use Rattle.range_facts.specs.declared.along.Along.{Along}
use Rattle.range_facts.specs.declared.strided.Strided.{Strided}
use Rattle.range_facts.proofs.Sets.{constant_fact, constant_holds, unknown_fact}
use Rattle.range_facts.proofs.Values.{unknown_holds}
use Rattle.run_law.specs.Advance.{AreRegisters}
use Rattle.run_law.specs.Bare.{bare, nothing_known}
use Rattle.run_law.specs.Fits.{Fits, PassOn}
use Rattle.run_law.specs.Program.{AreLeft, Flowing, Passed, Program}
use Rattle.run_law.proofs.Certifying.{begins}

-- the facts of a start where nothing is known
pub at_zero : fact_of nothing_known 0 ≡ constant (pos 0)
at_zero = get_or-set_same (replicate 32 unknown) 0 (constant (pos 0)) unknown (omega (arith, length-replicate {A = Strided} 32 unknown))

pub elsewhere : (r : ℕ) → r ≢ 0 → fact_of nothing_known r ≡ unknown
elsewhere r other = get_or-set_other (replicate 32 unknown) 0 r (constant (pos 0)) unknown other ∙ all (cases_lt r 32)
  where
    all : (r < 32) ⊎ (32 ≤ r) → slice_index_or (replicate 32 unknown) r unknown ≡ unknown
    all (inl low) = get_or-replicate 32 r unknown unknown low
    all (inr high) = get_or_past (replicate 32 unknown) r unknown (omega (arith, high, length-replicate {A = Strided} 32 unknown))

is_zero : (r : ℕ) {P : Type 0} → (r ≡ 0 → P) → (r ≢ 0 → P) → P
is_zero r {P} same other = by_test (r == 0) refl
  where
    by_test : (b : Bool) → (r == 0) ≡ b → P
    by_test true is = same (eqb-true r 0 is)
    by_test false is = other (λ e. absurd (let clash : true ≡ false = ap (λ n. n == 0) (sym e) ∙ is in cc))

pub are_facts : AreFacts nothing_known
are_facts = record {
  long = length-set (replicate 32 unknown) 0 (constant (pos 0)) ∙ length-replicate {A = Strided} 32 unknown;
  each = λ r. is_zero r (λ same. subst (λ s. IsFact s) (sym at_zero ∙ ap (λ n. fact_of nothing_known n) (sym same)) zero_fact) (λ other. subst (λ s. IsFact s) (sym (elsewhere r other)) unknown_fact);
  zero_is = at_zero;
}
  where
    zero_fact : IsFact (constant (pos 0))
    zero_fact = constant_fact (pos 0) (omega (arith, ints)) (omega (arith, ints))

-- words with register 0 zero fit
any_fit : (registers : List ℕ) → length registers ≡ 32 → ((r : ℕ) → slice_index registers r < 2 ^ 32)
    → Holds (constant (pos 0)) (signed (slice_index registers 0)) → Fits (begun nothing_known) registers
any_fit registers long words zero = begins nothing_known registers are_facts long words (λ r low. is_zero r
    (λ same. subst (λ n. Holds (fact_of nothing_known n) (signed (slice_index registers n))) (sym same) (subst (λ s. Holds s (signed (slice_index registers 0))) (sym at_zero) zero))
    (λ other. subst (λ s. Holds s (signed (slice_index registers r))) (sym (elsewhere r other)) (unknown_holds (slice_index registers r) (words r))))

passes_on : (a : Along) → PassOn a (begun nothing_known)
passes_on a registers fits =
    let fit = fits.fit in
    any_fit registers fit.long fit.words (subst (λ s. Holds s (signed (slice_index registers 0))) fits.facts.zero_is (fit.holds 0))

left_fits : (p : Program) (g : ℕ) (saved registers : List ℕ) → AreLeft p g saved registers
    → Fits (begun nothing_known) registers
left_fits p g saved registers left =
    let are = left.are in
    any_fit registers are.length_is (all_words are) (subst (λ n. Holds (constant (pos 0)) (signed n)) (sym are.zero) holds_zero)
  where
    holds_zero : Holds (constant (pos 0)) (signed 0)
    holds_zero = constant_holds (pos 0)

    all_words : AreRegisters registers → (r : ℕ) → slice_index registers r < 2 ^ 32
    all_words are r = elim (cases_lt r 32) [
      | inl low ↦ are.words r low
      | inr high ↦ let none : slice_index registers r ≡ 0 = get_or_past registers r 0 (omega (arith, high, are.length_is)) in omega (arith, none)
    ]

no_region : (r : Region) {P : Type 0} → Contains [] r → P
no_region r (k, below, is) = absurd (omega arith)

pub bare_passes : (code : Code) (entry : ℕ) (edges : List Edge) (is_long : ℕ → Bool)
    → Flowing (bare code entry edges is_long) → Passed (bare code entry edges is_long)
bare_passes code entry edges is_long flowing = record {
  flowing = flowing;
  masked = record { written = λ f u at i r function member word stands writes low. refl; callee = λ f u g r function member calls low masked. refl };
  kept = record {
    plain = λ u i reached stands plain leads. passes_on _;
    turn = λ e i s a reached leads kind stands control slot refined. passes_on _;
    call = λ u g i s reached calls stands slot. passes_on _;
    over = λ u g i s reached calls stands slot saved registers fits left. left_fits (bare code entry edges is_long) g saved registers left;
  };
  nested = λ r among. no_region r among;
  counted = λ r among. no_region r among;
}
