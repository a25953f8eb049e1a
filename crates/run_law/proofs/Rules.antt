-- The rules on regions and counts give what the run law asks.
use Rattle.std.proofs.Common.{◌≡◌, ◌≢◌, ◌∙◌, refl, sym, ap, subst, ℕ, zero, suc, ◌+◌, ◌/◌, ◌^◌, ◌<◌, ◌≤◌, Bool, true, false, List, arith, inl, inr, pos, negsuc, ℤ}
use Rattle.std.specs.Prelude.{◌==◌, ◌&&◌, ◌+ℤ◌, ◌-ℤ◌, not, unsigned_abs, if◌then◌else◌, FitsSigned, Option, Some, None, slice_get}
use Rattle.std.specs.Int.{w32}
use Rattle.std.specs.List.{Contains}
use Rattle.std.specs.Ordering.{int_eq}
use Rattle.std.proofs.lemmas.Bool.{and_parts, eqb-true}
use Rattle.std.proofs.lemmas.Int.{ints}
use Rattle.std.proofs.lemmas.Option.{slice_get-get_or}
use Rattle.visa_io.specs.declared.records.Region.{Region}
use Rattle.mips_isa.specs.Names.{writes_of}
use Rattle.mips_isa.specs.Words.{extended_half, signed}
use Rattle.mips_isa.specs.declared.instr.Instr.{Instr}
use Rattle.mips_isa.specs.declared.instr.Instr.TheVariants.{Imm}
use Rattle.mips_isa.specs.declared.instr.ImmOp.TheVariants.{Addi, Addiu, Slti, Sltiu, Andi, Ori, Xori}
use Rattle.mips_ref.specs.Act.{fits_word}
use Rattle.flow_graph.specs.Code.{instr_at}
use Rattle.flow_graph.specs.Flow.{Flow, IsGraph}
use Rattle.flow_graph.specs.Reached.{CallsAt, IsFunction, Reached}
use Rattle.loop_regions.specs.Regions.{AreNested, IsSide, outside}
use Rattle.loop_regions.specs.Walks.{holds}
use Rattle.loop_regions.proofs.Visits.{is_header, other_number, same_number}
use Rattle.range_facts.specs.Along.{after_instr}
use Rattle.range_facts.specs.Ranges.{IsFact}
use Rattle.range_facts.specs.Transfer.{AreFacts, fact_of}
use Rattle.range_facts.specs.declared.strided.Strided.{Strided}
use Rattle.range_facts.proofs.Sets.{lt_fails, lt_holds}
use Rattle.range_facts.proofs.Words.{fits_holds}
use Rattle.run_law.specs.Certificate.{behind}
use Rattle.run_law.specs.Counts.{AreSteps, IsCounted, IsOfRegion, IsStepAt, Stride, before_at, is_up, needed_of, stays_fit, step_by}
use Rattle.run_law.specs.Masks.{AreMasks}
use Rattle.run_law.specs.Program.{Counted, IsEnough, IsGraphOf, IsStep, Nested, Program, by_size}
use Rattle.run_law.proofs.Coded.{is_first_word, is_slot_word}

-- a region of a list stands at its place
placed : (rs : List Region) (r : Region) → Contains rs r → (k : ℕ) × (slice_get rs k ≡ Some r)
placed rs r (k, below, is) = (k, slice_get-get_or rs k r below ∙ ap Some is)

no_side : (g : Flow) (rs : List Region) (r : Region) (from to : ℕ) → AreNested g rs → Contains rs r
    → IsSide g r from to → ⊥
no_side g rs r from to nested among side = let at = placed rs r among in nested.side at.0 from to (r, at.1, side)

-- regions that nest are entered at their headers alone
pub nested_of : (p : Program) (g : Flow) (r : Region) → IsGraph p.code p.entry g → IsGraphOf p g
    → AreNested g p.graph.regions → Contains p.graph.regions r → Nested p r
nested_of p g r is of nested among = record {
  starts = λ f function within. elim (is_header r f) [
    | inl same ↦ same
    | inr aside ↦ absurd (no_side g p.graph.regions r outside f nested among (record { inside = within; aside = aside; comes = inr (refl, (is.functions_are f).1 function) }))
  ];
  enters = λ e reached leads inner out within. elim (is_header r e.to) [
    | inl same ↦ same
    | inr aside ↦
        let edge = (is.edges_are e).1 (record { reached = reached; joins = inl leads }) in
        absurd (no_side g p.graph.regions r e.from e.to nested among (record { inside = within; aside = aside; comes = inl (e, record { among = edge; inner = inner }, refl, refl, out) }))
  ];
}

-- what a step is
pub record IsAddiu (c : ℕ) (i : Instr) (by : ℤ) : Type 0 where
  pub imm : ℕ
  pub is : i ≡ Imm Addiu c c imm
  pub value : signed (extended_half imm) ≡ by
  pub some : int_eq by (pos 0) ≡ false

not_true : (b : Bool) → not b ≡ true → b ≡ false
not_true true e = cc
not_true false e = refl

addiu_by : (c rs rt imm : ℕ) (by : ℤ) (b : Bool)
    → ((rs == c) && ((rt == c) && not (int_eq (signed (extended_half imm)) (pos 0)))) ≡ b
    → (if b then Some (signed (extended_half imm)) else None) ≡ Some by → IsAddiu c (Imm Addiu rs rt imm) by
addiu_by c rs rt imm by true test is =
    let one = and_parts (rs == c) ((rt == c) && not (int_eq (signed (extended_half imm)) (pos 0))) test in
    let two = and_parts (rt == c) (not (int_eq (signed (extended_half imm)) (pos 0))) one.1 in
    let first : rs ≡ c = eqb-true rs c one.0 in
    let second : rt ≡ c = eqb-true rt c two.0 in
    let value : signed (extended_half imm) ≡ by = some_same (signed (extended_half imm)) by is in
    record { imm = imm; is = ap (λ a. Imm Addiu a rt imm) first ∙ ap (λ a. Imm Addiu c a imm) second; value = value; some = ap (λ z. int_eq z (pos 0)) (sym value) ∙ not_true (int_eq (signed (extended_half imm)) (pos 0)) two.1 }
  where
    some_same : (a b : ℤ) → Some a ≡ Some b → a ≡ b
    some_same a b e = cc
addiu_by c rs rt imm by false test is = cc

pub step_is : (c : ℕ) (i : Instr) (by : ℤ) → step_by c i ≡ Some by → IsAddiu c i by
step_is c (Imm Addiu rs rt imm) by is = addiu_by c rs rt imm by ((rs == c) && ((rt == c) && not (int_eq (signed (extended_half imm)) (pos 0)))) refl is
step_is c (Imm Addi rs rt imm) by is = cc
step_is c (Imm Slti rs rt imm) by is = cc
step_is c (Imm Sltiu rs rt imm) by is = cc
step_is c (Imm Andi rs rt imm) by is = cc
step_is c (Imm Ori rs rt imm) by is = cc
step_is c (Imm Xori rs rt imm) by is = cc
step_is c i by is = cc

-- the size of a step
sized : (up : Bool) (by : ℤ) → int_eq by (pos 0) ≡ false → is_up by ≡ up → by ≡ by_size up (unsigned_abs by)
sized up (pos zero) other is = cc
sized true (pos (suc n)) other is = refl
sized false (pos (suc n)) other is = absurd (omega (arith, ints, lt_fails (pos 0) (pos (suc n)) is))
sized true (negsuc n) other is = absurd (omega (arith, ints, lt_holds (pos 0) (negsuc n) is))
sized false (negsuc n) other is = omega (arith, ints)

some_size : (by : ℤ) → int_eq by (pos 0) ≡ false → 0 < unsigned_abs by
some_size (pos zero) other = cc
some_size (pos (suc n)) other = omega arith
some_size (negsuc n) other = omega arith

both_fit : (s : Strided) (by : ℤ) → stays_fit s by ≡ true → FitsSigned w32 (s.lo +ℤ by) × FitsSigned w32 (s.hi +ℤ by)
both_fit s by is =
    let two = and_parts (fits_word (s.lo +ℤ by)) (fits_word (s.hi +ℤ by)) is in
    (fits_holds (s.lo +ℤ by) two.0, fits_holds (s.hi +ℤ by) two.1)

is_true : (b : Bool) → (b ≡ false → ⊥) → b ≡ true
is_true true h = refl
is_true false h = absurd (h refl)

-- the way and the least size of all steps; 2 ^ 32 where there is none
abbrev way_of : Option Stride → Bool
way_of None = true
way_of (Some stride) = stride.up

abbrev least_of : Option Stride → ℕ
least_of None = 2 ^ 32
least_of (Some stride) = stride.least

goes_so : (p : Program) (r : Region) (o : Option Stride) (at : ℕ) (by : ℤ) → AreSteps p r o → IsStepAt p r at by
    → (is_up by ≡ way_of o) × (least_of o ≤ unsigned_abs by)
goes_so p r None at by steps step = absurd (steps at by step)
goes_so p r (Some stride) at by steps step = steps.0 at by step

-- an instruction that writes the counter is a step
step_of_writer : (p : Program) (r : Region) (counted : IsCounted p r) (at : ℕ) (i : Instr) (s : Strided)
    → (of : IsOfRegion p r at i) → s ≡ fact_of (before_at p of.unit at).facts r.counter → writes_of i ≡ Some r.counter
    → IsStep r.counter (way_of counted.stride) (least_of counted.stride) s i
step_of_writer p r counted at i s of same writes = by_step (step_by r.counter i) refl
  where
    by_step : (o : Option ℤ) → step_by r.counter i ≡ o
        → IsStep r.counter (way_of counted.stride) (least_of counted.stride) s i
    by_step None none = absurd (counted.writes at (inl (record { instr = i; of = of; writes = writes; no_step = none })))
    by_step (Some by) is =
        let step : IsStepAt p r at by = record { instr = i; of = of; steps = is } in
        let addiu = step_is r.counter i by is in
        let way = goes_so p r counted.stride at by counted.steps step in
        let size = sized (way_of counted.stride) by addiu.some way.0 in
        let fits = both_fit s by (ap (λ t. stays_fit t by) same ∙ is_true (stays_fit (fact_of (before_at p of.unit at).facts r.counter) by) (λ wraps. counted.wraps at (record { by = by; step = step; wraps = wraps }))) in
        record {
          imm = addiu.imm;
          is = addiu.is;
          size = unsigned_abs by;
          by = addiu.value ∙ size;
          enough = way.1;
          low = subst (λ z. FitsSigned w32 (s.lo +ℤ z)) size fits.0;
          high = subst (λ z. FitsSigned w32 (s.hi +ℤ z)) size fits.1;
        }

-- enough visits
abs_span : (lo hi : ℤ) (span : ℕ) → hi ≡ lo +ℤ pos span → unsigned_abs (hi -ℤ lo) ≡ span
abs_span lo hi span is = let gap : hi -ℤ lo ≡ pos span = omega (arith, ints, is) in ap unsigned_abs gap

enough_of : (p : Program) (r : Region) (o : Option Stride) (s : Strided) → AreSteps p r o → IsFact s
    → needed_of o s ≤ r.count → IsEnough (least_of o) r.count s
enough_of p r None s steps fact enough =
    let small : fact.span < 2 ^ 32 = omega (arith, ints, fact.low, fact.high, fact.ends) in
    let none : fact.span / 2 ^ 32 ≡ 0 = omega (arith, small) in
    record { some = omega arith; span = fact.span; ends = fact.ends; needed = omega (arith, none, enough) }
enough_of p r (Some stride) s steps fact enough =
    let least = steps.1 in
    let addiu = step_is r.counter least.2.instr least.1 least.2.steps in
    let some = some_size least.1 addiu.some in
    let span = abs_span s.lo s.hi fact.span fact.ends in
    record { some = omega (arith, some, least.3); span = fact.span; ends = fact.ends; needed = subst (λ n. n / stride.least + 1 ≤ r.count) span enough }

-- where the count of a region is right, the run law has what it asks of it
pub counted_of : (p : Program) (r : Region) → r.counter ≢ 0 → r.counter < 32 → AreMasks p.code p.entry p.mask
    → AreFacts (p.before r.header).facts → IsCounted p r → Counted p r
counted_of p r some below masks facts counted = record {
  up = way_of counted.stride;
  least = least_of counted.stride;
  some = some;
  below = below;
  no_cycle = λ u us way. counted.cycles (record { last = u; before = us; way = way });
  first = λ u i reached within stands writes.
      step_of_writer p r counted u i (fact_of (p.before u).facts r.counter) (record { unit = u; reached = reached; inside = within; word = is_first_word p.code u; stands = stands }) (first_fact u) writes;
  slot = λ u i s reached within stands control slot writes.
      step_of_writer p r counted (u + 4) s (fact_of (after_instr i u (p.before u)).facts r.counter) (record { unit = u; reached = reached; inside = within; word = is_slot_word p.code u i stands control; stands = slot }) (slot_fact u i stands) writes;
  callee = λ u g reached within calls. by_mask u g reached within calls (p.mask g r.counter) refl;
  enough = enough_of p r counted.stride (fact_of (p.before r.header).facts r.counter) counted.steps (facts.each r.counter) counted.enough;
}
  where
    first_fact : (u : ℕ) → fact_of (p.before u).facts r.counter ≡ fact_of (before_at p u u).facts r.counter
    first_fact u = ap (λ (b : Bool). fact_of (if b then p.before u else behind (instr_at p.code u) u (p.before u)).facts r.counter) (sym (same_number u))

    slot_fact : (u : ℕ) (i : Instr) → instr_at p.code u ≡ Some i
        → fact_of (after_instr i u (p.before u)).facts r.counter ≡ fact_of (before_at p u (u + 4)).facts r.counter
    slot_fact u i stands =
        ap (λ o. fact_of (behind o u (p.before u)).facts r.counter) (sym stands)
        ∙ ap (λ (b : Bool). fact_of (if b then p.before u else behind (instr_at p.code u) u (p.before u)).facts r.counter) (sym (other_number (u + 4) u (λ e. omega (arith, e))))

    by_mask : (u g : ℕ) → Reached p.code p.entry u → holds r u ≡ true → CallsAt p.code u g → (b : Bool)
        → p.mask g r.counter ≡ b → p.mask g r.counter ≡ false
    by_mask u g reached within calls false is = is
    by_mask u g reached within calls true is =
        let called : IsFunction p.code p.entry g = inr (record { caller = u; reached = reached; calls = calls }) in
        let writes = (masks g r.counter called below).0 is in
        absurd (counted.writes writes.at (inr (inr (record { unit = u; reached = reached; inside = within; function = g; calls = calls; writes = writes; at_is = refl }))))
