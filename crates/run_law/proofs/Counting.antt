-- The count of a region over a unit and over an edge.
use Rattle.std.proofs.Common.{◌≡◌, ◌≢◌, ◌∙◌, refl, sym, ap, subst, ℕ, ◌+◌, ◌*◌, ◌^◌, ◌<◌, ◌≤◌, Bool, true, false, List, [], ◌∷◌, length, arith, ◌⊎◌, inl, inr, pos, negsuc, ℤ, get_or-set_same}
use Rattle.std.specs.Prelude.{◌==◌, ◌+ℤ◌, ◌-ℤ◌, ◌≤ℤ◌, if◌then◌else◌, FitsSigned, Option, Some, None, slice_index, slice_set}
use Rattle.std.specs.Int.{cast_signed, int_wrap, w16, w32}
use Rattle.std.proofs.Math.Facts.{sfits_to_z}
use Rattle.std.proofs.lemmas.Int.{ints, int_wrap_fits, wrapping_add-bits}
use Rattle.std.proofs.lemmas.Nat.{le-div}
use Rattle.std.proofs.lemmas.Bool.{eqb-true}
use Rattle.std.proofs.Math.Nat.{mod-eq_of_lt}
use Rattle.visa_io.specs.declared.records.Region.{Region}
use Rattle.mips_isa.specs.Fits.{FieldsFit}
use Rattle.mips_isa.specs.Names.{writes_of}
use Rattle.mips_isa.specs.Words.{extended_half, low_word, signed, unsigned, word_sum}
use Rattle.mips_isa.specs.declared.instr.Instr.{Instr}
use Rattle.mips_isa.specs.declared.instr.Instr.TheVariants.{Imm}
use Rattle.mips_isa.specs.declared.instr.ImmOp.TheVariants.{Addiu}
use Rattle.mips_isa.proofs.Relation.{decode_of_fits}
use Rattle.mips_ref.specs.Act.{act_of, imm_value}
use Rattle.mips_ref.specs.Facts.{WentBy}
use Rattle.mips_ref.specs.Mips.{Mips, register_of}
use Rattle.mips_ref.specs.Step.{operands_of, parts_of, registers_after, retired_of, step_of, values_of, write_of}
use Rattle.flow_graph.specs.Reached.{Leads, Reached, is_inner}
use Rattle.flow_graph.specs.declared.parts.Edge.{Edge}
use Rattle.loop_regions.specs.Walks.{holds, visits}
use Rattle.loop_regions.proofs.Visits.{is_header, is_held, other_number, same_number, visits_header, visits_other, visits_outside}
use Rattle.run_law.specs.Advance.{AreRegisters}
use Rattle.range_facts.specs.Ranges.{Holds}
use Rattle.range_facts.specs.declared.strided.Strided.{Strided}
use Rattle.range_facts.specs.Transfer.{fact_of}
use Rattle.run_law.specs.Program.{Counted, IsEnough, IsQuiet, IsQuietWay, IsStep, Nested, Program, Steps, by_size}
use Rattle.run_law.proofs.Acting.{register_kept, went_registers}

-- the value of a register
abbrev pub value : List ℕ → ℕ → ℤ
value registers r = signed (slice_index registers r)

-- the distance from the end of a fact from which a counter goes
abbrev pub Travelled : Bool → Strided → ℤ → ℕ → Type 0
Travelled true s z rise = z ≡ s.lo +ℤ pos rise
Travelled false s z rise = s.hi ≡ z +ℤ pos rise

pub record Paid (up : Bool) (least : ℕ) (fact : Strided) (z : ℤ) (steps : ℕ) : Type 0 where
  pub rise : ℕ
  pub travelled : Travelled up fact z rise
  pub paid : steps * least ≤ rise

-- a unit is reached from the header without a step
pub record Free (p : Program) (r : Region) (u : ℕ) : Type 0 where
  pub units : List ℕ
  pub way : IsQuietWay p r (u ∷ units)

-- a region's count at the newest unit of an activation, before its instructions
pub record CountAt (p : Program) (r : Region) (c : Counted p r) (u : ℕ) (us : List ℕ) (registers : List ℕ) : Type 0 where
  pub steps : ℕ
  pub most : visits r (u ∷ us) ≤ steps + 1
  pub free : Free p r u ⊎ (visits r (u ∷ us) ≤ steps)
  pub paid : Paid c.up c.least (fact_of (p.before r.header).facts r.counter) (value registers r.counter) steps
  pub within : visits r (u ∷ us) ≤ r.count

-- and after its instructions
pub record CountDone (p : Program) (r : Region) (c : Counted p r) (u : ℕ) (us : List ℕ) (registers : List ℕ) : Type 0 where
  pub steps : ℕ
  pub most : visits r (u ∷ us) ≤ steps + 1
  pub free : (Free p r u × IsQuiet p.code r.counter u) ⊎ (visits r (u ∷ us) ≤ steps)
  pub paid : Paid c.up c.least (fact_of (p.before r.header).facts r.counter) (value registers r.counter) steps
  pub within : visits r (u ∷ us) ≤ r.count

-- a value of a fact is some way from either end
pub travels : (up : Bool) (s : Strided) (z : ℤ) → Holds s z → (rise : ℕ) × Travelled up s z rise
travels true s z h = (h.above, h.place)
travels false s z h = gap z s.hi h.below
  where
    gap : (a b : ℤ) → a ≤ℤ b → (rise : ℕ) × (b ≡ a +ℤ pos rise)
    gap a b le = by_gap (b -ℤ a) refl
      where
        by_gap : (d : ℤ) → b -ℤ a ≡ d → (rise : ℕ) × (b ≡ a +ℤ pos rise)
        by_gap (pos n) is = (n, omega (arith, ints, is))
        by_gap (negsuc n) is = absurd (omega (arith, ints, is, le))

-- a step goes its size further
pub goes_further : (up : Bool) (s : Strided) (y z : ℤ) (rise size : ℕ) → Travelled up s y rise
    → z ≡ y +ℤ by_size up size → Travelled up s z (rise + size)
goes_further true s y z rise size far is = omega (arith, ints, far, is)
goes_further false s y z rise size far is = omega (arith, ints, far, is)

-- a step's value doesn't wrap
adds : (x : Mips) (c imm : ℕ) → c ≢ 0
    → (retired_of (Imm Addiu c c imm) x).write ≡ Some (word_sum (register_of x c) (extended_half imm))
unfolding retired_of parts_of write_of act_of imm_value values_of operands_of
adds x c imm some = ap (λ (b : Bool). let w : Option ℕ = (if b then None else Some (word_sum (register_of x c) (extended_half imm))) in w) (other_number c 0 some)

sets : (registers : List ℕ) (c v : ℕ) → c < 32 → length registers ≡ 32
    → slice_index (if c == 32 then registers else slice_set registers c (low_word v)) c ≡ low_word v
sets registers c v below long =
    let apart : c ≢ 32 = λ e. omega (arith, e, below) in
    let there : c < length registers = omega (arith, long, below) in
    ap (λ (b : Bool). slice_index (if b then registers else slice_set registers c (low_word v)) c) (other_number c 32 apart) ∙ get_or-set_same registers c (low_word v) 0 there

writes_counter : (c imm : ℕ) → c ≢ 0 → writes_of (Imm Addiu c c imm) ≡ Some c
unfolding writes_of
writes_counter c imm some = ap (λ (b : Bool). let w : Option ℕ = (if b then None else Some c) in w) (other_number c 0 some)

half_word : (z : ℤ) → FitsSigned w16 z → unsigned z < 2 ^ 32
half_word (pos n) f = omega (arith, f.sfits)
half_word (negsuc n) f = omega (arith, f.sfits)

extended_below : (imm : ℕ) → imm < 2 ^ 16 → extended_half imm < 2 ^ 32
extended_below imm below = half_word (cast_signed w16 imm) (sfits_to_z {w = w16} {n = imm} (record { fits = below }))

low_sum : (a b : ℕ) → low_word (word_sum a b) ≡ word_sum a b
low_sum a b = mod-eq_of_lt (omega arith)

counter_after : (x : Mips) (word c imm : ℕ) → WentBy x word (Imm Addiu c c imm) → AreRegisters x.registers → c ≢ 0
    → c < 32 → slice_index (step_of x).state.registers c ≡ word_sum (register_of x c) (extended_half imm)
counter_after x word c imm w are some below =
    let i : Instr = Imm Addiu c c imm in
    ap (λ q. slice_index q c) (went_registers x word i w ∙ ap (λ o. registers_after o (retired_of i x).write x.registers) (writes_counter c imm some) ∙ ap (λ o. registers_after (Some c) o x.registers) (adds x c imm some))
    ∙ sets x.registers c (word_sum (register_of x c) (extended_half imm)) below are.length_is ∙ low_sum (register_of x c) (extended_half imm)

pub step_adds : (x : Mips) (word c : ℕ) (up : Bool) (least : ℕ) (fact : Strided) (i : Instr) → WentBy x word i
    → AreRegisters x.registers → c ≢ 0 → c < 32 → (s : IsStep c up least fact i) → Holds fact (value x.registers c)
    → value (step_of x).state.registers c ≡ value x.registers c +ℤ by_size up s.size
step_adds x word c up least fact i w are some below s holds =
    let there = counter_after x word c s.imm (subst (λ j. WentBy x word j) s.is w) are some below in
    let fields : FieldsFit (Imm Addiu c c s.imm) = subst (λ j. FieldsFit j) s.is (decode_of_fits word i w.decoded) in
    let half : s.imm < 2 ^ 16 = fields.2 in
    let fits : FitsSigned w32 (value x.registers c +ℤ by_size up s.size) = between fact (value x.registers c) (by_size up s.size) holds s.low s.high in
    ap signed there ∙ wrapping_add-bits w32 (register_of x c) (extended_half s.imm) (are.words c below) (extended_below s.imm half)
    ∙ ap (λ d. int_wrap w32 (value x.registers c +ℤ d)) s.by ∙ int_wrap_fits w32 (value x.registers c +ℤ by_size up s.size) fits
  where
    between : (s : Strided) (z d : ℤ) → Holds s z → FitsSigned w32 (s.lo +ℤ d) → FitsSigned w32 (s.hi +ℤ d)
        → FitsSigned w32 (z +ℤ d)
    between s z d holds low high = omega (arith, ints, low, high, holds.place, holds.below)

-- the rule for the count, as the run needs it
pub most_sound : (up : Bool) (least count : ℕ) (fact : Strided) (n : ℕ) (z : ℤ) (rise : ℕ) → IsEnough least count fact
    → Holds fact z → Travelled up fact z rise → n * least ≤ rise → n + 1 ≤ count
most_sound up least count fact n z rise enough holds travelled paid =
    let span = within up travelled in
    let few = le-div n enough.span least enough.some (omega (arith, paid, span)) in
    omega (arith, few, enough.needed)
  where
    within : (way : Bool) → Travelled way fact z rise → rise ≤ enough.span
    within true t = omega (arith, ints, t, holds.below, enough.ends)
    within false t = omega (arith, ints, t, holds.place, enough.ends)

-- an instruction that writes the counter, or doesn't
pub writes_or : (o : Option ℕ) (c : ℕ) → (o ≡ Some c) ⊎ (o ≢ Some c)
writes_or None c = inr (λ e. cc)
writes_or (Some n) c = by_test (n == c) refl
  where
    by_test : (b : Bool) → (n == c) ≡ b → (Some n ≡ Some c) ⊎ (Some n ≢ Some c)
    by_test true is = inl (ap Some (eqb-true n c is))
    by_test false is = inr (λ e. let same : n ≡ c = cc in let clash : true ≡ false = sym (same_number c) ∙ ap (λ k. k == c) (sym same) ∙ is in cc)

-- an instruction that doesn't write the counter is no step of it
pub no_step : (c : ℕ) (i : Instr) → c ≢ 0 → writes_of i ≢ Some c → Steps c i → ⊥
no_step c i some other s = other (ap writes_of s.is ∙ writes_counter c s.imm some)

-- over an instruction that leaves the counter
pub paid_same : (up : Bool) (least : ℕ) (fact : Strided) (y z : ℤ) (steps : ℕ) → z ≡ y → Paid up least fact y steps
    → Paid up least fact z steps
paid_same up least fact y z steps same paid = subst (λ w. Paid up least fact w steps) (sym same) paid

pub count_kept : (p : Program) (r : Region) (c : Counted p r) (u : ℕ) (us : List ℕ) (registers after : List ℕ)
    → slice_index after r.counter ≡ slice_index registers r.counter → CountAt p r c u us registers
    → CountAt p r c u us after
count_kept p r c u us registers after same count =
    record {
      steps = count.steps;
      most = count.most;
      free = count.free;
      paid = paid_same c.up c.least (fact_of (p.before r.header).facts r.counter) (value registers r.counter) (value after r.counter) count.steps (ap signed same) count.paid;
      within = count.within;
    }

-- over a callee that keeps the counter
pub count_across : (p : Program) (r : Region) (c : Counted p r) (u : ℕ) (us : List ℕ) (saved registers : List ℕ)
    → slice_index registers r.counter ≡ slice_index saved r.counter → CountDone p r c u us saved
    → CountDone p r c u us registers
count_across p r c u us saved registers same done =
    record {
      steps = done.steps;
      most = done.most;
      free = done.free;
      paid = paid_same c.up c.least (fact_of (p.before r.header).facts r.counter) (value saved r.counter) (value registers r.counter) done.steps (ap signed same) done.paid;
      within = done.within;
    }

-- over a unit's last instruction, which may be a step; no other one of the unit writes the counter
pub count_ends : (p : Program) (r : Region) (c : Counted p r) (u : ℕ) (us : List ℕ) (x : Mips) (word : ℕ) (i : Instr) (fact : Strided)
    → WentBy x word i → AreRegisters x.registers
    → ((writes_of i ≢ Some r.counter) → IsQuiet p.code r.counter u)
    → (writes_of i ≡ Some r.counter → IsStep r.counter c.up c.least fact i) → Holds fact (value x.registers r.counter)
    → CountAt p r c u us x.registers → CountDone p r c u us (step_of x).state.registers
count_ends p r c u us x word i fact w are quiet step holds count = elim (writes_or (writes_of i) r.counter) [
  | inr other ↦
      record {
        steps = count.steps;
        most = count.most;
        free = elim count.free [ inl free ↦ inl (free, quiet other) | inr paid ↦ inr paid ];
        paid = paid_same c.up c.least (fact_of (p.before r.header).facts r.counter) (value x.registers r.counter) (value (step_of x).state.registers r.counter) count.steps (ap signed (register_kept x word i r.counter w c.below other)) count.paid;
        within = count.within;
      }
  | inl is ↦
      let s = step is in
      let paid = count.paid in
      let moved = step_adds x word r.counter c.up c.least fact i w are c.some c.below s holds in
      record {
        steps = count.steps + 1;
        most = omega (arith, count.most);
        free = inr count.most;
        paid = record {
          rise = paid.rise + s.size;
          travelled = goes_further c.up (fact_of (p.before r.header).facts r.counter) (value x.registers r.counter) (value (step_of x).state.registers r.counter) paid.rise s.size paid.travelled moved;
          paid = omega (arith, paid.paid, s.enough);
        };
        within = count.within;
      }
]

header_free : (p : Program) (r : Region) → Free p r r.header
unfolding IsQuietWay
header_free p r = record { units = []; way = refl }

-- a header is entered from outside
pub count_enters : (p : Program) (r : Region) (c : Counted p r) (v : ℕ) (us : List ℕ) (registers : List ℕ)
    → holds r v ≡ true → v ≡ r.header → visits r us ≡ 0
    → Holds (fact_of (p.before r.header).facts r.counter) (value registers r.counter) → CountAt p r c v us registers
count_enters p r c v us registers within is none there =
    let one = visits_header r v us within is in
    let fact : Strided = fact_of (p.before r.header).facts r.counter in
    let far = travels c.up fact (value registers r.counter) there in
    let most = most_sound c.up c.least r.count fact 0 (value registers r.counter) far.0 c.enough there far.1 (omega arith) in
    record {
      steps = 0;
      most = omega (arith, one, none);
      free = inl (subst (λ w. Free p r w) (sym is) (header_free p r));
      paid = record { rise = far.0; travelled = far.1; paid = omega arith };
      within = omega (arith, one, none, most);
    }

-- an edge inside the region
pub count_goes : (p : Program) (r : Region) (c : Counted p r) (e : Edge) (us : List ℕ) (registers : List ℕ)
    → Reached p.code p.entry e.from → Leads p.code e → is_inner e.kind ≡ true
    → holds r e.from ≡ true → holds r e.to ≡ true
    → Holds (fact_of (p.before e.to).facts r.counter) (value registers r.counter)
    → CountDone p r c e.from us registers → CountAt p r c e.to (e.from ∷ us) registers
unfolding IsQuietWay
count_goes p r c e us registers reached leads inner from to there done = by_header (is_header r e.to)
  where
    on : (free : Free p r e.from) → IsQuiet p.code r.counter e.from → IsQuietWay p r (e.to ∷ (e.from ∷ free.units))
    on free quiet = (record { edge = e; from = refl; to = refl; reached = reached; leads = leads; inner = inner; inside_from = from; inside_to = to; quiet = quiet }, free.way)

    by_header : (e.to ≡ r.header) ⊎ (e.to ≢ r.header) → CountAt p r c e.to (e.from ∷ us) registers
    by_header (inl is) =
        let one = visits_header r e.to (e.from ∷ us) to is in
        let enough : visits r (e.from ∷ us) ≤ done.steps = elim done.free [ inl free ↦ absurd (c.no_cycle e.from free.0.units (subst (λ v. IsQuietWay p r (v ∷ (e.from ∷ free.0.units))) is (on free.0 free.1))) | inr enough ↦ enough ] in
        let paid = done.paid in
        let fact : Strided = fact_of (p.before r.header).facts r.counter in
        let here = subst (λ v. Holds (fact_of (p.before v).facts r.counter) (value registers r.counter)) is there in
        let most = most_sound c.up c.least r.count fact done.steps (value registers r.counter) paid.rise c.enough here paid.travelled paid.paid in
        record {
          steps = done.steps;
          most = omega (arith, one, enough);
          free = inl (subst (λ w. Free p r w) (sym is) (header_free p r));
          paid = paid;
          within = omega (arith, one, enough, most);
        }
    by_header (inr differ) =
        let same = visits_other r e.to (e.from ∷ us) to differ in
        record {
          steps = done.steps;
          most = omega (arith, same, done.most);
          free = elim done.free [ inl free ↦ inl (record { units = e.from ∷ free.0.units; way = on free.0 free.1 }) | inr paid ↦ inr (omega (arith, same, paid)) ];
          paid = done.paid;
          within = omega (arith, same, done.within);
        }

-- an edge of a function into a region
pub count_edge : (p : Program) (r : Region) (c : Counted p r) (n : Nested p r) (e : Edge) (us : List ℕ) (registers : List ℕ)
    → Reached p.code p.entry e.from → Leads p.code e → is_inner e.kind ≡ true
    → holds r e.to ≡ true → Holds (fact_of (p.before e.to).facts r.counter) (value registers r.counter)
    → (holds r e.from ≡ true → CountDone p r c e.from us registers) → CountAt p r c e.to (e.from ∷ us) registers
count_edge p r c n e us registers reached leads inner to there done = by_place (is_held r e.from)
  where
    by_place : (holds r e.from ≡ true) ⊎ (holds r e.from ≡ false) → CountAt p r c e.to (e.from ∷ us) registers
    by_place (inl from) = count_goes p r c e us registers reached leads inner from to there (done from)
    by_place (inr from) =
        let is = n.enters e reached leads inner from to in
        count_enters p r c e.to (e.from ∷ us) registers to is (visits_outside r e.from us from) (subst (λ v. Holds (fact_of (p.before v).facts r.counter) (value registers r.counter)) is there)
