-- Units as they are recorded.
use Rattle.std.proofs.Common.{◌≡◌, ◌∙◌, refl, sym, ap, subst, ℕ, zero, suc, ◌+◌, ◌-◌, ◌^◌, ◌<◌, ◌≤◌, add-one, Bool, true, false, cond, eqb, arith, List, [], ◌∷◌, ◌⊎◌, inl, inr, Option, Some, None, length, get_or, map, replicate, pos}
use Rattle.std.specs.Prelude.{◌==◌, ◌/◌, ◌%◌, drop, leb, ltb, slice_get, IfSome, All, Contains, slice_index, slice_set}
use Rattle.std.specs.List.{fold, list_any}
use Rattle.std.specs.Option.{option_and_then}
use Rattle.std.proofs.lemmas.Int.{ints}
use Rattle.std.proofs.lemmas.List.Elements.{All-head, All-tail, Contains-get_or}
use Rattle.range_facts.proofs.Sets.{constant_fact, unknown_fact}
use Rattle.std.proofs.lemmas.Bool.{cases_eq, cases_lt, and_parts, ltb-true}
use Rattle.std.proofs.lemmas.List.{get_or-set_other, get_or-set_same, get_or-replicate, get_or_past, length-replicate, length-set}
use Rattle.visa_io.specs.declared.records.Code.{Code}
use Rattle.visa_io.specs.declared.records.Span.{Span}
use Rattle.visa_io.specs.declared.records.FactLine.{FactLine}
use Rattle.mips_isa.proofs.Relation.{decode_of_fits}
use Rattle.mips_isa.specs.Decoding.{decode_of}
use Rattle.mips_isa.specs.Fits.{FieldsFit}
use Rattle.mips_isa.specs.declared.instr.Instr.{Instr}
use Rattle.flow_graph.specs.Code.{IsCode, holds, instr_at, is_control_instr, word_at, word_from}
use Rattle.range_facts.specs.Along.{after_instr, begun}
use Rattle.run_law.specs.Certificate.{before_nth, behind}
use Rattle.bound_checker.specs.Units.{IsSoundUnit}
use Rattle.flow_graph.specs.Flow.{Flow, HasShape, IsGraph, IsUnit}
use Rattle.flow_graph.specs.declared.parts.Unit.{Unit as FlowUnit}
use Rattle.range_facts.specs.Ranges.{IsFact, constant, unknown}
use Rattle.range_facts.specs.Transfer.{AreFacts, with_fact}
use Rattle.range_facts.specs.declared.facts.Facts.{Facts}
use Rattle.range_facts.proofs.Kept.{put_facts}
use Rattle.bound_checker.specs.Input.{IsBefore, IsInput, IsLine}
use Rattle.range_facts.specs.declared.along.Along.{Along}
use Rattle.bound_checker.specs.Lines.{addresses_of, blocks_of, facts_at, line_range, no_facts, put_line}

-- an instruction of code fits its fields
decoded_fits : (w : Option ℕ) (i : Instr) → option_and_then decode_of w ≡ Some i → FieldsFit i
decoded_fits None i is = absurd (cc)
decoded_fits (Some word) i is = decode_of_fits word i is

pub instr_fits : (code : Code) (a : ℕ) (i : Instr) → instr_at code a ≡ Some i → FieldsFit i
unfolding instr_at
instr_fits code a i is = decoded_fits (word_at code a) i is

-- the facts of lines are facts
no_range : (q : ℕ) → (q < 32) ⊎ (32 ≤ q) → get_or (replicate 32 unknown) q unknown ≡ unknown
no_range q (inl below) = get_or-replicate 32 q unknown unknown below
no_range q (inr past) = get_or_past (replicate 32 unknown) q unknown past

no_facts_are : AreFacts no_facts
unfolding no_facts
no_facts_are =
    record {
      long = length-set (replicate 32 unknown) 0 (constant (pos 0)) ∙ length-replicate 32 unknown;
      each = λ q. elim (cases_eq q 0) [
        | inl same ↦ subst (λ k. IsFact (get_or (slice_set (replicate 32 unknown) 0 (constant (pos 0))) k unknown)) (sym same)
            (subst (λ s. IsFact s) (sym zero_there) (constant_fact (pos 0) (omega (arith, ints)) (omega (arith, ints))))
        | inr other ↦ subst (λ s. IsFact s) (sym (get_or-set_other (replicate 32 unknown) 0 q (constant (pos 0)) unknown other ∙ no_range q (cases_lt q 32))) unknown_fact
      ];
      zero_is = zero_there;
    }
  where
    zero_there : get_or (slice_set (replicate 32 unknown) 0 (constant (pos 0))) 0 unknown ≡ constant (pos 0)
    zero_there = get_or-set_same (replicate 32 unknown) 0 (constant (pos 0)) unknown (omega (arith, length-replicate 32 unknown))

pub line_facts : (a : ℕ) (f : Facts) (line : FactLine) → IsLine line → AreFacts f → AreFacts (put_line a f line)
line_facts a f line is are = by_place (eqb line.at a)
  where
    by_place : (b : Bool) → AreFacts (cond b (with_fact f (Some line.register) (line_range line)) f)
    by_place true = put_facts f line.register (line_range line) are is.below is.some is.fact
    by_place false = are

folded_facts : (a : ℕ) (f : Facts) (lines : List FactLine) → All IsLine lines → AreFacts f → AreFacts (fold (put_line a) f lines)
folded_facts a f [] all are = are
folded_facts a f (line ∷ lines) all are = folded_facts a (put_line a f line) lines (All-tail IsLine line lines all) (line_facts a f line (All-head IsLine line lines all) are)

pub facts_are : (lines : List FactLine) (a : ℕ) → All IsLine lines → AreFacts (facts_at lines a)
facts_are lines a all = folded_facts a no_facts lines all no_facts_are

-- a recorded unit's instructions and address
pub unit_fits : (code : Code) (entry : ℕ) (unit : FlowUnit) → IsUnit code entry unit → FieldsFit unit.first
unit_fits code entry unit is = instr_fits code unit.at unit.first is.first

slot_fits : (code : Code) (unit : FlowUnit) (b : Bool) → HasShape code unit b → IfSome unit.slot FieldsFit
slot_fits code unit b shape = by_slot b shape unit.slot refl
  where
    by_slot : (b : Bool) → HasShape code unit b → (o : Option Instr) → unit.slot ≡ o → IfSome o FieldsFit
    by_slot b shape None is = tt
    by_slot true shape (Some i) is = instr_fits code (unit.at + 4) i (shape.0 ∙ is)
    by_slot false shape (Some i) is = let never : None ≡ Some i = sym shape.0 ∙ is in absurd (cc)

pub unit_slot_fits : (code : Code) (entry : ℕ) (unit : FlowUnit) → IsUnit code entry unit → IfSome unit.slot FieldsFit
unit_slot_fits code entry unit is = slot_fits code unit (is_control_instr unit.first) is.shape

-- the slot of a unit is what stands behind it, if it is control
pub slot_stands : (code : Code) (entry : ℕ) (unit : FlowUnit) → IsUnit code entry unit → is_control_instr unit.first ≡ true → instr_at code (unit.at + 4) ≡ unit.slot
slot_stands code entry unit is control = (subst (λ b. HasShape code unit b) control is.shape).0

-- an address of code is below 2^32
word_low : (spans : List Span) (words : List ℕ) (a w : ℕ) → All (λ span. span.start + span.len ≤ 2 ^ 32) spans → word_from spans words a ≡ Some w → a < 2 ^ 32
unfolding word_from
word_low [] words a w ends is = absurd (cc)
word_low (span ∷ rest) words a w ends is = by_span (λ e. word_low rest (drop (span.len / 4) words) a w (All-tail (λ s. s.start + s.len ≤ 2 ^ 32) span rest ends) e) (holds span a) refl is
  where
    by_span : (word_from rest (drop (span.len / 4) words) a ≡ Some w → a < 2 ^ 32) → (b : Bool) → holds span a ≡ b → cond b (slice_get words ((a - span.start) / 4)) (word_from rest (drop (span.len / 4) words) a) ≡ Some w → a < 2 ^ 32
    by_span later true inside e =
        let parts = and_parts (leb span.start a) (ltb a (span.start + span.len)) inside in
        let below = ltb-true a (span.start + span.len) parts.1 in
        let end = All-head (λ s. s.start + s.len ≤ 2 ^ 32) span rest ends in
        omega (arith, below, end)
    by_span later false outside e = later e

at_low : (code : Code) (a w : ℕ) (b : Bool) → IsCode code → cond b (word_from code.spans code.words a) None ≡ Some w → a < 2 ^ 32
at_low code a w true whole is = word_low code.spans code.words a w whole.ends is
at_low code a w false whole is = absurd (cc)

decoded_word : (o : Option ℕ) (i : Instr) → option_and_then decode_of o ≡ Some i → (w : ℕ) × (o ≡ Some w)
decoded_word None i is = absurd (cc)
decoded_word (Some w) i is = (w, refl)

pub instr_low : (code : Code) (a : ℕ) (i : Instr) → IsCode code → instr_at code a ≡ Some i → a < 2 ^ 32
unfolding instr_at
instr_low code a i whole is = let w = decoded_word (word_at code a) i is in at_low code a w.0 (eqb (a % 4) 0) whole w.1

slot_low : (code : Code) (unit : FlowUnit) (b : Bool) → IsCode code → HasShape code unit b → (s : Instr) → unit.slot ≡ Some s → unit.at + 4 < 2 ^ 32
slot_low code unit true whole shape s is = instr_low code (unit.at + 4) s whole (shape.0 ∙ is)
slot_low code unit false whole shape s is = let never : None ≡ Some s = sym shape.0 ∙ is in absurd (cc)

pub sound_unit : (code : Code) (entry : ℕ) (unit : FlowUnit) → IsCode code → IsUnit code entry unit → IsSoundUnit unit
sound_unit code entry unit whole is =
    record { first = unit_fits code entry unit is; slot = unit_slot_fits code entry unit is; low = slot_low code unit (is_control_instr unit.first) whole is.shape }

-- the unit of a number
pub numbered_unit : (code : Code) (g : Flow) (n : ℕ) (unit d : FlowUnit) → IsGraph code g.entry g → n < length g.units → get_or g.units n d ≡ unit → IsUnit code g.entry unit
numbered_unit code g n unit d graph within is = (graph.units_are unit).0 (subst (λ u. Contains g.units u) is (Contains-get_or g.units n d within))

pub address_is : (units : List FlowUnit) (n : ℕ) (unit d : FlowUnit) → n < length units → get_or units n d ≡ unit → slice_index (map (λ u. u.at) units) n ≡ unit.at
address_is [] n unit d within is = absurd (omega (arith, within))
address_is (u ∷ units) zero unit d within is = ap (λ (v : FlowUnit). v.at) is
address_is (u ∷ units) (suc n) unit d within is = address_is units n unit d (omega (arith, within)) is

-- the facts before the next unit
pub next_start : (code : Code) (g : Flow) (lines : List FactLine) (n : ℕ) (unit d : FlowUnit) → suc n < length g.units → get_or g.units (suc n) d ≡ unit → list_any (λ b. b == unit.at) g.blocks ≡ true
    → before_nth code (blocks_of g lines) (suc n) ≡ begun (facts_at lines unit.at)
unfolding before_nth blocks_of
next_start code g lines n unit d within is start =
    let there = address_is g.units (suc n) unit d within is in
    ap (λ a. cond (list_any (λ b. b == a) g.blocks) (begun (facts_at lines a)) (behind (instr_at code (slice_index (addresses_of g) n)) (slice_index (addresses_of g) n) (before_nth code (blocks_of g lines) n))) there
    ∙ ap (λ t. cond t (begun (facts_at lines unit.at)) (behind (instr_at code (slice_index (addresses_of g) n)) (slice_index (addresses_of g) n) (before_nth code (blocks_of g lines) n))) start

pub next_plain : (code : Code) (g : Flow) (lines : List FactLine) (n : ℕ) (unit last d : FlowUnit) → suc n < length g.units → get_or g.units (suc n) d ≡ unit → get_or g.units n d ≡ last → IsUnit code g.entry last
    → list_any (λ b. b == unit.at) g.blocks ≡ false → before_nth code (blocks_of g lines) (suc n) ≡ after_instr last.first last.at (before_nth code (blocks_of g lines) n)
unfolding before_nth blocks_of
next_plain code g lines n unit last d within is before recorded start =
    let there = address_is g.units (suc n) unit d within is in
    let here = address_is g.units n last d (omega (arith, within)) before in
    ap (λ a. cond (list_any (λ b. b == a) g.blocks) (begun (facts_at lines a)) (behind (instr_at code (slice_index (addresses_of g) n)) (slice_index (addresses_of g) n) (before_nth code (blocks_of g lines) n))) there
    ∙ ap (λ t. cond t (begun (facts_at lines unit.at)) (behind (instr_at code (slice_index (addresses_of g) n)) (slice_index (addresses_of g) n) (before_nth code (blocks_of g lines) n))) start
    ∙ ap (λ a. behind (instr_at code a) a (before_nth code (blocks_of g lines) n)) here
    ∙ ap (λ o. behind o last.at (before_nth code (blocks_of g lines) n)) recorded.first

pub first_before : (code : Code) (g : Flow) (lines : List FactLine) (unit d : FlowUnit) → 0 < length g.units → get_or g.units 0 d ≡ unit → before_nth code (blocks_of g lines) 0 ≡ begun (facts_at lines unit.at)
unfolding before_nth blocks_of
first_before code g lines unit d within is = ap (λ a. begun (facts_at lines a)) (address_is g.units 0 unit d within is)

-- facts before units
pub begun_facts : (lines : List FactLine) (a : ℕ) → All IsLine lines → AreFacts (begun (facts_at lines a)).facts
begun_facts lines a all = facts_are lines a all

pub first_is_before : (code : Code) (g : Flow) (lines : List FactLine) (unit d : FlowUnit) (a : Along) → IsInput code g lines → 0 < length g.units → get_or g.units 0 d ≡ unit → a ≡ begun (facts_at lines unit.at)
    → IsBefore code g lines 0 a
first_is_before code g lines unit d a input some is same =
    record { within = some; is = same ∙ sym (first_before code g lines unit d some is); facts = subst (λ b. AreFacts b.facts) (sym same) (facts_are lines unit.at input.lines_are) }

pub start_is_before : (code : Code) (g : Flow) (lines : List FactLine) (n m : ℕ) (unit d : FlowUnit) (a : Along) → IsInput code g lines → m ≡ n + 1 → m < length g.units → get_or g.units m d ≡ unit
    → list_any (λ b. b == unit.at) g.blocks ≡ true → a ≡ begun (facts_at lines unit.at) → IsBefore code g lines m a
start_is_before code g lines n m unit d a input next within is start same =
    let later : m ≡ suc n = next ∙ add-one n in
    subst (λ k. IsBefore code g lines k a) (sym later)
    (record {
      within = subst (λ k. k < length g.units) later within;
      is = same ∙ sym (next_start code g lines n unit d (subst (λ k. k < length g.units) later within) (subst (λ k. get_or g.units k d ≡ unit) later is) start);
      facts = subst (λ b. AreFacts b.facts) (sym same) (facts_are lines unit.at input.lines_are);
    })

pub plain_is_before : (code : Code) (g : Flow) (lines : List FactLine) (n m : ℕ) (unit last d : FlowUnit) (a b : Along) → IsInput code g lines → IsBefore code g lines n a → m ≡ n + 1 → m < length g.units → get_or g.units m d ≡ unit
    → get_or g.units n d ≡ last → list_any (λ b. b == unit.at) g.blocks ≡ false → b ≡ after_instr last.first last.at a → AreFacts b.facts → IsBefore code g lines m b
plain_is_before code g lines n m unit last d a b input before next within is was start same facts =
    let later : m ≡ suc n = next ∙ add-one n in
    let recorded = numbered_unit code g n last d input.graph before.within was in
    subst (λ k. IsBefore code g lines k b) (sym later)
    (record {
      within = subst (λ k. k < length g.units) later within;
      is = same ∙ ap (after_instr last.first last.at) before.is
          ∙ sym (next_plain code g lines n unit last d (subst (λ k. k < length g.units) later within) (subst (λ k. get_or g.units k d ≡ unit) later is) was recorded start);
      facts = facts;
    })

pub unit_sound : (code : Code) (g : Flow) (lines : List FactLine) (n : ℕ) (unit d : FlowUnit) → IsInput code g lines → n < length g.units → get_or g.units n d ≡ unit → IsSoundUnit unit
unit_sound code g lines n unit d input within is = sound_unit code g.entry unit input.whole (numbered_unit code g n unit d input.graph within is)
