-- Registers with which a branch goes one way fit the facts that are refined so.
use Rattle.std.proofs.Common.{◌≡◌, ◌∙◌, refl, sym, ap, subst, ℕ, ◌^◌, ◌<◌, ◌≤◌, Bool, true, false, not, cond, eqb, arith, List, ◌⊎◌, inl, inr, pos, negsuc, ℤ, Option, Some, None, length, get_or}
use Rattle.std.specs.Prelude.{int_lt, slice_index, slice_set}
use Rattle.std.proofs.lemmas.Bool.{cases_eq, cases_lt, eqb-true, eqb-false}
use Rattle.std.proofs.lemmas.Int.{ints}
use Rattle.std.proofs.lemmas.List.{get_or-set_other, get_or-set_same, set_past}
use Rattle.mips_isa.specs.Words.{signed, unsigned}
use Rattle.mips_isa.specs.declared.instr.Instr.{Instr}
use Rattle.mips_isa.specs.declared.instr.Instr.TheVariants.{R3, Shift, Acc, HiLo, Count, Imm, Lui, Load, Store, Pref, Branch2, Branch1, Jump, Jr, Jalr, TrapIf, Stop, Sync}
use Rattle.mips_isa.specs.declared.instr.Branch2Op.{Branch2Op}
use Rattle.mips_isa.specs.declared.instr.Branch2Op.TheVariants.{Beq, Bne}
use Rattle.mips_isa.specs.declared.instr.Branch1Op.{Branch1Op}
use Rattle.mips_isa.specs.declared.instr.Branch1Op.TheVariants.{Blez, Bgtz, Bltz, Bgez, Bltzal, Bgezal}
use Rattle.mips_ref.specs.Act.{act_of, branch1_taken, branch2_taken, flag}
use Rattle.mips_ref.specs.Mips.{Mips}
use Rattle.mips_ref.specs.declared.records.Values.{Values}
use Rattle.mips_isa.specs.Kinds.{kind_of}
use Rattle.mips_isa.specs.declared.instr.Kind.TheVariants as kind
use Rattle.mips_ref.specs.Step.{operands_of, parts_of, retired_of, values_of}
use Rattle.range_facts.specs.Along.{and_then, bound, bounded, equals, pair_refined, refined_at, refined_by, says_equal, sign_condition, sign_refined, test_held, test_of, test_refined, with_left}
use Rattle.range_facts.specs.Fit.{Fit, IsAnswer}
use Rattle.range_facts.specs.Ranges.{Holds, constant, is_constant, unknown}
use Rattle.range_facts.specs.Refining.{Leaves, Meets, Stays, left_of}
use Rattle.range_facts.specs.Transfer.{AreFacts, fact_of}
use Rattle.range_facts.specs.declared.strided.Strided.{Strided}
use Rattle.range_facts.specs.declared.strided.Cond.{Cond}
use Rattle.range_facts.specs.declared.strided.Cond.TheVariants.{Eq, Ne, AtMost, AtLeast}
use Rattle.range_facts.specs.declared.along.Along.{Along}
use Rattle.range_facts.specs.declared.tests.Test.{Test}
use Rattle.range_facts.proofs.Left.{left_leaves}
use Rattle.range_facts.proofs.Refined.{put_left}
use Rattle.range_facts.proofs.Sets.{eq_holds, lt_fails, lt_holds, only_value}
use Rattle.range_facts.proofs.Words.{unsigned_signed}

-- facts that registers fit
pub record Gives (o : Option Along) (registers : List ℕ) : Type 0 where
  pub along : Along
  pub is : o ≡ Some along
  pub facts : AreFacts along.facts
  pub fit : Fit along registers

stays_from : (s : Strided) (c : Cond) (z : ℤ) → Meets c z → Stays s c z
stays_from s (Eq c) z meets = meets
stays_from s (Ne c) z meets = inl meets
stays_from s (AtMost c) z meets = meets
stays_from s (AtLeast c) z meets = meets

-- a fact of one register in place of another that its value has too
refit : (a : Along) (registers : List ℕ) (r : ℕ) (s : Strided) → AreFacts a.facts → Fit a registers → Holds s (signed (slice_index registers r))
    → Fit (record { facts = record { ranges = slice_set a.facts.ranges r s }; tests = a.tests }) registers
refit a registers r s are fit holds =
    record {
      long = fit.long;
      words = fit.words;
      holds = λ q. elim (cases_eq q r) [
        | inl same ↦ subst (λ k. Holds (get_or (slice_set a.facts.ranges r s) k unknown) (signed (slice_index registers k))) (sym same) (at_place (cases_lt r (length a.facts.ranges)))
        | inr other ↦ subst (λ t. Holds t (signed (slice_index registers q))) (sym (get_or-set_other a.facts.ranges r q s unknown other)) (fit.holds q)
      ];
      meant = fit.meant;
    }
  where
    at_place : (r < length a.facts.ranges) ⊎ (length a.facts.ranges ≤ r) → Holds (get_or (slice_set a.facts.ranges r s) r unknown) (signed (slice_index registers r))
    at_place (inl below) = subst (λ t. Holds t (signed (slice_index registers r))) (sym (get_or-set_same a.facts.ranges r s unknown below)) holds
    at_place (inr past) = subst (λ l. Holds (get_or l r unknown) (signed (slice_index registers r))) (sym (set_past a.facts.ranges r s past)) (fit.holds r)

-- a condition that a register's value meets
pub meets_refined : (r : ℕ) (c : Cond) (a : Along) (registers : List ℕ) → AreFacts a.facts → Fit a registers → Meets c (signed (slice_index registers r)) → Gives (refined_at r c a) registers
unfolding refined_at
meets_refined r c a registers are fit meets = by_left (left_of (fact_of a.facts r) c) (left_leaves (fact_of a.facts r) c (are.each r))
  where
    by_left : (o : Option Strided) → Leaves (fact_of a.facts r) (Stays (fact_of a.facts r) c) o → Gives (with_left a r o) registers
    by_left None none = absurd (none (signed (slice_index registers r)) (fit.holds r) (stays_from (fact_of a.facts r) c (signed (slice_index registers r)) meets))
    by_left (Some s) left =
        record {
          along = record { facts = record { ranges = slice_set a.facts.ranges r s }; tests = a.tests };
          is = refl;
          facts = put_left a.facts r s (Stays (fact_of a.facts r) c) are left;
          fit = refit a registers r s are fit (left.kept (signed (slice_index registers r)) (fit.holds r) (stays_from (fact_of a.facts r) c (signed (slice_index registers r)) meets));
        }

given : (a : Along) (registers : List ℕ) → AreFacts a.facts → Fit a registers → Gives (Some a) registers
given a registers are fit = record { along = a; is = refl; facts = are; fit = fit }

-- equal words and equal values
same_signed : (x y : ℕ) → x ≡ y → signed x ≡ signed y
same_signed x y is = ap signed is

same_word : (x y : ℕ) → x < 2 ^ 32 → y < 2 ^ 32 → signed x ≡ signed y → x ≡ y
same_word x y p q is = sym (unsigned_signed x p) ∙ ap unsigned is ∙ unsigned_signed y q

equals_met : (equal : Bool) (x y : ℕ) (c : ℤ) → x < 2 ^ 32 → y < 2 ^ 32 → eqb x y ≡ equal → signed y ≡ c → Meets (equals equal c) (signed x)
equals_met true x y c p q is same = same_signed x y (eqb-true x y is) ∙ same
equals_met false x y c p q is same = λ e. eqb-false x y is (same_word x y p q (e ∙ sym same))

constant_value : (a : Along) (registers : List ℕ) (r : ℕ) → Fit a registers → is_constant (fact_of a.facts r) ≡ true → signed (slice_index registers r) ≡ (fact_of a.facts r).lo
constant_value a registers r fit is = only_value (fact_of a.facts r) (signed (slice_index registers r)) (eq_holds (fact_of a.facts r).lo (fact_of a.facts r).hi is) (fit.holds r)

turned : (x y : ℕ) (b : Bool) → eqb x y ≡ b → eqb y x ≡ b
turned x y b is = symmetric x y ∙ is
  where
    symmetric : (m n : ℕ) → eqb n m ≡ eqb m n
    symmetric m n = grind arith

pair_fits : (equal : Bool) (rs rt : ℕ) (a : Along) (registers : List ℕ) → AreFacts a.facts → Fit a registers → eqb (slice_index registers rs) (slice_index registers rt) ≡ equal → Gives (pair_refined equal rs rt a) registers
unfolding pair_refined
pair_fits equal rs rt a registers are fit is = by_second (is_constant (fact_of a.facts rt)) refl
  where
    by_first : (b : Bool) → is_constant (fact_of a.facts rs) ≡ b → Gives (cond b (refined_at rt (equals equal (fact_of a.facts rs).lo) a) (Some a)) registers
    by_first true one =
        meets_refined rt (equals equal (fact_of a.facts rs).lo) a registers are fit
        (equals_met equal (slice_index registers rt) (slice_index registers rs) (fact_of a.facts rs).lo (fit.words rt) (fit.words rs)
        (turned (slice_index registers rs) (slice_index registers rt) equal is) (constant_value a registers rs fit one))
    by_first false one = given a registers are fit

    by_second : (b : Bool) → is_constant (fact_of a.facts rt) ≡ b
        → Gives (cond b (refined_at rs (equals equal (fact_of a.facts rt).lo) a) (cond (is_constant (fact_of a.facts rs)) (refined_at rt (equals equal (fact_of a.facts rs).lo) a) (Some a))) registers
    by_second true one =
        meets_refined rs (equals equal (fact_of a.facts rt).lo) a registers are fit
        (equals_met equal (slice_index registers rs) (slice_index registers rt) (fact_of a.facts rt).lo (fit.words rs) (fit.words rt) is (constant_value a registers rt fit one))
    by_second false one = by_first (is_constant (fact_of a.facts rs)) refl

-- what an answer says
bound_met : (zero_is : Bool) (t : Test) (word : ℕ) (z : ℤ) → word ≡ flag (int_lt z t.bound) → eqb word 0 ≡ zero_is → Meets (bound zero_is t) z
bound_met zero_is t word z answer is = by_less (int_lt z t.bound) refl
  where
    by_zero : (b : Bool) → zero_is ≡ b → (less : Bool) → int_lt z t.bound ≡ less → Meets (bound b t) z
    by_zero true e true l = let n : word ≡ 1 = answer ∙ ap flag l in let m = eqb-true word 0 (is ∙ e) in absurd (omega (arith, n, m))
    by_zero true e false l = lt_fails z t.bound l
    by_zero false e true l = let h = lt_holds z t.bound l in omega (arith, ints, h)
    by_zero false e false l = absurd (eqb-false word 0 (is ∙ e) (answer ∙ ap flag l))

    by_less : (less : Bool) → int_lt z t.bound ≡ less → Meets (bound zero_is t) z
    by_less less l = by_zero zero_is refl less l

bounded_fits : (zero_is : Bool) (o : Option Test) (word : ℕ) (a : Along) (registers : List ℕ) → AreFacts a.facts → Fit a registers → IsAnswer o word registers → eqb word 0 ≡ zero_is → Gives (bounded zero_is o a) registers
bounded_fits zero_is None word a registers are fit answer is = given a registers are fit
bounded_fits zero_is (Some t) word a registers are fit answer is =
    meets_refined t.of (bound zero_is t) a registers are fit (bound_met zero_is t word (signed (slice_index registers t.of)) answer is)

zero_register : (a : Along) (registers : List ℕ) → AreFacts a.facts → Fit a registers → slice_index registers 0 ≡ 0
zero_register a registers are fit =
    let h = subst (λ s. Holds s (signed (slice_index registers 0))) are.zero_is (fit.holds 0) in
    let none : signed (slice_index registers 0) ≡ pos 0 = only_value (constant (pos 0)) (signed (slice_index registers 0)) refl h in
    sym (unsigned_signed (slice_index registers 0) (fit.words 0)) ∙ ap unsigned none

test_fits : (equal : Bool) (rs rt : ℕ) (a : Along) (registers : List ℕ) → AreFacts a.facts → Fit a registers → eqb (slice_index registers rs) (slice_index registers rt) ≡ equal → Gives (test_refined equal rs rt a) registers
unfolding test_refined
test_fits equal rs rt a registers are fit is = by_second (eqb rt 0) refl
  where
    none : slice_index registers 0 ≡ 0
    none = zero_register a registers are fit

    by_first : (b : Bool) → eqb rs 0 ≡ b → Gives (bounded equal (test_held a (cond b (Some rt) None)) a) registers
    by_first true zero_is =
        bounded_fits equal (test_of a rt) (slice_index registers rt) a registers are fit (fit.meant rt)
        (turned 0 (slice_index registers rt) equal (ap (λ n. eqb n (slice_index registers rt)) (sym (ap (slice_index registers) (eqb-true rs 0 zero_is) ∙ none)) ∙ is))
    by_first false zero_is = given a registers are fit

    by_second : (b : Bool) → eqb rt 0 ≡ b → Gives (bounded equal (test_held a (cond b (Some rs) (cond (eqb rs 0) (Some rt) None))) a) registers
    by_second true zero_is =
        bounded_fits equal (test_of a rs) (slice_index registers rs) a registers are fit (fit.meant rs)
        (ap (λ n. eqb (slice_index registers rs) n) (sym (ap (slice_index registers) (eqb-true rt 0 zero_is) ∙ none)) ∙ is)
    by_second false zero_is = by_first (eqb rs 0) refl

then_gives : (o : Option Along) (next : Along → Option Along) (registers : List ℕ) → Gives o registers → ((a : Along) → AreFacts a.facts → Fit a registers → Gives (next a) registers) → Gives (and_then o next) registers
then_gives o next registers first second =
    subst (λ p. Gives (and_then p next) registers) (sym first.is) (second first.along first.facts first.fit)

branch2 : Branch2Op → Bool → Bool
branch2 Beq b = b
branch2 Bne b = not b

equal_taken : (m : Branch2Op) (b taken : Bool) → branch2 m b ≡ taken → b ≡ says_equal m taken
unfolding branch2
equal_taken Beq b taken is = is
equal_taken Bne true taken is = ap not is
equal_taken Bne false taken is = ap not is

not_true : (b : Bool) → not b ≡ true → b ≡ false
not_true true is = cc
not_true false is = refl

not_false : (b : Bool) → not b ≡ false → b ≡ true
not_false true is = refl
not_false false is = cc

taken_is : (m : Branch2Op) (v : Values) → branch2_taken m v ≡ branch2 m (eqb v.rs v.rt)
unfolding branch2 branch2_taken
taken_is Beq v = refl
taken_is Bne v = refl

branch2_fits : (m : Branch2Op) (rs rt off : ℕ) (taken : Bool) (x : Mips) (a : Along) → AreFacts a.facts → Fit a x.registers → branch2_taken m (values_of (Branch2 m rs rt off) x) ≡ taken
    → Gives (and_then (pair_refined (says_equal m taken) rs rt a) (test_refined (says_equal m taken) rs rt)) x.registers
unfolding values_of operands_of
branch2_fits m rs rt off taken x a are fit is =
    let equal = equal_taken m (eqb (slice_index x.registers rs) (slice_index x.registers rt)) taken (sym (taken_is m (values_of (Branch2 m rs rt off) x)) ∙ is) in
    then_gives (pair_refined (says_equal m taken) rs rt a) (test_refined (says_equal m taken) rs rt) x.registers
    (pair_fits (says_equal m taken) rs rt a x.registers are fit equal)
    (λ b keeps fits. test_fits (says_equal m taken) rs rt b x.registers keeps fits equal)

sign_met : (m : Branch1Op) (taken : Bool) (v : Values) → branch1_taken m v ≡ taken → (c : Cond) → sign_condition m taken ≡ Some c → Meets c (signed v.rs)
unfolding branch1_taken
sign_met Blez true v is c same =
    let h = lt_fails (pos 0) (signed v.rs) (not_true (int_lt (pos 0) (signed v.rs)) is) in
    let met : Meets (AtMost (pos 0)) (signed v.rs) = omega (arith, ints, h) in
    let to : (AtMost (pos 0)) ≡ c = cc in
    subst (λ k. Meets k (signed v.rs)) to met
sign_met Blez false v is c same =
    let h = lt_holds (pos 0) (signed v.rs) (not_false (int_lt (pos 0) (signed v.rs)) is) in
    let met : Meets (AtLeast (pos 1)) (signed v.rs) = omega (arith, ints, h) in
    let to : (AtLeast (pos 1)) ≡ c = cc in
    subst (λ k. Meets k (signed v.rs)) to met
sign_met Bgtz true v is c same =
    let h = lt_holds (pos 0) (signed v.rs) (is) in
    let met : Meets (AtLeast (pos 1)) (signed v.rs) = omega (arith, ints, h) in
    let to : (AtLeast (pos 1)) ≡ c = cc in
    subst (λ k. Meets k (signed v.rs)) to met
sign_met Bgtz false v is c same =
    let h = lt_fails (pos 0) (signed v.rs) (is) in
    let met : Meets (AtMost (pos 0)) (signed v.rs) = omega (arith, ints, h) in
    let to : (AtMost (pos 0)) ≡ c = cc in
    subst (λ k. Meets k (signed v.rs)) to met
sign_met Bltz true v is c same =
    let h = lt_holds (signed v.rs) (pos 0) (is) in
    let met : Meets (AtMost (negsuc 0)) (signed v.rs) = omega (arith, ints, h) in
    let to : (AtMost (negsuc 0)) ≡ c = cc in
    subst (λ k. Meets k (signed v.rs)) to met
sign_met Bltz false v is c same =
    let h = lt_fails (signed v.rs) (pos 0) (is) in
    let met : Meets (AtLeast (pos 0)) (signed v.rs) = omega (arith, ints, h) in
    let to : (AtLeast (pos 0)) ≡ c = cc in
    subst (λ k. Meets k (signed v.rs)) to met
sign_met Bgez true v is c same =
    let h = lt_fails (signed v.rs) (pos 0) (not_true (int_lt (signed v.rs) (pos 0)) is) in
    let met : Meets (AtLeast (pos 0)) (signed v.rs) = omega (arith, ints, h) in
    let to : (AtLeast (pos 0)) ≡ c = cc in
    subst (λ k. Meets k (signed v.rs)) to met
sign_met Bgez false v is c same =
    let h = lt_holds (signed v.rs) (pos 0) (not_false (int_lt (signed v.rs) (pos 0)) is) in
    let met : Meets (AtMost (negsuc 0)) (signed v.rs) = omega (arith, ints, h) in
    let to : (AtMost (negsuc 0)) ≡ c = cc in
    subst (λ k. Meets k (signed v.rs)) to met
sign_met Bltzal taken v is c same = absurd (cc)
sign_met Bgezal taken v is c same = absurd (cc)

sign_fits : (o : Option Cond) (rs : ℕ) (a : Along) (registers : List ℕ) → AreFacts a.facts → Fit a registers → ((c : Cond) → o ≡ Some c → Meets c (signed (slice_index registers rs))) → Gives (sign_refined o rs a) registers
sign_fits None rs a registers are fit met = given a registers are fit
sign_fits (Some c) rs a registers are fit met = meets_refined rs c a registers are fit (met c refl)

branch1_fits : (m : Branch1Op) (rs off : ℕ) (taken : Bool) (x : Mips) (a : Along) → AreFacts a.facts → Fit a x.registers → branch1_taken m (values_of (Branch1 m rs off) x) ≡ taken
    → Gives (sign_refined (sign_condition m taken) rs a) x.registers
unfolding values_of operands_of
branch1_fits m rs off taken x a are fit is =
    sign_fits (sign_condition m taken) rs a x.registers are fit (λ c same. sign_met m taken (values_of (Branch1 m rs off) x) is c same)

-- whatever the instruction: registers with which it is taken, or isn't, fit what that says
pub turn_fits : (i : Instr) (x : Mips) (a : Along) (taken : Bool) → AreFacts a.facts → Fit a x.registers → (kind_of i ≡ kind.Branch → (retired_of i x).taken ≡ taken) → Gives (refined_by i taken a) x.registers
unfolding refined_by retired_of parts_of act_of kind_of
turn_fits (Branch2 m rs rt off) x a taken are fit went = branch2_fits m rs rt off taken x a are fit (went refl)
turn_fits (Branch1 Bltzal rs off) x a taken are fit went = given a x.registers are fit
turn_fits (Branch1 Bgezal rs off) x a taken are fit went = given a x.registers are fit
turn_fits (Branch1 Blez rs off) x a taken are fit went = branch1_fits Blez rs off taken x a are fit (went refl)
turn_fits (Branch1 Bgtz rs off) x a taken are fit went = branch1_fits Bgtz rs off taken x a are fit (went refl)
turn_fits (Branch1 Bltz rs off) x a taken are fit went = branch1_fits Bltz rs off taken x a are fit (went refl)
turn_fits (Branch1 Bgez rs off) x a taken are fit went = branch1_fits Bgez rs off taken x a are fit (went refl)
turn_fits (R3 m rs rt rd) x a taken are fit went = given a x.registers are fit
turn_fits (Shift m rt rd sa) x a taken are fit went = given a x.registers are fit
turn_fits (Acc m rs rt) x a taken are fit went = given a x.registers are fit
turn_fits (HiLo m rs rd) x a taken are fit went = given a x.registers are fit
turn_fits (Count m rs rd) x a taken are fit went = given a x.registers are fit
turn_fits (Imm m rs rt imm) x a taken are fit went = given a x.registers are fit
turn_fits (Lui rt imm) x a taken are fit went = given a x.registers are fit
turn_fits (Load m rs rt off) x a taken are fit went = given a x.registers are fit
turn_fits (Store m rs rt off) x a taken are fit went = given a x.registers are fit
turn_fits (Pref rs hint off) x a taken are fit went = given a x.registers are fit
turn_fits (Jump m target) x a taken are fit went = given a x.registers are fit
turn_fits (Jr rs) x a taken are fit went = given a x.registers are fit
turn_fits (Jalr rs rd) x a taken are fit went = given a x.registers are fit
turn_fits (TrapIf m rs rt code) x a taken are fit went = given a x.registers are fit
turn_fits (Stop m code) x a taken are fit went = given a x.registers are fit
turn_fits (Sync stype) x a taken are fit went = given a x.registers are fit
