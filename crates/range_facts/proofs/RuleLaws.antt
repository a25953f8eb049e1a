-- Each rule gives a fact, and holds of the value.
use Rattle.std.proofs.Common.{◌≡◌, ◌∙◌, refl, sym, ap, subst, ℕ, ◌+◌, ◌-◌, ◌*◌, ◌/◌, ◌^◌, ◌<◌, ◌≤◌, Bool, true, false, cond, eqb, arith, pos, negsuc, ℤ}
use Rattle.std.specs.Prelude.{◌+ℤ◌, ◌-ℤ◌, ◌≤ℤ◌, IfSome, bit_or}
use Rattle.std.specs.Int.{cast_signed, w16}
use Rattle.std.specs.Int.Bits.{or_zero_l, or_zero_r}
use Rattle.std.proofs.lemmas.Int.{ints}
use Rattle.std.proofs.lemmas.Bool.{eqb-false}
use Rattle.std.proofs.lemmas.Nat.{and_le_r, mod_below, shr_below}
use Rattle.std.proofs.Math.Nat.{one-dvd, pow-le-pow_right}
use Rattle.mips_isa.specs.Words.{extended_byte, extended_half, low_word, signed, word_difference, word_sum}
use Rattle.mips_isa.specs.declared.instr.R3Op.{R3Op}
use Rattle.mips_isa.specs.declared.instr.R3Op.TheVariants.{Sllv, Srlv, Srav, Movz, Movn, Add, Addu, Sub, Subu, And, Or, Xor, Nor, Slt, Sltu, Mul}
use Rattle.mips_isa.specs.declared.instr.ShiftOp.{ShiftOp}
use Rattle.mips_isa.specs.declared.instr.ShiftOp.TheVariants.{Sll, Srl, Sra}
use Rattle.mips_isa.specs.declared.instr.ImmOp.{ImmOp}
use Rattle.mips_isa.specs.declared.instr.ImmOp.TheVariants.{Addi, Addiu, Slti, Sltiu, Andi, Ori, Xori}
use Rattle.mips_isa.specs.declared.instr.LoadOp.{LoadOp}
use Rattle.mips_isa.specs.declared.instr.LoadOp.TheVariants.{Lb, Lh, Lwl, Lw, Lbu, Lhu, Lwr}
use Rattle.mips_ref.specs.Access.{load_value, ranked_byte, ranked_half}
use Rattle.mips_ref.specs.Act.{flag, imm_value, r3_value, shift_value, word_if_fits}
use Rattle.mips_ref.specs.declared.records.Values.{Values}
use Rattle.range_facts.specs.Ranges.{Holds, IsFact, unknown, up_to}
use Rattle.range_facts.specs.Transfer.{copied_or, difference_fact, imm_fact, load_fact, moved_fact, r3_fact, shift_fact, sum_fact}
use Rattle.range_facts.specs.declared.strided.Strided.{Strided}
use Rattle.range_facts.proofs.Sets.{bare, step_one_holds, unknown_fact, up_to_fact}
use Rattle.range_facts.proofs.Values.{any_holds, copied_holds, difference_holds, difference_is_fact, exact_holds, moved_holds, moved_is_fact, scaled_holds, scaled_is_fact, sum_holds, sum_is_fact, up_to_holds, zero_word}
use Rattle.range_facts.proofs.Words.{byte_between, difference_exact, extended_half_below, half_between, low_below, low_same, signed_half, signed_low_byte, signed_low_half, sum_exact}

step_one_fact : (lo hi : ℤ) (span : ℕ) → negsuc (2 ^ 31 - 1) ≤ℤ lo → hi ≤ℤ pos (2 ^ 31 - 1) → hi ≡ lo +ℤ pos span → IsFact (bare lo hi 1)
step_one_fact lo hi span low high ends =
    record { some = omega arith; low = low; high = high; span = span; ends = ends; whole = one-dvd span; single = λ e. refl }

-- ranges
pub r3_is_fact : (m : R3Op) (a b : Strided) → IsFact a → IsFact b → IsFact (r3_fact m a b)
unfolding r3_fact
r3_is_fact Or a b fa fb = copied_holds a b unknown (λ s. IsFact s) (λ e. fa) (λ e. fb) unknown_fact
r3_is_fact Addu a b fa fb = copied_holds a b (sum_fact a b) (λ s. IsFact s) (λ e. fa) (λ e. fb) (sum_is_fact a b fa fb)
r3_is_fact Add a b fa fb = copied_holds a b (sum_fact a b) (λ s. IsFact s) (λ e. fa) (λ e. fb) (sum_is_fact a b fa fb)
r3_is_fact Subu a b fa fb = difference_is_fact a b fa fb
r3_is_fact Sub a b fa fb = difference_is_fact a b fa fb
r3_is_fact Slt a b fa fb = up_to_fact 1 (omega arith)
r3_is_fact Sltu a b fa fb = up_to_fact 1 (omega arith)
r3_is_fact Sllv a b fa fb = unknown_fact
r3_is_fact Srlv a b fa fb = unknown_fact
r3_is_fact Srav a b fa fb = unknown_fact
r3_is_fact Movz a b fa fb = unknown_fact
r3_is_fact Movn a b fa fb = unknown_fact
r3_is_fact And a b fa fb = unknown_fact
r3_is_fact Xor a b fa fb = unknown_fact
r3_is_fact Nor a b fa fb = unknown_fact
r3_is_fact Mul a b fa fb = unknown_fact

-- what is left of a word after a shift by some bits
shifted_small : (sa : ℕ) → (sa ≡ 0 → ⊥) → 2 ^ (32 - sa) - 1 < 2 ^ 31
shifted_small sa some =
    let fewer : 32 - sa ≤ 31 = omega (arith, some) in
    let le : 2 ^ (32 - sa) ≤ 2 ^ 31 = pow-le-pow_right {n = 2} (omega arith) fewer in
    omega (arith, le)

pub shift_is_fact : (m : ShiftOp) (sa : ℕ) (a : Strided) → IsFact a → IsFact (shift_fact m sa a)
unfolding shift_fact
shift_is_fact Sll sa a f = scaled_is_fact a sa f
shift_is_fact Sra sa a f = unknown_fact
shift_is_fact Srl sa a f = by_zero (eqb sa 0) refl
  where
    by_zero : (b : Bool) → eqb sa 0 ≡ b → IsFact (cond b unknown (up_to (2 ^ (32 - sa) - 1)))
    by_zero true is = unknown_fact
    by_zero false is = up_to_fact (2 ^ (32 - sa) - 1) (shifted_small sa (eqb-false sa 0 is))

pub imm_is_fact : (m : ImmOp) (imm : ℕ) (a : Strided) → imm < 2 ^ 16 → IsFact a → IsFact (imm_fact m imm a)
unfolding imm_fact
imm_is_fact Addi imm a small f = moved_is_fact a (cast_signed w16 imm) f
imm_is_fact Addiu imm a small f = moved_is_fact a (cast_signed w16 imm) f
imm_is_fact Andi imm a small f = up_to_fact imm (omega (arith, small))
imm_is_fact Slti imm a small f = up_to_fact 1 (omega arith)
imm_is_fact Sltiu imm a small f = up_to_fact 1 (omega arith)
imm_is_fact Ori imm a small f = unknown_fact
imm_is_fact Xori imm a small f = unknown_fact

pub load_is_fact : (m : LoadOp) → IsFact (load_fact m)
unfolding load_fact
load_is_fact Lb = step_one_fact (negsuc 127) (pos 127) 255 (omega (arith, ints)) (omega (arith, ints)) (omega (arith, ints))
load_is_fact Lh = step_one_fact (negsuc 32767) (pos 32767) 65535 (omega (arith, ints)) (omega (arith, ints)) (omega (arith, ints))
load_is_fact Lbu = up_to_fact 255 (omega arith)
load_is_fact Lhu = up_to_fact 65535 (omega arith)
load_is_fact Lw = unknown_fact
load_is_fact Lwl = unknown_fact
load_is_fact Lwr = unknown_fact

-- values
same_value : (s : Strided) (w x : ℕ) → low_word w ≡ x → Holds s (signed x) → Holds s (signed (low_word w))
same_value s w x is h = subst (λ n. Holds s (signed n)) (sym is) h

flag_le : (b : Bool) → flag b ≤ 1
flag_le true = omega arith
flag_le false = omega arith

-- what three registers compute
pub record Operand (s : Strided) (x : ℕ) : Type 0 where
  pub fact : IsFact s
  pub below : x < 2 ^ 32
  pub holds : Holds s (signed x)

or_holds : (a b : Strided) (x y : ℕ) → Operand a x → Operand b y → Holds (copied_or a b unknown) (signed (low_word (bit_or x y)))
or_holds a b x y p q =
    copied_holds a b unknown (λ s. Holds s (signed (low_word (bit_or x y))))
    (λ z. same_value a (bit_or x y) x (ap (λ n. low_word (bit_or x n)) (zero_word b y q.below z q.holds) ∙ ap low_word (or_zero_r x) ∙ low_same x p.below) p.holds)
    (λ z. same_value b (bit_or x y) y (ap (λ n. low_word (bit_or n y)) (zero_word a x p.below z p.holds) ∙ ap low_word (or_zero_l y) ∙ low_same y q.below) q.holds)
    (any_holds (bit_or x y))

sum_zero : (x y : ℕ) → x < 2 ^ 32 → y ≡ 0 → low_word (word_sum x y) ≡ x
sum_zero x y below none = omega (arith, below, none)

zero_sum : (x y : ℕ) → y < 2 ^ 32 → x ≡ 0 → low_word (word_sum x y) ≡ y
zero_sum x y below none = omega (arith, below, none)

addu_holds : (a b : Strided) (x y : ℕ) → Operand a x → Operand b y → Holds (copied_or a b (sum_fact a b)) (signed (low_word (word_sum x y)))
addu_holds a b x y p q =
    copied_holds a b (sum_fact a b) (λ s. Holds s (signed (low_word (word_sum x y))))
    (λ z. same_value a (word_sum x y) x (sum_zero x y p.below (zero_word b y q.below z q.holds)) p.holds)
    (λ z. same_value b (word_sum x y) y (zero_sum x y q.below (zero_word a x p.below z p.holds)) q.holds)
    (same_value (sum_fact a b) (word_sum x y) (word_sum x y) (low_same (word_sum x y) (low_below (x + y))) (sum_holds a b x y p.fact q.fact p.below q.below p.holds q.holds))

zero_signed : (y : ℕ) → y ≡ 0 → signed y ≡ pos 0
zero_signed y none = ap signed none

add_holds : (a b : Strided) (x y : ℕ) → Operand a x → Operand b y → IfSome (word_if_fits (signed x +ℤ signed y)) (λ w. Holds (copied_or a b (sum_fact a b)) (signed (low_word w)))
add_holds a b x y p q =
    let z = signed x +ℤ signed y in
    copied_holds a b (sum_fact a b) (λ s. IfSome (word_if_fits (signed x +ℤ signed y)) (λ w. Holds s (signed (low_word w))))
    (λ none. let same : signed y ≡ pos 0 = zero_signed y (zero_word b y q.below none q.holds) in exact_holds a z x (λ f. omega (arith, ints, same)) p.holds)
    (λ none. let same : signed x ≡ pos 0 = zero_signed x (zero_word a x p.below none p.holds) in exact_holds b z y (λ f. omega (arith, ints, same)) q.holds)
    (exact_holds (sum_fact a b) z (word_sum x y) (sum_exact x y p.below q.below) (sum_holds a b x y p.fact q.fact p.below q.below p.holds q.holds))

pub r3_sound : (m : R3Op) (a b : Strided) (v : Values) → Operand a v.rs → Operand b v.rt → IfSome (r3_value m v) (λ w. Holds (r3_fact m a b) (signed (low_word w)))
unfolding r3_fact r3_value
r3_sound Or a b v p q = or_holds a b v.rs v.rt p q
r3_sound Addu a b v p q = addu_holds a b v.rs v.rt p q
r3_sound Add a b v p q = add_holds a b v.rs v.rt p q
r3_sound Subu a b v p q =
    same_value (difference_fact a b) (word_difference v.rs v.rt) (word_difference v.rs v.rt) (low_same (word_difference v.rs v.rt) (low_below (v.rs + (2 ^ 32 - v.rt))))
    (difference_holds a b v.rs v.rt p.fact q.fact p.below q.below p.holds q.holds)
r3_sound Sub a b v p q =
    exact_holds (difference_fact a b) (signed v.rs -ℤ signed v.rt) (word_difference v.rs v.rt) (difference_exact v.rs v.rt p.below q.below)
    (difference_holds a b v.rs v.rt p.fact q.fact p.below q.below p.holds q.holds)
r3_sound Slt a b v p q = up_to_holds 1 _ (flag_le _) (omega arith)
r3_sound Sltu a b v p q = up_to_holds 1 _ (flag_le _) (omega arith)
r3_sound Sllv a b v p q = any_holds _
r3_sound Srlv a b v p q = any_holds _
r3_sound Srav a b v p q = any_holds _
r3_sound Movz a b v p q = any_holds _
r3_sound Movn a b v p q = any_holds _
r3_sound And a b v p q = any_holds _
r3_sound Xor a b v p q = any_holds _
r3_sound Nor a b v p q = any_holds _
r3_sound Mul a b v p q = any_holds _

-- shifts
pub shift_sound : (m : ShiftOp) (sa : ℕ) (a : Strided) (v : Values) → sa < 32 → Operand a v.rt → Holds (shift_fact m sa a) (signed (low_word (shift_value m sa v)))
unfolding shift_fact shift_value
shift_sound Sll sa a v small p = scaled_holds a v.rt sa p.fact p.below small p.holds
shift_sound Sra sa a v small p = any_holds _
shift_sound Srl sa a v small p = by_zero (eqb sa 0) refl
  where
    by_zero : (b : Bool) → eqb sa 0 ≡ b → Holds (cond b unknown (up_to (2 ^ (32 - sa) - 1))) (signed (low_word (v.rt / 2 ^ sa)))
    by_zero true is = any_holds (v.rt / 2 ^ sa)
    by_zero false is =
        let whole : 32 ≡ (32 - sa) + sa = omega (arith, small) in
        let wide : v.rt < 2 ^ ((32 - sa) + sa) = subst (λ n. v.rt < 2 ^ n) whole p.below in
        let few : v.rt / 2 ^ sa < 2 ^ (32 - sa) = shr_below v.rt (32 - sa) sa wide in
        up_to_holds (2 ^ (32 - sa) - 1) (v.rt / 2 ^ sa) (omega (arith, few)) (shifted_small sa (eqb-false sa 0 is))

-- a register and a constant
pub imm_sound : (m : ImmOp) (imm : ℕ) (a : Strided) (v : Values) → imm < 2 ^ 16 → Operand a v.rs → IfSome (imm_value m imm v) (λ w. Holds (imm_fact m imm a) (signed (low_word w)))
unfolding imm_fact imm_value
imm_sound Addi imm a v small p =
    exact_holds (moved_fact a (cast_signed w16 imm)) (signed v.rs +ℤ signed (extended_half imm)) (word_sum v.rs (extended_half imm))
    (sum_exact v.rs (extended_half imm) p.below (extended_half_below imm small))
    (moved_holds a v.rs (extended_half imm) (cast_signed w16 imm) p.below (extended_half_below imm small) (signed_half imm small) p.holds)
imm_sound Addiu imm a v small p =
    same_value (moved_fact a (cast_signed w16 imm)) (word_sum v.rs (extended_half imm)) (word_sum v.rs (extended_half imm))
    (low_same (word_sum v.rs (extended_half imm)) (low_below (v.rs + extended_half imm)))
    (moved_holds a v.rs (extended_half imm) (cast_signed w16 imm) p.below (extended_half_below imm small) (signed_half imm small) p.holds)
imm_sound Andi imm a v small p = up_to_holds imm _ (and_le_r v.rs imm) (omega (arith, small))
imm_sound Slti imm a v small p = up_to_holds 1 _ (flag_le _) (omega arith)
imm_sound Sltiu imm a v small p = up_to_holds 1 _ (flag_le _) (omega arith)
imm_sound Ori imm a v small p = any_holds _
imm_sound Xori imm a v small p = any_holds _

-- loads
byte_holds : (b : ℕ) → b < 2 ^ 8 → Holds (bare (negsuc 127) (pos 127) 1) (signed (low_word (extended_byte b)))
byte_holds b small =
    let between = byte_between b small in
    subst (λ z. Holds (bare (negsuc 127) (pos 127) 1) z) (sym (signed_low_byte b small)) (step_one_holds (negsuc 127) (pos 127) _ between.low between.high)

half_holds : (h : ℕ) → h < 2 ^ 16 → Holds (bare (negsuc 32767) (pos 32767) 1) (signed (low_word (extended_half h)))
half_holds h small =
    let between = half_between h small in
    subst (λ z. Holds (bare (negsuc 32767) (pos 32767) 1) z) (sym (signed_low_half h small)) (step_one_holds (negsuc 32767) (pos 32767) _ between.low between.high)

ranked_byte_below : (word rank : ℕ) → ranked_byte word rank < 2 ^ 8
ranked_byte_below word rank = mod_below (word / 2 ^ (8 * rank)) (2 ^ 8) (omega arith)

ranked_half_below : (word rank : ℕ) → ranked_half word rank < 2 ^ 16
ranked_half_below word rank = mod_below (word / 2 ^ (16 * (rank / 2))) (2 ^ 16) (omega arith)

pub load_sound : (m : LoadOp) (rank rt word : ℕ) → Holds (load_fact m) (signed (low_word (load_value m rank rt word)))
unfolding load_fact load_value
load_sound Lb rank rt word = byte_holds (ranked_byte word rank) (ranked_byte_below word rank)
load_sound Lh rank rt word = half_holds (ranked_half word rank) (ranked_half_below word rank)
load_sound Lbu rank rt word = let small = ranked_byte_below word rank in up_to_holds 255 (ranked_byte word rank) (omega (arith, small)) (omega arith)
load_sound Lhu rank rt word = let small = ranked_half_below word rank in up_to_holds 65535 (ranked_half word rank) (omega (arith, small)) (omega arith)
load_sound Lw rank rt word = any_holds _
load_sound Lwl rank rt word = any_holds _
load_sound Lwr rank rt word = any_holds _
