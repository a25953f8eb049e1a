-- A mnemonic tells its instruction.
use Rattle.std.proofs.Common.{◌≡◌, refl, sym, ap, ◌∙◌, subst, ℕ, suc, Bool, true, false, cond, not, nat_eq, List, [], ◌∷◌, ◌++◌, Option, Some, find, bytes_eq, Contains, arith}
use Rattle.std.specs.List.{list_all}
use Rattle.text_fields.proofs.Digits.{and_parts}
use Rattle.mips_isa.specs.declared.instr.Instr.{Instr}
use Rattle.mips_isa.specs.declared.instr.Instr.TheVariants.{R3, Shift, Acc, HiLo, Count, Imm, Lui, Load, Store, Pref, Branch2, Branch1, Jump, Jr, Jalr, TrapIf, Stop, Sync}
use Rattle.mips_isa.specs.declared.instr.R3Op.{R3Op}
use Rattle.mips_isa.specs.declared.instr.R3Op.TheVariants.{Sllv, Srlv, Srav, Movz, Movn, Add, Addu, Sub, Subu, And, Or, Xor, Nor, Slt, Sltu, Mul}
use Rattle.mips_isa.specs.declared.instr.ShiftOp.{ShiftOp}
use Rattle.mips_isa.specs.declared.instr.ShiftOp.TheVariants.{Sll, Srl, Sra}
use Rattle.mips_isa.specs.declared.instr.AccOp.{AccOp}
use Rattle.mips_isa.specs.declared.instr.AccOp.TheVariants.{Mult, Multu, Div, Divu, Madd, Maddu, Msub, Msubu}
use Rattle.mips_isa.specs.declared.instr.HiLoOp.{HiLoOp}
use Rattle.mips_isa.specs.declared.instr.HiLoOp.TheVariants.{Mfhi, Mflo, Mthi, Mtlo}
use Rattle.mips_isa.specs.declared.instr.CountOp.{CountOp}
use Rattle.mips_isa.specs.declared.instr.CountOp.TheVariants.{Clz, Clo}
use Rattle.mips_isa.specs.declared.instr.ImmOp.{ImmOp}
use Rattle.mips_isa.specs.declared.instr.ImmOp.TheVariants.{Addi, Addiu, Slti, Sltiu, Andi, Ori, Xori}
use Rattle.mips_isa.specs.declared.instr.LoadOp.{LoadOp}
use Rattle.mips_isa.specs.declared.instr.LoadOp.TheVariants.{Lb, Lh, Lwl, Lw, Lbu, Lhu, Lwr}
use Rattle.mips_isa.specs.declared.instr.StoreOp.{StoreOp}
use Rattle.mips_isa.specs.declared.instr.StoreOp.TheVariants.{Sb, Sh, Swl, Sw, Swr}
use Rattle.mips_isa.specs.declared.instr.Branch2Op.{Branch2Op}
use Rattle.mips_isa.specs.declared.instr.Branch2Op.TheVariants.{Beq, Bne}
use Rattle.mips_isa.specs.declared.instr.Branch1Op.{Branch1Op}
use Rattle.mips_isa.specs.declared.instr.Branch1Op.TheVariants.{Blez, Bgtz, Bltz, Bgez, Bltzal, Bgezal}
use Rattle.mips_isa.specs.declared.instr.JumpOp.{JumpOp}
use Rattle.mips_isa.specs.declared.instr.JumpOp.TheVariants.{J, Jal}
use Rattle.mips_isa.specs.declared.instr.TrapIfOp.{TrapIfOp}
use Rattle.mips_isa.specs.declared.instr.TrapIfOp.TheVariants.{Tge, Tgeu, Tlt, Tltu, Teq, Tne}
use Rattle.mips_isa.specs.declared.instr.StopOp.{StopOp}
use Rattle.mips_isa.specs.declared.instr.StopOp.TheVariants.{Syscall, Break}
use Rattle.mips_text.specs.Mnemonics.{name_of, r3_name, shift_name, acc_name, hi_lo_name, count_name, imm_name, load_name, store_name, branch2_name, branch1_name, jump_name, trap_if_name, stop_name}
use Rattle.mips_text.specs.Templates.{filled}

abbrev pub all : List Instr
all =
    R3 Sllv 0 0 0
    ∷ R3 Srlv 0 0 0
    ∷ R3 Srav 0 0 0
    ∷ R3 Movz 0 0 0
    ∷ R3 Movn 0 0 0
    ∷ R3 Add 0 0 0
    ∷ R3 Addu 0 0 0
    ∷ R3 Sub 0 0 0
    ∷ R3 Subu 0 0 0
    ∷ R3 And 0 0 0
    ∷ R3 Or 0 0 0
    ∷ R3 Xor 0 0 0
    ∷ R3 Nor 0 0 0
    ∷ R3 Slt 0 0 0
    ∷ R3 Sltu 0 0 0
    ∷ R3 Mul 0 0 0
    ∷ Shift Sll 0 0 0
    ∷ Shift Srl 0 0 0
    ∷ Shift Sra 0 0 0
    ∷ Acc Mult 0 0
    ∷ Acc Multu 0 0
    ∷ Acc Div 0 0
    ∷ Acc Divu 0 0
    ∷ Acc Madd 0 0
    ∷ Acc Maddu 0 0
    ∷ Acc Msub 0 0
    ∷ Acc Msubu 0 0
    ∷ HiLo Mfhi 0 0
    ∷ HiLo Mflo 0 0
    ∷ HiLo Mthi 0 0
    ∷ HiLo Mtlo 0 0
    ∷ Count Clz 0 0
    ∷ Count Clo 0 0
    ∷ Imm Addi 0 0 0
    ∷ Imm Addiu 0 0 0
    ∷ Imm Slti 0 0 0
    ∷ Imm Sltiu 0 0 0
    ∷ Imm Andi 0 0 0
    ∷ Imm Ori 0 0 0
    ∷ Imm Xori 0 0 0
    ∷ Lui 0 0
    ∷ Load Lb 0 0 0
    ∷ Load Lh 0 0 0
    ∷ Load Lwl 0 0 0
    ∷ Load Lw 0 0 0
    ∷ Load Lbu 0 0 0
    ∷ Load Lhu 0 0 0
    ∷ Load Lwr 0 0 0
    ∷ Store Sb 0 0 0
    ∷ Store Sh 0 0 0
    ∷ Store Swl 0 0 0
    ∷ Store Sw 0 0 0
    ∷ Store Swr 0 0 0
    ∷ Pref 0 0 0
    ∷ Branch2 Beq 0 0 0
    ∷ Branch2 Bne 0 0 0
    ∷ Branch1 Blez 0 0
    ∷ Branch1 Bgtz 0 0
    ∷ Branch1 Bltz 0 0
    ∷ Branch1 Bgez 0 0
    ∷ Branch1 Bltzal 0 0
    ∷ Branch1 Bgezal 0 0
    ∷ Jump J 0
    ∷ Jump Jal 0
    ∷ Jr 0
    ∷ Jalr 0 0
    ∷ TrapIf Tge 0 0 0
    ∷ TrapIf Tgeu 0 0 0
    ∷ TrapIf Tlt 0 0 0
    ∷ TrapIf Tltu 0 0 0
    ∷ TrapIf Teq 0 0 0
    ∷ TrapIf Tne 0 0 0
    ∷ Stop Syscall 0
    ∷ Stop Break 0
    ∷ Sync 0
    ∷ []

abbrev pub named : List ℕ → Option Instr
named name = find (λ t. bytes_eq (name_of t) name) all

-- a name without a space, of one template, whose fields are zeros
pub record IsNameOf (name : List ℕ) (t : Instr) : Type 0 where
  pub found : named name ≡ Some t
  pub plain : list_all (λ c. not (nat_eq c 32)) name ≡ true
  pub same : filled t 0 0 0 ≡ t

r3_named : (m : R3Op) → IsNameOf (r3_name m) (filled (R3 m 0 0 0) 0 0 0)
unfolding name_of filled r3_name shift_name acc_name hi_lo_name count_name imm_name load_name store_name branch2_name branch1_name jump_name trap_if_name stop_name
r3_named Sllv = record { found = refl; plain = refl; same = refl }
r3_named m = record { found = refl; plain = refl; same = refl }

shift_named : (m : ShiftOp) → IsNameOf (shift_name m) (filled (Shift m 0 0 0) 0 0 0)
unfolding name_of filled r3_name shift_name acc_name hi_lo_name count_name imm_name load_name store_name branch2_name branch1_name jump_name trap_if_name stop_name
shift_named Sll = record { found = refl; plain = refl; same = refl }
shift_named m = record { found = refl; plain = refl; same = refl }

acc_named : (m : AccOp) → IsNameOf (acc_name m) (filled (Acc m 0 0) 0 0 0)
unfolding name_of filled r3_name shift_name acc_name hi_lo_name count_name imm_name load_name store_name branch2_name branch1_name jump_name trap_if_name stop_name
acc_named Mult = record { found = refl; plain = refl; same = refl }
acc_named m = record { found = refl; plain = refl; same = refl }

hi_lo_named : (m : HiLoOp) → IsNameOf (hi_lo_name m) (filled (HiLo m 0 0) 0 0 0)
unfolding name_of filled r3_name shift_name acc_name hi_lo_name count_name imm_name load_name store_name branch2_name branch1_name jump_name trap_if_name stop_name
hi_lo_named Mfhi = record { found = refl; plain = refl; same = refl }
hi_lo_named m = record { found = refl; plain = refl; same = refl }

count_named : (m : CountOp) → IsNameOf (count_name m) (filled (Count m 0 0) 0 0 0)
unfolding name_of filled r3_name shift_name acc_name hi_lo_name count_name imm_name load_name store_name branch2_name branch1_name jump_name trap_if_name stop_name
count_named Clz = record { found = refl; plain = refl; same = refl }
count_named m = record { found = refl; plain = refl; same = refl }

imm_named : (m : ImmOp) → IsNameOf (imm_name m) (filled (Imm m 0 0 0) 0 0 0)
unfolding name_of filled r3_name shift_name acc_name hi_lo_name count_name imm_name load_name store_name branch2_name branch1_name jump_name trap_if_name stop_name
imm_named Addi = record { found = refl; plain = refl; same = refl }
imm_named m = record { found = refl; plain = refl; same = refl }

load_named : (m : LoadOp) → IsNameOf (load_name m) (filled (Load m 0 0 0) 0 0 0)
unfolding name_of filled r3_name shift_name acc_name hi_lo_name count_name imm_name load_name store_name branch2_name branch1_name jump_name trap_if_name stop_name
load_named Lb = record { found = refl; plain = refl; same = refl }
load_named m = record { found = refl; plain = refl; same = refl }

store_named : (m : StoreOp) → IsNameOf (store_name m) (filled (Store m 0 0 0) 0 0 0)
unfolding name_of filled r3_name shift_name acc_name hi_lo_name count_name imm_name load_name store_name branch2_name branch1_name jump_name trap_if_name stop_name
store_named Sb = record { found = refl; plain = refl; same = refl }
store_named m = record { found = refl; plain = refl; same = refl }

branch2_named : (m : Branch2Op) → IsNameOf (branch2_name m) (filled (Branch2 m 0 0 0) 0 0 0)
unfolding name_of filled r3_name shift_name acc_name hi_lo_name count_name imm_name load_name store_name branch2_name branch1_name jump_name trap_if_name stop_name
branch2_named Beq = record { found = refl; plain = refl; same = refl }
branch2_named m = record { found = refl; plain = refl; same = refl }

branch1_named : (m : Branch1Op) → IsNameOf (branch1_name m) (filled (Branch1 m 0 0) 0 0 0)
unfolding name_of filled r3_name shift_name acc_name hi_lo_name count_name imm_name load_name store_name branch2_name branch1_name jump_name trap_if_name stop_name
branch1_named Blez = record { found = refl; plain = refl; same = refl }
branch1_named m = record { found = refl; plain = refl; same = refl }

jump_named : (m : JumpOp) → IsNameOf (jump_name m) (filled (Jump m 0) 0 0 0)
unfolding name_of filled r3_name shift_name acc_name hi_lo_name count_name imm_name load_name store_name branch2_name branch1_name jump_name trap_if_name stop_name
jump_named J = record { found = refl; plain = refl; same = refl }
jump_named m = record { found = refl; plain = refl; same = refl }

trap_if_named : (m : TrapIfOp) → IsNameOf (trap_if_name m) (filled (TrapIf m 0 0 0) 0 0 0)
unfolding name_of filled r3_name shift_name acc_name hi_lo_name count_name imm_name load_name store_name branch2_name branch1_name jump_name trap_if_name stop_name
trap_if_named Tge = record { found = refl; plain = refl; same = refl }
trap_if_named m = record { found = refl; plain = refl; same = refl }

stop_named : (m : StopOp) → IsNameOf (stop_name m) (filled (Stop m 0) 0 0 0)
unfolding name_of filled r3_name shift_name acc_name hi_lo_name count_name imm_name load_name store_name branch2_name branch1_name jump_name trap_if_name stop_name
stop_named Syscall = record { found = refl; plain = refl; same = refl }
stop_named m = record { found = refl; plain = refl; same = refl }

pub named_again : (i : Instr) → IsNameOf (name_of i) (filled i 0 0 0)
unfolding name_of filled r3_name shift_name acc_name hi_lo_name count_name imm_name load_name store_name branch2_name branch1_name jump_name trap_if_name stop_name
named_again (R3 m rs rt rd) = r3_named m
named_again (Shift m rt rd sa) = shift_named m
named_again (Acc m rs rt) = acc_named m
named_again (HiLo m rs rd) = hi_lo_named m
named_again (Count m rs rd) = count_named m
named_again (Imm m rs rt imm) = imm_named m
named_again (Lui rt imm) = record { found = refl; plain = refl; same = refl }
named_again (Load m rs rt off) = load_named m
named_again (Store m rs rt off) = store_named m
named_again (Pref rs hint off) = record { found = refl; plain = refl; same = refl }
named_again (Branch2 m rs rt off) = branch2_named m
named_again (Branch1 m rs off) = branch1_named m
named_again (Jump m target) = jump_named m
named_again (Jr rs) = record { found = refl; plain = refl; same = refl }
named_again (Jalr rs rd) = record { found = refl; plain = refl; same = refl }
named_again (TrapIf m rs rt code) = trap_if_named m
named_again (Stop m code) = stop_named m
named_again (Sync stype) = record { found = refl; plain = refl; same = refl }

-- what is found is there
found_there : (test : Instr → Bool) (ts : List Instr) (t : Instr) → find test ts ≡ Some t → Contains ts t
found_there test [] t e = cc
found_there test (x ∷ ts) t e = by (test x) (found_there test ts t) e
  where
    by : (b : Bool) → (find test ts ≡ Some t → Contains ts t) → cond b (Some x) (find test ts) ≡ Some t → Contains (x ∷ ts) t
    by true rest h = let same : x ≡ t = cc in (0, omega arith, same)
    by false rest h = let r = rest h in (suc r.0, omega (arith, r.1), r.2)

pub all_there : (i : Instr) → Contains all (filled i 0 0 0)
all_there i = found_there (λ t. bytes_eq (name_of t) (name_of i)) all (filled i 0 0 0) (named_again i).found

-- two names with spaces behind them
pub space_same : (a b x y : List ℕ) → list_all (λ c. not (nat_eq c 32)) a ≡ true → list_all (λ c. not (nat_eq c 32)) b ≡ true → a ++ 32 ∷ x ≡ b ++ 32 ∷ y → (a ≡ b) × (x ≡ y)
space_same [] [] x y p q e = (refl, cc)
space_same [] (d ∷ b) x y p q e = absurd (let same : 32 ≡ d = cc in let h = (and_parts (not (nat_eq d 32)) _ q).0 in let k : not (nat_eq 32 32) ≡ true = subst (λ n. not (nat_eq n 32) ≡ true) (sym same) h in cc)
space_same (c ∷ a) [] x y p q e = absurd (let same : 32 ≡ c = cc in let h = (and_parts (not (nat_eq c 32)) _ p).0 in let k : not (nat_eq 32 32) ≡ true = subst (λ n. not (nat_eq n 32) ≡ true) (sym same) h in cc)
space_same (c ∷ a) (d ∷ b) x y p q e =
    let head : c ≡ d = cc in
    let tail : a ++ 32 ∷ x ≡ b ++ 32 ∷ y = cc in
    let r = space_same a b x y (and_parts (not (nat_eq c 32)) _ p).1 (and_parts (not (nat_eq d 32)) _ q).1 tail in
    (λ i. head i ∷ r.0 i, r.1)

-- one name, one template
pub template_same : (i j : Instr) → name_of i ≡ name_of j → filled i 0 0 0 ≡ filled j 0 0 0
template_same i j e = let h : Some (filled i 0 0 0) ≡ Some (filled j 0 0 0) = sym (named_again i).found ∙ ap named e ∙ (named_again j).found in cc
