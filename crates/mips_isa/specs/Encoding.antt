-- The word of each instruction: its code and its fields at their places, a field that the instruction doesn't
-- use zero. Source: MIPS32 manual, volume II, the encoding of each instruction.
use Rattle.std.specs.Prelude.{◌≡◌, ℕ, ◌+◌, ◌*◌, ◌^◌}
use Rattle.mips_isa.specs.declared.instr.Instr.{Instr}
use Rattle.mips_isa.specs.declared.instr.Instr.TheVariants.{R3, Shift, Acc, HiLo, Count, Imm, Lui, Load, Store, Pref, Branch2, Branch1, Jump, Jr, Jalr, TrapIf, Stop, Sync}
use Rattle.mips_isa.specs.Fits.{FieldsFit}
use Rattle.mips_isa.specs.Codes.{Code, r3_code, shift_code, acc_code, hi_lo_code, count_code, imm_code, lui_code, load_code, store_code, pref_code, branch2_code, branch1_code, jump_code, jr_code, jalr_code, trap_if_code, stop_code, sync_code}

-- op, rs, rt, rd, sa and funct
abbrev pub register_word : Code → ℕ → ℕ → ℕ → ℕ → ℕ
register_word code rs rt rd sa = code.0 * 2 ^ 26 + rs * 2 ^ 21 + rt * 2 ^ 16 + rd * 2 ^ 11 + sa * 2 ^ 6 + code.1

-- op, rs, rt and the low sixteen bits
abbrev pub half_word : ℕ → ℕ → ℕ → ℕ → ℕ
half_word op rs rt half = op * 2 ^ 26 + rs * 2 ^ 21 + rt * 2 ^ 16 + half

unfoldable pub encode_of : Instr → ℕ
encode_of (R3 m rs rt rd) = register_word (r3_code m) rs rt rd 0
encode_of (Shift m rt rd sa) = register_word (shift_code m) 0 rt rd sa
encode_of (Acc m rs rt) = register_word (acc_code m) rs rt 0 0
encode_of (HiLo m rs rd) = register_word (hi_lo_code m) rs 0 rd 0
encode_of (Count m rs rd) = register_word (count_code m) rs rd rd 0
encode_of (Imm m rs rt imm) = half_word (imm_code m).0 rs rt imm
encode_of (Lui rt imm) = half_word lui_code.0 0 rt imm
encode_of (Load m rs rt off) = half_word (load_code m).0 rs rt off
encode_of (Store m rs rt off) = half_word (store_code m).0 rs rt off
encode_of (Pref rs hint off) = half_word pref_code.0 rs hint off
encode_of (Branch2 m rs rt off) = half_word (branch2_code m).0 rs rt off
encode_of (Branch1 m rs off) = half_word (branch1_code m).0 rs (branch1_code m).1 off
encode_of (Jump m target) = (jump_code m).0 * 2 ^ 26 + target
encode_of (Jr rs) = register_word jr_code rs 0 0 0
encode_of (Jalr rs rd) = register_word jalr_code rs 0 rd 0
encode_of (TrapIf m rs rt code) =
    (trap_if_code m).0 * 2 ^ 26 + rs * 2 ^ 21 + rt * 2 ^ 16 + code * 2 ^ 6 + (trap_if_code m).1
encode_of (Stop m code) = (stop_code m).0 * 2 ^ 26 + code * 2 ^ 6 + (stop_code m).1
encode_of (Sync stype) = register_word sync_code 0 0 0 stype

-- the word is that of this instruction
pub record IsWordOf (word : ℕ) (i : Instr) : Type 0 where
  pub fits : FieldsFit i
  pub same : encode_of i ≡ word

-- no instruction has the word: the manual's reserved instruction
abbrev pub IsReserved : ℕ → Type 0
IsReserved word = (i : Instr) → ¬ IsWordOf word i
