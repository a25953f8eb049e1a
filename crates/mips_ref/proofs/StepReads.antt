-- What an instruction comes to depends on the names that it reads, for a load on memory, and on the ranges and the byte order.
use Rattle.std.proofs.Common.{◌≡◌, ℕ, ◌<◌, Bool, true, [], Option, Some, None, refl, sym, ap, ap₂, ◌∙◌}
use Rattle.mips_isa.specs.Fits.{FieldsFit}
use Rattle.mips_isa.specs.Names.{reads_of}
use Rattle.mips_isa.specs.declared.instr.LoadOp.{LoadOp}
use Rattle.mips_isa.specs.declared.instr.LoadOp.TheVariants.{Lb, Lh, Lwl, Lw, Lbu, Lhu, Lwr}
use Rattle.mips_isa.specs.declared.instr.Instr.{Instr}
use Rattle.mips_isa.specs.declared.instr.Instr.TheVariants.{R3, Shift, Acc, HiLo, Count, Imm, Lui, Load, Store, Pref, Branch2, Branch1, Jump, Jr, Jalr, TrapIf, Stop, Sync}
use Rattle.mips_ref.proofs.CodeKept.{SameSpans}
use Rattle.mips_ref.proofs.ReadNames.{acted-reads, reg}
use Rattle.mips_ref.specs.Access.{is_load, load_allowed, load_value, loaded_of, refuses_of, store_allowed, stored_of, word_start}
use Rattle.mips_ref.specs.Act.{to_register}
use Rattle.mips_ref.specs.Facts.{AgreeOn, SameOutcome}
use Rattle.mips_ref.specs.Memory.{Flat, lanes_at, or_zero}
use Rattle.mips_ref.specs.Mips.{Mips, register_of}
use Rattle.mips_ref.specs.Step.{access_trap, acted, bytes_of, first_trap, operands_of, parts_of, retired_of, trap_in, trap_of, values_of, write_of}
use Rattle.mips_ref.specs.declared.records.Act.{Act}

-- the ranges and the byte order alone
stripped : Flat → Flat
stripped m = record m { bytes = [] }

stripped-same : (m n : Flat) → SameSpans m n → stripped m ≡ stripped n
unfolding stripped
stripped-same m n s = λ j. record { spans = s.spans j; bytes = []; big = s.big j }

refuses-stripped : (i : Instr) (m : Flat) (at : ℕ) → refuses_of m i at ≡ refuses_of (stripped m) i at
unfolding refuses_of load_allowed store_allowed stripped
refuses-stripped (R3 m rs rt rd) x at = refl
refuses-stripped (Shift m rt rd sa) x at = refl
refuses-stripped (Acc m rs rt) x at = refl
refuses-stripped (HiLo m rs rd) x at = refl
refuses-stripped (Count m rs rd) x at = refl
refuses-stripped (Imm m rs rt imm) x at = refl
refuses-stripped (Lui rt imm) x at = refl
refuses-stripped (Load m rs rt off) x at = refl
refuses-stripped (Store m rs rt off) x at = refl
refuses-stripped (Pref rs hint off) x at = refl
refuses-stripped (Branch2 m rs rt off) x at = refl
refuses-stripped (Branch1 m rs off) x at = refl
refuses-stripped (Jump m target) x at = refl
refuses-stripped (Jr rs) x at = refl
refuses-stripped (Jalr rs rd) x at = refl
refuses-stripped (TrapIf m rs rt code) x at = refl
refuses-stripped (Stop m code) x at = refl
refuses-stripped (Sync stype) x at = refl

pub refuses-same : (i : Instr) (m n : Flat) (at : ℕ) → SameSpans m n → refuses_of m i at ≡ refuses_of n i at
refuses-same i m n at s =
    refuses-stripped i m at ∙ ap (λ k. refuses_of k i at) (stripped-same m n s) ∙ sym (refuses-stripped i n at)

access-same : (i : Instr) (m n : Flat) (o : Option ℕ) → SameSpans m n → access_trap m i o ≡ access_trap n i o
access-same i m n None s = refl
access-same i m n (Some at) s = refuses-same i m n at s

-- only a partial load reads the register that it loads
loaded-same : (m : LoadOp) (rs rt off at : ℕ) (x y : Mips) (word : ℕ) (big : Bool) → rt < 32 → AgreeOn (reads_of (Load m rs rt off)) x y
    → loaded_of (Load m rs rt off) at (register_of x rt) word big ≡ loaded_of (Load m rs rt off) at (register_of y rt) word big
unfolding loaded_of load_value reads_of
loaded-same Lb rs rt off at x y word big below same = refl
loaded-same Lh rs rt off at x y word big below same = refl
loaded-same Lw rs rt off at x y word big below same = refl
loaded-same Lbu rs rt off at x y word big below same = refl
loaded-same Lhu rs rt off at x y word big below same = refl
loaded-same Lwl rs rt off at x y word big below same =
    ap (λ r. loaded_of (Load Lwl rs rt off) at r word big) (reg x y rt below same.1.0)
loaded-same Lwr rs rt off at x y word big below same =
    ap (λ r. loaded_of (Load Lwr rs rt off) at r word big) (reg x y rt below same.1.0)

write-same : (i : Instr) (a : Act) (x y : Mips) → FieldsFit i → AgreeOn (reads_of i) x y → (is_load i ≡ true → x.memory ≡ y.memory)
    → write_of i a x ≡ write_of i a y
unfolding write_of
write-same (R3 m rs rt rd) a x y fits same mem = refl
write-same (Shift m rt rd sa) a x y fits same mem = refl
write-same (Acc m rs rt) a x y fits same mem = refl
write-same (HiLo m rs rd) a x y fits same mem = refl
write-same (Count m rs rd) a x y fits same mem = refl
write-same (Imm m rs rt imm) a x y fits same mem = refl
write-same (Lui rt imm) a x y fits same mem = refl
write-same (Load m rs rt off) a x y fits same mem =
    ap (λ n. to_register rt n) (loaded-same m rs rt off (or_zero a.at) x y (lanes_at x.memory (word_start (or_zero a.at))) x.memory.big fits.1 same
    ∙ ap (λ (k : Flat). loaded_of (Load m rs rt off) (or_zero a.at) (register_of y rt) (lanes_at k (word_start (or_zero a.at))) k.big) (mem refl))
write-same (Store m rs rt off) a x y fits same mem = refl
write-same (Pref rs hint off) a x y fits same mem = refl
write-same (Branch2 m rs rt off) a x y fits same mem = refl
write-same (Branch1 m rs off) a x y fits same mem = refl
write-same (Jump m target) a x y fits same mem = refl
write-same (Jr rs) a x y fits same mem = refl
write-same (Jalr rs rd) a x y fits same mem = refl
write-same (TrapIf m rs rt code) a x y fits same mem = refl
write-same (Stop m code) a x y fits same mem = refl
write-same (Sync stype) a x y fits same mem = refl

bytes-same : (i : Instr) (a : Act) (x y : Mips) → FieldsFit i → AgreeOn (reads_of i) x y → SameSpans x.memory y.memory
    → bytes_of i a x ≡ bytes_of i a y
unfolding stored_of values_of operands_of reads_of
bytes-same (R3 m rs rt rd) a x y fits same s = refl
bytes-same (Shift m rt rd sa) a x y fits same s = refl
bytes-same (Acc m rs rt) a x y fits same s = refl
bytes-same (HiLo m rs rd) a x y fits same s = refl
bytes-same (Count m rs rd) a x y fits same s = refl
bytes-same (Imm m rs rt imm) a x y fits same s = refl
bytes-same (Lui rt imm) a x y fits same s = refl
bytes-same (Load m rs rt off) a x y fits same s = refl
bytes-same (Store m rs rt off) a x y fits same s =
    ap₂ (λ r b. stored_of (Store m rs rt off) (or_zero a.at) r b) (reg x y rt fits.1 same.1.0) s.big
bytes-same (Pref rs hint off) a x y fits same s = refl
bytes-same (Branch2 m rs rt off) a x y fits same s = refl
bytes-same (Branch1 m rs off) a x y fits same s = refl
bytes-same (Jump m target) a x y fits same s = refl
bytes-same (Jr rs) a x y fits same s = refl
bytes-same (Jalr rs rd) a x y fits same s = refl
bytes-same (TrapIf m rs rt code) a x y fits same s = refl
bytes-same (Stop m code) a x y fits same s = refl
bytes-same (Sync stype) a x y fits same s = refl

parts-same : (i : Instr) (a : Act) (x y : Mips) → write_of i a x ≡ write_of i a y → bytes_of i a x ≡ bytes_of i a y → parts_of i a x ≡ parts_of i a y
unfolding parts_of
parts-same i a x y w b =
    λ j. record { write = w j; next = a.next; taken = a.taken; at = a.at; mask = (b j).0; word = (b j).1 }

-- two states come to the same by an instruction
pub outcome-same : (i : Instr) (x y : Mips) → FieldsFit i → x.pc ≡ y.pc → x.next_pc ≡ y.next_pc → AgreeOn (reads_of i) x y
    → SameSpans x.memory y.memory → (is_load i ≡ true → x.memory ≡ y.memory) → SameOutcome i x y
unfolding trap_of retired_of
outcome-same i x y fits pc npc same s mem =
    let act : acted i x ≡ acted i y = acted-reads i x y fits pc npc same in
    record {
      trap = ap (λ a. trap_in i a x) act ∙ ap (λ t. first_trap (acted i y).trap t) (access-same i x.memory y.memory (acted i y).at s);
      parts = ap (λ a. parts_of i a x) act
          ∙ parts-same i (acted i y) x y (write-same i (acted i y) x y fits same mem) (bytes-same i (acted i y) x y fits same s);
    }

pub outcome-reads : (i : Instr) (x y : Mips) → FieldsFit i → x.pc ≡ y.pc → x.next_pc ≡ y.next_pc → AgreeOn (reads_of i) x y
    → x.memory.spans ≡ y.memory.spans → x.memory.big ≡ y.memory.big → (is_load i ≡ true → x.memory ≡ y.memory) → SameOutcome i x y
outcome-reads i x y fits pc npc same spans big mem =
    outcome-same i x y fits pc npc same (record { spans = spans; big = big }) mem
