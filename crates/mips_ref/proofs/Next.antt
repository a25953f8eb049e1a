-- Instructions that aren't control go on after the next one.
use Rattle.std.proofs.Common.{◌≡◌, ℕ, Bool, true, false, cond, eqb, Option, Some, None, refl, ◌∙◌}
use Rattle.mips_isa.specs.Kinds.{is_control, kind_of, branch_kind, jump_kind}
use Rattle.mips_isa.specs.Words.{word_sum}
use Rattle.mips_isa.specs.declared.instr.Instr.{Instr}
use Rattle.mips_isa.specs.declared.instr.Instr.TheVariants.{R3, Shift, Acc, HiLo, Count, Imm, Lui, Load, Store, Pref, Branch2, Branch1, Jump, Jr, Jalr, TrapIf, Stop, Sync}
use Rattle.mips_isa.specs.declared.instr.Branch1Op.{Branch1Op}
use Rattle.mips_isa.specs.declared.instr.Branch1Op.TheVariants.{Blez, Bgtz, Bltz, Bgez, Bltzal, Bgezal}
use Rattle.mips_isa.specs.declared.instr.JumpOp.{JumpOp}
use Rattle.mips_isa.specs.declared.instr.JumpOp.TheVariants.{J, Jal}
use Rattle.mips_isa.specs.declared.instr.Kind.TheVariants as kind
use Rattle.mips_ref.proofs.Steps.{went-next_pc}
use Rattle.mips_ref.specs.Act.{act_of, goes_on, imm_value, r3_value, reaches, stops, traps_if, unless_overflow}
use Rattle.mips_ref.specs.Facts.{GoesOn, SameButNext, WentBy}
use Rattle.mips_ref.specs.Mips.{Mips}
use Rattle.mips_ref.specs.Step.{acted, access_trap, first_trap, parts_of, retired_of, step_of, trap_of, values_of}
use Rattle.mips_ref.specs.declared.records.Act.{Act}
use Rattle.mips_ref.specs.declared.records.TrapKind.{TrapKind}
use Rattle.mips_ref.specs.declared.records.Values.{Values}

abbrev pub Alike : (ℕ → Act) → Type 0
Alike f = ((npc : ℕ) → (f npc).trap ≡ None → (f npc).next ≡ word_sum npc 4) × ((npc other : ℕ) → SameButNext (f npc) (f other))

alike_on : (w : Option ℕ) → Alike (goes_on w)
alike_on w = (λ npc e. refl, λ npc other. record { write = refl; taken = refl; at = refl; trap = refl })

alike_reaches : (at : ℕ) → Alike (reaches at)
alike_reaches at = (λ npc e. refl, λ npc other. record { write = refl; taken = refl; at = refl; trap = refl })

alike_stops : (k : TrapKind) → Alike (λ npc. stops k)
alike_stops k = (λ npc e. cc, λ npc other. record { write = refl; taken = refl; at = refl; trap = refl })

alike_overflow : (r : ℕ) (o : Option ℕ) → Alike (λ npc. unless_overflow r npc o)
alike_overflow r None = (λ npc e. cc, λ npc other. record { write = refl; taken = refl; at = refl; trap = refl })
alike_overflow r (Some v) = (λ npc e. refl, λ npc other. record { write = refl; taken = refl; at = refl; trap = refl })

alike_if : (k : TrapKind) (b : Bool) → Alike (λ npc. cond b (stops k) (goes_on None npc))
alike_if k true = (λ npc e. cc, λ npc other. record { write = refl; taken = refl; at = refl; trap = refl })
alike_if k false = (λ npc e. refl, λ npc other. record { write = refl; taken = refl; at = refl; trap = refl })

goes-on : (i : Instr) (pc : ℕ) (v : Values) → Alike (λ npc. act_of i pc npc v) → GoesOn i pc v
goes-on i pc v alike = record { next = alike.0; same = alike.1 }

choice : (b : Bool) → is_control (cond b kind.Call kind.Branch) ≡ true
choice true = refl
choice false = refl

branch : (m : Branch1Op) (rs : ℕ) → is_control (branch_kind m rs) ≡ true
branch Blez rs = refl
branch Bgtz rs = refl
branch Bltz rs = refl
branch Bgez rs = refl
branch Bltzal rs = refl
branch Bgezal rs = choice (eqb rs 0)

jump : (m : JumpOp) → is_control (jump_kind m) ≡ true
jump J = refl
jump Jal = refl

jr : (b : Bool) → is_control (cond b kind.Return kind.Indirect) ≡ true
jr true = refl
jr false = refl

never : (b : Bool) {P : Type 0} → b ≡ true → b ≡ false → P
never b holds fails = cc

-- an instruction that isn't control goes on after the next one, whatever the values
pub goes_on_plain : (i : Instr) (pc : ℕ) (v : Values) → is_control (kind_of i) ≡ false → GoesOn i pc v
unfolding act_of kind_of
goes_on_plain (R3 m rs rt rd) pc v plain = goes-on _ pc v (alike_overflow rd (r3_value m v))
goes_on_plain (Shift m rt rd sa) pc v plain = goes-on _ pc v (alike_on _)
goes_on_plain (Acc m rs rt) pc v plain = goes-on _ pc v (alike_on _)
goes_on_plain (HiLo m rs rd) pc v plain = goes-on _ pc v (alike_on _)
goes_on_plain (Count m rs rd) pc v plain = goes-on _ pc v (alike_on _)
goes_on_plain (Imm m rs rt imm) pc v plain = goes-on _ pc v (alike_overflow rt (imm_value m imm v))
goes_on_plain (Lui rt imm) pc v plain = goes-on _ pc v (alike_on _)
goes_on_plain (Load m rs rt off) pc v plain = goes-on _ pc v (alike_reaches _)
goes_on_plain (Store m rs rt off) pc v plain = goes-on _ pc v (alike_reaches _)
goes_on_plain (Pref rs hint off) pc v plain = goes-on _ pc v (alike_on _)
goes_on_plain (Branch2 m rs rt off) pc v plain = never true refl plain
goes_on_plain (Branch1 m rs off) pc v plain = never (is_control (branch_kind m rs)) (branch m rs) plain
goes_on_plain (Jump m target) pc v plain = never (is_control (jump_kind m)) (jump m) plain
goes_on_plain (Jr rs) pc v plain = never (is_control (cond (eqb rs 31) kind.Return kind.Indirect)) (jr (eqb rs 31)) plain
goes_on_plain (Jalr rs rd) pc v plain = never true refl plain
goes_on_plain (TrapIf m rs rt code) pc v plain = goes-on _ pc v (alike_if _ (traps_if m v))
goes_on_plain (Stop m code) pc v plain = goes-on _ pc v (alike_stops _)
goes_on_plain (Sync stype) pc v plain = goes-on _ pc v (alike_on _)

pub first-none : (a b : Option TrapKind) → first_trap a b ≡ None → a ≡ None
first-none None b e = refl
first-none (Some k) b e = e

-- an instruction that goes has no trap of its own
pub acted-trap : (i : Instr) (x : Mips) → trap_of i x ≡ None → (acted i x).trap ≡ None
unfolding trap_of
acted-trap i x e = first-none (acted i x).trap (access_trap x.memory i (acted i x).at) e

-- a step of an instruction that isn't control: after the next one comes the one at the address after it
pub next_pc_plain : (x : Mips) (word : ℕ) (i : Instr) → WentBy x word i → is_control (kind_of i) ≡ false
    → (step_of x).state.next_pc ≡ word_sum x.next_pc 4
unfolding retired_of parts_of
next_pc_plain x word i w plain =
    went-next_pc x word i w ∙ (goes_on_plain i x.pc (values_of i x) plain).next x.next_pc (acted-trap i x w.no_trap)
