-- What an instruction without a trap gives: a value of the name that it writes; and bytes only where it is a store.
use Rattle.std.proofs.Common.{◌≡◌, ℕ, Bool, true, false, cond, eqb, Option, Some, None, refl}
use Rattle.mips_isa.specs.Names.{register_written, writes_of}
use Rattle.mips_isa.specs.declared.instr.Branch1Op.{Branch1Op}
use Rattle.mips_isa.specs.declared.instr.Branch1Op.TheVariants.{Blez, Bgtz, Bltz, Bgez, Bltzal, Bgezal}
use Rattle.mips_isa.specs.declared.instr.HiLoOp.{HiLoOp}
use Rattle.mips_isa.specs.declared.instr.HiLoOp.TheVariants.{Mfhi, Mflo, Mthi, Mtlo}
use Rattle.mips_isa.specs.declared.instr.JumpOp.{JumpOp}
use Rattle.mips_isa.specs.declared.instr.JumpOp.TheVariants.{J, Jal}
use Rattle.mips_isa.specs.declared.instr.Instr.{Instr}
use Rattle.mips_isa.specs.declared.instr.Instr.TheVariants.{R3, Shift, Acc, HiLo, Count, Imm, Lui, Load, Store, Pref, Branch2, Branch1, Jump, Jr, Jalr, TrapIf, Stop, Sync}
use Rattle.mips_ref.proofs.Next.{acted-trap}
use Rattle.mips_ref.specs.Access.{is_store}
use Rattle.mips_ref.specs.Act.{act_of, branch1_link, hilo_write, imm_value, jump_link, r3_value, unless_overflow}
use Rattle.mips_ref.specs.Facts.{Gives}
use Rattle.mips_ref.specs.Mips.{Mips}
use Rattle.mips_ref.specs.Step.{acted, parts_of, retired_of, store_at, trap_of, values_of, write_of}

gives_register : (b : Bool) (r v : ℕ) → Gives (cond b None (Some r)) (cond b None (Some v))
gives_register true r v = tt
gives_register false r v = tt

gives_overflow : (r npc : ℕ) (o : Option ℕ) → (unless_overflow r npc o).trap ≡ None → Gives (register_written r) (unless_overflow r npc o).write
gives_overflow r npc None e = cc
gives_overflow r npc (Some v) e = gives_register (eqb r 0) r v

gives_hilo : (m : HiLoOp) (rs rd : ℕ) (x : Mips) → Gives (writes_of (HiLo m rs rd)) (write_of (HiLo m rs rd) (acted (HiLo m rs rd) x) x)
unfolding writes_of write_of act_of hilo_write
gives_hilo Mfhi rs rd x = gives_register (eqb rd 0) rd _
gives_hilo Mflo rs rd x = gives_register (eqb rd 0) rd _
gives_hilo Mthi rs rd x = tt
gives_hilo Mtlo rs rd x = tt

gives_link : (m : Branch1Op) (pc : ℕ) (rs off : ℕ) → Gives (writes_of (Branch1 m rs off)) (branch1_link m pc)
unfolding writes_of branch1_link
gives_link Blez pc rs off = tt
gives_link Bgtz pc rs off = tt
gives_link Bltz pc rs off = tt
gives_link Bgez pc rs off = tt
gives_link Bltzal pc rs off = tt
gives_link Bgezal pc rs off = tt

gives_jump : (m : JumpOp) (pc target : ℕ) → Gives (writes_of (Jump m target)) (jump_link m pc)
unfolding writes_of jump_link
gives_jump J pc target = tt
gives_jump Jal pc target = tt

write-gives : (i : Instr) (x : Mips) → (acted i x).trap ≡ None → Gives (writes_of i) (write_of i (acted i x) x)
unfolding writes_of write_of act_of
write-gives (R3 m rs rt rd) x e = gives_overflow rd x.next_pc (r3_value m (values_of (R3 m rs rt rd) x)) e
write-gives (Shift m rt rd sa) x e = gives_register (eqb rd 0) rd _
write-gives (Acc m rs rt) x e = tt
write-gives (HiLo m rs rd) x e = gives_hilo m rs rd x
write-gives (Count m rs rd) x e = gives_register (eqb rd 0) rd _
write-gives (Imm m rs rt imm) x e = gives_overflow rt x.next_pc (imm_value m imm (values_of (Imm m rs rt imm) x)) e
write-gives (Lui rt imm) x e = gives_register (eqb rt 0) rt _
write-gives (Load m rs rt off) x e = gives_register (eqb rt 0) rt _
write-gives (Store m rs rt off) x e = tt
write-gives (Pref rs hint off) x e = tt
write-gives (Branch2 m rs rt off) x e = tt
write-gives (Branch1 m rs off) x e = gives_link m x.pc rs off
write-gives (Jump m target) x e = gives_jump m x.pc target
write-gives (Jr rs) x e = tt
write-gives (Jalr rs rd) x e = gives_register (eqb rd 0) rd _
write-gives (TrapIf m rs rt code) x e = tt
write-gives (Stop m code) x e = tt
write-gives (Sync stype) x e = tt

pub retired-gives : (i : Instr) (x : Mips) → trap_of i x ≡ None → Gives (writes_of i) (retired_of i x).write
unfolding retired_of parts_of
retired-gives i x e = write-gives i x (acted-trap i x e)

pub no-store : (i : Instr) (at : Option ℕ) → is_store i ≡ false → store_at i at ≡ None
no-store (R3 m rs rt rd) at e = refl
no-store (Shift m rt rd sa) at e = refl
no-store (Acc m rs rt) at e = refl
no-store (HiLo m rs rd) at e = refl
no-store (Count m rs rd) at e = refl
no-store (Imm m rs rt imm) at e = refl
no-store (Lui rt imm) at e = refl
no-store (Load m rs rt off) at e = refl
no-store (Store m rs rt off) at e = cc
no-store (Pref rs hint off) at e = refl
no-store (Branch2 m rs rt off) at e = refl
no-store (Branch1 m rs off) at e = refl
no-store (Jump m target) at e = refl
no-store (Jr rs) at e = refl
no-store (Jalr rs rd) at e = refl
no-store (TrapIf m rs rt code) at e = refl
no-store (Stop m code) at e = refl
no-store (Sync stype) at e = refl
