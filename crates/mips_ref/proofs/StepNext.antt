-- An instruction that isn't control comes to the same before another next address, but for where it goes.
use Rattle.std.proofs.Common.{◌≡◌, ℕ, false, None, refl, sym, ap, ◌∙◌}
use Rattle.mips_isa.specs.Kinds.{is_control, kind_of}
use Rattle.mips_isa.specs.Words.{word_sum}
use Rattle.mips_isa.specs.declared.instr.Instr.{Instr}
use Rattle.mips_isa.specs.declared.instr.Instr.TheVariants.{R3, Shift, Acc, HiLo, Count, Imm, Lui, Load, Store, Pref, Branch2, Branch1, Jump, Jr, Jalr, TrapIf, Stop, Sync}
use Rattle.mips_ref.proofs.Next.{acted-trap, goes_on_plain}
use Rattle.mips_ref.specs.Access.{stored_of}
use Rattle.mips_ref.specs.Act.{act_of}
use Rattle.mips_ref.specs.Facts.{SameButNext, placed}
use Rattle.mips_ref.specs.Memory.{or_zero}
use Rattle.mips_ref.specs.Mips.{Mips}
use Rattle.mips_ref.specs.Step.{parts_of, retired_of, trap_in, trap_of, values_of, write_of}
use Rattle.mips_ref.specs.declared.records.Act.{Act}
use Rattle.mips_ref.specs.declared.records.Retired.{Retired}

-- an act with another next address
to : ℕ → Act → Act
to n a = record a { next = n }

write-to : (i : Instr) (a : Act) (n : ℕ) (x : Mips) (pc npc : ℕ) → write_of i (to n a) (placed x pc npc) ≡ write_of i a x
unfolding write_of to
write-to (R3 m rs rt rd) a n x pc npc = refl
write-to (Shift m rt rd sa) a n x pc npc = refl
write-to (Acc m rs rt) a n x pc npc = refl
write-to (HiLo m rs rd) a n x pc npc = refl
write-to (Count m rs rd) a n x pc npc = refl
write-to (Imm m rs rt imm) a n x pc npc = refl
write-to (Lui rt imm) a n x pc npc = refl
write-to (Load m rs rt off) a n x pc npc = refl
write-to (Store m rs rt off) a n x pc npc = refl
write-to (Pref rs hint off) a n x pc npc = refl
write-to (Branch2 m rs rt off) a n x pc npc = refl
write-to (Branch1 m rs off) a n x pc npc = refl
write-to (Jump m target) a n x pc npc = refl
write-to (Jr rs) a n x pc npc = refl
write-to (Jalr rs rd) a n x pc npc = refl
write-to (TrapIf m rs rt code) a n x pc npc = refl
write-to (Stop m code) a n x pc npc = refl
write-to (Sync stype) a n x pc npc = refl

parts-to : (i : Instr) (a : Act) (n : ℕ) (x : Mips) (pc npc : ℕ) → parts_of i (to n a) (placed x pc npc) ≡ record (parts_of i a x) { next = n }
unfolding parts_of to values_of
parts-to i a n x pc npc =
    λ j. record {
      write = write-to i a n x pc npc j;
      next = n;
      taken = a.taken;
      at = a.at;
      mask = (stored_of i (or_zero a.at) (values_of i x).rt x.memory.big).0;
      word = (stored_of i (or_zero a.at) (values_of i x).rt x.memory.big).1;
    }

abbrev next_in : Retired → ℕ → Retired
next_in r n = record r { next = n }

same-to : (a b : Act) → SameButNext a b → b ≡ to b.next a
unfolding to
same-to a b s = λ j. record { write = sym s.write j; next = b.next; taken = sym s.taken j; at = sym s.at j; trap = sym s.trap j }

-- its trap is the same
pub trap-plain : (i : Instr) (x : Mips) (npc other : ℕ) → is_control (kind_of i) ≡ false
    → trap_of i (placed x x.pc other) ≡ trap_of i (placed x x.pc npc)
unfolding trap_of values_of to
trap-plain i x npc other plain =
    let v = values_of i x in
    let same = same-to (act_of i x.pc npc v) (act_of i x.pc other v) ((goes_on_plain i x.pc v plain).same npc other) in
    ap (λ c. trap_in i c (placed x x.pc other)) same

-- and so are its parts, but for where it goes
pub parts-plain : (i : Instr) (x : Mips) (npc other : ℕ) → is_control (kind_of i) ≡ false → trap_of i (placed x x.pc npc) ≡ None
    → retired_of i (placed x x.pc other) ≡ record (retired_of i (placed x x.pc npc)) { next = word_sum other 4 }
unfolding trap_of retired_of values_of to
parts-plain i x npc other plain none =
    let v = values_of i x in
    let on = goes_on_plain i x.pc v plain in
    let a = act_of i x.pc npc v in
    let b = act_of i x.pc other v in
    let is : b ≡ to b.next a = same-to a b (on.same npc other) in
    ap (λ c. parts_of i c (placed x x.pc other)) is ∙ parts-to i a b.next (placed x x.pc npc) x.pc other
    ∙ ap (λ n. next_in (parts_of i a (placed x x.pc npc)) n) (on.next other (sym (on.same npc other).trap ∙ acted-trap i (placed x x.pc npc) none))
