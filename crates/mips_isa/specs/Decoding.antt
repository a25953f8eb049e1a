-- The instruction of a word: the one whose word it is, and none where it is the word of none. Source: MIPS32
-- manual, volume II, the encoding of each instruction; that an unused field is to be zero is this project's own.
use Rattle.std.specs.Prelude.{ℕ, Option, List, [], ◌∷◌, ◌++◌, ◌==◌, find, map, if◌then◌else◌}
use Rattle.mips_isa.specs.declared.fields.Fields.{Fields}
use Rattle.mips_isa.specs.declared.instr.HiLoOp.{HiLoOp}
use Rattle.mips_isa.specs.declared.instr.Instr.{Instr}
use Rattle.mips_isa.specs.declared.instr.Instr.TheVariants.{R3, Shift, Acc, HiLo, Count, Imm, Lui, Load, Store, Pref, Branch2, Branch1, Jump, Jr, Jalr, TrapIf, Stop, Sync}
use Rattle.mips_isa.specs.Codes.{r3_members, shift_members, acc_members, hi_lo_members, count_members, imm_members, load_members, store_members, branch2_members, branch1_members, jump_members, trap_if_members, stop_members}
use Rattle.mips_isa.specs.Encoding.{encode_of}
use Rattle.mips_isa.specs.Fields.{fields_of}
use Rattle.mips_isa.specs.Names.{moves_from_pair}

-- a move from the pair uses rd, a move to it rs
abbrev pub hi_lo_with : Fields → HiLoOp → Instr
hi_lo_with f m = if moves_from_pair m then HiLo m 0 f.rd else HiLo m f.rs 0

-- each member with these fields: no other instruction can have a word with them
unfoldable pub with_fields : Fields → List Instr
with_fields f =
    map (λ m. R3 m f.rs f.rt f.rd) r3_members ++
    map (λ m. Shift m f.rt f.rd f.sa) shift_members ++
    map (λ m. Acc m f.rs f.rt) acc_members ++
    map (hi_lo_with f) hi_lo_members ++
    map (λ m. Count m f.rs f.rd) count_members ++
    map (λ m. Imm m f.rs f.rt f.half) imm_members ++
    map (λ m. Load m f.rs f.rt f.half) load_members ++
    map (λ m. Store m f.rs f.rt f.half) store_members ++
    map (λ m. Branch2 m f.rs f.rt f.half) branch2_members ++
    map (λ m. Branch1 m f.rs f.half) branch1_members ++
    map (λ m. Jump m f.target) jump_members ++
    map (λ m. TrapIf m f.rs f.rt f.trap_code) trap_if_members ++
    map (λ m. Stop m f.stop_code) stop_members ++
    Lui f.rt f.half ∷ Pref f.rs f.rt f.half ∷ Jr f.rs ∷ Jalr f.rs f.rd ∷ Sync f.sa ∷ []

unfoldable pub decode_of : ℕ → Option Instr
decode_of word = find (λ i. encode_of i == word) (with_fields (fields_of word))
