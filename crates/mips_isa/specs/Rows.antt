-- How the code looks for the instruction of a word: a row for each group of instructions, and no instruction
-- where no row has the word. A working definition: what a word means is said in `Decoding`.
use Rattle.std.specs.Prelude.{ℕ, Bool, Option, Some, None, [], ◌∷◌, ◌==◌, ◌&&◌, fold, if◌then◌else◌}
use Rattle.std.specs.Bool.{then_some}
use Rattle.std.specs.Option.{option_and_then, option_or}
use Rattle.mips_isa.specs.declared.fields.Fields.{Fields}
use Rattle.mips_isa.specs.declared.instr.Instr.{Instr}
use Rattle.mips_isa.specs.declared.instr.Instr.TheVariants.{R3, Shift, Acc, HiLo, Count, Imm, Lui, Load, Store, Pref, Branch2, Branch1, Jump, Jr, Jalr, TrapIf, Stop, Sync}
use Rattle.mips_isa.specs.Codes.{Code, has_code, r3_at, shift_at, acc_at, hi_lo_at, count_at, imm_at, lui_code, load_at, store_at, pref_code, branch2_at, branch1_at, jump_at, jr_code, jalr_code, trap_if_at, stop_at, sync_code}
use Rattle.mips_isa.specs.Fields.{fields_of, part_of}
use Rattle.mips_isa.specs.Names.{moves_from_pair}

-- the member that a group has for the op and the number within it
abbrev pub member : {M : Type 0} → (ℕ → ℕ → Option M) → Fields → Option M
member at f = at f.op (part_of f.op f.rt f.funct)

-- whether the word has the code of a group of one member
abbrev pub has : Code → Fields → Bool
has code f = has_code f.op (part_of f.op f.rt f.funct) code

unfoldable pub r3_row : Fields → Option Instr
r3_row f = option_and_then (λ m. then_some (f.sa == 0) (R3 m f.rs f.rt f.rd)) (member r3_at f)

unfoldable pub shift_row : Fields → Option Instr
shift_row f = option_and_then (λ m. then_some (f.rs == 0) (Shift m f.rt f.rd f.sa)) (member shift_at f)

unfoldable pub acc_row : Fields → Option Instr
acc_row f = option_and_then (λ m. then_some ((f.rd == 0) && (f.sa == 0)) (Acc m f.rs f.rt)) (member acc_at f)

-- of the two registers a move from the pair uses rd, a move to it rs
unfoldable pub hi_lo_row : Fields → Option Instr
hi_lo_row f =
    option_and_then
    (λ m. then_some (((if moves_from_pair m then f.rs else f.rd) == 0) && (f.rt == 0) && (f.sa == 0)) (HiLo m f.rs f.rd))
    (member hi_lo_at f)

-- rt is to have the number of rd too
unfoldable pub count_row : Fields → Option Instr
count_row f = option_and_then (λ m. then_some ((f.rt == f.rd) && (f.sa == 0)) (Count m f.rs f.rd)) (member count_at f)

unfoldable pub imm_row : Fields → Option Instr
imm_row f = option_and_then (λ m. Some (Imm m f.rs f.rt f.half)) (member imm_at f)

unfoldable pub lui_row : Fields → Option Instr
lui_row f = then_some (has lui_code f && (f.rs == 0)) (Lui f.rt f.half)

unfoldable pub load_row : Fields → Option Instr
load_row f = option_and_then (λ m. Some (Load m f.rs f.rt f.half)) (member load_at f)

unfoldable pub store_row : Fields → Option Instr
store_row f = option_and_then (λ m. Some (Store m f.rs f.rt f.half)) (member store_at f)

unfoldable pub pref_row : Fields → Option Instr
pref_row f = then_some (has pref_code f) (Pref f.rs f.rt f.half)

unfoldable pub branch2_row : Fields → Option Instr
branch2_row f = option_and_then (λ m. Some (Branch2 m f.rs f.rt f.half)) (member branch2_at f)

unfoldable pub branch1_row : Fields → Option Instr
branch1_row f = option_and_then (λ m. Some (Branch1 m f.rs f.half)) (member branch1_at f)

unfoldable pub jump_row : Fields → Option Instr
jump_row f = option_and_then (λ m. Some (Jump m f.target)) (member jump_at f)

unfoldable pub jr_row : Fields → Option Instr
jr_row f = then_some (has jr_code f && (f.rt == 0) && (f.rd == 0) && (f.sa == 0)) (Jr f.rs)

unfoldable pub jalr_row : Fields → Option Instr
jalr_row f = then_some (has jalr_code f && (f.rt == 0) && (f.sa == 0)) (Jalr f.rs f.rd)

unfoldable pub trap_if_row : Fields → Option Instr
trap_if_row f = option_and_then (λ m. Some (TrapIf m f.rs f.rt f.trap_code)) (member trap_if_at f)

unfoldable pub stop_row : Fields → Option Instr
stop_row f = option_and_then (λ m. Some (Stop m f.stop_code)) (member stop_at f)

unfoldable pub sync_row : Fields → Option Instr
sync_row f = then_some (has sync_code f && (f.rs == 0) && (f.rt == 0) && (f.rd == 0)) (Sync f.sa)

-- the instruction of the row that has these fields; no two rows have the same fields
unfoldable pub instr_of : Fields → Option Instr
instr_of f =
    fold option_or None (r3_row f ∷ shift_row f ∷ acc_row f ∷ hi_lo_row f ∷ count_row f ∷ imm_row f ∷ lui_row f ∷ load_row f ∷ store_row f ∷ pref_row f ∷ branch2_row f ∷ branch1_row f ∷ jump_row f ∷ jr_row f ∷ jalr_row f ∷ trap_if_row f ∷ stop_row f ∷ sync_row f ∷ [])

unfoldable pub read_of : ℕ → Option Instr
read_of word = instr_of (fields_of word)
