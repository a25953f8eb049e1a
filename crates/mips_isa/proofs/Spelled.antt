-- The instructions with the fields of a word: they fit, and the one whose word it is is among them.
use Rattle.std.proofs.Common.{◌≡◌, ℕ, List, [], ◌∷◌, ◌++◌, map, ◌⊎◌, inl, inr, refl, sym, subst, ap, arith, lit<}
use Rattle.mips_isa.specs.declared.fields.Fields.{Fields}
use Rattle.mips_isa.specs.declared.instr.Instr.{Instr}
use Rattle.mips_isa.specs.declared.instr.Instr.TheVariants.{R3, Shift, Acc, HiLo, Count, Imm, Lui, Load, Store, Pref, Branch2, Branch1, Jump, Jr, Jalr, TrapIf, Stop, Sync}
use Rattle.mips_isa.specs.declared.instr.R3Op.{R3Op}
use Rattle.mips_isa.specs.declared.instr.R3Op.TheVariants.{Sllv, Srlv, Srav, Movz, Movn, Add, Addu, Sub, Subu, And, Or, Xor, Nor, Slt, Sltu, Mul}
use Rattle.mips_isa.specs.declared.instr.ShiftOp.{ShiftOp}
use Rattle.mips_isa.specs.declared.instr.ShiftOp.TheVariants.{Sll, Srl, Sra}
use Rattle.mips_isa.specs.declared.instr.AccOp.{AccOp}
use Rattle.mips_isa.specs.declared.instr.AccOp.TheVariants.{Mult, Multu, Div, Divu, Madd, Maddu, Msub, Msubu}
use Rattle.mips_isa.specs.declared.instr.HiLoOp.{HiLoOp}
use Rattle.mips_isa.specs.declared.instr.HiLoOp.TheVariants.{Mfhi, Mflo, Mthi, Mtlo}
use Rattle.mips_isa.specs.declared.instr.CountOp.{CountOp}
use Rattle.mips_isa.specs.declared.instr.CountOp.TheVariants.{Clz, Clo}
use Rattle.mips_isa.specs.declared.instr.ImmOp.{ImmOp}
use Rattle.mips_isa.specs.declared.instr.ImmOp.TheVariants.{Addi, Addiu, Slti, Sltiu, Andi, Ori, Xori}
use Rattle.mips_isa.specs.declared.instr.LoadOp.{LoadOp}
use Rattle.mips_isa.specs.declared.instr.LoadOp.TheVariants.{Lb, Lh, Lwl, Lw, Lbu, Lhu, Lwr}
use Rattle.mips_isa.specs.declared.instr.StoreOp.{StoreOp}
use Rattle.mips_isa.specs.declared.instr.StoreOp.TheVariants.{Sb, Sh, Swl, Sw, Swr}
use Rattle.mips_isa.specs.declared.instr.Branch2Op.{Branch2Op}
use Rattle.mips_isa.specs.declared.instr.Branch2Op.TheVariants.{Beq, Bne}
use Rattle.mips_isa.specs.declared.instr.Branch1Op.{Branch1Op}
use Rattle.mips_isa.specs.declared.instr.Branch1Op.TheVariants.{Blez, Bgtz, Bltz, Bgez, Bltzal, Bgezal}
use Rattle.mips_isa.specs.declared.instr.JumpOp.{JumpOp}
use Rattle.mips_isa.specs.declared.instr.JumpOp.TheVariants.{J, Jal}
use Rattle.mips_isa.specs.declared.instr.TrapIfOp.{TrapIfOp}
use Rattle.mips_isa.specs.declared.instr.TrapIfOp.TheVariants.{Tge, Tgeu, Tlt, Tltu, Teq, Tne}
use Rattle.mips_isa.specs.declared.instr.StopOp.{StopOp}
use Rattle.mips_isa.specs.declared.instr.StopOp.TheVariants.{Syscall, Break}
use Rattle.mips_isa.specs.Codes.{r3_code, r3_members, shift_code, shift_members, acc_code, acc_members, hi_lo_code, hi_lo_members, count_code, count_members, imm_code, imm_members, load_code, load_members, store_code, store_members, branch2_code, branch2_members, branch1_code, branch1_members, jump_code, jump_members, trap_if_code, trap_if_members, stop_code, stop_members, lui_code, pref_code, jr_code, jalr_code, sync_code}
use Rattle.mips_isa.specs.Decoding.{hi_lo_with, with_fields}
use Rattle.mips_isa.specs.Encoding.{encode_of}
use Rattle.mips_isa.specs.Fields.{fields_of}
use Rattle.mips_isa.specs.Fits.{FieldsFit}
use Rattle.mips_isa.proofs.EncodedRows.{r3_part_fits, shift_part_fits, acc_part_fits, hi_lo_part_fits, count_part_fits, trap_if_part_fits, stop_part_fits, branch1_part_fits, hi_lo_fits}
use Rattle.mips_isa.proofs.Splitting.{fields_of-register_word, fields_of-half_word, fields_of-jump, fields_of-trap, fields_of-stop}

-- a fact of each item
abbrev pub Each : {X : Type 0} → (X → Type 0) → List X → Type 0
Each P [] = Unit {0}
Each P (x ∷ xs) = P x × Each P xs

each-append : {X : Type 0} (P : X → Type 0) (xs ys : List X) → Each P xs → Each P ys → Each P (xs ++ ys)
each-append P [] ys a b = b
each-append P (x ∷ xs) ys a b = (a.0, each-append P xs ys a.1 b)

each-map : {M X : Type 0} (P : X → Type 0) (f : M → X) (ms : List M) → ((m : M) → P (f m)) → Each P (map f ms)
each-map P f [] h = tt
each-map P f (m ∷ ms) h = (h m, each-map P f ms h)

-- an item of a list
abbrev pub Among : {X : Type 0} → X → List X → Type 0
Among x [] = ⊥
Among x (y ∷ ys) = (y ≡ x) ⊎ Among x ys

among-left : {X : Type 0} (x : X) (xs ys : List X) → Among x xs → Among x (xs ++ ys)
among-left x [] ys h = absurd h
among-left x (y ∷ xs) ys (inl e) = inl e
among-left x (y ∷ xs) ys (inr h) = inr (among-left x xs ys h)

among-right : {X : Type 0} (x : X) (xs ys : List X) → Among x ys → Among x (xs ++ ys)
among-right x [] ys h = h
among-right x (y ∷ xs) ys h = inr (among-right x xs ys h)

among-map : {M X : Type 0} (f : M → X) (m : M) (ms : List M) → Among m ms → Among (f m) (map f ms)
among-map f m [] h = absurd h
among-map f m (n ∷ ms) (inl e) = inl (ap f e)
among-map f m (n ∷ ms) (inr h) = inr (among-map f m ms h)

r3_member : (m : R3Op) → Among m r3_members
r3_member Sllv = inl refl
r3_member Srlv = inr (inl refl)
r3_member Srav = inr (inr (inl refl))
r3_member Movz = inr (inr (inr (inl refl)))
r3_member Movn = inr (inr (inr (inr (inl refl))))
r3_member Add = inr (inr (inr (inr (inr (inl refl)))))
r3_member Addu = inr (inr (inr (inr (inr (inr (inl refl))))))
r3_member Sub = inr (inr (inr (inr (inr (inr (inr (inl refl)))))))
r3_member Subu = inr (inr (inr (inr (inr (inr (inr (inr (inl refl))))))))
r3_member And = inr (inr (inr (inr (inr (inr (inr (inr (inr (inl refl)))))))))
r3_member Or = inr (inr (inr (inr (inr (inr (inr (inr (inr (inr (inl refl))))))))))
r3_member Xor = inr (inr (inr (inr (inr (inr (inr (inr (inr (inr (inr (inl refl)))))))))))
r3_member Nor = inr (inr (inr (inr (inr (inr (inr (inr (inr (inr (inr (inr (inl refl))))))))))))
r3_member Slt = inr (inr (inr (inr (inr (inr (inr (inr (inr (inr (inr (inr (inr (inl refl)))))))))))))
r3_member Sltu = inr (inr (inr (inr (inr (inr (inr (inr (inr (inr (inr (inr (inr (inr (inl refl))))))))))))))
r3_member Mul = inr (inr (inr (inr (inr (inr (inr (inr (inr (inr (inr (inr (inr (inr (inr (inl refl)))))))))))))))

shift_member : (m : ShiftOp) → Among m shift_members
shift_member Sll = inl refl
shift_member Srl = inr (inl refl)
shift_member Sra = inr (inr (inl refl))

acc_member : (m : AccOp) → Among m acc_members
acc_member Mult = inl refl
acc_member Multu = inr (inl refl)
acc_member Div = inr (inr (inl refl))
acc_member Divu = inr (inr (inr (inl refl)))
acc_member Madd = inr (inr (inr (inr (inl refl))))
acc_member Maddu = inr (inr (inr (inr (inr (inl refl)))))
acc_member Msub = inr (inr (inr (inr (inr (inr (inl refl))))))
acc_member Msubu = inr (inr (inr (inr (inr (inr (inr (inl refl)))))))

hi_lo_member : (m : HiLoOp) → Among m hi_lo_members
hi_lo_member Mfhi = inl refl
hi_lo_member Mflo = inr (inl refl)
hi_lo_member Mthi = inr (inr (inl refl))
hi_lo_member Mtlo = inr (inr (inr (inl refl)))

count_member : (m : CountOp) → Among m count_members
count_member Clz = inl refl
count_member Clo = inr (inl refl)

imm_member : (m : ImmOp) → Among m imm_members
imm_member Addi = inl refl
imm_member Addiu = inr (inl refl)
imm_member Slti = inr (inr (inl refl))
imm_member Sltiu = inr (inr (inr (inl refl)))
imm_member Andi = inr (inr (inr (inr (inl refl))))
imm_member Ori = inr (inr (inr (inr (inr (inl refl)))))
imm_member Xori = inr (inr (inr (inr (inr (inr (inl refl))))))

load_member : (m : LoadOp) → Among m load_members
load_member Lb = inl refl
load_member Lh = inr (inl refl)
load_member Lwl = inr (inr (inl refl))
load_member Lw = inr (inr (inr (inl refl)))
load_member Lbu = inr (inr (inr (inr (inl refl))))
load_member Lhu = inr (inr (inr (inr (inr (inl refl)))))
load_member Lwr = inr (inr (inr (inr (inr (inr (inl refl))))))

store_member : (m : StoreOp) → Among m store_members
store_member Sb = inl refl
store_member Sh = inr (inl refl)
store_member Swl = inr (inr (inl refl))
store_member Sw = inr (inr (inr (inl refl)))
store_member Swr = inr (inr (inr (inr (inl refl))))

branch2_member : (m : Branch2Op) → Among m branch2_members
branch2_member Beq = inl refl
branch2_member Bne = inr (inl refl)

branch1_member : (m : Branch1Op) → Among m branch1_members
branch1_member Blez = inl refl
branch1_member Bgtz = inr (inl refl)
branch1_member Bltz = inr (inr (inl refl))
branch1_member Bgez = inr (inr (inr (inl refl)))
branch1_member Bltzal = inr (inr (inr (inr (inl refl))))
branch1_member Bgezal = inr (inr (inr (inr (inr (inl refl)))))

jump_member : (m : JumpOp) → Among m jump_members
jump_member J = inl refl
jump_member Jal = inr (inl refl)

trap_if_member : (m : TrapIfOp) → Among m trap_if_members
trap_if_member Tge = inl refl
trap_if_member Tgeu = inr (inl refl)
trap_if_member Tlt = inr (inr (inl refl))
trap_if_member Tltu = inr (inr (inr (inl refl)))
trap_if_member Teq = inr (inr (inr (inr (inl refl))))
trap_if_member Tne = inr (inr (inr (inr (inr (inl refl)))))

stop_member : (m : StopOp) → Among m stop_members
stop_member Syscall = inl refl
stop_member Break = inr (inl refl)

-- the list from each group on
abbrev singles : Fields → List Instr
singles f = Lui f.rt f.half ∷ Pref f.rs f.rt f.half ∷ Jr f.rs ∷ Jalr f.rs f.rd ∷ Sync f.sa ∷ []

abbrev from_stop : Fields → List Instr
from_stop f = map (λ m. Stop m f.stop_code) stop_members ++ singles f

abbrev from_trap_if : Fields → List Instr
from_trap_if f = map (λ m. TrapIf m f.rs f.rt f.trap_code) trap_if_members ++ from_stop f

abbrev from_jump : Fields → List Instr
from_jump f = map (λ m. Jump m f.target) jump_members ++ from_trap_if f

abbrev from_branch1 : Fields → List Instr
from_branch1 f = map (λ m. Branch1 m f.rs f.half) branch1_members ++ from_jump f

abbrev from_branch2 : Fields → List Instr
from_branch2 f = map (λ m. Branch2 m f.rs f.rt f.half) branch2_members ++ from_branch1 f

abbrev from_store : Fields → List Instr
from_store f = map (λ m. Store m f.rs f.rt f.half) store_members ++ from_branch2 f

abbrev from_load : Fields → List Instr
from_load f = map (λ m. Load m f.rs f.rt f.half) load_members ++ from_store f

abbrev from_imm : Fields → List Instr
from_imm f = map (λ m. Imm m f.rs f.rt f.half) imm_members ++ from_load f

abbrev from_count : Fields → List Instr
from_count f = map (λ m. Count m f.rs f.rd) count_members ++ from_imm f

abbrev from_hi_lo : Fields → List Instr
from_hi_lo f = map (hi_lo_with f) hi_lo_members ++ from_count f

abbrev from_acc : Fields → List Instr
from_acc f = map (λ m. Acc m f.rs f.rt) acc_members ++ from_hi_lo f

abbrev from_shift : Fields → List Instr
from_shift f = map (λ m. Shift m f.rt f.rd f.sa) shift_members ++ from_acc f

r3_among : (f : Fields) (m : R3Op) → Among (R3 m f.rs f.rt f.rd) (with_fields f)
unfolding with_fields
r3_among f m =
    among-left (R3 m f.rs f.rt f.rd) (map (λ m. R3 m f.rs f.rt f.rd) r3_members) (from_shift f) (among-map (λ m. R3 m f.rs f.rt f.rd) m r3_members (r3_member m))

shift_among : (f : Fields) (m : ShiftOp) → Among (Shift m f.rt f.rd f.sa) (with_fields f)
unfolding with_fields
shift_among f m =
    among-right (Shift m f.rt f.rd f.sa) (map (λ m. R3 m f.rs f.rt f.rd) r3_members) (from_shift f)
    (among-left (Shift m f.rt f.rd f.sa) (map (λ m. Shift m f.rt f.rd f.sa) shift_members) (from_acc f) (among-map (λ m. Shift m f.rt f.rd f.sa) m shift_members (shift_member m)))

acc_among : (f : Fields) (m : AccOp) → Among (Acc m f.rs f.rt) (with_fields f)
unfolding with_fields
acc_among f m =
    among-right (Acc m f.rs f.rt) (map (λ m. R3 m f.rs f.rt f.rd) r3_members) (from_shift f)
    (among-right (Acc m f.rs f.rt) (map (λ m. Shift m f.rt f.rd f.sa) shift_members) (from_acc f)
    (among-left (Acc m f.rs f.rt) (map (λ m. Acc m f.rs f.rt) acc_members) (from_hi_lo f) (among-map (λ m. Acc m f.rs f.rt) m acc_members (acc_member m))))

hi_lo_among : (f : Fields) (m : HiLoOp) → Among (hi_lo_with f m) (with_fields f)
unfolding with_fields
hi_lo_among f m =
    among-right (hi_lo_with f m) (map (λ m. R3 m f.rs f.rt f.rd) r3_members) (from_shift f)
    (among-right (hi_lo_with f m) (map (λ m. Shift m f.rt f.rd f.sa) shift_members) (from_acc f)
    (among-right (hi_lo_with f m) (map (λ m. Acc m f.rs f.rt) acc_members) (from_hi_lo f)
    (among-left (hi_lo_with f m) (map (hi_lo_with f) hi_lo_members) (from_count f) (among-map (hi_lo_with f) m hi_lo_members (hi_lo_member m)))))

count_among : (f : Fields) (m : CountOp) → Among (Count m f.rs f.rd) (with_fields f)
unfolding with_fields
count_among f m =
    among-right (Count m f.rs f.rd) (map (λ m. R3 m f.rs f.rt f.rd) r3_members) (from_shift f)
    (among-right (Count m f.rs f.rd) (map (λ m. Shift m f.rt f.rd f.sa) shift_members) (from_acc f)
    (among-right (Count m f.rs f.rd) (map (λ m. Acc m f.rs f.rt) acc_members) (from_hi_lo f)
    (among-right (Count m f.rs f.rd) (map (hi_lo_with f) hi_lo_members) (from_count f)
    (among-left (Count m f.rs f.rd) (map (λ m. Count m f.rs f.rd) count_members) (from_imm f) (among-map (λ m. Count m f.rs f.rd) m count_members (count_member m))))))

imm_among : (f : Fields) (m : ImmOp) → Among (Imm m f.rs f.rt f.half) (with_fields f)
unfolding with_fields
imm_among f m =
    among-right (Imm m f.rs f.rt f.half) (map (λ m. R3 m f.rs f.rt f.rd) r3_members) (from_shift f)
    (among-right (Imm m f.rs f.rt f.half) (map (λ m. Shift m f.rt f.rd f.sa) shift_members) (from_acc f)
    (among-right (Imm m f.rs f.rt f.half) (map (λ m. Acc m f.rs f.rt) acc_members) (from_hi_lo f)
    (among-right (Imm m f.rs f.rt f.half) (map (hi_lo_with f) hi_lo_members) (from_count f)
    (among-right (Imm m f.rs f.rt f.half) (map (λ m. Count m f.rs f.rd) count_members) (from_imm f)
    (among-left (Imm m f.rs f.rt f.half) (map (λ m. Imm m f.rs f.rt f.half) imm_members) (from_load f) (among-map (λ m. Imm m f.rs f.rt f.half) m imm_members (imm_member m)))))))

load_among : (f : Fields) (m : LoadOp) → Among (Load m f.rs f.rt f.half) (with_fields f)
unfolding with_fields
load_among f m =
    among-right (Load m f.rs f.rt f.half) (map (λ m. R3 m f.rs f.rt f.rd) r3_members) (from_shift f)
    (among-right (Load m f.rs f.rt f.half) (map (λ m. Shift m f.rt f.rd f.sa) shift_members) (from_acc f)
    (among-right (Load m f.rs f.rt f.half) (map (λ m. Acc m f.rs f.rt) acc_members) (from_hi_lo f)
    (among-right (Load m f.rs f.rt f.half) (map (hi_lo_with f) hi_lo_members) (from_count f)
    (among-right (Load m f.rs f.rt f.half) (map (λ m. Count m f.rs f.rd) count_members) (from_imm f)
    (among-right (Load m f.rs f.rt f.half) (map (λ m. Imm m f.rs f.rt f.half) imm_members) (from_load f)
    (among-left (Load m f.rs f.rt f.half) (map (λ m. Load m f.rs f.rt f.half) load_members) (from_store f) (among-map (λ m. Load m f.rs f.rt f.half) m load_members (load_member m))))))))

store_among : (f : Fields) (m : StoreOp) → Among (Store m f.rs f.rt f.half) (with_fields f)
unfolding with_fields
store_among f m =
    among-right (Store m f.rs f.rt f.half) (map (λ m. R3 m f.rs f.rt f.rd) r3_members) (from_shift f)
    (among-right (Store m f.rs f.rt f.half) (map (λ m. Shift m f.rt f.rd f.sa) shift_members) (from_acc f)
    (among-right (Store m f.rs f.rt f.half) (map (λ m. Acc m f.rs f.rt) acc_members) (from_hi_lo f)
    (among-right (Store m f.rs f.rt f.half) (map (hi_lo_with f) hi_lo_members) (from_count f)
    (among-right (Store m f.rs f.rt f.half) (map (λ m. Count m f.rs f.rd) count_members) (from_imm f)
    (among-right (Store m f.rs f.rt f.half) (map (λ m. Imm m f.rs f.rt f.half) imm_members) (from_load f)
    (among-right (Store m f.rs f.rt f.half) (map (λ m. Load m f.rs f.rt f.half) load_members) (from_store f)
    (among-left (Store m f.rs f.rt f.half) (map (λ m. Store m f.rs f.rt f.half) store_members) (from_branch2 f) (among-map (λ m. Store m f.rs f.rt f.half) m store_members (store_member m)))))))))

branch2_among : (f : Fields) (m : Branch2Op) → Among (Branch2 m f.rs f.rt f.half) (with_fields f)
unfolding with_fields
branch2_among f m =
    among-right (Branch2 m f.rs f.rt f.half) (map (λ m. R3 m f.rs f.rt f.rd) r3_members) (from_shift f)
    (among-right (Branch2 m f.rs f.rt f.half) (map (λ m. Shift m f.rt f.rd f.sa) shift_members) (from_acc f)
    (among-right (Branch2 m f.rs f.rt f.half) (map (λ m. Acc m f.rs f.rt) acc_members) (from_hi_lo f)
    (among-right (Branch2 m f.rs f.rt f.half) (map (hi_lo_with f) hi_lo_members) (from_count f)
    (among-right (Branch2 m f.rs f.rt f.half) (map (λ m. Count m f.rs f.rd) count_members) (from_imm f)
    (among-right (Branch2 m f.rs f.rt f.half) (map (λ m. Imm m f.rs f.rt f.half) imm_members) (from_load f)
    (among-right (Branch2 m f.rs f.rt f.half) (map (λ m. Load m f.rs f.rt f.half) load_members) (from_store f)
    (among-right (Branch2 m f.rs f.rt f.half) (map (λ m. Store m f.rs f.rt f.half) store_members) (from_branch2 f)
    (among-left (Branch2 m f.rs f.rt f.half) (map (λ m. Branch2 m f.rs f.rt f.half) branch2_members) (from_branch1 f) (among-map (λ m. Branch2 m f.rs f.rt f.half) m branch2_members (branch2_member m))))))))))

branch1_among : (f : Fields) (m : Branch1Op) → Among (Branch1 m f.rs f.half) (with_fields f)
unfolding with_fields
branch1_among f m =
    among-right (Branch1 m f.rs f.half) (map (λ m. R3 m f.rs f.rt f.rd) r3_members) (from_shift f)
    (among-right (Branch1 m f.rs f.half) (map (λ m. Shift m f.rt f.rd f.sa) shift_members) (from_acc f)
    (among-right (Branch1 m f.rs f.half) (map (λ m. Acc m f.rs f.rt) acc_members) (from_hi_lo f)
    (among-right (Branch1 m f.rs f.half) (map (hi_lo_with f) hi_lo_members) (from_count f)
    (among-right (Branch1 m f.rs f.half) (map (λ m. Count m f.rs f.rd) count_members) (from_imm f)
    (among-right (Branch1 m f.rs f.half) (map (λ m. Imm m f.rs f.rt f.half) imm_members) (from_load f)
    (among-right (Branch1 m f.rs f.half) (map (λ m. Load m f.rs f.rt f.half) load_members) (from_store f)
    (among-right (Branch1 m f.rs f.half) (map (λ m. Store m f.rs f.rt f.half) store_members) (from_branch2 f)
    (among-right (Branch1 m f.rs f.half) (map (λ m. Branch2 m f.rs f.rt f.half) branch2_members) (from_branch1 f)
    (among-left (Branch1 m f.rs f.half) (map (λ m. Branch1 m f.rs f.half) branch1_members) (from_jump f) (among-map (λ m. Branch1 m f.rs f.half) m branch1_members (branch1_member m)))))))))))

jump_among : (f : Fields) (m : JumpOp) → Among (Jump m f.target) (with_fields f)
unfolding with_fields
jump_among f m =
    among-right (Jump m f.target) (map (λ m. R3 m f.rs f.rt f.rd) r3_members) (from_shift f)
    (among-right (Jump m f.target) (map (λ m. Shift m f.rt f.rd f.sa) shift_members) (from_acc f)
    (among-right (Jump m f.target) (map (λ m. Acc m f.rs f.rt) acc_members) (from_hi_lo f)
    (among-right (Jump m f.target) (map (hi_lo_with f) hi_lo_members) (from_count f)
    (among-right (Jump m f.target) (map (λ m. Count m f.rs f.rd) count_members) (from_imm f)
    (among-right (Jump m f.target) (map (λ m. Imm m f.rs f.rt f.half) imm_members) (from_load f)
    (among-right (Jump m f.target) (map (λ m. Load m f.rs f.rt f.half) load_members) (from_store f)
    (among-right (Jump m f.target) (map (λ m. Store m f.rs f.rt f.half) store_members) (from_branch2 f)
    (among-right (Jump m f.target) (map (λ m. Branch2 m f.rs f.rt f.half) branch2_members) (from_branch1 f)
    (among-right (Jump m f.target) (map (λ m. Branch1 m f.rs f.half) branch1_members) (from_jump f)
    (among-left (Jump m f.target) (map (λ m. Jump m f.target) jump_members) (from_trap_if f) (among-map (λ m. Jump m f.target) m jump_members (jump_member m))))))))))))

trap_if_among : (f : Fields) (m : TrapIfOp) → Among (TrapIf m f.rs f.rt f.trap_code) (with_fields f)
unfolding with_fields
trap_if_among f m =
    among-right (TrapIf m f.rs f.rt f.trap_code) (map (λ m. R3 m f.rs f.rt f.rd) r3_members) (from_shift f)
    (among-right (TrapIf m f.rs f.rt f.trap_code) (map (λ m. Shift m f.rt f.rd f.sa) shift_members) (from_acc f)
    (among-right (TrapIf m f.rs f.rt f.trap_code) (map (λ m. Acc m f.rs f.rt) acc_members) (from_hi_lo f)
    (among-right (TrapIf m f.rs f.rt f.trap_code) (map (hi_lo_with f) hi_lo_members) (from_count f)
    (among-right (TrapIf m f.rs f.rt f.trap_code) (map (λ m. Count m f.rs f.rd) count_members) (from_imm f)
    (among-right (TrapIf m f.rs f.rt f.trap_code) (map (λ m. Imm m f.rs f.rt f.half) imm_members) (from_load f)
    (among-right (TrapIf m f.rs f.rt f.trap_code) (map (λ m. Load m f.rs f.rt f.half) load_members) (from_store f)
    (among-right (TrapIf m f.rs f.rt f.trap_code) (map (λ m. Store m f.rs f.rt f.half) store_members) (from_branch2 f)
    (among-right (TrapIf m f.rs f.rt f.trap_code) (map (λ m. Branch2 m f.rs f.rt f.half) branch2_members) (from_branch1 f)
    (among-right (TrapIf m f.rs f.rt f.trap_code) (map (λ m. Branch1 m f.rs f.half) branch1_members) (from_jump f)
    (among-right (TrapIf m f.rs f.rt f.trap_code) (map (λ m. Jump m f.target) jump_members) (from_trap_if f)
    (among-left (TrapIf m f.rs f.rt f.trap_code) (map (λ m. TrapIf m f.rs f.rt f.trap_code) trap_if_members) (from_stop f) (among-map (λ m. TrapIf m f.rs f.rt f.trap_code) m trap_if_members (trap_if_member m)))))))))))))

stop_among : (f : Fields) (m : StopOp) → Among (Stop m f.stop_code) (with_fields f)
unfolding with_fields
stop_among f m =
    among-right (Stop m f.stop_code) (map (λ m. R3 m f.rs f.rt f.rd) r3_members) (from_shift f)
    (among-right (Stop m f.stop_code) (map (λ m. Shift m f.rt f.rd f.sa) shift_members) (from_acc f)
    (among-right (Stop m f.stop_code) (map (λ m. Acc m f.rs f.rt) acc_members) (from_hi_lo f)
    (among-right (Stop m f.stop_code) (map (hi_lo_with f) hi_lo_members) (from_count f)
    (among-right (Stop m f.stop_code) (map (λ m. Count m f.rs f.rd) count_members) (from_imm f)
    (among-right (Stop m f.stop_code) (map (λ m. Imm m f.rs f.rt f.half) imm_members) (from_load f)
    (among-right (Stop m f.stop_code) (map (λ m. Load m f.rs f.rt f.half) load_members) (from_store f)
    (among-right (Stop m f.stop_code) (map (λ m. Store m f.rs f.rt f.half) store_members) (from_branch2 f)
    (among-right (Stop m f.stop_code) (map (λ m. Branch2 m f.rs f.rt f.half) branch2_members) (from_branch1 f)
    (among-right (Stop m f.stop_code) (map (λ m. Branch1 m f.rs f.half) branch1_members) (from_jump f)
    (among-right (Stop m f.stop_code) (map (λ m. Jump m f.target) jump_members) (from_trap_if f)
    (among-right (Stop m f.stop_code) (map (λ m. TrapIf m f.rs f.rt f.trap_code) trap_if_members) (from_stop f)
    (among-left (Stop m f.stop_code) (map (λ m. Stop m f.stop_code) stop_members) (singles f) (among-map (λ m. Stop m f.stop_code) m stop_members (stop_member m))))))))))))))

single_among : (f : Fields) (i : Instr) → Among i (singles f) → Among i (with_fields f)
unfolding with_fields
single_among f i h =
    among-right i (map (λ m. R3 m f.rs f.rt f.rd) r3_members) (from_shift f)
    (among-right i (map (λ m. Shift m f.rt f.rd f.sa) shift_members) (from_acc f)
    (among-right i (map (λ m. Acc m f.rs f.rt) acc_members) (from_hi_lo f)
    (among-right i (map (hi_lo_with f) hi_lo_members) (from_count f)
    (among-right i (map (λ m. Count m f.rs f.rd) count_members) (from_imm f)
    (among-right i (map (λ m. Imm m f.rs f.rt f.half) imm_members) (from_load f)
    (among-right i (map (λ m. Load m f.rs f.rt f.half) load_members) (from_store f)
    (among-right i (map (λ m. Store m f.rs f.rt f.half) store_members) (from_branch2 f)
    (among-right i (map (λ m. Branch2 m f.rs f.rt f.half) branch2_members) (from_branch1 f)
    (among-right i (map (λ m. Branch1 m f.rs f.half) branch1_members) (from_jump f)
    (among-right i (map (λ m. Jump m f.target) jump_members) (from_trap_if f)
    (among-right i (map (λ m. TrapIf m f.rs f.rt f.trap_code) trap_if_members) (from_stop f)
    (among-right i (map (λ m. Stop m f.stop_code) stop_members) (singles f)
    (h)))))))))))))

hi_lo_with_fits : (w : ℕ) (m : HiLoOp) → FieldsFit (hi_lo_with (fields_of w) m)
hi_lo_with_fits w Mfhi = (refl, omega arith)
hi_lo_with_fits w Mflo = (refl, omega arith)
hi_lo_with_fits w Mthi = (omega arith, refl)
hi_lo_with_fits w Mtlo = (omega arith, refl)

pub with_fields_fit : (w : ℕ) → Each FieldsFit (with_fields (fields_of w))
unfolding with_fields
with_fields_fit w =
    let f = fields_of w in
    each-append FieldsFit (map (λ m. R3 m f.rs f.rt f.rd) r3_members) (from_shift f) (each-map FieldsFit (λ m. R3 m f.rs f.rt f.rd) r3_members (λ m. (omega arith, omega arith, omega arith)))
    (each-append FieldsFit (map (λ m. Shift m f.rt f.rd f.sa) shift_members) (from_acc f) (each-map FieldsFit (λ m. Shift m f.rt f.rd f.sa) shift_members (λ m. (omega arith, omega arith, omega arith)))
    (each-append FieldsFit (map (λ m. Acc m f.rs f.rt) acc_members) (from_hi_lo f) (each-map FieldsFit (λ m. Acc m f.rs f.rt) acc_members (λ m. (omega arith, omega arith)))
    (each-append FieldsFit (map (hi_lo_with f) hi_lo_members) (from_count f) (each-map FieldsFit (hi_lo_with f) hi_lo_members (hi_lo_with_fits w))
    (each-append FieldsFit (map (λ m. Count m f.rs f.rd) count_members) (from_imm f) (each-map FieldsFit (λ m. Count m f.rs f.rd) count_members (λ m. (omega arith, omega arith)))
    (each-append FieldsFit (map (λ m. Imm m f.rs f.rt f.half) imm_members) (from_load f) (each-map FieldsFit (λ m. Imm m f.rs f.rt f.half) imm_members (λ m. (omega arith, omega arith, omega arith)))
    (each-append FieldsFit (map (λ m. Load m f.rs f.rt f.half) load_members) (from_store f) (each-map FieldsFit (λ m. Load m f.rs f.rt f.half) load_members (λ m. (omega arith, omega arith, omega arith)))
    (each-append FieldsFit (map (λ m. Store m f.rs f.rt f.half) store_members) (from_branch2 f) (each-map FieldsFit (λ m. Store m f.rs f.rt f.half) store_members (λ m. (omega arith, omega arith, omega arith)))
    (each-append FieldsFit (map (λ m. Branch2 m f.rs f.rt f.half) branch2_members) (from_branch1 f) (each-map FieldsFit (λ m. Branch2 m f.rs f.rt f.half) branch2_members (λ m. (omega arith, omega arith, omega arith)))
    (each-append FieldsFit (map (λ m. Branch1 m f.rs f.half) branch1_members) (from_jump f) (each-map FieldsFit (λ m. Branch1 m f.rs f.half) branch1_members (λ m. (omega arith, omega arith)))
    (each-append FieldsFit (map (λ m. Jump m f.target) jump_members) (from_trap_if f) (each-map FieldsFit (λ m. Jump m f.target) jump_members (λ m. omega arith))
    (each-append FieldsFit (map (λ m. TrapIf m f.rs f.rt f.trap_code) trap_if_members) (from_stop f) (each-map FieldsFit (λ m. TrapIf m f.rs f.rt f.trap_code) trap_if_members (λ m. (omega arith, omega arith, omega arith)))
    (each-append FieldsFit (map (λ m. Stop m f.stop_code) stop_members) (singles f) (each-map FieldsFit (λ m. Stop m f.stop_code) stop_members (λ m. omega arith))
    ((omega arith, omega arith), ((omega arith, omega arith, omega arith), (omega arith, ((omega arith, omega arith), (omega arith, tt)))))))))))))))))

hi_lo_is : (m : HiLoOp) (rs rd : ℕ) (f : Fields) → FieldsFit (HiLo m rs rd) → f.rs ≡ rs → f.rd ≡ rd → hi_lo_with f m ≡ HiLo m rs rd
hi_lo_is Mfhi rs rd f fits a b = λ j. HiLo Mfhi (sym fits.0 j) (b j)
hi_lo_is Mflo rs rd f fits a b = λ j. HiLo Mflo (sym fits.0 j) (b j)
hi_lo_is Mthi rs rd f fits a b = λ j. HiLo Mthi (a j) (sym fits.1 j)
hi_lo_is Mtlo rs rd f fits a b = λ j. HiLo Mtlo (a j) (sym fits.1 j)

hi_lo_spelled : (m : HiLoOp) (rs rd : ℕ) (f : Fields) → FieldsFit (HiLo m rs rd) → f.rs ≡ rs → f.rd ≡ rd → Among (HiLo m rs rd) (with_fields f)
hi_lo_spelled m rs rd f fits a b = subst (λ i. Among i (with_fields f)) (hi_lo_is m rs rd f fits a b) (hi_lo_among f m)

-- the instruction whose word it is has the word's fields
pub spelled : (i : Instr) → FieldsFit i → Among i (with_fields (fields_of (encode_of i)))
unfolding encode_of
spelled (R3 m rs rt rd) fits =
    let split = fields_of-register_word (r3_code m).0 (r3_code m).1 rs rt rd 0 (r3_part_fits m) fits.0 fits.1 fits.2 (lit< tt) in
    let f : Fields = record split.0 { op = (r3_code m).0; rs = rs; rt = rt; rd = rd; sa = 0; funct = (r3_code m).1 } in
    subst (λ f. Among (R3 m rs rt rd) (with_fields f)) (sym split.1) (r3_among f m)
spelled (Shift m rt rd sa) fits =
    let split = fields_of-register_word (shift_code m).0 (shift_code m).1 0 rt rd sa (shift_part_fits m) (lit< tt) fits.0 fits.1 fits.2 in
    let f : Fields = record split.0 { op = (shift_code m).0; rs = 0; rt = rt; rd = rd; sa = sa; funct = (shift_code m).1 } in
    subst (λ f. Among (Shift m rt rd sa) (with_fields f)) (sym split.1) (shift_among f m)
spelled (Acc m rs rt) fits =
    let split = fields_of-register_word (acc_code m).0 (acc_code m).1 rs rt 0 0 (acc_part_fits m) fits.0 fits.1 (lit< tt) (lit< tt) in
    let f : Fields = record split.0 { op = (acc_code m).0; rs = rs; rt = rt; rd = 0; sa = 0; funct = (acc_code m).1 } in
    subst (λ f. Among (Acc m rs rt) (with_fields f)) (sym split.1) (acc_among f m)
spelled (HiLo m rs rd) fits =
    let both = hi_lo_fits m rs rd fits in
    let split = fields_of-register_word (hi_lo_code m).0 (hi_lo_code m).1 rs 0 rd 0 (hi_lo_part_fits m) both.0 (lit< tt) both.1 (lit< tt) in
    let f : Fields = record split.0 { op = (hi_lo_code m).0; rs = rs; rt = 0; rd = rd; sa = 0; funct = (hi_lo_code m).1 } in
    subst (λ f. Among (HiLo m rs rd) (with_fields f)) (sym split.1) (hi_lo_spelled m rs rd f fits refl refl)
spelled (Count m rs rd) fits =
    let split = fields_of-register_word (count_code m).0 (count_code m).1 rs rd rd 0 (count_part_fits m) fits.0 fits.1 fits.1 (lit< tt) in
    let f : Fields = record split.0 { op = (count_code m).0; rs = rs; rt = rd; rd = rd; sa = 0; funct = (count_code m).1 } in
    subst (λ f. Among (Count m rs rd) (with_fields f)) (sym split.1) (count_among f m)
spelled (Imm m rs rt imm) fits =
    let split = fields_of-half_word (imm_code m).0 rs rt imm fits.0 fits.1 fits.2 in
    let f : Fields = record split.0 { op = (imm_code m).0; rs = rs; rt = rt; half = imm } in
    subst (λ f. Among (Imm m rs rt imm) (with_fields f)) (sym split.1) (imm_among f m)
spelled (Lui rt imm) fits =
    let split = fields_of-half_word lui_code.0 0 rt imm (lit< tt) fits.0 fits.1 in
    let f : Fields = record split.0 { op = lui_code.0; rs = 0; rt = rt; half = imm } in
    subst (λ f. Among (Lui rt imm) (with_fields f)) (sym split.1) (single_among f (Lui rt imm) (inl refl))
spelled (Load m rs rt off) fits =
    let split = fields_of-half_word (load_code m).0 rs rt off fits.0 fits.1 fits.2 in
    let f : Fields = record split.0 { op = (load_code m).0; rs = rs; rt = rt; half = off } in
    subst (λ f. Among (Load m rs rt off) (with_fields f)) (sym split.1) (load_among f m)
spelled (Store m rs rt off) fits =
    let split = fields_of-half_word (store_code m).0 rs rt off fits.0 fits.1 fits.2 in
    let f : Fields = record split.0 { op = (store_code m).0; rs = rs; rt = rt; half = off } in
    subst (λ f. Among (Store m rs rt off) (with_fields f)) (sym split.1) (store_among f m)
spelled (Pref rs hint off) fits =
    let split = fields_of-half_word pref_code.0 rs hint off fits.0 fits.1 fits.2 in
    let f : Fields = record split.0 { op = pref_code.0; rs = rs; rt = hint; half = off } in
    subst (λ f. Among (Pref rs hint off) (with_fields f)) (sym split.1) (single_among f (Pref rs hint off) (inr (inl refl)))
spelled (Branch2 m rs rt off) fits =
    let split = fields_of-half_word (branch2_code m).0 rs rt off fits.0 fits.1 fits.2 in
    let f : Fields = record split.0 { op = (branch2_code m).0; rs = rs; rt = rt; half = off } in
    subst (λ f. Among (Branch2 m rs rt off) (with_fields f)) (sym split.1) (branch2_among f m)
spelled (Branch1 m rs off) fits =
    let split = fields_of-half_word (branch1_code m).0 rs (branch1_code m).1 off fits.0 (branch1_part_fits m) fits.1 in
    let f : Fields = record split.0 { op = (branch1_code m).0; rs = rs; rt = (branch1_code m).1; half = off } in
    subst (λ f. Among (Branch1 m rs off) (with_fields f)) (sym split.1) (branch1_among f m)
spelled (Jump m target) fits =
    let split = fields_of-jump (jump_code m).0 target fits in
    let f : Fields = record split.0 { op = (jump_code m).0; target = target } in
    subst (λ f. Among (Jump m target) (with_fields f)) (sym split.1) (jump_among f m)
spelled (Jr rs) fits =
    let split = fields_of-register_word jr_code.0 jr_code.1 rs 0 0 0 (lit< tt) fits (lit< tt) (lit< tt) (lit< tt) in
    let f : Fields = record split.0 { op = jr_code.0; rs = rs; rt = 0; rd = 0; sa = 0; funct = jr_code.1 } in
    subst (λ f. Among (Jr rs) (with_fields f)) (sym split.1) (single_among f (Jr rs) (inr (inr (inl refl))))
spelled (Jalr rs rd) fits =
    let split = fields_of-register_word jalr_code.0 jalr_code.1 rs 0 rd 0 (lit< tt) fits.0 (lit< tt) fits.1 (lit< tt) in
    let f : Fields = record split.0 { op = jalr_code.0; rs = rs; rt = 0; rd = rd; sa = 0; funct = jalr_code.1 } in
    subst (λ f. Among (Jalr rs rd) (with_fields f)) (sym split.1) (single_among f (Jalr rs rd) (inr (inr (inr (inl refl)))))
spelled (TrapIf m rs rt code) fits =
    let split = fields_of-trap (trap_if_code m).0 rs rt code (trap_if_code m).1 fits.0 fits.1 fits.2 (trap_if_part_fits m) in
    let f : Fields = record split.0 { op = (trap_if_code m).0; rs = rs; rt = rt; trap_code = code; funct = (trap_if_code m).1 } in
    subst (λ f. Among (TrapIf m rs rt code) (with_fields f)) (sym split.1) (trap_if_among f m)
spelled (Stop m code) fits =
    let split = fields_of-stop (stop_code m).0 code (stop_code m).1 fits (stop_part_fits m) in
    let f : Fields = record split.0 { op = (stop_code m).0; stop_code = code; funct = (stop_code m).1 } in
    subst (λ f. Among (Stop m code) (with_fields f)) (sym split.1) (stop_among f m)
spelled (Sync stype) fits =
    let split = fields_of-register_word sync_code.0 sync_code.1 0 0 0 stype (lit< tt) (lit< tt) (lit< tt) (lit< tt) fits in
    let f : Fields = record split.0 { op = sync_code.0; rs = 0; rt = 0; rd = 0; sa = stype; funct = sync_code.1 } in
    subst (λ f. Among (Sync stype) (with_fields f)) (sym split.1) (single_among f (Sync stype) (inr (inr (inr (inr (inl refl))))))
