-- The instruction that a word is decoded to fits, and its word is that word. For each group: what its row
-- gives.
use Rattle.std.proofs.Common.{◌≡◌, ℕ, ◌^◌, ◌/◌, ◌%◌, true, List, [], ◌∷◌, Option, Some, None, ◌==◌, ◌&&◌, if◌then◌else◌, refl, sym, subst, ap, ◌∙◌, arith, IfSome}
use Rattle.std.specs.Bool.{then_some}
use Rattle.std.specs.List.{fold}
use Rattle.std.specs.Option.{option_or}
use Rattle.std.proofs.lemmas.Bool.{eqb-true, and_parts}
use Rattle.std.proofs.lemmas.Option.{option_and_then_some, same_Some}
use Rattle.mips_isa.specs.declared.fields.Fields.{Fields}
use Rattle.mips_isa.specs.declared.instr.Instr.{Instr}
use Rattle.mips_isa.specs.declared.instr.Instr.TheVariants.{R3, Shift, Acc, HiLo, Count, Imm, Lui, Load, Store, Pref, Branch2, Branch1, Jump, Jr, Jalr, TrapIf, Stop, Sync}
use Rattle.mips_isa.specs.declared.instr.R3Op.{R3Op}
use Rattle.mips_isa.specs.declared.instr.R3Op.TheVariants.{Sllv}
use Rattle.mips_isa.specs.declared.instr.ShiftOp.{ShiftOp}
use Rattle.mips_isa.specs.declared.instr.ShiftOp.TheVariants.{Sll}
use Rattle.mips_isa.specs.declared.instr.AccOp.{AccOp}
use Rattle.mips_isa.specs.declared.instr.AccOp.TheVariants.{Mult}
use Rattle.mips_isa.specs.declared.instr.HiLoOp.{HiLoOp}
use Rattle.mips_isa.specs.declared.instr.HiLoOp.TheVariants.{Mfhi, Mflo, Mthi, Mtlo}
use Rattle.mips_isa.specs.declared.instr.CountOp.{CountOp}
use Rattle.mips_isa.specs.declared.instr.CountOp.TheVariants.{Clz}
use Rattle.mips_isa.specs.declared.instr.ImmOp.{ImmOp}
use Rattle.mips_isa.specs.declared.instr.LoadOp.{LoadOp}
use Rattle.mips_isa.specs.declared.instr.StoreOp.{StoreOp}
use Rattle.mips_isa.specs.declared.instr.Branch2Op.{Branch2Op}
use Rattle.mips_isa.specs.declared.instr.Branch1Op.{Branch1Op}
use Rattle.mips_isa.specs.declared.instr.Branch1Op.TheVariants.{Blez}
use Rattle.mips_isa.specs.declared.instr.JumpOp.{JumpOp}
use Rattle.mips_isa.specs.declared.instr.TrapIfOp.{TrapIfOp}
use Rattle.mips_isa.specs.declared.instr.TrapIfOp.TheVariants.{Tge}
use Rattle.mips_isa.specs.declared.instr.StopOp.{StopOp}
use Rattle.mips_isa.specs.declared.instr.StopOp.TheVariants.{Syscall}
use Rattle.mips_isa.specs.Codes.{Code, has_code, r3_code, shift_code, acc_code, hi_lo_code, count_code, imm_code, lui_code, load_code, store_code, pref_code, branch2_code, branch1_code, jump_code, jr_code, jalr_code, trap_if_code, stop_code, sync_code, r3_at, r3_members, shift_at, shift_members, acc_at, acc_members, hi_lo_at, hi_lo_members, count_at, count_members, imm_at, imm_members, load_at, load_members, store_at, store_members, branch2_at, branch2_members, branch1_at, branch1_members, jump_at, jump_members, trap_if_at, trap_if_members, stop_at, stop_members}
use Rattle.mips_isa.specs.Rows.{read_of, instr_of, member, has, r3_row, shift_row, acc_row, hi_lo_row, count_row, imm_row, lui_row, load_row, store_row, pref_row, branch2_row, branch1_row, jump_row, jr_row, jalr_row, trap_if_row, stop_row, sync_row}
use Rattle.mips_isa.specs.Encoding.{encode_of, IsWordOf}
use Rattle.mips_isa.specs.Fields.{fields_of, part_of}
use Rattle.mips_isa.specs.Fits.{FieldsFit}
use Rattle.mips_isa.specs.Names.{moves_from_pair}
use Rattle.mips_isa.specs.Words.{field}
use Rattle.mips_isa.proofs.Found.{find_passes, then_some_some, has_code_parts}
use Rattle.mips_isa.proofs.Splitting.{register_word-fields, half_word-fields, jump-fields, trap-fields, stop-fields}

-- the word's code is this one, as the table's tests have it
abbrev HasCode : ℕ → Code → Type 0
HasCode w code = has_code (w / 2 ^ 26) (part_of (w / 2 ^ 26) (field w 16 5) (w % 2 ^ 6)) code ≡ true

op_is : (w : ℕ) (code : Code) → HasCode w code → code.0 ≡ w / 2 ^ 26
op_is w code h = (has_code_parts (w / 2 ^ 26) (part_of (w / 2 ^ 26) (field w 16 5) (w % 2 ^ 6)) code h).0

part_is : (w : ℕ) (code : Code) → HasCode w code → code.1 ≡ part_of code.0 (field w 16 5) (w % 2 ^ 6)
part_is w code h =
    (has_code_parts (w / 2 ^ 26) (part_of (w / 2 ^ 26) (field w 16 5) (w % 2 ^ 6)) code h).1 ∙ ap (λ op. part_of op (field w 16 5) (w % 2 ^ 6)) (sym (op_is w code h))

-- for the members of a group whose number is funct, or rt
funct_is : (w : ℕ) (code : Code) → HasCode w code → ((rt funct : ℕ) → part_of code.0 rt funct ≡ funct) → code.1 ≡ w % 2 ^ 6
funct_is w code h of_funct = part_is w code h ∙ of_funct (field w 16 5) (w % 2 ^ 6)

r3_part : (m : R3Op) (rt funct : ℕ) → part_of (r3_code m).0 rt funct ≡ funct
r3_part Sllv rt funct = refl
r3_part m rt funct = refl

shift_part : (m : ShiftOp) (rt funct : ℕ) → part_of (shift_code m).0 rt funct ≡ funct
shift_part Sll rt funct = refl
shift_part m rt funct = refl

acc_part : (m : AccOp) (rt funct : ℕ) → part_of (acc_code m).0 rt funct ≡ funct
acc_part Mult rt funct = refl
acc_part m rt funct = refl

hi_lo_part : (m : HiLoOp) (rt funct : ℕ) → part_of (hi_lo_code m).0 rt funct ≡ funct
hi_lo_part Mfhi rt funct = refl
hi_lo_part m rt funct = refl

count_part : (m : CountOp) (rt funct : ℕ) → part_of (count_code m).0 rt funct ≡ funct
count_part Clz rt funct = refl
count_part m rt funct = refl

trap_if_part : (m : TrapIfOp) (rt funct : ℕ) → part_of (trap_if_code m).0 rt funct ≡ funct
trap_if_part Tge rt funct = refl
trap_if_part m rt funct = refl

stop_part : (m : StopOp) (rt funct : ℕ) → part_of (stop_code m).0 rt funct ≡ funct
stop_part Syscall rt funct = refl
stop_part m rt funct = refl

branch1_part : (m : Branch1Op) (rt funct : ℕ) → part_of (branch1_code m).0 rt funct ≡ rt
branch1_part Blez rt funct = refl
branch1_part m rt funct = refl

r3_made : (w : ℕ) (m : R3Op) → HasCode w (r3_code m) → field w 6 5 ≡ 0 → IsWordOf w (R3 m (field w 21 5) (field w 16 5) (field w 11 5))
unfolding encode_of
r3_made w m h z0 = record { fits = (omega arith, omega arith, omega arith); same = register_word-fields w (r3_code m).0 (r3_code m).1 (field w 21 5) (field w 16 5) (field w 11 5) 0 (op_is w (r3_code m) h) (funct_is w (r3_code m) h (r3_part m)) refl refl refl (sym z0) }

r3_row_gives : (w : ℕ) (i : Instr) → r3_row (fields_of w) ≡ Some i → IsWordOf w i
unfolding r3_row
r3_row_gives w i e =
    option_and_then_some (λ m. then_some ((field w 6 5 == 0)) (R3 m (field w 21 5) (field w 16 5) (field w 11 5))) (member r3_at (fields_of w)) i e
    (λ m at made. let both = then_some_some ((field w 6 5 == 0)) (R3 m (field w 21 5) (field w 16 5) (field w 11 5)) i made in subst (IsWordOf w) both.1 (r3_made w m (find_passes (λ x. has_code (w / 2 ^ 26) (part_of (w / 2 ^ 26) (field w 16 5) (w % 2 ^ 6)) (r3_code x)) r3_members m at) (eqb-true (field w 6 5) 0 both.0)))

shift_made : (w : ℕ) (m : ShiftOp) → HasCode w (shift_code m) → field w 21 5 ≡ 0 → IsWordOf w (Shift m (field w 16 5) (field w 11 5) (field w 6 5))
unfolding encode_of
shift_made w m h z0 = record { fits = (omega arith, omega arith, omega arith); same = register_word-fields w (shift_code m).0 (shift_code m).1 0 (field w 16 5) (field w 11 5) (field w 6 5) (op_is w (shift_code m) h) (funct_is w (shift_code m) h (shift_part m)) (sym z0) refl refl refl }

shift_row_gives : (w : ℕ) (i : Instr) → shift_row (fields_of w) ≡ Some i → IsWordOf w i
unfolding shift_row
shift_row_gives w i e =
    option_and_then_some (λ m. then_some ((field w 21 5 == 0)) (Shift m (field w 16 5) (field w 11 5) (field w 6 5))) (member shift_at (fields_of w)) i e
    (λ m at made. let both = then_some_some ((field w 21 5 == 0)) (Shift m (field w 16 5) (field w 11 5) (field w 6 5)) i made in subst (IsWordOf w) both.1 (shift_made w m (find_passes (λ x. has_code (w / 2 ^ 26) (part_of (w / 2 ^ 26) (field w 16 5) (w % 2 ^ 6)) (shift_code x)) shift_members m at) (eqb-true (field w 21 5) 0 both.0)))

acc_made : (w : ℕ) (m : AccOp) → HasCode w (acc_code m) → field w 11 5 ≡ 0 → field w 6 5 ≡ 0 → IsWordOf w (Acc m (field w 21 5) (field w 16 5))
unfolding encode_of
acc_made w m h z0 z1 = record { fits = (omega arith, omega arith); same = register_word-fields w (acc_code m).0 (acc_code m).1 (field w 21 5) (field w 16 5) 0 0 (op_is w (acc_code m) h) (funct_is w (acc_code m) h (acc_part m)) refl refl (sym z0) (sym z1) }

acc_row_gives : (w : ℕ) (i : Instr) → acc_row (fields_of w) ≡ Some i → IsWordOf w i
unfolding acc_row
acc_row_gives w i e =
    option_and_then_some (λ m. then_some ((field w 11 5 == 0) && (field w 6 5 == 0)) (Acc m (field w 21 5) (field w 16 5))) (member acc_at (fields_of w)) i e
    (λ m at made. let both = then_some_some ((field w 11 5 == 0) && (field w 6 5 == 0)) (Acc m (field w 21 5) (field w 16 5)) i made in let p1 = and_parts (field w 11 5 == 0) (field w 6 5 == 0) both.0 in subst (IsWordOf w) both.1 (acc_made w m (find_passes (λ x. has_code (w / 2 ^ 26) (part_of (w / 2 ^ 26) (field w 16 5) (w % 2 ^ 6)) (acc_code x)) acc_members m at) (eqb-true (field w 11 5) 0 p1.0) (eqb-true (field w 6 5) 0 p1.1)))

-- the field that a move from or to the pair doesn't use is zero
hi_lo_fields : (w : ℕ) (m : HiLoOp) → (if moves_from_pair m then field w 21 5 else field w 11 5) ≡ 0 → FieldsFit (HiLo m (field w 21 5) (field w 11 5))
hi_lo_fields w Mfhi z = (z, omega arith)
hi_lo_fields w Mflo z = (z, omega arith)
hi_lo_fields w Mthi z = (omega arith, z)
hi_lo_fields w Mtlo z = (omega arith, z)

hi_lo_made : (w : ℕ) (m : HiLoOp) → HasCode w (hi_lo_code m) → (if moves_from_pair m then field w 21 5 else field w 11 5) ≡ 0 → field w 16 5 ≡ 0 → field w 6 5 ≡ 0 → IsWordOf w (HiLo m (field w 21 5) (field w 11 5))
unfolding encode_of
hi_lo_made w m h z0 z1 z2 = record { fits = hi_lo_fields w m z0; same = register_word-fields w (hi_lo_code m).0 (hi_lo_code m).1 (field w 21 5) 0 (field w 11 5) 0 (op_is w (hi_lo_code m) h) (funct_is w (hi_lo_code m) h (hi_lo_part m)) refl (sym z1) refl (sym z2) }

hi_lo_row_gives : (w : ℕ) (i : Instr) → hi_lo_row (fields_of w) ≡ Some i → IsWordOf w i
unfolding hi_lo_row
hi_lo_row_gives w i e =
    option_and_then_some (λ m. then_some (((if moves_from_pair m then field w 21 5 else field w 11 5) == 0) && (field w 16 5 == 0) && (field w 6 5 == 0)) (HiLo m (field w 21 5) (field w 11 5))) (member hi_lo_at (fields_of w)) i e
    (λ m at made. let both = then_some_some (((if moves_from_pair m then field w 21 5 else field w 11 5) == 0) && (field w 16 5 == 0) && (field w 6 5 == 0)) (HiLo m (field w 21 5) (field w 11 5)) i made in let p2 = and_parts (((if moves_from_pair m then field w 21 5 else field w 11 5) == 0) && (field w 16 5 == 0)) (field w 6 5 == 0) both.0 in let p1 = and_parts ((if moves_from_pair m then field w 21 5 else field w 11 5) == 0) (field w 16 5 == 0) p2.0 in subst (IsWordOf w) both.1 (hi_lo_made w m (find_passes (λ x. has_code (w / 2 ^ 26) (part_of (w / 2 ^ 26) (field w 16 5) (w % 2 ^ 6)) (hi_lo_code x)) hi_lo_members m at) (eqb-true (if moves_from_pair m then field w 21 5 else field w 11 5) 0 p1.0) (eqb-true (field w 16 5) 0 p1.1) (eqb-true (field w 6 5) 0 p2.1)))

count_made : (w : ℕ) (m : CountOp) → HasCode w (count_code m) → field w 16 5 ≡ field w 11 5 → field w 6 5 ≡ 0 → IsWordOf w (Count m (field w 21 5) (field w 11 5))
unfolding encode_of
count_made w m h z0 z1 = record { fits = (omega arith, omega arith); same = register_word-fields w (count_code m).0 (count_code m).1 (field w 21 5) (field w 11 5) (field w 11 5) 0 (op_is w (count_code m) h) (funct_is w (count_code m) h (count_part m)) refl (sym z0) refl (sym z1) }

count_row_gives : (w : ℕ) (i : Instr) → count_row (fields_of w) ≡ Some i → IsWordOf w i
unfolding count_row
count_row_gives w i e =
    option_and_then_some (λ m. then_some ((field w 16 5 == field w 11 5) && (field w 6 5 == 0)) (Count m (field w 21 5) (field w 11 5))) (member count_at (fields_of w)) i e
    (λ m at made. let both = then_some_some ((field w 16 5 == field w 11 5) && (field w 6 5 == 0)) (Count m (field w 21 5) (field w 11 5)) i made in let p1 = and_parts (field w 16 5 == field w 11 5) (field w 6 5 == 0) both.0 in subst (IsWordOf w) both.1 (count_made w m (find_passes (λ x. has_code (w / 2 ^ 26) (part_of (w / 2 ^ 26) (field w 16 5) (w % 2 ^ 6)) (count_code x)) count_members m at) (eqb-true (field w 16 5) (field w 11 5) p1.0) (eqb-true (field w 6 5) 0 p1.1)))

imm_made : (w : ℕ) (m : ImmOp) → HasCode w (imm_code m) → IsWordOf w (Imm m (field w 21 5) (field w 16 5) (w % 2 ^ 16))
unfolding encode_of
imm_made w m h = record { fits = (omega arith, omega arith, omega arith); same = half_word-fields w (imm_code m).0 (field w 21 5) (field w 16 5) (w % 2 ^ 16) (op_is w (imm_code m) h) refl refl refl }

imm_row_gives : (w : ℕ) (i : Instr) → imm_row (fields_of w) ≡ Some i → IsWordOf w i
unfolding imm_row
imm_row_gives w i e =
    option_and_then_some (λ m. Some (Imm m (field w 21 5) (field w 16 5) (w % 2 ^ 16))) (member imm_at (fields_of w)) i e
    (λ m at made. subst (IsWordOf w) (same_Some (Imm m (field w 21 5) (field w 16 5) (w % 2 ^ 16)) i made) (imm_made w m (find_passes (λ x. has_code (w / 2 ^ 26) (part_of (w / 2 ^ 26) (field w 16 5) (w % 2 ^ 6)) (imm_code x)) imm_members m at)))

lui_made : (w : ℕ) → HasCode w lui_code → field w 21 5 ≡ 0 → IsWordOf w (Lui (field w 16 5) (w % 2 ^ 16))
unfolding encode_of
lui_made w h z0 = record { fits = (omega arith, omega arith); same = half_word-fields w lui_code.0 0 (field w 16 5) (w % 2 ^ 16) (op_is w lui_code h) (sym z0) refl refl }

lui_row_gives : (w : ℕ) (i : Instr) → lui_row (fields_of w) ≡ Some i → IsWordOf w i
unfolding lui_row
lui_row_gives w i e =
    let both = then_some_some (has lui_code (fields_of w) && (field w 21 5 == 0)) (Lui (field w 16 5) (w % 2 ^ 16)) i e in
    let p1 = and_parts (has lui_code (fields_of w)) (field w 21 5 == 0) both.0 in
    subst (IsWordOf w) both.1 (lui_made w p1.0 (eqb-true (field w 21 5) 0 p1.1))

load_made : (w : ℕ) (m : LoadOp) → HasCode w (load_code m) → IsWordOf w (Load m (field w 21 5) (field w 16 5) (w % 2 ^ 16))
unfolding encode_of
load_made w m h = record { fits = (omega arith, omega arith, omega arith); same = half_word-fields w (load_code m).0 (field w 21 5) (field w 16 5) (w % 2 ^ 16) (op_is w (load_code m) h) refl refl refl }

load_row_gives : (w : ℕ) (i : Instr) → load_row (fields_of w) ≡ Some i → IsWordOf w i
unfolding load_row
load_row_gives w i e =
    option_and_then_some (λ m. Some (Load m (field w 21 5) (field w 16 5) (w % 2 ^ 16))) (member load_at (fields_of w)) i e
    (λ m at made. subst (IsWordOf w) (same_Some (Load m (field w 21 5) (field w 16 5) (w % 2 ^ 16)) i made) (load_made w m (find_passes (λ x. has_code (w / 2 ^ 26) (part_of (w / 2 ^ 26) (field w 16 5) (w % 2 ^ 6)) (load_code x)) load_members m at)))

store_made : (w : ℕ) (m : StoreOp) → HasCode w (store_code m) → IsWordOf w (Store m (field w 21 5) (field w 16 5) (w % 2 ^ 16))
unfolding encode_of
store_made w m h = record { fits = (omega arith, omega arith, omega arith); same = half_word-fields w (store_code m).0 (field w 21 5) (field w 16 5) (w % 2 ^ 16) (op_is w (store_code m) h) refl refl refl }

store_row_gives : (w : ℕ) (i : Instr) → store_row (fields_of w) ≡ Some i → IsWordOf w i
unfolding store_row
store_row_gives w i e =
    option_and_then_some (λ m. Some (Store m (field w 21 5) (field w 16 5) (w % 2 ^ 16))) (member store_at (fields_of w)) i e
    (λ m at made. subst (IsWordOf w) (same_Some (Store m (field w 21 5) (field w 16 5) (w % 2 ^ 16)) i made) (store_made w m (find_passes (λ x. has_code (w / 2 ^ 26) (part_of (w / 2 ^ 26) (field w 16 5) (w % 2 ^ 6)) (store_code x)) store_members m at)))

pref_made : (w : ℕ) → HasCode w pref_code → IsWordOf w (Pref (field w 21 5) (field w 16 5) (w % 2 ^ 16))
unfolding encode_of
pref_made w h = record { fits = (omega arith, omega arith, omega arith); same = half_word-fields w pref_code.0 (field w 21 5) (field w 16 5) (w % 2 ^ 16) (op_is w pref_code h) refl refl refl }

pref_row_gives : (w : ℕ) (i : Instr) → pref_row (fields_of w) ≡ Some i → IsWordOf w i
unfolding pref_row
pref_row_gives w i e =
    let both = then_some_some (has pref_code (fields_of w)) (Pref (field w 21 5) (field w 16 5) (w % 2 ^ 16)) i e in
    subst (IsWordOf w) both.1 (pref_made w both.0)

branch2_made : (w : ℕ) (m : Branch2Op) → HasCode w (branch2_code m) → IsWordOf w (Branch2 m (field w 21 5) (field w 16 5) (w % 2 ^ 16))
unfolding encode_of
branch2_made w m h = record { fits = (omega arith, omega arith, omega arith); same = half_word-fields w (branch2_code m).0 (field w 21 5) (field w 16 5) (w % 2 ^ 16) (op_is w (branch2_code m) h) refl refl refl }

branch2_row_gives : (w : ℕ) (i : Instr) → branch2_row (fields_of w) ≡ Some i → IsWordOf w i
unfolding branch2_row
branch2_row_gives w i e =
    option_and_then_some (λ m. Some (Branch2 m (field w 21 5) (field w 16 5) (w % 2 ^ 16))) (member branch2_at (fields_of w)) i e
    (λ m at made. subst (IsWordOf w) (same_Some (Branch2 m (field w 21 5) (field w 16 5) (w % 2 ^ 16)) i made) (branch2_made w m (find_passes (λ x. has_code (w / 2 ^ 26) (part_of (w / 2 ^ 26) (field w 16 5) (w % 2 ^ 6)) (branch2_code x)) branch2_members m at)))

branch1_made : (w : ℕ) (m : Branch1Op) → HasCode w (branch1_code m) → IsWordOf w (Branch1 m (field w 21 5) (w % 2 ^ 16))
unfolding encode_of
branch1_made w m h = record { fits = (omega arith, omega arith); same = half_word-fields w (branch1_code m).0 (field w 21 5) (branch1_code m).1 (w % 2 ^ 16) (op_is w (branch1_code m) h) refl (part_is w (branch1_code m) h ∙ branch1_part m (field w 16 5) (w % 2 ^ 6)) refl }

branch1_row_gives : (w : ℕ) (i : Instr) → branch1_row (fields_of w) ≡ Some i → IsWordOf w i
unfolding branch1_row
branch1_row_gives w i e =
    option_and_then_some (λ m. Some (Branch1 m (field w 21 5) (w % 2 ^ 16))) (member branch1_at (fields_of w)) i e
    (λ m at made. subst (IsWordOf w) (same_Some (Branch1 m (field w 21 5) (w % 2 ^ 16)) i made) (branch1_made w m (find_passes (λ x. has_code (w / 2 ^ 26) (part_of (w / 2 ^ 26) (field w 16 5) (w % 2 ^ 6)) (branch1_code x)) branch1_members m at)))

jump_made : (w : ℕ) (m : JumpOp) → HasCode w (jump_code m) → IsWordOf w (Jump m (w % 2 ^ 26))
unfolding encode_of
jump_made w m h = record { fits = omega arith; same = jump-fields w (jump_code m).0 (op_is w (jump_code m) h) }

jump_row_gives : (w : ℕ) (i : Instr) → jump_row (fields_of w) ≡ Some i → IsWordOf w i
unfolding jump_row
jump_row_gives w i e =
    option_and_then_some (λ m. Some (Jump m (w % 2 ^ 26))) (member jump_at (fields_of w)) i e
    (λ m at made. subst (IsWordOf w) (same_Some (Jump m (w % 2 ^ 26)) i made) (jump_made w m (find_passes (λ x. has_code (w / 2 ^ 26) (part_of (w / 2 ^ 26) (field w 16 5) (w % 2 ^ 6)) (jump_code x)) jump_members m at)))

jr_made : (w : ℕ) → HasCode w jr_code → field w 16 5 ≡ 0 → field w 11 5 ≡ 0 → field w 6 5 ≡ 0 → IsWordOf w (Jr (field w 21 5))
unfolding encode_of
jr_made w h z0 z1 z2 = record { fits = omega arith; same = register_word-fields w jr_code.0 jr_code.1 (field w 21 5) 0 0 0 (op_is w jr_code h) (funct_is w jr_code h (λ rt funct. refl)) refl (sym z0) (sym z1) (sym z2) }

jr_row_gives : (w : ℕ) (i : Instr) → jr_row (fields_of w) ≡ Some i → IsWordOf w i
unfolding jr_row
jr_row_gives w i e =
    let both = then_some_some (has jr_code (fields_of w) && (field w 16 5 == 0) && (field w 11 5 == 0) && (field w 6 5 == 0)) (Jr (field w 21 5)) i e in
    let p3 = and_parts ((has jr_code (fields_of w)) && (field w 16 5 == 0) && (field w 11 5 == 0)) (field w 6 5 == 0) both.0 in
    let p2 = and_parts ((has jr_code (fields_of w)) && (field w 16 5 == 0)) (field w 11 5 == 0) p3.0 in
    let p1 = and_parts (has jr_code (fields_of w)) (field w 16 5 == 0) p2.0 in
    subst (IsWordOf w) both.1 (jr_made w p1.0 (eqb-true (field w 16 5) 0 p1.1) (eqb-true (field w 11 5) 0 p2.1) (eqb-true (field w 6 5) 0 p3.1))

jalr_made : (w : ℕ) → HasCode w jalr_code → field w 16 5 ≡ 0 → field w 6 5 ≡ 0 → IsWordOf w (Jalr (field w 21 5) (field w 11 5))
unfolding encode_of
jalr_made w h z0 z1 = record { fits = (omega arith, omega arith); same = register_word-fields w jalr_code.0 jalr_code.1 (field w 21 5) 0 (field w 11 5) 0 (op_is w jalr_code h) (funct_is w jalr_code h (λ rt funct. refl)) refl (sym z0) refl (sym z1) }

jalr_row_gives : (w : ℕ) (i : Instr) → jalr_row (fields_of w) ≡ Some i → IsWordOf w i
unfolding jalr_row
jalr_row_gives w i e =
    let both = then_some_some (has jalr_code (fields_of w) && (field w 16 5 == 0) && (field w 6 5 == 0)) (Jalr (field w 21 5) (field w 11 5)) i e in
    let p2 = and_parts ((has jalr_code (fields_of w)) && (field w 16 5 == 0)) (field w 6 5 == 0) both.0 in
    let p1 = and_parts (has jalr_code (fields_of w)) (field w 16 5 == 0) p2.0 in
    subst (IsWordOf w) both.1 (jalr_made w p1.0 (eqb-true (field w 16 5) 0 p1.1) (eqb-true (field w 6 5) 0 p2.1))

trap_if_made : (w : ℕ) (m : TrapIfOp) → HasCode w (trap_if_code m) → IsWordOf w (TrapIf m (field w 21 5) (field w 16 5) (field w 6 10))
unfolding encode_of
trap_if_made w m h = record { fits = (omega arith, omega arith, omega arith); same = trap-fields w (trap_if_code m).0 (trap_if_code m).1 (op_is w (trap_if_code m) h) (funct_is w (trap_if_code m) h (trap_if_part m)) }

trap_if_row_gives : (w : ℕ) (i : Instr) → trap_if_row (fields_of w) ≡ Some i → IsWordOf w i
unfolding trap_if_row
trap_if_row_gives w i e =
    option_and_then_some (λ m. Some (TrapIf m (field w 21 5) (field w 16 5) (field w 6 10))) (member trap_if_at (fields_of w)) i e
    (λ m at made. subst (IsWordOf w) (same_Some (TrapIf m (field w 21 5) (field w 16 5) (field w 6 10)) i made) (trap_if_made w m (find_passes (λ x. has_code (w / 2 ^ 26) (part_of (w / 2 ^ 26) (field w 16 5) (w % 2 ^ 6)) (trap_if_code x)) trap_if_members m at)))

stop_made : (w : ℕ) (m : StopOp) → HasCode w (stop_code m) → IsWordOf w (Stop m (field w 6 20))
unfolding encode_of
stop_made w m h = record { fits = omega arith; same = stop-fields w (stop_code m).0 (stop_code m).1 (op_is w (stop_code m) h) (funct_is w (stop_code m) h (stop_part m)) }

stop_row_gives : (w : ℕ) (i : Instr) → stop_row (fields_of w) ≡ Some i → IsWordOf w i
unfolding stop_row
stop_row_gives w i e =
    option_and_then_some (λ m. Some (Stop m (field w 6 20))) (member stop_at (fields_of w)) i e
    (λ m at made. subst (IsWordOf w) (same_Some (Stop m (field w 6 20)) i made) (stop_made w m (find_passes (λ x. has_code (w / 2 ^ 26) (part_of (w / 2 ^ 26) (field w 16 5) (w % 2 ^ 6)) (stop_code x)) stop_members m at)))

sync_made : (w : ℕ) → HasCode w sync_code → field w 21 5 ≡ 0 → field w 16 5 ≡ 0 → field w 11 5 ≡ 0 → IsWordOf w (Sync (field w 6 5))
unfolding encode_of
sync_made w h z0 z1 z2 = record { fits = omega arith; same = register_word-fields w sync_code.0 sync_code.1 0 0 0 (field w 6 5) (op_is w sync_code h) (funct_is w sync_code h (λ rt funct. refl)) (sym z0) (sym z1) (sym z2) refl }

sync_row_gives : (w : ℕ) (i : Instr) → sync_row (fields_of w) ≡ Some i → IsWordOf w i
unfolding sync_row
sync_row_gives w i e =
    let both = then_some_some (has sync_code (fields_of w) && (field w 21 5 == 0) && (field w 16 5 == 0) && (field w 11 5 == 0)) (Sync (field w 6 5)) i e in
    let p3 = and_parts ((has sync_code (fields_of w)) && (field w 21 5 == 0) && (field w 16 5 == 0)) (field w 11 5 == 0) both.0 in
    let p2 = and_parts ((has sync_code (fields_of w)) && (field w 21 5 == 0)) (field w 16 5 == 0) p3.0 in
    let p1 = and_parts (has sync_code (fields_of w)) (field w 21 5 == 0) p2.0 in
    subst (IsWordOf w) both.1 (sync_made w p1.0 (eqb-true (field w 21 5) 0 p1.1) (eqb-true (field w 16 5) 0 p2.1) (eqb-true (field w 11 5) 0 p3.1))

-- a fact of each row
abbrev Each : (Option Instr → Type 0) → List (Option Instr) → Type 0
Each P [] = Unit {0}
Each P (r ∷ rs) = P r × Each P rs

option_or_from : (a b : Option Instr) (i : Instr) (P : Type 0) → (a ≡ Some i → P) → (b ≡ Some i → P) → option_or a b ≡ Some i → P
option_or_from None b i P from_a from_b e = from_b e
option_or_from (Some x) b i P from_a from_b e = from_a e

-- what follows from each row, and from what stands before the rows, follows from what the rows give
fold_from : (rows : List (Option Instr)) (before : Option Instr) (i : Instr) (P : Type 0) → (before ≡ Some i → P) → Each (λ r. r ≡ Some i → P) rows → fold option_or before rows ≡ Some i → P
fold_from [] before i P from_before each e = from_before e
fold_from (r ∷ rs) before i P from_before each e =
    fold_from rs (option_or before r) i P (option_or_from before r i P from_before each.0) each.1 e

none_from : (i : Instr) (P : Type 0) → None ≡ Some i → P
none_from i P e = cc

pub read_of_gives : (w : ℕ) (i : Instr) → read_of w ≡ Some i → IsWordOf w i
unfolding read_of instr_of
read_of_gives w i e =
    fold_from (r3_row (fields_of w) ∷ shift_row (fields_of w) ∷ acc_row (fields_of w) ∷ hi_lo_row (fields_of w) ∷ count_row (fields_of w) ∷ imm_row (fields_of w) ∷ lui_row (fields_of w) ∷ load_row (fields_of w) ∷ store_row (fields_of w) ∷ pref_row (fields_of w) ∷ branch2_row (fields_of w) ∷ branch1_row (fields_of w) ∷ jump_row (fields_of w) ∷ jr_row (fields_of w) ∷ jalr_row (fields_of w) ∷ trap_if_row (fields_of w) ∷ stop_row (fields_of w) ∷ sync_row (fields_of w) ∷ []) None i (IsWordOf w i) (none_from i (IsWordOf w i))
    (r3_row_gives w i, (shift_row_gives w i, (acc_row_gives w i, (hi_lo_row_gives w i, (count_row_gives w i, (imm_row_gives w i, (lui_row_gives w i, (load_row_gives w i, (store_row_gives w i, (pref_row_gives w i, (branch2_row_gives w i, (branch1_row_gives w i, (jump_row_gives w i, (jr_row_gives w i, (jalr_row_gives w i, (trap_if_row_gives w i, (stop_row_gives w i, (sync_row_gives w i, tt)))))))))))))))))) e

-- where a row has an instruction, the word is that instruction's
if_found : (w : ℕ) (o : Option Instr) → ((i : Instr) → o ≡ Some i → IsWordOf w i) → IfSome o (IsWordOf w)
if_found w None gives = tt
if_found w (Some i) gives = gives i refl

pub r3_found : (w : ℕ) (f : Fields) → f ≡ fields_of w → IfSome (r3_row f) (IsWordOf w)
r3_found w f e = rw e (if_found w (r3_row (fields_of w)) (r3_row_gives w))

pub shift_found : (w : ℕ) (f : Fields) → f ≡ fields_of w → IfSome (shift_row f) (IsWordOf w)
shift_found w f e = rw e (if_found w (shift_row (fields_of w)) (shift_row_gives w))

pub acc_found : (w : ℕ) (f : Fields) → f ≡ fields_of w → IfSome (acc_row f) (IsWordOf w)
acc_found w f e = rw e (if_found w (acc_row (fields_of w)) (acc_row_gives w))

pub hi_lo_found : (w : ℕ) (f : Fields) → f ≡ fields_of w → IfSome (hi_lo_row f) (IsWordOf w)
hi_lo_found w f e = rw e (if_found w (hi_lo_row (fields_of w)) (hi_lo_row_gives w))

pub imm_found : (w : ℕ) (f : Fields) → f ≡ fields_of w → IfSome (imm_row f) (IsWordOf w)
imm_found w f e = rw e (if_found w (imm_row (fields_of w)) (imm_row_gives w))

pub lui_found : (w : ℕ) (f : Fields) → f ≡ fields_of w → IfSome (lui_row f) (IsWordOf w)
lui_found w f e = rw e (if_found w (lui_row (fields_of w)) (lui_row_gives w))

pub load_found : (w : ℕ) (f : Fields) → f ≡ fields_of w → IfSome (load_row f) (IsWordOf w)
load_found w f e = rw e (if_found w (load_row (fields_of w)) (load_row_gives w))

pub store_found : (w : ℕ) (f : Fields) → f ≡ fields_of w → IfSome (store_row f) (IsWordOf w)
store_found w f e = rw e (if_found w (store_row (fields_of w)) (store_row_gives w))

pub branch2_found : (w : ℕ) (f : Fields) → f ≡ fields_of w → IfSome (branch2_row f) (IsWordOf w)
branch2_found w f e = rw e (if_found w (branch2_row (fields_of w)) (branch2_row_gives w))

pub branch1_found : (w : ℕ) (f : Fields) → f ≡ fields_of w → IfSome (branch1_row f) (IsWordOf w)
branch1_found w f e = rw e (if_found w (branch1_row (fields_of w)) (branch1_row_gives w))

pub jump_found : (w : ℕ) (f : Fields) → f ≡ fields_of w → IfSome (jump_row f) (IsWordOf w)
jump_found w f e = rw e (if_found w (jump_row (fields_of w)) (jump_row_gives w))

pub jr_found : (w : ℕ) (f : Fields) → f ≡ fields_of w → IfSome (jr_row f) (IsWordOf w)
jr_found w f e = rw e (if_found w (jr_row (fields_of w)) (jr_row_gives w))

pub ruleset found = (r3_found, shift_found, acc_found, hi_lo_found, imm_found, lui_found, load_found, store_found, branch2_found, branch1_found, jump_found, jr_found)
