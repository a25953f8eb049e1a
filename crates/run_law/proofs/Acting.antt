-- What one step leaves, by the kind of its instruction.
use Rattle.std.proofs.Common.{◌≡◌, ◌≢◌, inl, inr, IfSome, ◌∙◌, refl, sym, ap, subst, ℕ, ◌<◌, ◌^◌, Bool, true, false, List, [], ◌∷◌, length, drop, arith, length-set, get_or-set_other, get_or-set_same}
use Rattle.std.specs.Prelude.{◌==◌, not, if◌then◌else◌, Option, Some, None, slice_index, slice_set}
use Rattle.std.proofs.lemmas.Bool.{eqb-true}
use Rattle.std.proofs.lemmas.Grind.{common_steps}
use Rattle.mips_isa.specs.Kinds.{kind_of, is_control, acc_kind, branch_kind, r3_kind}
use Rattle.mips_isa.specs.Names.{writes_of, branch_links}
use Rattle.mips_isa.specs.Words.{word_sum, low_word, branch_target}
use Rattle.mips_isa.specs.declared.instr.Instr.{Instr}
use Rattle.mips_isa.specs.declared.instr.Instr.TheVariants.{R3, Shift, Acc, HiLo, Count, Imm, Lui, Load, Store, Pref, Branch2, Branch1, Jump, Jr, Jalr, TrapIf, Stop, Sync}
use Rattle.mips_isa.specs.declared.instr.AccOp.{AccOp}
use Rattle.mips_isa.specs.declared.instr.AccOp.TheVariants.{Div, Divu}
use Rattle.mips_isa.specs.declared.instr.R3Op.{R3Op}
use Rattle.mips_isa.specs.declared.instr.R3Op.TheVariants.{Mul}
use Rattle.mips_isa.specs.declared.instr.Branch2Op.{Branch2Op}
use Rattle.mips_isa.specs.declared.instr.Branch1Op.{Branch1Op}
use Rattle.mips_isa.specs.declared.instr.Branch1Op.TheVariants.{Blez, Bgtz, Bltz, Bgez, Bltzal, Bgezal}
use Rattle.mips_isa.specs.declared.instr.JumpOp.TheVariants.{J, Jal}
use Rattle.mips_isa.specs.declared.instr.Kind.TheVariants as kind
use Rattle.mips_isa.proofs.Relation.{decode_of_fits}
use Rattle.mips_ref.specs.Act.{act_of, branch1_taken, less_signed}
use Rattle.mips_ref.specs.Facts.{WentBy}
use Rattle.mips_ref.specs.Mips.{Mips, register_of}
use Rattle.mips_ref.specs.Step.{Stepped, changed, step_of, late_trap, retired_of, parts_of, registers_after, returns_after, mismatch, operands_of, values_of}
use Rattle.mips_ref.specs.declared.records.Step.TheVariants.{Went}
use Rattle.mips_ref.specs.declared.records.TrapKind.{TrapKind}
use Rattle.mips_ref.specs.declared.records.TrapKind.TheVariants.{ReturnMismatch}
use Rattle.mips_ref.proofs.Changed.{name-kept}
use Rattle.mips_ref.proofs.Names.{IsName, writes_named}
use Rattle.mips_ref.proofs.Next.{first-none, next_pc_plain}
use Rattle.mips_ref.proofs.Steps.{step-went, went-next_pc, outcome}
use Rattle.run_law.specs.Advance.{Advances, Returns, StepsBy, AreRegisters}
use Rattle.run_law.specs.Instructions.{is_direct, target_of}

-- the control instructions of a flow graph
pub data Control : Instr → Type 0 where
  Compares : (m : Branch2Op) (rs rt off : ℕ) → Control (Branch2 m rs rt off)
  Tests : (m : Branch1Op) (rs off : ℕ) → branch_links m ≡ false → Control (Branch1 m rs off)
  Jumps : (target : ℕ) → Control (Jump J target)
  Calls : (target : ℕ) → Control (Jump Jal target)
  LinksOn : (off : ℕ) → Control (Branch1 Bgezal 0 off)
  GoesBack : Control (Jr 31)

r3_plain : (m : R3Op) → is_control (r3_kind m) ≡ false
r3_plain Mul = refl
r3_plain m = refl

acc_plain : (m : AccOp) → is_control (acc_kind m) ≡ false
acc_plain Div = refl
acc_plain Divu = refl
acc_plain m = refl

never : {P : Type 0} (b : Bool) → b ≡ false → b ≡ true → P
never b fails holds = absurd (let e : false ≡ true = sym fails ∙ holds in cc)

always_links : (b : Bool) (rs off : ℕ) → (rs == 0) ≡ b → b ≡ true → Control (Branch1 Bgezal rs off)
always_links true rs off is e = subst (λ r. Control (Branch1 Bgezal r off)) (sym (eqb-true rs 0 is)) (LinksOn off)
always_links false rs off is e = cc

is_return : (b : Bool) (rs : ℕ) → (rs == 31) ≡ b → b ≡ true → Control (Jr rs)
is_return true rs is e = subst (λ r. Control (Jr r)) (sym (eqb-true rs 31 is)) GoesBack
is_return false rs is e = cc

pub control_of : (i : Instr) → is_direct i ≡ true → is_control (kind_of i) ≡ true → Control i
unfolding is_direct kind_of
control_of (R3 m rs rt rd) direct control = never (is_control (r3_kind m)) (r3_plain m) control
control_of (Shift m rt rd sa) direct control = cc
control_of (Acc m rs rt) direct control = never (is_control (acc_kind m)) (acc_plain m) control
control_of (HiLo m rs rd) direct control = cc
control_of (Count m rs rd) direct control = cc
control_of (Imm m rs rt imm) direct control = cc
control_of (Lui rt imm) direct control = cc
control_of (Load m rs rt off) direct control = cc
control_of (Store m rs rt off) direct control = cc
control_of (Pref rs hint off) direct control = cc
control_of (Branch2 m rs rt off) direct control = Compares m rs rt off
control_of (Branch1 Blez rs off) direct control = Tests Blez rs off refl
control_of (Branch1 Bgtz rs off) direct control = Tests Bgtz rs off refl
control_of (Branch1 Bltz rs off) direct control = Tests Bltz rs off refl
control_of (Branch1 Bgez rs off) direct control = Tests Bgez rs off refl
control_of (Branch1 Bltzal rs off) direct control = cc
control_of (Branch1 Bgezal rs off) direct control = always_links (rs == 0) rs off refl direct
control_of (Jump J target) direct control = Jumps target
control_of (Jump Jal target) direct control = Calls target
control_of (Jr rs) direct control = is_return (rs == 31) rs refl direct
control_of (Jalr rs rd) direct control = cc
control_of (TrapIf m rs rt code) direct control = cc
control_of (Stop m code) direct control = cc
control_of (Sync stype) direct control = cc

-- the parts of a step that goes
pub went_is : (x : Mips) (word : ℕ) (i : Instr) → WentBy x word i → (step_of x).answer ≡ Went
went_is x word i w = ap (λ (s : Stepped). s.answer) (step-went x word i w)

pub went_pc : (x : Mips) (word : ℕ) (i : Instr) → WentBy x word i → (step_of x).state.pc ≡ x.next_pc
unfolding changed
went_pc x word i w = ap (λ (s : Stepped). s.state.pc) (step-went x word i w)

pub went_returns : (x : Mips) (word : ℕ) (i : Instr) → WentBy x word i
    → (step_of x).state.returns ≡ returns_after i (retired_of i x).taken x.pc x.returns
unfolding changed
went_returns x word i w = ap (λ (s : Stepped). s.state.returns) (step-went x word i w)

pub went_registers : (x : Mips) (word : ℕ) (i : Instr) → WentBy x word i
    → (step_of x).state.registers ≡ registers_after (writes_of i) (retired_of i x).write x.registers
unfolding changed
went_registers x word i w = ap (λ (s : Stepped). s.state.registers) (step-went x word i w)

-- an instruction that isn't control leaves the return stack
link_is_control : (t : Bool) → is_control (if t then kind.Call else kind.Branch) ≡ true
link_is_control true = refl
link_is_control false = refl

return_is_control : (t : Bool) → is_control (if t then kind.Return else kind.Indirect) ≡ true
return_is_control true = refl
return_is_control false = refl

leaves_returns : (i : Instr) (taken : Bool) (pc : ℕ) (stack : List ℕ) → is_control (kind_of i) ≡ false
    → returns_after i taken pc stack ≡ stack
unfolding kind_of
leaves_returns (R3 m rs rt rd) taken pc stack plain = refl
leaves_returns (Shift m rt rd sa) taken pc stack plain = refl
leaves_returns (Acc m rs rt) taken pc stack plain = refl
leaves_returns (HiLo m rs rd) taken pc stack plain = refl
leaves_returns (Count m rs rd) taken pc stack plain = refl
leaves_returns (Imm m rs rt imm) taken pc stack plain = refl
leaves_returns (Lui rt imm) taken pc stack plain = refl
leaves_returns (Load m rs rt off) taken pc stack plain = refl
leaves_returns (Store m rs rt off) taken pc stack plain = refl
leaves_returns (Pref rs hint off) taken pc stack plain = refl
leaves_returns (Branch2 m rs rt off) taken pc stack plain = refl
leaves_returns (Branch1 Blez rs off) taken pc stack plain = refl
leaves_returns (Branch1 Bgtz rs off) taken pc stack plain = refl
leaves_returns (Branch1 Bltz rs off) taken pc stack plain = refl
leaves_returns (Branch1 Bgez rs off) taken pc stack plain = refl
leaves_returns (Branch1 Bltzal rs off) taken pc stack plain = cc
leaves_returns (Branch1 Bgezal rs off) taken pc stack plain = let e = link_is_control (rs == 0) in cc
leaves_returns (Jump J target) taken pc stack plain = refl
leaves_returns (Jump Jal target) taken pc stack plain = cc
leaves_returns (Jr rs) taken pc stack plain = let e = return_is_control (rs == 31) in cc
leaves_returns (Jalr rs rd) taken pc stack plain = cc
leaves_returns (TrapIf m rs rt code) taken pc stack plain = refl
leaves_returns (Stop m code) taken pc stack plain = refl
leaves_returns (Sync stype) taken pc stack plain = refl

pub plain_advances : (x : Mips) (word : ℕ) (i : Instr) → WentBy x word i → is_control (kind_of i) ≡ false
    → Advances x (step_of x).state (word_sum x.next_pc 4) x.returns
plain_advances x word i w plain = record {
  pc = went_pc x word i w;
  next_pc = next_pc_plain x word i w plain;
  returns_are = went_returns x word i w ∙ leaves_returns i (retired_of i x).taken x.pc x.returns plain;
}

-- branches
branch_next : (x : Mips) (i : Instr) → Control i → kind_of i ≡ kind.Branch
    → (retired_of i x).next ≡ (if (retired_of i x).taken then target_of i x.pc else word_sum x.next_pc 4)
unfolding retired_of parts_of act_of target_of kind_of
branch_next x _ (Compares m rs rt off) is = refl
branch_next x _ (Tests m rs off no_link) is = refl
branch_next x _ (Jumps target) is = cc
branch_next x _ (Calls target) is = cc
branch_next x _ (LinksOn off) is = refl
branch_next x _ GoesBack is = cc

test_returns : (m : Branch1Op) (rs off : ℕ) (taken : Bool) (pc : ℕ) (stack : List ℕ) → branch_links m ≡ false
    → returns_after (Branch1 m rs off) taken pc stack ≡ stack
test_returns Blez rs off taken pc stack e = refl
test_returns Bgtz rs off taken pc stack e = refl
test_returns Bltz rs off taken pc stack e = refl
test_returns Bgez rs off taken pc stack e = refl
test_returns Bltzal rs off taken pc stack e = cc
test_returns Bgezal rs off taken pc stack e = cc

branch_returns : (i : Instr) (taken : Bool) (pc : ℕ) (stack : List ℕ) → Control i → kind_of i ≡ kind.Branch
    → returns_after i taken pc stack ≡ stack
unfolding kind_of
branch_returns _ taken pc stack (Compares m rs rt off) is = refl
branch_returns _ taken pc stack (Tests m rs off no_link) is = test_returns m rs off taken pc stack no_link
branch_returns _ taken pc stack (Jumps target) is = cc
branch_returns _ taken pc stack (Calls target) is = cc
branch_returns _ taken pc stack (LinksOn off) is = cc
branch_returns _ taken pc stack GoesBack is = cc

pub branch_advances : (x : Mips) (word : ℕ) (i : Instr) → WentBy x word i → is_direct i ≡ true
    → kind_of i ≡ kind.Branch
    → Advances x (step_of x).state (if (retired_of i x).taken then target_of i x.pc else word_sum x.next_pc 4) x.returns
branch_advances x word i w direct is =
    let control = control_of i direct (ap is_control is) in
    record {
      pc = went_pc x word i w;
      next_pc = went-next_pc x word i w ∙ branch_next x i control is;
      returns_are = went_returns x word i w ∙ branch_returns i (retired_of i x).taken x.pc x.returns control is;
    }

-- jumps
jump_next : (x : Mips) (i : Instr) → Control i → kind_of i ≡ kind.Jump → (retired_of i x).next ≡ target_of i x.pc
unfolding retired_of parts_of act_of target_of kind_of
jump_next x _ (Compares m rs rt off) is = cc
jump_next x _ (Tests m rs off no_link) is = tests m rs is
  where
    tests : (m : Branch1Op) (rs : ℕ) {P : Type 0} → branch_kind m rs ≡ kind.Jump → P
    tests Bgezal rs is = absurd (by_test (rs == 0) is)
      where
        by_test : (b : Bool) → (if b then kind.Call else kind.Branch) ≡ kind.Jump → ⊥
        by_test true is = cc
        by_test false is = cc
    tests m rs is = cc
jump_next x _ (Jumps target) is = refl
jump_next x _ (Calls target) is = cc
jump_next x _ (LinksOn off) is = cc
jump_next x _ GoesBack is = cc

jump_returns : (i : Instr) (taken : Bool) (pc : ℕ) (stack : List ℕ) → Control i → kind_of i ≡ kind.Jump
    → returns_after i taken pc stack ≡ stack
unfolding kind_of
jump_returns _ taken pc stack (Compares m rs rt off) is = refl
jump_returns _ taken pc stack (Tests m rs off no_link) is = test_returns m rs off taken pc stack no_link
jump_returns _ taken pc stack (Jumps target) is = refl
jump_returns _ taken pc stack (Calls target) is = cc
jump_returns _ taken pc stack (LinksOn off) is = cc
jump_returns _ taken pc stack GoesBack is = cc

pub jump_advances : (x : Mips) (word : ℕ) (i : Instr) → WentBy x word i → is_direct i ≡ true → kind_of i ≡ kind.Jump
    → Advances x (step_of x).state (target_of i x.pc) x.returns
jump_advances x word i w direct is =
    let control = control_of i direct (ap is_control is) in
    record {
      pc = went_pc x word i w;
      next_pc = went-next_pc x word i w ∙ jump_next x i control is;
      returns_are = went_returns x word i w ∙ jump_returns i (retired_of i x).taken x.pc x.returns control is;
    }

tests_no_call : (m : Branch1Op) (rs : ℕ) → branch_links m ≡ false → branch_kind m rs ≡ kind.Call → ⊥
tests_no_call Bltzal rs unlinked is = cc
tests_no_call Bgezal rs unlinked is = cc
tests_no_call Blez rs unlinked is = cc
tests_no_call Bgtz rs unlinked is = cc
tests_no_call Bltz rs unlinked is = cc
tests_no_call Bgez rs unlinked is = cc

call_taken : (x : Mips) (i : Instr) → register_of x 0 ≡ 0 → Control i → kind_of i ≡ kind.Call
    → (retired_of i x).taken ≡ true
unfolding retired_of parts_of act_of values_of operands_of kind_of branch1_taken
call_taken x _ zero (Compares m rs rt off) is = cc
call_taken x _ zero (Tests m rs off no_link) is = absurd (tests_no_call m rs no_link is)
call_taken x _ zero (Jumps target) is = cc
call_taken x _ zero (Calls target) is = refl
call_taken x _ zero (LinksOn off) is = ap (λ n. not (less_signed n 0)) zero
call_taken x _ zero GoesBack is = cc

taken_next : (x : Mips) (i : Instr) → Control i → kind_of i ≡ kind.Call → (retired_of i x).taken ≡ true
    → (retired_of i x).next ≡ target_of i x.pc
unfolding retired_of parts_of act_of target_of kind_of
taken_next x _ (Compares m rs rt off) is taken = cc
taken_next x _ (Tests m rs off no_link) is taken = absurd (tests_no_call m rs no_link is)
taken_next x _ (Jumps target) is taken = cc
taken_next x _ (Calls target) is taken = refl
taken_next x _ (LinksOn off) is taken = ap (λ (b : Bool). if b then branch_target x.pc off else word_sum x.next_pc 4) taken
taken_next x _ GoesBack is taken = cc

call_returns : (i : Instr) (taken : Bool) (pc : ℕ) (stack : List ℕ) → Control i → kind_of i ≡ kind.Call → taken ≡ true
    → returns_after i taken pc stack ≡ word_sum pc 8 ∷ stack
unfolding kind_of
call_returns _ taken pc stack (Compares m rs rt off) is e = cc
call_returns _ taken pc stack (Tests m rs off no_link) is e = absurd (tests_no_call m rs no_link is)
call_returns _ taken pc stack (Jumps target) is e = cc
call_returns _ taken pc stack (Calls target) is e = ap (λ t. returns_after (Jump Jal target) t pc stack) e
call_returns _ taken pc stack (LinksOn off) is e = ap (λ t. returns_after (Branch1 Bgezal 0 off) t pc stack) e
call_returns _ taken pc stack GoesBack is e = cc

pub call_advances : (x : Mips) (word : ℕ) (i : Instr) → WentBy x word i → register_of x 0 ≡ 0 → is_direct i ≡ true
    → kind_of i ≡ kind.Call
    → Advances x (step_of x).state (target_of i x.pc) (word_sum x.pc 8 ∷ x.returns)
call_advances x word i w zero direct is =
    let control = control_of i direct (ap is_control is) in
    let taken = call_taken x i zero control is in
    record {
      pc = went_pc x word i w;
      next_pc = went-next_pc x word i w ∙ taken_next x i control is taken;
      returns_are = went_returns x word i w ∙ call_returns i (retired_of i x).taken x.pc x.returns control is taken;
    }

-- returns
abbrev no_trap : Option TrapKind
no_trap = None

matched : (b : Bool) → (if b then no_trap else Some ReturnMismatch) ≡ no_trap → b ≡ true
matched true e = refl
matched false e = cc

top_matches : (a : ℕ) (stack : List ℕ) → mismatch a stack ≡ no_trap → (rest : List ℕ) × (stack ≡ a ∷ rest)
top_matches a [] e = cc
top_matches a (b ∷ rest) e = (rest, ap (λ n. n ∷ rest) (sym (eqb-true a b (matched (a == b) e))))

return_register : (x : Mips) → (retired_of (Jr 31) x).next ≡ register_of x 31
unfolding retired_of parts_of act_of values_of operands_of
return_register x = refl

return_matches : (x : Mips) → late_trap (Jr 31) (retired_of (Jr 31) x) x ≡ None
    → mismatch (register_of x 31) x.returns ≡ no_trap
unfolding late_trap
return_matches x none = first-none _ _ none

pub return_is : (i : Instr) → Control i → kind_of i ≡ kind.Return → i ≡ Jr 31
unfolding kind_of
return_is _ (Compares m rs rt off) is = cc
return_is _ (Tests m rs off no_link) is = absurd (tests_no_return m rs is)
  where
    tests_no_return : (m : Branch1Op) (rs : ℕ) → branch_kind m rs ≡ kind.Return → ⊥
    tests_no_return Bgezal rs is = by_test (rs == 0) is
      where
        by_test : (b : Bool) → (if b then kind.Call else kind.Branch) ≡ kind.Return → ⊥
        by_test true is = cc
        by_test false is = cc
    tests_no_return m rs is = cc
return_is _ (Jumps target) is = cc
return_is _ (Calls target) is = cc
return_is _ (LinksOn off) is = cc
return_is _ GoesBack is = refl

returns_by : (x : Mips) (word : ℕ) → WentBy x word (Jr 31) → Returns x (step_of x).state
returns_by x word w =
    let top = top_matches (register_of x 31) x.returns (return_matches x w.no_late_trap) in
    let next = went-next_pc x word (Jr 31) w ∙ return_register x in
    let rest : (step_of x).state.returns ≡ top.0 = went_returns x word (Jr 31) w ∙ ap (λ (stack : List ℕ). drop 1 stack) top.1 in
    record { pc = went_pc x word (Jr 31) w; popped = top.1 ∙ ap (λ a. a ∷ top.0) (sym next) ∙ ap (λ r. (step_of x).state.next_pc ∷ r) (sym rest) }

pub returns_back : (x : Mips) (word : ℕ) (i : Instr) → WentBy x word i → is_direct i ≡ true → kind_of i ≡ kind.Return
    → Returns x (step_of x).state
returns_back x word i w direct is =
    returns_by x word (subst (λ j. WentBy x word j) (return_is i (control_of i direct (ap is_control is)) is) w)

-- registers
unlinked_writes : (i : Instr) → Control i → kind_of i ≢ kind.Call → writes_of i ≡ None
unfolding kind_of writes_of
unlinked_writes _ (Compares m rs rt off) none = refl
unlinked_writes _ (Tests m rs off no_link) none = ap (λ (b : Bool). if b then Some 31 else None) no_link
unlinked_writes _ (Jumps target) none = refl
unlinked_writes _ (Calls target) none = absurd (none refl)
unlinked_writes _ (LinksOn off) none = absurd (none refl)
unlinked_writes _ GoesBack none = refl

pub registers_stay : (x : Mips) (word : ℕ) (i : Instr) → WentBy x word i → is_direct i ≡ true
    → is_control (kind_of i) ≡ true → kind_of i ≢ kind.Call → (step_of x).state.registers ≡ x.registers
registers_stay x word i w direct control none =
    went_registers x word i w ∙ ap (λ o. registers_after o (retired_of i x).write x.registers) (unlinked_writes i (control_of i direct control) none)

not_pair : (n a b : ℕ) → n < 32 → (if n == 32 then a else b) ≡ b
not_pair n a b below = let other : (n == 32) ≡ false = grind (arith, common_steps) in ap (λ (t : Bool). if t then a else b) other

pub register_kept : (x : Mips) (word : ℕ) (i : Instr) (r : ℕ) → WentBy x word i → r < 32 → writes_of i ≢ Some r
    → register_of (step_of x).state r ≡ register_of x r
register_kept x word i r w below other =
    sym (not_pair r _ (register_of (step_of x).state r) below) ∙ name-kept x word i r w other ∙ not_pair r _ (register_of x r) below

pub steps_by : (x : Mips) (word : ℕ) (i : Instr) → WentBy x word i → AreRegisters x.registers → is_direct i ≡ true
    → StepsBy i x (step_of x).state
steps_by x word i w registers direct = record {
  plain = λ is. plain_advances x word i w is;
  branch = λ is. branch_advances x word i w direct is;
  jump = λ is. jump_advances x word i w direct is;
  call = λ is. call_advances x word i w registers.zero direct is;
  return = λ is. returns_back x word i w direct is;
  unlinked = λ control none. registers_stay x word i w direct control none;
  kept = λ r below other. register_kept x word i r w below other;
}

-- 32 words, the first of them zero, stay such
word_below : (v : ℕ) → low_word v < 2 ^ 32
word_below v = omega arith

put_registers : (registers : List ℕ) (r v : ℕ) → r ≢ 0 → AreRegisters registers
    → AreRegisters (slice_set registers r (low_word v))
put_registers registers r v some are = record {
  length_is = length-set registers r (low_word v) ∙ are.length_is;
  zero = get_or-set_other registers r 0 (low_word v) 0 (λ e. some (sym e)) ∙ are.zero;
  words = λ s below. by_test s below (s == r) refl;
}
  where
    by_test : (s : ℕ) → s < 32 → (b : Bool) → (s == r) ≡ b
        → slice_index (slice_set registers r (low_word v)) s < 2 ^ 32
    by_test s below true is =
        let same = eqb-true s r is in
        let there : r < length registers = omega (arith, same, are.length_is) in
        let value : slice_index (slice_set registers r (low_word v)) s ≡ low_word v = ap (λ k. slice_index (slice_set registers r (low_word v)) k) same ∙ get_or-set_same registers r (low_word v) 0 there in
        omega (arith, value, word_below v)
    by_test s below false is =
        let apart : s ≢ r = λ e. grind (arith, common_steps) in
        let value = get_or-set_other registers r s (low_word v) 0 apart in
        omega (arith, value, are.words s below)

after_registers : (name value : Option ℕ) (registers : List ℕ) → (name ≡ Some 0 → ⊥) → AreRegisters registers
    → AreRegisters (registers_after name value registers)
after_registers None value registers some are = are
after_registers (Some name) None registers some are = are
after_registers (Some name) (Some value) registers some are = by_test (name == 32)
  where
    by_test : (b : Bool) → AreRegisters (if b then registers else slice_set registers name (low_word value))
    by_test true = are
    by_test false = put_registers registers name value (λ e. some (ap Some e)) are

named_some : (name : Option ℕ) → IfSome name IsName → name ≡ Some 0 → ⊥
named_some None named e = cc
named_some (Some n) named e = let zero : n ≡ 0 = cc in omega (arith, named.0, zero)

pub registers_stay_words : (x : Mips) → AreRegisters x.registers → AreRegisters (step_of x).state.registers
registers_stay_words x are = elim (outcome x) [
  | inl w ↦
      let fits = decode_of_fits w.0 w.1 w.2.decoded in
      subst (λ q. AreRegisters q) (sym (went_registers x w.0 w.1 w.2)) (after_registers (writes_of w.1) (retired_of w.1 x).write x.registers (named_some (writes_of w.1) (writes_named w.1 fits)) are)
  | inr n ↦ subst (λ (y : Mips). AreRegisters y.registers) (sym n.1) are
]
