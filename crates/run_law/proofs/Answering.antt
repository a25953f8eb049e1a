-- What the step of an instruction of code answers.
use Rattle.std.proofs.Common.{◌≡◌, ◌∙◌, refl, sym, ap, subst, ℕ, ◌<◌, Bool, true, false, List, [], ◌∷◌, length, arith}
use Rattle.std.specs.Prelude.{◌==◌, ◌&&◌, not, nat_lt, if◌then◌else◌, IfSome, Option, Some, None}
use Rattle.std.proofs.lemmas.Bool.{and_parts}
use Rattle.std.proofs.lemmas.Bool.Decides.{nat_tests}
use Rattle.mips_isa.specs.Decoding.{decode_of}
use Rattle.mips_isa.specs.Kinds.{kind_of, is_control}
use Rattle.mips_isa.specs.declared.instr.Instr.{Instr}
use Rattle.mips_isa.specs.declared.instr.Instr.TheVariants.{R3, Shift, Acc, HiLo, Count, Imm, Lui, Load, Store, Pref, Branch2, Branch1, Jump, Jr, Jalr, TrapIf, Stop, Sync}
use Rattle.mips_isa.specs.declared.instr.Branch1Op.TheVariants.{Blez, Bgtz, Bltz, Bgez, Bltzal, Bgezal}
use Rattle.mips_isa.specs.declared.instr.JumpOp.TheVariants.{J, Jal}
use Rattle.mips_isa.specs.declared.instr.Kind.TheVariants as kind
use Rattle.mips_ref.specs.Access.{load_allowed, refuses_of, store_allowed}
use Rattle.mips_ref.specs.Facts.{IsOwn}
use Rattle.mips_ref.specs.Memory.{Flat, LaidOut, code_word_at, port}
use Rattle.mips_ref.specs.Mips.{Mips, greatest_depth, register_of}
use Rattle.mips_ref.specs.Step.{Stepped, acted, access_trap, applied, decoded, executed, fetched, first_trap, late_trap, links, mismatch, output_trap, retired_of, return_trap, returns_here, step_of, store_at, trap_of, unless_late, unless_trapped, values_of}
use Rattle.mips_ref.specs.declared.records.Step.TheVariants.{Exit}
use Rattle.mips_ref.specs.declared.records.TrapKind.{TrapKind}
use Rattle.mips_ref.specs.declared.records.TrapKind.TheVariants.{AddressLoad, AddressStore, FetchFault, OutputFull, Reserved, ReturnFull, ReturnMismatch}
use Rattle.mips_ref.proofs.Changed.{own_traps}
use Rattle.mips_ref.proofs.Steps.{not_at_exit}
use Rattle.run_law.specs.Advance.{MayAnswer, MayTrap}
use Rattle.run_law.specs.Instructions.{instruction_at, is_direct, decoded as instruction_of}

own_may : (k : TrapKind) → IsOwn k → MayTrap k
own_may FetchFault own = own
own_may Reserved own = own
own_may ReturnFull own = own
own_may k own = tt

none_or : (a b : Option TrapKind) → IfSome a MayTrap → IfSome b MayTrap → IfSome (first_trap a b) MayTrap
none_or None b p q = q
none_or (Some k) b p q = p

may_if : (b : Bool) (p q : Option TrapKind) → (b ≡ true → IfSome p MayTrap) → (b ≡ false → IfSome q MayTrap)
    → IfSome (if b then p else q) MayTrap
may_if true p q e f = e refl
may_if false p q e f = f refl

acts_may : (o : Option TrapKind) → IfSome o IsOwn → IfSome o MayTrap
acts_may None own = tt
acts_may (Some k) own = own_may k own

abbrev no_trap : Option TrapKind
no_trap = None

-- only a load or store has a trap at its address
refuses_may : (m : Flat) (i : Instr) (at : ℕ) → IfSome (refuses_of m i at) MayTrap
unfolding refuses_of
refuses_may m (Load o rs rt off) at = may_if (load_allowed o m at) no_trap (Some AddressLoad) (λ e. tt) (λ e. tt)
refuses_may m (Store o rs rt off) at = may_if (store_allowed o m at) no_trap (Some AddressStore) (λ e. tt) (λ e. tt)
refuses_may m i at = tt

access_may : (m : Flat) (i : Instr) (at : Option ℕ) → IfSome (access_trap m i at) MayTrap
access_may m i None = tt
access_may m i (Some at) = refuses_may m i at

trap_may : (i : Instr) (x : Mips) → IfSome (trap_of i x) MayTrap
unfolding trap_of
trap_may i x = none_or (acted i x).trap (access_trap x.memory i (acted i x).at) (acts_may (acted i x).trap (own_traps i x.pc x.next_pc (values_of i x))) (access_may x.memory i (acted i x).at)

-- only a call pushes
by_register : (b : Bool) → b ≡ true → (if b then kind.Call else kind.Branch) ≡ kind.Call
by_register true e = refl
by_register false e = cc

links_call : (i : Instr) → is_direct i ≡ true → links i ≡ true → kind_of i ≡ kind.Call
unfolding is_direct kind_of
links_call (R3 m rs rt rd) direct is = cc
links_call (Shift m rt rd sa) direct is = cc
links_call (Acc m rs rt) direct is = cc
links_call (HiLo m rs rd) direct is = cc
links_call (Count m rs rd) direct is = cc
links_call (Imm m rs rt imm) direct is = cc
links_call (Lui rt imm) direct is = cc
links_call (Load m rs rt off) direct is = cc
links_call (Store m rs rt off) direct is = cc
links_call (Pref rs hint off) direct is = cc
links_call (Branch2 m rs rt off) direct is = cc
links_call (Branch1 Blez rs off) direct is = cc
links_call (Branch1 Bgtz rs off) direct is = cc
links_call (Branch1 Bltz rs off) direct is = cc
links_call (Branch1 Bgez rs off) direct is = cc
links_call (Branch1 Bltzal rs off) direct is = cc
links_call (Branch1 Bgezal rs off) direct is = by_register (rs == 0) direct
links_call (Jump J target) direct is = cc
links_call (Jump Jal target) direct is = refl
links_call (Jr rs) direct is = cc
links_call (Jalr rs rd) direct is = cc
links_call (TrapIf m rs rt code) direct is = cc
links_call (Stop m code) direct is = cc
links_call (Sync stype) direct is = cc

by_return : (b : Bool) → is_control (if b then kind.Return else kind.Indirect) ≡ true
by_return true = refl
by_return false = refl

by_link : (b : Bool) → is_control (if b then kind.Call else kind.Branch) ≡ true
by_link true = refl
by_link false = refl

-- what isn't control is direct
pub plain_direct : (i : Instr) → is_control (kind_of i) ≡ false → is_direct i ≡ true
unfolding is_direct kind_of
plain_direct (Branch1 Bltzal rs off) plain = cc
plain_direct (Branch1 Bgezal rs off) plain = let e = by_link (rs == 0) in cc
plain_direct (Branch1 Blez rs off) plain = refl
plain_direct (Branch1 Bgtz rs off) plain = refl
plain_direct (Branch1 Bltz rs off) plain = refl
plain_direct (Branch1 Bgez rs off) plain = refl
plain_direct (Jr rs) plain = let e = by_return (rs == 31) in cc
plain_direct (Jalr rs rd) plain = cc
plain_direct i plain = refl

mismatch_may : (a : ℕ) (stack : List ℕ) → IfSome (mismatch a stack) MayTrap
mismatch_may a [] = tt
mismatch_may a (b ∷ rest) = may_if (a == b) no_trap (Some ReturnMismatch) (λ e. tt) (λ e. tt)

room_may : (stack : List ℕ) → length stack < 64
    → IfSome (if nat_lt (length stack) greatest_depth then no_trap else Some ReturnFull) MayTrap
room_may stack room = may_if (nat_lt (length stack) greatest_depth) no_trap (Some ReturnFull) (λ e. tt) (λ e. let clash : nat_lt (length stack) greatest_depth ≡ true = grind (arith, nat_tests) in let no : true ≡ false = sym clash ∙ e in cc)

return_may : (i : Instr) (taken : Bool) (a : ℕ) (stack : List ℕ) → (links i ≡ true → length stack < 64)
    → IfSome (return_trap i taken a stack) MayTrap
return_may i taken a stack room =
    may_if (links i && taken) _ _ (λ e. room_may stack (room ((and_parts (links i) taken e).0))) (λ e. may_if (returns_here i) (mismatch a stack) no_trap (λ f. mismatch_may a stack) (λ f. tt))

output_may : (at : Option ℕ) (most : ℕ) (output : List ℕ) → IfSome (output_trap at most output) MayTrap
output_may None most output = tt
output_may (Some at) most output = may_if ((at == port) && not (nat_lt (length output) most)) (Some OutputFull) no_trap (λ e. tt) (λ e. tt)

late_may : (i : Instr) (x : Mips) → (links i ≡ true → length x.returns < 64)
    → IfSome (late_trap i (retired_of i x) x) MayTrap
unfolding late_trap
late_may i x room =
    none_or (return_trap i (retired_of i x).taken (register_of x 31) x.returns) (output_trap (store_at i (retired_of i x).at) x.output_max x.output)
    (return_may i (retired_of i x).taken (register_of x 31) x.returns room) (output_may (store_at i (retired_of i x).at) x.output_max x.output)

late_answer : (o : Option TrapKind) (i : Instr) (x : Mips) → IfSome o MayTrap
    → MayAnswer (unless_late o i (retired_of i x) x).answer
late_answer None i x may = tt
late_answer (Some k) i x may = may

trap_answer : (o : Option TrapKind) (i : Instr) (x : Mips) → IfSome o MayTrap
    → (links i ≡ true → length x.returns < 64) → MayAnswer (unless_trapped o i x).answer
unfolding applied
trap_answer None i x may room = late_answer (late_trap i (retired_of i x) x) i x (late_may i x room)
trap_answer (Some k) i x may room = may

executed_answer : (i : Instr) (x : Mips) → (links i ≡ true → length x.returns < 64) → MayAnswer (executed i x).answer
unfolding executed
executed_answer i x room = trap_answer (trap_of i x) i x (trap_may i x) room

-- an instruction stands where a word decodes to it
pub stands_word : (q : Option ℕ) (i : Instr) → instruction_of q ≡ Some i
    → (word : ℕ) × (q ≡ Some word) × (decode_of word ≡ Some i)
stands_word None i e = cc
stands_word (Some word) i e = (word, refl, e)

pub step_is : (x : Mips) (i : Instr) → LaidOut 0 x.memory.spans → instruction_at x.memory x.pc ≡ Some i
    → step_of x ≡ executed i x
unfolding step_of
step_is x i laid stands =
    let w = stands_word (code_word_at x.memory x.pc) i stands in
    ap (λ (b : Bool). if b then record { answer = Exit; state = x } else fetched (code_word_at x.memory x.pc) x) (not_at_exit x w.0 laid w.1)
    ∙ ap (λ o. fetched o x) w.1 ∙ ap (λ o. decoded o x) w.2

pub answers : (x : Mips) (i : Instr) → LaidOut 0 x.memory.spans → instruction_at x.memory x.pc ≡ Some i
    → (kind_of i ≡ kind.Call → length x.returns < 64) → is_direct i ≡ true → MayAnswer (step_of x).answer
answers x i laid stands room direct =
    subst (λ (s : Stepped). MayAnswer s.answer) (sym (step_is x i laid stands)) (executed_answer i x (λ e. room (links_call i direct e)))
