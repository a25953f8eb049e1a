-- What a step that goes changes, and which traps come when.
use Rattle.std.proofs.Common.{◌≡◌, ◌≢◌, ℕ, Bool, true, false, cond, eqb, ltb, List, [], ◌∷◌, length, get_or, set, Option, Some, None, refl, sym, ap, ap₂, ◌∙◌, arith, subst, ◌<◌, get_or-set_other, get_or-set_same}
use Rattle.std.specs.Prelude.{IfSome, not, ◌&&◌}
use Rattle.std.proofs.lemmas.Grind.{common_steps}
use Rattle.mips_isa.specs.Fits.{FieldsFit}
use Rattle.mips_isa.specs.Names.{writes_of}
use Rattle.mips_isa.specs.Words.{high_word, low_word, pair_of}
use Rattle.mips_isa.specs.declared.instr.Instr.{Instr}
use Rattle.mips_isa.specs.declared.instr.Instr.TheVariants.{R3, Shift, Acc, HiLo, Count, Imm, Lui, Load, Store, Pref, Branch2, Branch1, Jump, Jr, Jalr, TrapIf, Stop, Sync}
use Rattle.mips_isa.specs.declared.instr.StopOp.{StopOp}
use Rattle.mips_isa.specs.declared.instr.StopOp.TheVariants.{Syscall, Break}
use Rattle.mips_ref.proofs.Names.{IsName, writes_named}
use Rattle.mips_ref.proofs.Steps.{step-went}
use Rattle.mips_ref.specs.Act.{act_of, goes_on, imm_value, r3_value, stop_trap, stops, traps_if, unless_overflow}
use Rattle.mips_ref.specs.Facts.{IsLate, IsOwn, WentBy, as_name}
use Rattle.mips_ref.specs.Memory.{port}
use Rattle.mips_ref.specs.Mips.{Mips, greatest_depth, name_value, register_of}
use Rattle.mips_ref.specs.Step.{Stepped, changed, first_trap, hi_after, late_trap, links, lo_after, memory_after, mismatch, output_trap, pair_after, registers_after, retired_of, return_trap, returns_here, step_of, store_at}
use Rattle.mips_ref.specs.declared.records.Retired.{Retired}
use Rattle.mips_ref.specs.declared.records.TrapKind.{TrapKind}
use Rattle.mips_ref.specs.declared.records.TrapKind.TheVariants.{OutputFull, ReturnFull, TrapInstr}
use Rattle.mips_ref.specs.declared.records.Values.{Values}

register_step : (b : Bool) (regs : List ℕ) (name v n : ℕ) → n ≢ name → get_or (cond b regs (set regs name v)) n 0 ≡ get_or regs n 0
register_step true regs name v n other = refl
register_step false regs name v n other = get_or-set_other regs name n v 0 other

pub other_register : (o value : Option ℕ) (regs : List ℕ) (n : ℕ) → (o ≡ Some n → ⊥) → get_or (registers_after o value regs) n 0 ≡ get_or regs n 0
other_register None value regs n other = refl
other_register (Some name) None regs n other = refl
other_register (Some name) (Some v) regs n other =
    register_step (eqb name 32) regs name (low_word v) n (λ e. other (ap Some (sym e)))

pair_step : (b : Bool) (new old : ℕ) → b ≡ false → cond b new old ≡ old
pair_step true new old e = cc
pair_step false new old e = refl

pub other_pair : (o value : Option ℕ) (new old : ℕ) → (o ≡ Some 32 → ⊥) → pair_after o value new old ≡ old
other_pair None value new old other = refl
other_pair (Some name) None new old other = refl
other_pair (Some name) (Some v) new old other =
    let apart : name ≢ 32 = λ e. other (ap Some e) in
    pair_step (eqb name 32) new old (grind (arith, common_steps, apart))

name_step : (b : Bool) (p q r s : ℕ) → (b ≡ true → p ≡ q) → r ≡ s → cond b p r ≡ cond b q s
name_step true p q r s e f = e refl
name_step false p q r s e f = f

-- a name that an instruction doesn't write keeps its value, whatever its parts are
pub kept-name : (i : Instr) (r : Retired) (x : Mips) (n : ℕ) → (writes_of i ≡ Some n → ⊥) → name_value (changed i r x) n ≡ name_value x n
unfolding changed
kept-name i r x n other =
    let pairs : eqb n 32 ≡ true → pair_of (hi_after (writes_of i) r.write x.hi) (lo_after (writes_of i) r.write x.lo) ≡ pair_of x.hi x.lo =
    λ e. let is : n ≡ 32 = grind (arith, common_steps, e) in
    let apart : writes_of i ≡ Some 32 → ⊥ = λ f. other (f ∙ ap Some (sym is)) in
    ap₂ pair_of (other_pair (writes_of i) r.write _ x.hi apart) (other_pair (writes_of i) r.write _ x.lo apart) in
    name_step (eqb n 32) _ _ _ _ pairs (other_register (writes_of i) r.write x.registers n other)

pub name-kept : (x : Mips) (word : ℕ) (i : Instr) (n : ℕ) → WentBy x word i → (writes_of i ≡ Some n → ⊥) → name_value (step_of x).state n ≡ name_value x n
name-kept x word i n w other =
    ap (λ (s : Stepped). name_value s.state n) (step-went x word i w) ∙ kept-name i (retired_of i x) x n other

-- the name that it writes has the value of its parts
value_step : (b : Bool) (regs : List ℕ) (hi lo m w : ℕ) → (b ≡ false → m < length regs)
    → cond b (pair_of (cond b (high_word w) hi) (cond b (low_word w) lo)) (get_or (cond b regs (set regs m (low_word w))) m 0) ≡ cond b w (low_word w)
value_step true regs hi lo m w below = omega arith
value_step false regs hi lo m w below = get_or-set_same regs m (low_word w) 0 (below refl)

value_at : (o w : Option ℕ) (regs : List ℕ) (hi lo n v : ℕ) → length regs ≡ 32 → IsName n → o ≡ Some n → w ≡ Some v
    → cond (eqb n 32) (pair_of (hi_after o w hi) (lo_after o w lo)) (get_or (registers_after o w regs) n 0) ≡ as_name n v
value_at None w regs hi lo n v room named e f = cc
value_at (Some m) None regs hi lo n v room named e f = cc
value_at (Some m) (Some u) regs hi lo n v room named e f =
    let name : m ≡ n = cc in
    let value : u ≡ v = cc in
    subst (λ k. cond (eqb n 32) (pair_of (hi_after (Some k) (Some u) hi) (lo_after (Some k) (Some u) lo)) (get_or (registers_after (Some k) (Some u) regs) n 0) ≡ as_name n v) (sym name)
    (subst (λ k. cond (eqb n 32) (pair_of (hi_after (Some n) (Some k) hi) (lo_after (Some n) (Some k) lo)) (get_or (registers_after (Some n) (Some k) regs) n 0) ≡ as_name n v) (sym value)
    (value_step (eqb n 32) regs hi lo n v (λ t. let other : n ≡ 32 → ⊥ = grind (arith, common_steps, t) in omega (arith, room, named.1, other))))

pub written-name : (i : Instr) (r : Retired) (x : Mips) (n v : ℕ) → FieldsFit i → length x.registers ≡ 32 → writes_of i ≡ Some n → r.write ≡ Some v
    → name_value (changed i r x) n ≡ as_name n v
unfolding changed
written-name i r x n v fits room name value =
    let named : IsName n = subst (λ o. IfSome o IsName) name (writes_named i fits) in
    value_at (writes_of i) r.write x.registers x.hi x.lo n v room named name value

-- only a store changes memory
pub memory-kept : (x : Mips) (word : ℕ) (i : Instr) → WentBy x word i → store_at i (retired_of i x).at ≡ None → (step_of x).state.memory ≡ x.memory
unfolding changed
memory-kept x word i w none =
    ap (λ (s : Stepped). s.state.memory) (step-went x word i w)
    ∙ ap (λ o. memory_after o (retired_of i x).mask (retired_of i x).word x.memory) none

-- traps of an instruction by itself
own_overflow : (r npc : ℕ) (o : Option ℕ) → IfSome (unless_overflow r npc o).trap IsOwn
own_overflow r npc None = tt
own_overflow r npc (Some v) = tt

own_if : (b : Bool) (npc : ℕ) → IfSome (cond b (stops TrapInstr) (goes_on None npc)).trap IsOwn
own_if true npc = tt
own_if false npc = tt

own_stop : (m : StopOp) → IsOwn (stop_trap m)
unfolding stop_trap
own_stop Syscall = tt
own_stop Break = tt

pub own_traps : (i : Instr) (pc npc : ℕ) (v : Values) → IfSome (act_of i pc npc v).trap IsOwn
unfolding act_of
own_traps (R3 m rs rt rd) pc npc v = own_overflow rd npc (r3_value m v)
own_traps (Shift m rt rd sa) pc npc v = tt
own_traps (Acc m rs rt) pc npc v = tt
own_traps (HiLo m rs rd) pc npc v = tt
own_traps (Count m rs rd) pc npc v = tt
own_traps (Imm m rs rt imm) pc npc v = own_overflow rt npc (imm_value m imm v)
own_traps (Lui rt imm) pc npc v = tt
own_traps (Load m rs rt off) pc npc v = tt
own_traps (Store m rs rt off) pc npc v = tt
own_traps (Pref rs hint off) pc npc v = tt
own_traps (Branch2 m rs rt off) pc npc v = tt
own_traps (Branch1 m rs off) pc npc v = tt
own_traps (Jump m target) pc npc v = tt
own_traps (Jr rs) pc npc v = tt
own_traps (Jalr rs rd) pc npc v = tt
own_traps (TrapIf m rs rt code) pc npc v = own_if (traps_if m v) npc
own_traps (Stop m code) pc npc v = own_stop m
own_traps (Sync stype) pc npc v = tt

late_first : (a b : Option TrapKind) → IfSome a IsLate → IfSome b IsLate → IfSome (first_trap a b) IsLate
late_first None b p q = q
late_first (Some k) b p q = p

late_if : (b : Bool) (p q : Option TrapKind) → IfSome p IsLate → IfSome q IsLate → IfSome (cond b p q) IsLate
late_if true p q e f = e
late_if false p q e f = f

late_mismatch : (a : ℕ) (stack : List ℕ) → IfSome (mismatch a stack) IsLate
late_mismatch a [] = tt
late_mismatch a (b ∷ rest) = late_if (eqb a b) _ _ tt tt

late_output : (at : Option ℕ) (most : ℕ) (output : List ℕ) → IfSome (output_trap at most output) IsLate
late_output None most output = tt
late_output (Some at) most output = late_if (eqb at port && not (ltb (length output) most)) (Some OutputFull) None tt tt

-- traps that only the parts of a step find
pub late_traps : (i : Instr) (r : Retired) (x : Mips) → IfSome (late_trap i r x) IsLate
unfolding late_trap
late_traps i r x =
    let full = late_if (ltb (length x.returns) greatest_depth) None (Some ReturnFull) tt tt in
    let mismatched = late_if (returns_here i) (mismatch (register_of x 31) x.returns) None (late_mismatch (register_of x 31) x.returns) tt in
    late_first (return_trap i r.taken (register_of x 31) x.returns) (output_trap (store_at i r.at) x.output_max x.output)
    (late_if (links i && r.taken) _ _ full mismatched) (late_output (store_at i r.at) x.output_max x.output)
